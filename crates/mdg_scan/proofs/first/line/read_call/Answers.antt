use Rattle.mdg_scan.proofs.FormEndings.{no_call}
use Rattle.mdg_scan.proofs.first.line.read_call.Goals as goal

pub returns-in_err-text : goal.returns-in_err-text
returns-in_err-text c = rw c.from_residual-in_err-text.ensures (no_call c.args.bytes.now c.in_ok-rest.rest.now _ _ c.in_ok-rest.ensures c.cut.ensures.parts c.cut.ensures.pass c.cut.ensures.stop c.in_err-text.ensures)
