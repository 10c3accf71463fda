use Rattle.std.proofs.Common.{refl}
use Rattle.std.specs.Prelude.{Contains}
use Rattle.std.proofs.lemmas.Result.{on_ok_weaker}
use Rattle.mdg_scan.proofs.FlowLemmas.{statement_call, statement_other}
use Rattle.mdg_scan.proofs.first.flow.add_statement.Goals as goal

pub returns-in-Call : goal.returns-in-Call
returns-in-Call c = on_ok_weaker c.add_call.result
    (λ adds. statement_call (Contains c.args.facts.now) c.args.site c.args.shared.now c.args.statement.now c.in-Call.into c.in-Call.callee c.in-Call.arguments _ _ c.in-Call.is adds) (rw c.as_slice.ensures at c.add_call.ensures)

pub returns-in_default : goal.returns-in_default
returns-in_default c = statement_other (Contains c.args.facts.now) c.args.site c.args.shared.now c.args.statement.now _ _ (λ result callee arguments is. c.in_default.not-Call result callee arguments is) refl
