use Rattle.std.specs.Cmp.Lexicographic.{other_text}
use Rattle.mdg_scan.proofs.FormEndings.{no_ending}
use Rattle.mdg_scan.proofs.first.line.read_ending.Goals as goal

pub returns-else-eq-2 : goal.returns-else-eq-2
returns-else-eq-2 c =
    no_ending c.args.bytes.now c.in_ok-rest.rest.now _ _ (other_text _ _ (rw c.as_slice.ensures at c.if-eq.ensures)) c.in_ok-rest.ensures
    c.cut.ensures.parts c.cut.ensures.pass c.cut.ensures.stop (other_text _ _ (rw c.as_slice-2.ensures at c.if-eq-2.ensures))
