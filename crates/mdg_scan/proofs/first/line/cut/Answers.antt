use Rattle.std.proofs.Common.{sym}
use Rattle.std.proofs.lemmas.List.{take_more}
use Rattle.mdg_scan.specs.FormLines.{in_class}
use Rattle.mdg_scan.proofs.FormCuts.{EachIs-push}
use Rattle.mdg_scan.proofs.first.line.cut.Goals as goal

pub loop-at-preserved : goal.loop-at-preserved
loop-at-preserved c =
    rw (take_more c.args.bytes.now c.loop-at.at 0 c.loop-at-test.true)
    (EachIs-push (in_class c.args.class) _ _ c.loop-at.invariant (sym c.if-not-is_in.ensures))
