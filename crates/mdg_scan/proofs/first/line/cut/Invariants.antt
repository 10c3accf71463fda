use Rattle.std.proofs.Common.{take}
use Rattle.mdg_scan.specs.FormLines.{EachIs, in_class}
use Rattle.mdg_scan.proofs.first.line.cut.Given as goal

abbrev pub invariant-loop-at : goal.invariant-loop-at
invariant-loop-at l = EachIs (in_class l.class) (take l.at l.bytes)
