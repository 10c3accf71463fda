use Rattle.std.proofs.Common.{◌≡◌, ◌+◌, ◌++◌, drop}
use Rattle.mdg_scan.specs.Lowered.{declared_lines}
use Rattle.mdg_scan.proofs.first.lowering.lower_declared.Given as goal

abbrev pub invariant-loop-at : goal.invariant-loop-at
invariant-loop-at l = l.lines ++ declared_lines l.first (l.at + 1) (drop l.at l.functions) ≡ l.fn.lines ++ declared_lines l.first 1 l.fn.functions
