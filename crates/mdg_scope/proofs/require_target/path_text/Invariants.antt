use Rattle.std.proofs.Common.{◌≡◌, ◌++◌, drop}
use Rattle.std.specs.Prelude.{codes}
use Rattle.mdg_scope.specs.RequireTargets.{slashed}
use Rattle.mdg_scope.proofs.require_target.path_text.Given as goal

abbrev pub invariant-loop-segment : goal.invariant-loop-segment
invariant-loop-segment l = codes "." ++ slashed l.place ≡ l.text ++ slashed (drop l.segment-index l.place)
