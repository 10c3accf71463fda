use Rattle.std.proofs.Common.{◌-◌, ◌^◌, length}
use Rattle.mdg_scan.specs.Reaching.{Spreads}
use Rattle.mdg_scan.proofs.first.reach.reached.Given as goal

abbrev pub invariant-loop-found : goal.invariant-loop-found
invariant-loop-found l = Spreads l.edges l.starts l.found.items

abbrev pub decreases-loop-found : goal.decreases-loop-found
decreases-loop-found l = 2 ^ 64 - length l.found.items
