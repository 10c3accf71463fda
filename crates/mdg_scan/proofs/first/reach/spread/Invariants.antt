use Rattle.std.proofs.Common.{◌<◌, ℕ, get_or}
use Rattle.mdg_scan.specs.declared.first.reach.Edge.{Edge}
use Rattle.mdg_scan.specs.Reaching.{Follows, Spreads}
use Rattle.mdg_scan.proofs.first.reach.spread.Given as goal

abbrev pub invariant-loop-edge : goal.invariant-loop-edge
invariant-loop-edge l =
    Spreads l.edges l.fn.found.items l.found.items
    × ((k : ℕ) → k < l.edge-index → (d : Edge) → Follows l.fn.found.items l.found.items (get_or l.edges k d))
