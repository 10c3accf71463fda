use Rattle.std.proofs.Common.{◌≡◌, take}
use Rattle.std.specs.List.{filter_map}
use Rattle.mdg_scan.specs.Finding.{property_edge}
use Rattle.mdg_scan.proofs.first.edges.property_edges.Given as goal

abbrev pub invariant-loop-fact : goal.invariant-loop-fact
invariant-loop-fact l = l.edges.items ≡ filter_map property_edge (take l.fact-index l.facts)
