use Rattle.std.proofs.Common.{◌≡◌, take, map}
use Rattle.mdg_scan.specs.declared.first.fact.Fact.{Fact}
use Rattle.mdg_scan.proofs.first.flow.nodes_of.Given as goal

abbrev pub invariant-loop-fact : goal.invariant-loop-fact
invariant-loop-fact l = l.nodes.items ≡ map (λ (f : Fact). f.node) (take l.fact-index l.facts)
