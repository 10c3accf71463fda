use Rattle.std.proofs.Common.{◌≡◌, ◌++◌, take}
use Rattle.std.specs.List.{filter_map}
use Rattle.mdg_scan.specs.Finding.{flow_from}
use Rattle.mdg_scan.proofs.first.flow.add_origins.Given as goal

abbrev pub invariant-loop-node : goal.invariant-loop-node
invariant-loop-node l = l.flows.items ≡ l.fn.flows.items ++ filter_map (flow_from l.call l.sink l.argument) (take l.node-index l.nodes)
