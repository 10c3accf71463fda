use Rattle.std.proofs.lemmas.Result.{on_ok_weaker}
use Rattle.mdg_scan.proofs.FlowLemmas.{argument_flows}
use Rattle.mdg_scan.proofs.first.flow.add_argument.Goals as goal

pub returns : goal.returns
returns c = on_ok_weaker c.add_origins.result
    (λ is. argument_flows c.args.facts.now c.in_ok-nodes.nodes.items c.args.call c.args.sink c.args.argument c.args.local _ _ c.in_ok-nodes.ensures is)
    (rw c.as_slice.ensures.value at c.add_origins.ensures)
