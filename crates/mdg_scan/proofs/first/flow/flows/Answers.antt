use Rattle.std.proofs.lemmas.List.Filters.{dedup_is}
use Rattle.mdg_scan.specs.contracts.first.flow.FlowPartialEq.TheImpl as flow_equality
use Rattle.mdg_scan.proofs.FlowOrder.{sorted_once}
use Rattle.mdg_scan.proofs.FlowLemmas.{all_flows}
use Rattle.mdg_scan.proofs.first.flow.flows.Goals as goal

pub returns : goal.returns
returns c =
    let once = sorted_once c.add_all.new.flows.items c.sort_unstable.new.self.items c.dedup.new.self.items c.sort_unstable.ensures.permutation c.sort_unstable.ensures.sorted
    (dedup_is (flow_equality.ghosts).eq c.sort_unstable.new.self.items c.dedup.new.self.items c.dedup.ensures.filtered) in
    all_flows c.args.facts.now c.args.code.now c.add_all.new.flows.items c.dedup.new.self.items c.from_vec.result (rw (c.new-flows.ensures.items, c.as_slice-3.ensures, c.as_slice-4.ensures) at c.in_ok-add_all.ensures) once c.from_vec.ensures
