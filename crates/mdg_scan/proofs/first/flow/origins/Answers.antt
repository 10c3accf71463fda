use Rattle.std.proofs.lemmas.Result.{IfOk-weaker}
use Rattle.mdg_scan.proofs.FlowLemmas.{origins_of}
use Rattle.mdg_scan.proofs.first.flow.origins.Goals as goal

pub returns : goal.returns
returns c = IfOk-weaker c.reached-2.result _ _
    (λ nodes exact. origins_of c.args.facts.now c.row.result.now c.args.row c.row.ensures _ _ c.in_ok-starts.starts.items c.in_ok-held.held.items nodes.items
    c.requires c.in_ok-starts.ensures (rw (c.as_slice.ensures.value, c.as_slice-2.ensures.value) at c.in_ok-held.ensures) exact)
    (rw (c.as_slice-3.ensures.value, c.as_slice-4.ensures.value) at c.reached-2.ensures)
