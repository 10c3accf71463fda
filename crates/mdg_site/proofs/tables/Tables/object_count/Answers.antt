use Rattle.std.proofs.Common.{◌≡◌, ◌+◌, ◌-◌, ◌∙◌, ap, length, slice_index, arith}
use Rattle.std.specs.Prelude.{ℕ}
use Rattle.mdg_site.specs.Blocks.{sum_below}
use Rattle.mdg_site.specs.Laid.{site_count}
use Rattle.mdg_site.specs.Nodes.{object_size_at}
use Rattle.mdg_site.proofs.CountLemmas.{objects_few}
use Rattle.mdg_site.proofs.tables.Tables.object_count.Goals as goal

pub overflow_add-result : goal.overflow_add-result
overflow_add-result c =
    let l = c.args.self.now in
    let t = c.object_starts.ensures.is in
    let s = t.sized in
    let last = t.sums (length c.object_starts.result.now - 1) (omega (arith, s)) in
    let at = ap (sum_below (object_size_at l)) (let e : length c.object_starts.result.now - 1 ≡ site_count l = omega (arith, s) in e) in
    let few = objects_few c.args.self.now in
    let early = c.early_count.ensures.is in
    let small = c.early_count.ensures.small in
    let found = c.last.ensures in
    omega (arith, last, at, few, early, small, found)
