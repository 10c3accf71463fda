use Rattle.std.proofs.Common.{◌≡◌, ◌+◌, ◌∙◌, sym, ap, get_or, arith}
use Rattle.std.specs.Prelude.{ℕ}
use Rattle.mdg_site.specs.Blocks.{sum_below}
use Rattle.mdg_site.proofs.BlockLemmas.{end_fits, length_more, sum_more, sums_push}
use Rattle.mdg_site.proofs.blocks.starts.Goals as goal

pub overflow_add-end : goal.overflow_add-end
overflow_add-end g c =
    let fits = end_fits (g.B.Blocks.size_of c.args.blocks.now) c.loop-block.block _ _ _ c.count-block-end.ensures c.loop-block-test.true c.requires in
    let e = c.loop-block.invariant.end_is in let s = c.size-end.ensures in omega (arith, fits, e, s)

pub overflow_cast-end : goal.overflow_cast-end
overflow_cast-end g c =
    let fits = end_fits (g.B.Blocks.size_of c.args.blocks.now) c.loop-block.block _ _ _ c.count-block-end.ensures c.loop-block-test.true c.requires in
    let e = c.loop-block.invariant.end_is in let s = c.size-end.ensures in omega (arith, fits, e, s)

pub loop-block-preserved : goal.loop-block-preserved
loop-block-preserved g c =
    let inv = c.loop-block.invariant in
    let more = ap (λ (z : ℕ). z + c.size-end.result) inv.end_is ∙ ap (λ (z : ℕ). sum_below (g.B.Blocks.size_of c.args.blocks.now) c.loop-block.block + z) c.size-end.ensures
    ∙ sym (sum_more (g.B.Blocks.size_of c.args.blocks.now) c.loop-block.block) in
    record {
      sized = length_more _ _ _ _ c.in_ok-push-2.ensures.items inv.sized;
      sums = sums_push (g.B.Blocks.size_of c.args.blocks.now) _ _ c.loop-block.block _ c.in_ok-push-2.ensures.items inv.sized inv.sums more;
      end_is = more;
    }
