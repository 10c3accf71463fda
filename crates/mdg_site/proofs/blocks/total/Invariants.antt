use Rattle.std.proofs.Common.{◌≡◌, ℕ}
use Rattle.mdg_site.specs.Answers.{carried}
use Rattle.mdg_site.specs.Blocks.{sum_below}
use Rattle.mdg_site.proofs.blocks.total.Given as goal

abbrev pub invariant-loop-block : goal.invariant-loop-block
invariant-loop-block g l = record {
  so_far : l.total ≡ carried (sum_below (g.B.Blocks.size_of l.blocks) l.block);
}
