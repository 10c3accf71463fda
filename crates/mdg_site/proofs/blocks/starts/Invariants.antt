use Rattle.std.proofs.Common.{◌≡◌, ℕ, ◌+◌, ◌≤◌, length, get_or}
use Rattle.mdg_site.specs.Blocks.{sum_below}
use Rattle.mdg_site.proofs.blocks.starts.Given as goal

abbrev pub invariant-loop-block : goal.invariant-loop-block
invariant-loop-block g l = record {
  sized : length l.starts.items ≡ l.block + 1;
  sums : (i : ℕ) → i ≤ l.block → get_or l.starts.items i 0 ≡ sum_below (g.B.Blocks.size_of l.blocks) i;
  end_is : l.end ≡ sum_below (g.B.Blocks.size_of l.blocks) l.block;
}
