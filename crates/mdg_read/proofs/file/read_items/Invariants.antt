use Rattle.std.proofs.Common.{length, ◌-◌}
use Rattle.mdg_read.specs.Files.{AreItems}
use Rattle.mdg_read.proofs.file.read_items.Given as goal

abbrev pub invariant-loop-at : goal.invariant-loop-at
invariant-loop-at l = AreItems l.tokens l.start l.items l.at

abbrev pub decreases-loop-at : goal.decreases-loop-at
decreases-loop-at l = length l.tokens - l.at
