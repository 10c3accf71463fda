use Rattle.std.proofs.Common.{◌≡◌}
use Rattle.std.specs.Ordering.{nat_cmp}
use Rattle.std.specs.Cmp.Lexicographic.{slice_cmp}
use Rattle.std.specs.FinMap.{find}
use Rattle.std.specs.VecDeque.Iter.{deque_iter_rest}
use Rattle.mdg_port.specs.Held.{held_at, held_of}
use Rattle.mdg_port.proofs.mem_folder.find.Given as goal

abbrev pub invariant-loop-name : goal.invariant-loop-name
invariant-loop-name l = held_at (held_of l.files.items) l.path ≡ find (slice_cmp nat_cmp) l.path (deque_iter_rest l.name-iterator)
