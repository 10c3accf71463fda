use Rattle.std.proofs.Common.{◌≡◌, take}
use Rattle.std.specs.List.{flat_map}
use Rattle.mdg_lower.specs.Offsets.{add_offsets}
use Rattle.mdg_lower.specs.Nested.{loops_of}
use Rattle.mdg_lower.proofs.nested.+loops.Given as goal

abbrev pub invariant-loops_of_all-loop-one : goal.invariant-loops_of_all-loop-one
invariant-loops_of_all-loop-one l = l.into ≡ add_offsets l.fn.into (flat_map loops_of (take l.one-index l.all))
