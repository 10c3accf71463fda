use Rattle.std.proofs.Common.{◌≡◌, [], take, fold}
use Rattle.mdg_pack.specs.Paths.{joined}
use Rattle.mdg_pack.proofs.path.path_of.Given as goal

abbrev pub invariant-loop-segment : goal.invariant-loop-segment
invariant-loop-segment l = l.path ≡ fold joined [] (take l.segment-index l.place)
