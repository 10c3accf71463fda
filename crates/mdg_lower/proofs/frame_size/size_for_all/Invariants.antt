use Rattle.std.proofs.Common.{◌≡◌, drop}
use Rattle.mdg_lower.specs.FrameSize as sizes
use Rattle.mdg_lower.proofs.frame_size.size_for_all.Given as goal

abbrev pub invariant-loop-local : goal.invariant-loop-local
invariant-loop-local l = sizes.size_for_all l.least l.locals ≡ sizes.size_for_all l.most (drop l.local-index l.locals)
