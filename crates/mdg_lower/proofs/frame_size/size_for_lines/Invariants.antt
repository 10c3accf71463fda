use Rattle.std.proofs.Common.{◌≡◌, drop}
use Rattle.mdg_lower.specs.FrameSize as sizes
use Rattle.mdg_lower.proofs.frame_size.size_for_lines.Given as goal

abbrev pub invariant-loop-line : goal.invariant-loop-line
invariant-loop-line l = sizes.size_for_lines l.least l.lines ≡ sizes.size_for_lines l.most (drop l.line-index l.lines)
