use Rattle.std.proofs.Common.{◌≡◌, map}
use Rattle.mdg_lower.specs.Link.{linked_line}
use Rattle.mdg_lower.proofs.link.linked_lines.Given as goal

abbrev pub invariant-loop-line : goal.invariant-loop-line
invariant-loop-line l = l.lines ≡ map (linked_line l.table l.shared) l.yielded
