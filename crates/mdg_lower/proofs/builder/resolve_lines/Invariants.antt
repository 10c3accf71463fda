use Rattle.std.proofs.Common.{◌≡◌, ◌++◌, take, drop}
use Rattle.std.specs.Prelude.{map}
use Rattle.mdg_lower.specs.Labels.{resolved}
use Rattle.mdg_lower.proofs.builder.resolve_lines.Given as goal

abbrev pub invariant-loop-line : goal.invariant-loop-line
invariant-loop-line l = l.part ≡ map (resolved l.next l.end) (take l.line-index l.fn.part) ++ drop l.line-index l.fn.part
