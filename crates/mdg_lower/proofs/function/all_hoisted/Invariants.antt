use Rattle.std.proofs.Common.{◌≡◌, ◌++◌, drop, length}
use Rattle.mdg_lower.specs.Trees as trees
use Rattle.mdg_lower.proofs.function.all_hoisted.Given as goal

abbrev pub invariant-loop-one : goal.invariant-loop-one
invariant-loop-one l = l.fn.lines.items ++ trees.hoisted_lines l.all l.scope (length l.fn.lines.items)
    ≡ l.lines.items ++ trees.hoisted_lines (drop l.one-index l.all) l.scope (length l.lines.items)
