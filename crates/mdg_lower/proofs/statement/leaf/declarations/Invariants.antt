use Rattle.std.proofs.Common.{◌≡◌, ◌++◌, drop, length}
use Rattle.std.specs.Prelude.{map}
use Rattle.mdg_lower.specs.Statements as statements
use Rattle.mdg_lower.specs.Trees as trees
use Rattle.mdg_lower.proofs.statement.leaf.declarations.Given as goal

abbrev pub invariant-loop-one : goal.invariant-loop-one
invariant-loop-one l = l.fn.lines.items ++ statements.declarations l.scope l.at (map trees.declaration_part l.all) (length l.fn.lines.items)
    ≡ l.lines.items ++ statements.declarations l.scope l.at (map trees.declaration_part (drop l.one-index l.all)) (length l.lines.items)
