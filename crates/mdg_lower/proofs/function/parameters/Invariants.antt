use Rattle.std.proofs.Common.{◌≡◌, ◌++◌, drop, length}
use Rattle.mdg_lower.specs.Statements as statements
use Rattle.mdg_lower.proofs.function.parameters.Given as goal

abbrev pub invariant-loop-one : goal.invariant-loop-one
invariant-loop-one l = l.fn.lines.items ++ statements.parameters_from l.scope l.at l.all 0 (length l.fn.lines.items)
    ≡ l.lines.items ++ statements.parameters_from l.scope l.at (drop l.one-index l.all) l.number (length l.lines.items)
