use Rattle.std.proofs.Common.{◌≡◌, ◌++◌, drop}
use Rattle.mdg_lower.specs.Tables.{owned}
use Rattle.mdg_lower.proofs.tables.add_cells.Given as goal

abbrev pub invariant-loop-name : goal.invariant-loop-name
invariant-loop-name l = l.fn.cells ++ owned l.function l.names ≡ l.cells ++ owned l.function (drop l._name-index l.names)
