use Rattle.std.proofs.Common.{◌≡◌, filter, drop}
use Rattle.mdg_lower.specs.Columns.{columns_in, add_names, is_listed, names_in}
use Rattle.mdg_lower.proofs.column.column_names.Given as goal

abbrev pub invariant-loop-line : goal.invariant-loop-line
invariant-loop-line l = (l.table ≡ l.columns) × (columns_in l.lines ≡ add_names l.table (filter is_listed (names_in (drop l.line-index l.lines))))
