use Rattle.std.proofs.Common.{◌≡◌, [], length, drop}
use Rattle.mdg_lower.specs.Columns.{add_names}
use Rattle.mdg_lower.proofs.column.ColumnTable.of.Given as goal

abbrev pub invariant-loop-column : goal.invariant-loop-column
invariant-loop-column l = (l.count ≡ length l.names) × (add_names [] l.columns ≡ add_names l.names (drop l.column-index l.columns))
