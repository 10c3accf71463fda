use Rattle.std.proofs.Common.{◌≡◌, ◌++◌, length, drop}
use Rattle.mdg_lower.specs.SharedRows.{rows_of}
use Rattle.mdg_lower.proofs.shared.rows.rows_of.Given as goal

abbrev pub invariant-loop-base : goal.invariant-loop-base
invariant-loop-base l = rows_of l.entries 0 l.bases ≡ l.rows ++ rows_of l.entries (length l.rows) (drop l.base-index l.bases)
