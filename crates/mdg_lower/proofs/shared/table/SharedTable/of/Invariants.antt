use Rattle.std.proofs.Common.{drop}
use Rattle.mdg_lower.proofs.SharedTableLemmas.{IsFilled}
use Rattle.mdg_lower.proofs.shared.table.SharedTable.of.Given as goal

abbrev pub invariant-loop-number : goal.invariant-loop-number
invariant-loop-number l = IsFilled l.table l.number (drop l.number l.rows) l.fn.rows
