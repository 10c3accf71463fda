use Rattle.std.proofs.Common.{◌≡◌, ◌++◌, drop}
use Rattle.mdg_lower.specs.SharedRows.{member_rows}
use Rattle.mdg_lower.proofs.shared.rows.put_members.Given as goal

abbrev pub invariant-loop-entry : goal.invariant-loop-entry
invariant-loop-entry l =
    l.fn.rows ++ member_rows l.number.0 l.base l.entries ≡ l.rows ++ member_rows l.number.0 l.base (drop l.entry-index l.entries)
