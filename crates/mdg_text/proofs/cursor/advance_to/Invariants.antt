use Rattle.std.proofs.Common.{◌≤◌, ◌-◌}
use Rattle.mdg_text.specs.Cursor.{IsCursor}
use Rattle.mdg_text.proofs.cursor.advance_to.Given as goal

abbrev pub invariant-loop-cursor : goal.invariant-loop-cursor
invariant-loop-cursor l = record { order : l.cursor.at ≤ l.at; is : IsCursor l.text l.cursor }

abbrev pub decreases-loop-cursor : goal.decreases-loop-cursor
decreases-loop-cursor l = l.at - l.cursor.at
