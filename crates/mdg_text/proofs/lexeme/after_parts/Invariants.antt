use Rattle.std.proofs.Common.{◌≡◌, ◌≤◌, ◌-◌, length, drop}
use Rattle.mdg_text.specs.Characters.{is_part}
use Rattle.mdg_text.specs.Scanner.{skip}
use Rattle.mdg_text.proofs.lexeme.after_parts.Given as goal

abbrev pub invariant-loop-i : goal.invariant-loop-i
invariant-loop-i l = record { from : l.at ≤ l.i; bound : l.i ≤ length l.text; same : skip is_part (drop l.at l.text) ≡ skip is_part (drop l.i l.text) }

abbrev pub decreases-loop-i : goal.decreases-loop-i
decreases-loop-i l = length l.text - l.i
