use Rattle.std.proofs.Common.{◌≡◌, ◌≤◌, ◌-◌, length, drop}
use Rattle.mdg_text.specs.Characters.{is_digit}
use Rattle.mdg_text.specs.Scanner.{skip}
use Rattle.mdg_text.proofs.number.after_digits.Given as goal

abbrev pub invariant-loop-i : goal.invariant-loop-i
invariant-loop-i l = record { from : l.at ≤ l.i; bound : l.i ≤ length l.text; same : skip is_digit (drop l.at l.text) ≡ skip is_digit (drop l.i l.text) }

abbrev pub decreases-loop-i : goal.decreases-loop-i
decreases-loop-i l = length l.text - l.i
