use Rattle.std.proofs.Common.{◌≡◌, ◌≤◌, ◌-◌, length, drop}
use Rattle.mdg_text.specs.Characters.{in_line}
use Rattle.mdg_text.specs.Scanner.{skip}
use Rattle.mdg_text.proofs.trivia.after_line.Given as goal

abbrev pub invariant-loop-i : goal.invariant-loop-i
invariant-loop-i l = record { from : l.at ≤ l.i; bound : l.i ≤ length l.text; same : skip in_line (drop l.at l.text) ≡ skip in_line (drop l.i l.text) }

abbrev pub decreases-loop-i : goal.decreases-loop-i
decreases-loop-i l = length l.text - l.i
