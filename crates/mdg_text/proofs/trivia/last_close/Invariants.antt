use Rattle.std.proofs.Common.{◌≡◌, ◌≤◌, ◌-◌, length, drop}
use Rattle.std.specs.Prelude.{None}
use Rattle.mdg_text.specs.Scanner.{after_close}
use Rattle.mdg_text.proofs.trivia.last_close.Given as goal

abbrev pub invariant-loop-i : goal.invariant-loop-i
invariant-loop-i l = record { bound : l.i ≤ length l.text; none : after_close (drop (l.i - 1) l.text) ≡ None }

abbrev pub decreases-loop-i : goal.decreases-loop-i
decreases-loop-i l = l.i
