use Rattle.std.proofs.Common.{◌≡◌, ◌≤◌, ◌-◌, length, drop}
use Rattle.mdg_text.specs.Scanner.{skip_trivia}
use Rattle.mdg_text.proofs.trivia.skip_trivia.Given as goal

abbrev pub invariant-loop-turn : goal.invariant-loop-turn
invariant-loop-turn l = record { bound : l.i ≤ length l.text; same : skip_trivia l._turn-end (drop l.at l.text) ≡ skip_trivia (l._turn-end - l._turn) (drop l.i l.text) }
