use Rattle.std.proofs.Common.{◌≡◌, ◌≤◌, ◌-◌, length, drop, []}
use Rattle.mdg_text.specs.Scanner.{string_body}
use Rattle.mdg_text.proofs.string_literal.string_body.Given as goal

abbrev pub invariant-loop-turn : goal.invariant-loop-turn
invariant-loop-turn l = record { bound : l.i ≤ length l.text; same : string_body l._turn-end l.quote [] (drop l.at l.text) ≡ string_body (l._turn-end - l._turn) l.quote l.value.items (drop l.i l.text) }
