use Rattle.std.proofs.Common.{◌≡◌, ◌≤◌, ◌+◌, ◌-◌, length, drop}
use Rattle.mdg_text.specs.Lines.{byte_line_ends}
use Rattle.mdg_text.proofs.lines.line_ends.Given as goal

abbrev pub invariant-loop-i : goal.invariant-loop-i
invariant-loop-i l = record { same : l.n + byte_line_ends (drop l.i l.bytes) ≡ byte_line_ends l.bytes; few : l.n ≤ l.i; inside : l.i ≤ length l.bytes }

abbrev pub decreases-loop-i : goal.decreases-loop-i
decreases-loop-i l = length l.bytes - l.i
