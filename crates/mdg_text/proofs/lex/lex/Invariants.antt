use Rattle.std.proofs.Common.{◌≡◌, ◌≤◌, ◌-◌, length, take, drop}
use Rattle.mdg_text.specs.Cursor.{IsCursor}
use Rattle.mdg_text.specs.Lexer.{lex_text, lex}
use Rattle.mdg_text.proofs.lex.lex.Given as goal

abbrev pub invariant-loop-alloc : goal.invariant-loop-alloc
invariant-loop-alloc l = record {
  is : IsCursor l.text l.cursor;
  many : length l.made.items ≤ l.limit;
  same : lex_text l.limit l.text ≡ lex (l.limit - length l.made.items) (length l.text) l.made.items l.has_token (take l.cursor.at l.text) (drop l.cursor.at l.text);
}

abbrev pub decreases-loop-alloc : goal.decreases-loop-alloc
decreases-loop-alloc l = length l.text - l.cursor.at
