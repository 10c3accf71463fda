use Rattle.std.proofs.Common.{refl, sym}
use Rattle.mdg_text.proofs.lexeme.kind_of.Goals as goal

pub returns-then-is_reserved_word : goal.returns-then-is_reserved_word
returns-then-is_reserved_word c = rw (sym c.if-is_reserved_word.ensures) refl

pub returns-else-is_reserved_word : goal.returns-else-is_reserved_word
returns-else-is_reserved_word c = rw (sym c.if-is_reserved_word.ensures) refl
