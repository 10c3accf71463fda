-- What the grammar sees of the tokens of a file, by their places.
use Rattle.std.specs.Prelude.{ℕ, Bool, true, false, List, [], Option, Some, None, slice_get}
use Rattle.mdg_text.specs.declared.token.Token.{Token}
use Rattle.mdg_text.specs.declared.token.TokenKind.{TokenKind}
use Rattle.mdg_tree.specs.declared.tree.At.{At}
use Rattle.mdg_tree.specs.declared.tree.Key.{Key}
use Rattle.mdg_read.specs.declared.terminal.Terminal.{Terminal}
use Rattle.mdg_text.specs.declared.token.TokenKind.TheVariants as kind
use Rattle.mdg_tree.specs.declared.tree.Key.TheVariants as key
use Rattle.mdg_read.specs.declared.terminal.Terminal.TheVariants as s
use Rattle.mdg_read.specs.Numeral.{is_plain}
use Rattle.mdg_read.specs.Terminal.{token_terminal}

abbrev pub Tokens : Type 0
Tokens = List Token

abbrev pub terminal_of : Option Token → Terminal
terminal_of None = s.End
terminal_of (Some t) = token_terminal t

abbrev pub position_of : Option Token → At
position_of None = record { line = 0; offset = 0 }
position_of (Some t) = record { line = t.line; offset = t.from }

abbrev pub text_of : Option Token → List ℕ
text_of None = []
text_of (Some t) = t.text

abbrev pub line_before_of : Option Token → Bool
line_before_of None = false
line_before_of (Some t) = t.line_before

unfoldable pub terminal_at : Tokens → ℕ → Terminal
terminal_at ts i = terminal_of (slice_get ts i)

unfoldable pub position_at : Tokens → ℕ → At
position_at ts i = position_of (slice_get ts i)

unfoldable pub text_at : Tokens → ℕ → List ℕ
text_at ts i = text_of (slice_get ts i)

unfoldable pub line_before_at : Tokens → ℕ → Bool
line_before_at ts i = line_before_of (slice_get ts i)

abbrev pub offset_at : Tokens → ℕ → ℕ
offset_at ts i = (position_at ts i).offset

-- the key that a token is
abbrev pub numeral_key : Bool → List ℕ → Option Key
numeral_key true text = Some (key.Numeral text)
numeral_key false text = None

-- A property name is a name or a keyword.
abbrev pub is_name_kind : TokenKind → Bool
is_name_kind kind.Name = true
is_name_kind kind.Word = true
is_name_kind _ = false

abbrev pub is_property_name_of : Option Token → Bool
is_property_name_of None = false
is_property_name_of (Some t) = is_name_kind t.kind

-- whether a property name stands there
unfoldable pub is_property_name : Tokens → ℕ → Bool
is_property_name ts i = is_property_name_of (slice_get ts i)

-- A key is a property name, a string literal, or a plain numeral.
abbrev pub key_by : TokenKind → List ℕ → Option Key
key_by kind.Name text = Some (key.Name text)
key_by kind.Word text = Some (key.Name text)
key_by kind.Text text = Some (key.Text text)
key_by kind.Numeral text = numeral_key (is_plain text) text
key_by kind.Mark text = None

abbrev pub key_of : Option Token → Option Key
key_of None = None
key_of (Some t) = key_by t.kind t.text

unfoldable pub key_at : Tokens → ℕ → Option Key
key_at ts i = key_of (slice_get ts i)
