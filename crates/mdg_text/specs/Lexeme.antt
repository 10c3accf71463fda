-- One token: which characters spell it, and that it is the longest that begins there.
use Rattle.std.specs.Prelude.{ℕ, ◌≡◌, ◌≤◌, Bool, true, List, [], ◌∷◌, ◌++◌, length, Contains}
use Rattle.std.specs.Str.{encode_utf8_all}
use Rattle.mdg_text.specs.declared.token.TokenKind.{TokenKind}
use Rattle.mdg_text.specs.Characters.{is_start, is_part, is_quote, Each}
use Rattle.mdg_text.specs.ReservedWord.{reserved_words}
use Rattle.mdg_text.specs.Punctuator.{punctuators}
use Rattle.mdg_text.specs.Number.{IsNumericLiteral, MayFollow}
use Rattle.mdg_text.specs.StringLiteral.{IsStringBody}
use Rattle.mdg_text.specs.declared.token.TokenKind.TheVariants as variant

-- An identifier, 7.6, with no escape in it.
abbrev pub IsIdentifier : List ℕ → Type 0
IsIdentifier [] = ⊥
IsIdentifier (c ∷ cs) = (is_start c ≡ true) × Each is_part cs

-- Where the rest follows, the prefix spells a token of this kind and text. The text is given by its UTF-8 bytes.
pub data Spells : List ℕ → List ℕ → TokenKind → List ℕ → Type 0 where
  name : {prefix rest : List ℕ} → IsIdentifier prefix → (Contains reserved_words (encode_utf8_all prefix) → ⊥) → Spells prefix rest variant.Name (encode_utf8_all prefix)
  reserved_word : {prefix rest : List ℕ} → IsIdentifier prefix → Contains reserved_words (encode_utf8_all prefix) → Spells prefix rest variant.Word (encode_utf8_all prefix)
  number : {plain : Bool} {prefix rest : List ℕ} → IsNumericLiteral plain prefix → MayFollow plain rest → Spells prefix rest variant.Numeral (encode_utf8_all prefix)
  string_literal : (quote : ℕ) (inner value : List ℕ) {prefix rest : List ℕ} → is_quote quote ≡ true → prefix ++ rest ≡ quote ∷ inner → IsStringBody quote inner value rest
      → Spells prefix rest variant.Text (encode_utf8_all value)
  punctuator : {prefix rest : List ℕ} → Contains punctuators prefix → Spells prefix rest variant.Mark (encode_utf8_all prefix)

-- `<!--` begins: by this edition the punctuators `<`, `!` and `--`, to engines a comment up to the next line end.
abbrev pub BeginsHtmlComment : List ℕ → Type 0
BeginsHtmlComment text = (rest : List ℕ) × (text ≡ 60 ∷ 33 ∷ 45 ∷ 45 ∷ rest)

-- The prefix is the token that begins there: no longer prefix spells one, and `<!--` does not stand there,
-- which is neither a token nor a comment.
pub record IsToken (text prefix rest : List ℕ) (kind : TokenKind) (value : List ℕ) : Type 0 where
  pub no_html : BeginsHtmlComment text → ⊥
  pub cut : text ≡ prefix ++ rest
  pub spells : Spells prefix rest kind value
  pub longest : (other after : List ℕ) (kind' : TokenKind) (value' : List ℕ) → text ≡ other ++ after → Spells other after kind' value' → length other ≤ length prefix

abbrev pub BeginsToken : List ℕ → Type 0
BeginsToken text = (prefix rest : List ℕ) × (kind : TokenKind) × (value : List ℕ) × IsToken text prefix rest kind value
