-- The words that are excluded from the core of the language, but as names of properties.
use Rattle.std.specs.Prelude.{if◌then◌else◌, ℕ, ◌==◌, Bool, true, false, ◌&&◌, ◌||◌, List, [], ◌∷◌, codes, Option, Some, None, slice_get, bytes_eq, ◌≡◌, ◌+◌, ◌-◌, ◌<◌, not}
use Rattle.mdg_text.specs.declared.token.Token.{Token}
use Rattle.mdg_text.specs.declared.token.TokenKind.{TokenKind}
use Rattle.mdg_read.specs.declared.terminal.Terminal.{Terminal}
use Rattle.mdg_text.specs.declared.token.TokenKind.TheVariants as kind
use Rattle.mdg_read.specs.declared.terminal.Terminal.TheVariants as s
use Rattle.mdg_read.specs.TokenClass.{same}
use Rattle.mdg_read.specs.Tokens.{Tokens, terminal_at}

-- the excluded words
abbrev pub early_words : List (List ℕ)
early_words = codes "case" ∷ codes "catch" ∷ codes "class" ∷ codes "const" ∷ codes "debugger" ∷ codes "default" ∷ codes "enum" ∷ codes "export" ∷ codes "extends" ∷ []

abbrev pub middle_words : List (List ℕ)
middle_words = codes "finally" ∷ codes "implements" ∷ codes "import" ∷ codes "interface" ∷ codes "let" ∷ codes "package" ∷ codes "private" ∷ codes "protected" ∷ []

abbrev pub late_words : List (List ℕ)
late_words = codes "public" ∷ codes "static" ∷ codes "super" ∷ codes "switch" ∷ codes "this" ∷ codes "try" ∷ codes "with" ∷ codes "yield" ∷ []

abbrev pub is_one_of : List (List ℕ) → List ℕ → Bool
is_one_of [] text = false
is_one_of (w ∷ ws) text = bytes_eq text w || is_one_of ws text

abbrev pub is_excluded_text : TokenKind → List ℕ → Bool
is_excluded_text kind.Name text = bytes_eq text (codes "arguments")
is_excluded_text kind.Word text = is_one_of early_words text || is_one_of middle_words text || is_one_of late_words text
is_excluded_text _ text = false

abbrev pub is_excluded_token : Option Token → Bool
is_excluded_token None = false
is_excluded_token (Some t) = is_excluded_text t.kind t.text

-- the terminal before a place
unfoldable pub terminal_before : Tokens → ℕ → Terminal
terminal_before ts i = if i == 0 then s.End else terminal_at ts (i - 1)

abbrev pub begins_key : Terminal → Bool
begins_key s.OpenBrace = true
begins_key s.Comma = true
begins_key _ = false

-- A token is a name of a property after a dot, and between a brace or a comma and a colon.
unfoldable pub names_property : Tokens → ℕ → Bool
names_property ts i = same (terminal_before ts i) s.Dot || (begins_key (terminal_before ts i) && same (terminal_at ts (i + 1)) s.Colon)

-- an excluded word stands there, and is no name of a property
unfoldable pub is_excluded : Tokens → ℕ → Bool
is_excluded ts i = is_excluded_token (slice_get ts i) && not (names_property ts i)

pub record IsFirstExcluded (ts : Tokens) (i : ℕ) : Type 0 where
  pub here : is_excluded ts i ≡ true
  pub first : (k : ℕ) → k < i → is_excluded ts k ≡ false

abbrev pub IsCore : Tokens → Type 0
IsCore ts = (k : ℕ) → is_excluded ts k ≡ false
