-- A property name is a name or a keyword, so it is no update operator and no brace, and stands within the tokens.
use Rattle.std.proofs.Common.{◌≡◌, ℕ, ◌<◌, ◌≤◌, Bool, true, false, cond, not, ◌&&◌, List, [], ◌∷◌, length, arith, refl, sym, ap, ◌∙◌, true≢false}
use Rattle.std.specs.Prelude.{Option, Some, None, slice_get}
use Rattle.std.proofs.lemmas.Option.{slice_get_past}
use native.Mathlib.Decide.{dec_lt}
use Rattle.mdg_text.specs.declared.token.Token.{Token}
use Rattle.mdg_text.specs.declared.token.TokenKind.{TokenKind}
use Rattle.mdg_text.specs.declared.token.TokenKind.TheVariants as kind
use Rattle.mdg_tree.specs.declared.tree.Key.{Key}
use Rattle.mdg_read.specs.declared.terminal.Terminal.{Terminal}
use Rattle.mdg_read.specs.declared.terminal.Terminal.TheVariants as s
use Rattle.mdg_read.specs.Terminal.{listed, control_words, value_words, operator_words, keyword_terminal, kind_terminal, token_terminal}
use Rattle.mdg_read.specs.TokenClass.{same, is_step}
use Rattle.mdg_read.specs.Tokens.{Tokens, terminal_at, terminal_of, is_name_kind, is_property_name, is_property_name_of, key_at, key_of, key_by}

abbrev every : (Terminal → Bool) → List (List ℕ × Terminal) → Bool
every f [] = true
every f (row ∷ rows) = f row.1 && every f rows

either_holds : (f : Terminal → Bool) (b : Bool) (x y : Terminal) → f x ≡ true → f y ≡ true → f (cond b x y) ≡ true
either_holds f true x y g h = g
either_holds f false x y g h = h

first_true : (a b : Bool) → (a && b) ≡ true → a ≡ true
first_true true b e = refl
first_true false b e = absurd cc

second_true : (a b : Bool) → (a && b) ≡ true → b ≡ true
second_true true b e = e
second_true false b e = absurd cc

listed_holds : (f : Terminal → Bool) (rows : List (List ℕ × Terminal)) (fallback : Terminal) (text : List ℕ) → every f rows ≡ true → f fallback ≡ true → f (listed rows fallback text) ≡ true
listed_holds f [] fallback text e h = h
listed_holds f (row ∷ rows) fallback text e h = either_holds f _ row.1 (listed rows fallback text) (first_true (f row.1) (every f rows) e) (listed_holds f rows fallback text (second_true (f row.1) (every f rows) e) h)

-- neither an update operator nor a closing brace
abbrev is_quiet : Terminal → Bool
is_quiet k = not (is_step k) && not (same k s.CloseBrace)

keyword_quiet : (text : List ℕ) → is_quiet (keyword_terminal text) ≡ true
keyword_quiet text =
    listed_holds is_quiet control_words _ text refl (listed_holds is_quiet value_words _ text refl (listed_holds is_quiet operator_words s.ReservedWord text refl refl))

quiet_no_step : (k : Terminal) → is_quiet k ≡ true → is_step k ≡ false
quiet_no_step (s.Update o) h = cc
quiet_no_step _ h = refl

quiet_no_brace : (k : Terminal) → is_quiet k ≡ true → same k s.CloseBrace ≡ false
quiet_no_brace s.CloseBrace h = cc
quiet_no_brace _ h = refl

kind_quiet : (k : TokenKind) (text : List ℕ) → is_name_kind k ≡ true → is_quiet (kind_terminal k text) ≡ true
kind_quiet kind.Name text h = refl
kind_quiet kind.Word text h = keyword_quiet text
kind_quiet kind.Numeral text h = absurd cc
kind_quiet kind.Text text h = absurd cc
kind_quiet kind.Mark text h = absurd cc

name_quiet : (o : Option Token) → is_property_name_of o ≡ true → is_quiet (terminal_of o) ≡ true
unfolding token_terminal
name_quiet None h = absurd cc
name_quiet (Some t) h = kind_quiet t.kind t.text h

pub name_no_step : (ts : Tokens) (i : ℕ) → is_property_name ts i ≡ true → is_step (terminal_at ts i) ≡ false
unfolding is_property_name terminal_at
name_no_step ts i h = quiet_no_step (terminal_of (slice_get ts i)) (name_quiet (slice_get ts i) h)

kind_no_brace : (k : TokenKind) (text : List ℕ) (q : Key) → key_by k text ≡ Some q → same (kind_terminal k text) s.CloseBrace ≡ false
kind_no_brace kind.Name text q h = refl
kind_no_brace kind.Word text q h = quiet_no_brace (keyword_terminal text) (keyword_quiet text)
kind_no_brace kind.Numeral text q h = refl
kind_no_brace kind.Text text q h = refl
kind_no_brace kind.Mark text q h = absurd cc

key_no_brace : (o : Option Token) (q : Key) → key_of o ≡ Some q → same (terminal_of o) s.CloseBrace ≡ false
unfolding token_terminal
key_no_brace None q h = absurd cc
key_no_brace (Some t) q h = kind_no_brace t.kind t.text q h

pub key_is_open : (ts : Tokens) (i : ℕ) (q : Key) → key_at ts i ≡ Some q → same (terminal_at ts i) s.CloseBrace ≡ false
unfolding key_at terminal_at
key_is_open ts i q h = key_no_brace (slice_get ts i) q h

past_name : (ts : Tokens) (i : ℕ) → length ts ≤ i → is_property_name ts i ≡ false
unfolding is_property_name
past_name ts i h = ap is_property_name_of (slice_get_past ts i h)

pub name_within : (ts : Tokens) (i : ℕ) → is_property_name ts i ≡ true → i < length ts
name_within ts i h = elim (dec_lt i (length ts)) [ yes a ↦ a | no b ↦ absurd (true≢false (sym h ∙ past_name ts i (let q : length ts ≤ i = omega (arith, b) in q))) ]

past_key : (ts : Tokens) (i : ℕ) → length ts ≤ i → key_at ts i ≡ None
unfolding key_at
past_key ts i h = ap key_of (slice_get_past ts i h)

pub key_within : (ts : Tokens) (i : ℕ) (q : Key) → key_at ts i ≡ Some q → i < length ts
key_within ts i q h = elim (dec_lt i (length ts)) [ yes a ↦ a | no b ↦ let none = past_key ts i (let q : length ts ≤ i = omega (arith, b) in q) in absurd cc ]
