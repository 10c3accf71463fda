-- Lookahead in the list of terminals is lookahead in the tokens.
use Rattle.std.proofs.Common.{◌≡◌, ℕ, zero, suc, ◌+◌, ◌<◌, ◌≤◌, List, [], ◌∷◌, length, take, get_or, arith, refl, sym, ap, ◌∙◌, add-one}
use Rattle.std.specs.Prelude.{Option, Some, None, slice_get, map, option_map}
use Rattle.std.proofs.lemmas.Option.{slice_get-map, slice_get-get_or, slice_get_past}
use Rattle.mdg_text.specs.declared.token.Token.{Token}
use Rattle.mdg_tree.specs.declared.tree.Declaration.{Declaration}
use Rattle.mdg_read.specs.declared.terminal.Terminal.{Terminal}
use Rattle.mdg_read.specs.declared.terminal.Terminal.TheVariants as s
use Rattle.mdg_read.specs.Semicolon.{ends_bare, is_bare, var_terminator, var_terminator_of}
use Rattle.mdg_read.specs.Terminal.{token_terminal}
use Rattle.mdg_read.specs.Tokens.{Tokens, terminal_at, terminal_of}
use Rattle.mdg_read.proofs.Progress.{within}

abbrev pub terminal_or_end : Option Terminal → Terminal
terminal_or_end None = s.End
terminal_or_end (Some k) = k

seen : (o : Option Token) → terminal_of o ≡ terminal_or_end (option_map token_terminal o)
seen None = refl
seen (Some t) = refl

pub looked : (ts : Tokens) (gs : List Terminal) (i : ℕ) → gs ≡ map token_terminal ts → terminal_at ts i ≡ terminal_or_end (slice_get gs i)
unfolding terminal_at
looked ts gs i e = seen (slice_get ts i) ∙ ap terminal_or_end (sym (slice_get-map token_terminal ts i)) ∙ ap (λ xs. terminal_or_end (slice_get xs i)) (sym e)

pub terminal_some : (ts : Tokens) (gs : List Terminal) (i : ℕ) (k : Terminal) → gs ≡ map token_terminal ts → slice_get gs i ≡ Some k → k ≡ terminal_at ts i
terminal_some ts gs i k e h = sym (looked ts gs i e ∙ ap terminal_or_end h)

pub terminal_none : (ts : Tokens) (gs : List Terminal) (i : ℕ) → gs ≡ map token_terminal ts → slice_get gs i ≡ None → s.End ≡ terminal_at ts i
terminal_none ts gs i e h = sym (looked ts gs i e ∙ ap terminal_or_end h)

-- what indexing reads, and what stands past the end
pub terminal_read : (ts : Tokens) (gs : List Terminal) (i : ℕ) (d : Terminal) → gs ≡ map token_terminal ts → i < length gs → get_or gs i d ≡ terminal_at ts i
terminal_read ts gs i d e h = sym (looked ts gs i e ∙ ap terminal_or_end (slice_get-get_or gs i d h))

pub terminal_past : (ts : Tokens) (gs : List Terminal) (i : ℕ) → gs ≡ map token_terminal ts → length gs ≤ i → s.End ≡ terminal_at ts i
terminal_past ts gs i e h = sym (looked ts gs i e ∙ ap terminal_or_end (slice_get_past gs i h))

pub terminal_inside : (ts : Tokens) (i : ℕ) (k : Terminal) → k ≡ terminal_at ts i → (k ≡ s.End → ⊥) → i < length ts
terminal_inside ts i k e h = within ts i k (sym e) h

-- the last of a front of the declarations
ends_suc : (ds : List Declaration) (i : ℕ) (d : Declaration) → i < length ds → ends_bare (take (suc i) ds) ≡ is_bare (get_or ds i d).value
ends_suc [] i d h = absurd (omega arith)
ends_suc (x ∷ ds) zero d h = refl
ends_suc (x ∷ []) (suc i) d h = absurd (omega arith)
ends_suc (x ∷ y ∷ ds) (suc i) d h = ends_suc (y ∷ ds) i d (omega arith)

pub ends_more : (ds : List Declaration) (i : ℕ) (d : Declaration) → i < length ds → var_terminator (take (i + 1) ds) ≡ var_terminator_of (is_bare (get_or ds i d).value)
ends_more ds i d h = rw add-one (ap var_terminator_of (ends_suc ds i d h))

pub ruleset lookahead = (terminal_read, terminal_past, terminal_inside)
