-- The semicolon that ends a statement, and where it may be inserted (7.9).
use Rattle.std.specs.Prelude.{ℕ, Bool, true, false, ◌&&◌, ◌||◌, List, [], ◌∷◌, Option, Some, None, ◌≡◌, ◌≢◌, ◌+◌, ◌-◌, not}
use Rattle.mdg_tree.specs.declared.tree.Declaration.{Declaration}
use Rattle.mdg_tree.specs.declared.tree.Expr.{Expr}
use Rattle.mdg_read.specs.declared.semicolon.Terminator.{Terminator}
use Rattle.mdg_read.specs.declared.terminal.Terminal.{Terminal}
use Rattle.mdg_tree.specs.declared.operator.BinaryOperator.TheVariants as binary
use Rattle.mdg_read.specs.declared.terminal.Terminal.TheVariants as s
use Rattle.mdg_read.specs.declared.semicolon.Terminator.TheVariants as terminator
use Rattle.mdg_read.specs.TokenClass.{is_step, ends_block}
use Rattle.mdg_read.specs.Tokens.{Tokens, terminal_at, line_before_at}

-- A token that continues the statement before it, so that no semicolon is inserted.
abbrev pub continues : Terminal → Bool
continues s.OpenParen = true
continues s.OpenBracket = true
continues s.Dot = true
continues s.Comma = true
continues s.Question = true
continues s.Colon = true
continues s.Semicolon = true
continues (s.Binary o) = true
continues (s.Assign o) = true
continues _ = false

-- After an update operator these continue no expression.
abbrev pub opens : Terminal → Bool
opens s.OpenParen = true
opens s.OpenBracket = true
opens _ = false

-- After a declared name alone these begin a statement too.
abbrev pub restarts : Terminal → Bool
restarts s.OpenParen = true
restarts s.OpenBracket = true
restarts (s.Binary binary.Add) = true
restarts (s.Binary binary.Subtract) = true
restarts _ = false

-- what an terminator allows that others do not, after a line end
abbrev pub frees : Terminator → Terminal → Bool
frees terminator.Plain k = false
frees terminator.Name k = restarts k
frees terminator.Jump k = true
frees terminator.Loop k = true

abbrev pub is_loop : Terminator → Bool
is_loop terminator.Loop = true
is_loop _ = false

-- Whether the closing semicolon may be inserted before a token: that token's terminal, whether it stands after a line end, and the terminal before it.
abbrev pub may_be_inserted : Terminator → Terminal → Bool → Terminal → Bool
may_be_inserted g k line last = ends_block k || is_loop g || (line && (not (continues k) || (opens k && is_step last) || frees g k))

-- The closing semicolon of a statement with this terminator stands from i up to j.
pub data SpellsSemicolon (ts : Tokens) : Terminator → ℕ → ℕ → Type 0 where
  semicolon : {g : Terminator} {i : ℕ} → terminal_at ts i ≡ s.Semicolon → SpellsSemicolon ts g i (i + 1)
  inserted : {g : Terminator} {i : ℕ} → terminal_at ts i ≢ s.Semicolon → may_be_inserted g (terminal_at ts i) (line_before_at ts i) (terminal_at ts (i - 1)) ≡ true → SpellsSemicolon ts g i i

-- whether the last declaration is a name alone
abbrev pub is_bare : Option Expr → Bool
is_bare None = true
is_bare (Some value) = false

abbrev pub ends_bare : List Declaration → Bool
ends_bare [] = false
ends_bare (d ∷ []) = is_bare d.value
ends_bare (d ∷ c ∷ ds) = ends_bare (c ∷ ds)

abbrev pub var_terminator_of : Bool → Terminator
var_terminator_of true = terminator.Name
var_terminator_of false = terminator.Plain

abbrev pub var_terminator : List Declaration → Terminator
var_terminator ds = var_terminator_of (ends_bare ds)
