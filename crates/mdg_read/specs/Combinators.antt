-- Serves only the proof: the combinators of the reference reader, and what it reads of tokens alone.
use Rattle.std.specs.Prelude.{if◌then◌else◌, ℕ, nat_le, List, [], ◌∷◌, length, Option, Some, None, suc, ◌+◌, ◌-◌, zero, ◌++◌}
use Rattle.mdg_read.specs.declared.semicolon.Terminator.{Terminator}
use Rattle.mdg_read.specs.declared.parsed.Parameters.{Parameters}
use Rattle.mdg_read.specs.declared.parsed.Parsed.{Parsed}
use Rattle.mdg_read.specs.declared.terminal.Terminal.{Terminal}
use Rattle.mdg_read.specs.declared.terminal.Terminal.TheVariants as s
use Rattle.mdg_read.specs.Semicolon.{may_be_inserted}
use Rattle.mdg_read.specs.TokenClass.{same}
use Rattle.mdg_read.specs.Tokens.{Tokens, terminal_at, text_at, line_before_at, offset_at}

infixl 10 ◌>>=◌
abbrev pub ◌>>=◌ : {A B : Type 0} → Option A → (A → Option B) → Option B
None >>= next = None
(Some x) >>= next = next x

unfoldable pub bounded : {T : Type 0} → ℕ → Parsed T → Option (Parsed T)
bounded limit r = if nat_le r.height limit then Some r else None

unfoldable pub expect : Tokens → Terminal → ℕ → Option ℕ
expect ts terminal i = if same (terminal_at ts i) terminal then Some (i + 1) else None

module _ (ts : Tokens) where
  unfoldable pub names_from : ℕ → List (List ℕ) → List ℕ → ℕ → Option Parameters
  names_from zero xs os i = None
  names_from (suc w) xs os i = do
    j ← expect ts s.Name i
    if same (terminal_at ts j) s.Comma then names_from w (xs ++ text_at ts i ∷ []) (os ++ offset_at ts i ∷ []) (j + 1) else Some (record { names = xs ++ text_at ts i ∷ []; offsets = os ++ offset_at ts i ∷ []; next = j })

  unfoldable pub some_parameters : ℕ → Option Parameters
  some_parameters i = do
    p ← names_from (length ts) [] [] i
    j ← expect ts s.CloseParen p.next
    Some (record { names = p.names; offsets = p.offsets; next = j })

  unfoldable pub parameter_list : ℕ → Option Parameters
  parameter_list i = do
    j ← expect ts s.OpenParen i
    if same (terminal_at ts j) s.CloseParen then Some (record { names = []; offsets = []; next = j + 1 }) else some_parameters j

  unfoldable pub insert_semicolon : Terminator → ℕ → Option ℕ
  insert_semicolon g i = if same (terminal_at ts i) s.Semicolon then Some (i + 1) else (if may_be_inserted g (terminal_at ts i) (line_before_at ts i) (terminal_at ts (i - 1)) then Some i else None)
