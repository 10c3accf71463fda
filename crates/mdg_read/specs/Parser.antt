-- Serves only the proof: what the calls of the parser answer, and what it requires of the functions that read the parts.
use Rattle.std.specs.Borrow.{Bor}
use Rattle.std.specs.Prelude.{ℕ, Bool, List, Option, Some, None, ◌≡◌, ◌<◌, ◌≤◌, map, Result, Ok, Err, IfOk}
use Rattle.std.specs.declared.alloc.Global.{Global}
use Rattle.mdg_text.specs.declared.token.Token.{Token}
use Rattle.mdg_tree.specs.declared.tree.Expr.{Expr}
use Rattle.mdg_tree.specs.declared.tree.Stmt.{Stmt}
use Rattle.mdg_read.specs.declared.production.Production.{Production}
use Rattle.mdg_read.specs.declared.parsed.Parsed.{Parsed}
use Rattle.mdg_read.specs.declared.refusal.ReadError.{ReadError}
use Rattle.mdg_read.specs.declared.refusal.ReadError.TheVariants.{NoMemory, NoTree}
use Rattle.mdg_read.specs.declared.terminal.Terminal.{Terminal}
use Rattle.mdg_read.specs.Reference.{expr_at, stmt_at}
use Rattle.mdg_read.specs.Terminal.{token_terminal}

-- what a call answers, unless memory runs out
abbrev pub Gives : {A : Type 0} → Option A → Result A ReadError → Type 0
Gives outcome (Ok x) = outcome ≡ Some x
Gives outcome (Err NoTree) = outcome ≡ None
Gives outcome (Err NoMemory) = Unit {0}

abbrev pub IsLow : {T : Type 0} → ℕ → Result (Parsed T) ReadError → Type 0
IsLow limit result = IfOk result (λ r. r.height ≤ limit)

-- The terminals are those of the tokens, and the two functions read the parts.
pub record Ready (tokens : List Token) (terminals : List Terminal) (depth : ℕ)
    (expr_pre : Global → Bor (List Token) → Bor (List Terminal) → ℕ → Production → ℕ → Type 0)
    (expr_post : Global → Bor (List Token) → Bor (List Terminal) → ℕ → Production → ℕ → Result (Parsed Expr) ReadError → Type 0)
    (stmt_pre : Global → Bor (List Token) → Bor (List Terminal) → ℕ → Bool → ℕ → Type 0)
    (stmt_post : Global → Bor (List Token) → Bor (List Terminal) → ℕ → Bool → ℕ → Result (Parsed Stmt) ReadError → Type 0) : Type 0 where
  pub known : terminals ≡ map token_terminal tokens
  pub shallow : depth < 1000
  pub expr_callable : (alloc : Global) (ts : Bor (List Token)) (gs : Bor (List Terminal)) (production : Production) (at : ℕ) → gs.now ≡ map token_terminal ts.now → expr_pre alloc ts gs depth production at
  pub expr_reads : (alloc : Global) (ts : Bor (List Token)) (gs : Bor (List Terminal)) (production : Production) (at : ℕ) (r : Result (Parsed Expr) ReadError) → expr_post alloc ts gs depth production at r
      → Gives (expr_at ts.now depth production at) r
  pub expr_low : (alloc : Global) (ts : Bor (List Token)) (gs : Bor (List Terminal)) (production : Production) (at : ℕ) (r : Result (Parsed Expr) ReadError) → expr_post alloc ts gs depth production at r → IsLow depth r
  pub stmt_callable : (alloc : Global) (ts : Bor (List Token)) (gs : Bor (List Terminal)) (top : Bool) (at : ℕ) → gs.now ≡ map token_terminal ts.now → stmt_pre alloc ts gs depth top at
  pub stmt_reads : (alloc : Global) (ts : Bor (List Token)) (gs : Bor (List Terminal)) (top : Bool) (at : ℕ) (r : Result (Parsed Stmt) ReadError) → stmt_post alloc ts gs depth top at r
      → Gives (stmt_at ts.now depth top at) r
  pub stmt_low : (alloc : Global) (ts : Bor (List Token)) (gs : Bor (List Terminal)) (top : Bool) (at : ℕ) (r : Result (Parsed Stmt) ReadError) → stmt_post alloc ts gs depth top at r → IsLow depth r
