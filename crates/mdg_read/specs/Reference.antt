-- The reference reader: what is read at a place, by lookahead. The number bounds the height of what is read.
use Rattle.std.specs.Prelude.{ℕ, Bool, Option, None, suc, zero}
use Rattle.mdg_tree.specs.declared.tree.Expr.{Expr}
use Rattle.mdg_tree.specs.declared.tree.Stmt.{Stmt}
use Rattle.mdg_read.specs.declared.production.Production.{Production}
use Rattle.mdg_read.specs.declared.parsed.Parsed.{Parsed}
use Rattle.mdg_read.specs.ReferenceExpressions.{any_expression}
use Rattle.mdg_read.specs.ReferenceStatements.{statement}
use Rattle.mdg_read.specs.Tokens.{Tokens}

module _ (ts : Tokens) where
  unfoldable mutual
    pub expr_at : ℕ → Production → ℕ → Option (Parsed Expr)
    expr_at zero kind i = None
    expr_at (suc n) kind i = any_expression ts n (expr_at n) (stmt_at n) kind i

    pub stmt_at : ℕ → Bool → ℕ → Option (Parsed Stmt)
    stmt_at zero b i = None
    stmt_at (suc n) b i = statement ts n (expr_at n) (stmt_at n) b i
