-- What may be assigned.
use Rattle.std.specs.Prelude.{Bool, true, false}
use Rattle.mdg_tree.specs.declared.tree.Expr.{Expr, out-Expr}
use Rattle.mdg_tree.specs.declared.tree.Expr.TheOpen.{Expr-F}

-- What may be assigned: a name, or a member.
abbrev pub is_target_layer : {A B C D G H K : Type 0} → Expr-F A B C D G H K → Bool
is_target_layer (Expr-F.Name at name) = true
is_target_layer (Expr-F.Member at object name) = true
is_target_layer (Expr-F.Index at object key) = true
is_target_layer _ = false

unfoldable pub is_assignment_target : Expr → Bool
is_assignment_target t = is_target_layer (out-Expr t)
