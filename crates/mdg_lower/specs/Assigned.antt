-- Serves only the proofs: later parts that may be absent.
use Rattle.std.specs.Prelude.{List, [], ◌∷◌, Option, Some, None}
use Rattle.std.specs.Borrow.{Bor}
use Rattle.mdg_tree.specs.declared.tree.Expr.{Expr}
use Rattle.mdg_lower.specs.Operands.{Operand}
use Rattle.mdg_lower.specs.Trees.{operand_of}

abbrev pub listed : Option (Bor Expr) → List Operand
listed None = []
listed (Some tree) = operand_of tree.now ∷ []
