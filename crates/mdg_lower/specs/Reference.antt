-- Serves only the proofs: the reference of an expression, with the parts that it has in the tree.
use Rattle.std.specs.Prelude.{ℕ, ◌<◌}
use Rattle.mdg_tree.specs.declared.tree.Expr.{size-Expr}
use Rattle.mdg_lower.specs.declared.reference.Reference as tree
use Rattle.mdg_lower.specs.declared.reference.Reference.TheVariants as variant
use Rattle.mdg_lower.specs.Operands.{Reference, named, member, keyed, other}
use Rattle.mdg_lower.specs.Trees.{operand_of}

abbrev pub reference_of_tree : tree.Reference → Reference
reference_of_tree (variant.Named at name) = named at name.now
reference_of_tree (variant.Member object name) = member (operand_of object.now) name.now
reference_of_tree (variant.Keyed object key) = keyed (operand_of object.now) (operand_of key.now)
reference_of_tree variant.Other = other

-- its parts are smaller than this
abbrev pub IsBelow : ℕ → tree.Reference → Type 0
IsBelow size (variant.Named at name) = Unit {0}
IsBelow size (variant.Member object name) = size-Expr object.now < size
IsBelow size (variant.Keyed object key) = (size-Expr object.now < size) × (size-Expr key.now < size)
IsBelow size variant.Other = Unit {0}
