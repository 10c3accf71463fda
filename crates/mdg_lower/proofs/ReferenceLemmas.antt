-- Parts that are smaller than a tree are smaller than a greater one.
use Rattle.std.proofs.Common.{ℕ, ◌≤◌, arith}
use Rattle.mdg_lower.specs.declared.reference.Reference as tree
use Rattle.mdg_lower.specs.declared.reference.Reference.TheVariants as variant
use Rattle.mdg_lower.specs.Reference.{IsBelow}

pub below_greater : (m n : ℕ) (s : tree.Reference) → m ≤ n → IsBelow m s → IsBelow n s
below_greater m n (variant.Named at name) h p = tt
below_greater m n (variant.Member object name) h p = omega arith
below_greater m n (variant.Keyed object key) h p = (omega (arith, p.0), omega (arith, p.1))
below_greater m n variant.Other h p = tt

pub ruleset shapes = (below_greater)
