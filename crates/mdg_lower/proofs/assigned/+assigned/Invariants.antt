use Rattle.std.proofs.Common.{◌≡◌, ◌+◌, ◌*◌, drop}
use Rattle.std.specs.Prelude.{map}
use denote.Param.Weighed.{most}
use Rattle.mdg_tree.specs.declared.tree.Expr.{size-Expr}
use Rattle.mdg_tree.proofs.tree.Expr.TheLaws as expr
use Rattle.mdg_tree.proofs.tree.Property.TheLaws as property
use Rattle.mdg_lower.specs.Operands.{any_assigns, any_property_assigns}
use Rattle.mdg_lower.specs.Trees.{operands_of, property_part}
use Rattle.mdg_lower.proofs.assigned.+assigned.Given as goal

abbrev pub decreases-assigns : goal.decreases-assigns
decreases-assigns l = 2 * size-Expr l.tree.now

abbrev pub decreases-assigned_by : goal.decreases-assigned_by
decreases-assigned_by l = 2 * size-Expr l.target.now + 1

abbrev pub decreases-any_assigns : goal.decreases-any_assigns
decreases-any_assigns l = 2 * most expr.the_size l.all.now + 1

abbrev pub decreases-any_property_assigns : goal.decreases-any_property_assigns
decreases-any_property_assigns l = 2 * most property.the_size l.all.now + 1

abbrev pub invariant-any_assigns-loop-one : goal.invariant-any_assigns-loop-one
invariant-any_assigns-loop-one l = any_assigns (operands_of l.all) l.name ≡ any_assigns (operands_of (drop l.one-index l.all)) l.name

abbrev pub invariant-any_property_assigns-loop-one : goal.invariant-any_property_assigns-loop-one
invariant-any_property_assigns-loop-one l = any_property_assigns (map property_part l.all) l.name ≡ any_property_assigns (map property_part (drop l.one-index l.all)) l.name
