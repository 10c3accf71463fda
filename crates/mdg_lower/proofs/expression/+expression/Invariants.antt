use Rattle.std.proofs.Common.{◌≡◌, ◌+◌, ◌*◌, ◌++◌, max, drop, length}
use Rattle.std.specs.Prelude.{map}
use denote.Param.Weighed.{most}
use Rattle.mdg_tree.specs.declared.tree.Expr.{size-Expr}
use Rattle.mdg_tree.specs.declared.tree.Property.{size-Property}
use Rattle.mdg_tree.proofs.tree.Expr.TheLaws as expr
use Rattle.mdg_tree.proofs.tree.Property.TheLaws as property
use Rattle.mdg_lower.specs.Access as access
use Rattle.mdg_lower.specs.Initialisers as initialisers
use Rattle.mdg_lower.specs.Trees as trees
use Rattle.mdg_lower.proofs.expression.+expression.Given as goal

abbrev pub decreases-operand::lower_base : goal.decreases-operand::lower_base
decreases-operand::lower_base l = 8 * size-Expr l.tree.now + 1

abbrev pub decreases-operand::lower_key : goal.decreases-operand::lower_key
decreases-operand::lower_key l = 8 * size-Expr l.key.now + 1

abbrev pub decreases-operand::arguments : goal.decreases-operand::arguments
decreases-operand::arguments l = 8 * most expr.the_size l.all.now + 1

abbrev pub decreases-operand::emit_call : goal.decreases-operand::emit_call
decreases-operand::emit_call l = 8 * most expr.the_size l.all.now + 2

abbrev pub decreases-operand::emit_optional : goal.decreases-operand::emit_optional
decreases-operand::emit_optional l = 8 * size-Expr l.tree.now + 1

abbrev pub decreases-access::member : goal.decreases-access::member
decreases-access::member l = 8 * size-Expr l.object.now + 2

abbrev pub decreases-access::keyed : goal.decreases-access::keyed
decreases-access::keyed l = max (8 * size-Expr l.object.now) (8 * size-Expr l.key.now) + 2

abbrev pub decreases-access::index : goal.decreases-access::index
decreases-access::index l = max (8 * size-Expr l.object.now) (8 * size-Expr l.key.now) + 3

abbrev pub decreases-access::method : goal.decreases-access::method
decreases-access::method l = max (8 * size-Expr l.object.now) (8 * most expr.the_size l.all.now) + 3

abbrev pub decreases-access::method_at : goal.decreases-access::method_at
decreases-access::method_at l = max (8 * size-Expr l.object.now) (max (8 * size-Expr l.key.now) (8 * most expr.the_size l.all.now)) + 3

abbrev pub decreases-access::plain_call : goal.decreases-access::plain_call
decreases-access::plain_call l = max (8 * size-Expr l.callee.now) (8 * most expr.the_size l.all.now) + 3

abbrev pub decreases-access::named_call : goal.decreases-access::named_call
decreases-access::named_call l = max (8 * size-Expr l.callee.now) (8 * most expr.the_size l.all.now) + 4

abbrev pub decreases-access::call : goal.decreases-access::call
decreases-access::call l = max (8 * size-Expr l.callee.now) (8 * most expr.the_size l.all.now) + 5

abbrev pub decreases-operation::unary_operation : goal.decreases-operation::unary_operation
decreases-operation::unary_operation l = 8 * size-Expr l.tree.now + 2

abbrev pub decreases-operation::binary_operation : goal.decreases-operation::binary_operation
decreases-operation::binary_operation l = max (8 * size-Expr l.left.now) (8 * size-Expr l.right.now) + 2

abbrev pub decreases-operation::logical_operation : goal.decreases-operation::logical_operation
decreases-operation::logical_operation l = max (8 * size-Expr l.left.now) (8 * size-Expr l.right.now) + 2

abbrev pub decreases-operation::binary : goal.decreases-operation::binary
decreases-operation::binary l = max (8 * size-Expr l.left.now) (8 * size-Expr l.right.now) + 3

abbrev pub decreases-operation::conditional : goal.decreases-operation::conditional
decreases-operation::conditional l = max (8 * size-Expr l.test.now) (max (8 * size-Expr l.chosen.now) (8 * size-Expr l.otherwise.now)) + 2

abbrev pub decreases-operation::either : goal.decreases-operation::either
decreases-operation::either l = max (8 * size-Expr l.chosen.now) (8 * size-Expr l.otherwise.now) + 1

abbrev pub decreases-operation::void_of : goal.decreases-operation::void_of
decreases-operation::void_of l = 8 * size-Expr l.tree.now + 2

abbrev pub decreases-operation::type_of_name : goal.decreases-operation::type_of_name
decreases-operation::type_of_name l = 8 * size-Expr l.tree.now + 3

abbrev pub decreases-operation::type_of : goal.decreases-operation::type_of
decreases-operation::type_of l = 8 * size-Expr l.tree.now + 4

abbrev pub decreases-operation::delete_member : goal.decreases-operation::delete_member
decreases-operation::delete_member l = 8 * size-Expr l.object.now + 2

abbrev pub decreases-operation::delete_keyed : goal.decreases-operation::delete_keyed
decreases-operation::delete_keyed l = max (8 * size-Expr l.object.now) (8 * size-Expr l.key.now) + 2

abbrev pub decreases-operation::delete_value : goal.decreases-operation::delete_value
decreases-operation::delete_value l = 8 * size-Expr l.tree.now + 2

abbrev pub decreases-operation::delete : goal.decreases-operation::delete
decreases-operation::delete l = 8 * size-Expr l.tree.now + 4

abbrev pub decreases-operation::unary : goal.decreases-operation::unary
decreases-operation::unary l = 8 * size-Expr l.tree.now + 5

abbrev pub decreases-assignment::assign_name : goal.decreases-assignment::assign_name
decreases-assignment::assign_name l = 8 * size-Expr l.assigned.now + 2

abbrev pub decreases-assignment::assign_member : goal.decreases-assignment::assign_member
decreases-assignment::assign_member l = max (8 * size-Expr l.object.now) (8 * size-Expr l.assigned.now) + 2

abbrev pub decreases-assignment::assign_keyed : goal.decreases-assignment::assign_keyed
decreases-assignment::assign_keyed l = max (8 * size-Expr l.object.now) (max (8 * size-Expr l.key.now) (8 * size-Expr l.assigned.now)) + 2

abbrev pub decreases-assignment::assign : goal.decreases-assignment::assign
decreases-assignment::assign l = max (8 * size-Expr l.target.now) (8 * size-Expr l.assigned.now) + 4

abbrev pub decreases-assignment::compound_name : goal.decreases-assignment::compound_name
decreases-assignment::compound_name l = 8 * size-Expr l.assigned.now + 2

abbrev pub decreases-assignment::compound_member : goal.decreases-assignment::compound_member
decreases-assignment::compound_member l = max (8 * size-Expr l.object.now) (8 * size-Expr l.assigned.now) + 2

abbrev pub decreases-assignment::compound_keyed : goal.decreases-assignment::compound_keyed
decreases-assignment::compound_keyed l = max (8 * size-Expr l.object.now) (max (8 * size-Expr l.key.now) (8 * size-Expr l.assigned.now)) + 2

abbrev pub decreases-assignment::compound : goal.decreases-assignment::compound
decreases-assignment::compound l = max (8 * size-Expr l.target.now) (8 * size-Expr l.assigned.now) + 4

abbrev pub decreases-assignment::assignment : goal.decreases-assignment::assignment
decreases-assignment::assignment l = max (8 * size-Expr l.target.now) (8 * size-Expr l.assigned.now) + 5

abbrev pub decreases-assignment::prefix_member : goal.decreases-assignment::prefix_member
decreases-assignment::prefix_member l = 8 * size-Expr l.object.now + 2

abbrev pub decreases-assignment::prefix_keyed : goal.decreases-assignment::prefix_keyed
decreases-assignment::prefix_keyed l = max (8 * size-Expr l.object.now) (8 * size-Expr l.key.now) + 2

abbrev pub decreases-assignment::prefix : goal.decreases-assignment::prefix
decreases-assignment::prefix l = 8 * size-Expr l.target.now + 4

abbrev pub decreases-assignment::postfix_member : goal.decreases-assignment::postfix_member
decreases-assignment::postfix_member l = 8 * size-Expr l.object.now + 2

abbrev pub decreases-assignment::postfix_keyed : goal.decreases-assignment::postfix_keyed
decreases-assignment::postfix_keyed l = max (8 * size-Expr l.object.now) (8 * size-Expr l.key.now) + 2

abbrev pub decreases-assignment::postfix : goal.decreases-assignment::postfix
decreases-assignment::postfix l = 8 * size-Expr l.target.now + 4

abbrev pub decreases-list::comma : goal.decreases-list::comma
decreases-list::comma l = 8 * most expr.the_size l.all.now + 1

abbrev pub decreases-list::element : goal.decreases-list::element
decreases-list::element l = 8 * size-Expr l.one.now + 1

abbrev pub decreases-list::elements : goal.decreases-list::elements
decreases-list::elements l = 8 * most expr.the_size l.all.now + 2

abbrev pub decreases-list::array : goal.decreases-list::array
decreases-list::array l = 8 * most expr.the_size l.all.now + 3

abbrev pub decreases-list::property : goal.decreases-list::property
decreases-list::property l = 8 * size-Property l.one.now + 1

abbrev pub decreases-list::properties : goal.decreases-list::properties
decreases-list::properties l = 8 * most property.the_size l.all.now + 2

abbrev pub decreases-list::initialiser : goal.decreases-list::initialiser
decreases-list::initialiser l = 8 * most property.the_size l.all.now + 3

abbrev pub decreases-value : goal.decreases-value
decreases-value l = 8 * size-Expr l.tree.now

abbrev pub invariant-operand::arguments-loop-one : goal.invariant-operand::arguments-loop-one
invariant-operand::arguments-loop-one l = record {
  emits : l.fn.lines.items ++ access.arguments l.scope (trees.operands_of l.all) l.dest (length l.fn.lines.items)
      ≡ l.lines.items ++ access.arguments l.scope (trees.operands_of (drop l.one-index l.all)) l.next (length l.lines.items);
  temps : access.temps l.scope (trees.operands_of l.all) l.dest ≡ l.made ++ access.temps l.scope (trees.operands_of (drop l.one-index l.all)) l.next;
}

abbrev pub invariant-list::comma-loop-one : goal.invariant-list::comma-loop-one
invariant-list::comma-loop-one l = l.fn.lines.items ++ initialisers.comma l.scope (trees.operands_of l.all) l.dest (length l.fn.lines.items)
    ≡ l.lines.items ++ initialisers.comma l.scope (trees.operands_of (drop l.one-index l.all)) l.dest (length l.lines.items)

abbrev pub invariant-list::elements-loop-one : goal.invariant-list::elements-loop-one
invariant-list::elements-loop-one l = l.fn.lines.items ++ initialisers.elements l.scope l.at (trees.operands_of l.all) 0 l.dest (length l.fn.lines.items)
    ≡ l.lines.items ++ initialisers.elements l.scope l.at (trees.operands_of (drop l.one-index l.all)) l.number l.dest (length l.lines.items)

abbrev pub invariant-list::properties-loop-one : goal.invariant-list::properties-loop-one
invariant-list::properties-loop-one l = l.fn.lines.items ++ initialisers.properties l.scope l.at (map trees.property_part l.all) l.dest (length l.fn.lines.items)
    ≡ l.lines.items ++ initialisers.properties l.scope l.at (map trees.property_part (drop l.one-index l.all)) l.dest (length l.lines.items)
