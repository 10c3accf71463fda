-- Operators and conditions are well-formed if their parts are.
use Rattle.std.specs.Prelude.{ℕ, ◌+◌, [], ◌∷◌, Option, Some, None}
use Rattle.mdg_base.specs.declared.number.Local.{Local}
use Rattle.mdg_tree.specs.declared.tree.At.{At}
use Rattle.mdg_tree.specs.declared.operator.BinaryOperator.{BinaryOperator}
use Rattle.mdg_tree.specs.declared.operator.BinaryOperator.TheVariants as b
use Rattle.mdg_tree.specs.declared.operator.UnaryOperator.{UnaryOperator}
use Rattle.mdg_tree.specs.declared.operator.UnaryOperator.TheVariants as u
use Rattle.mdg_lower.specs.declared.scope.Meaning.{Meaning}
use Rattle.mdg_lower.specs.declared.scope.Meaning.TheVariants as m
use Rattle.mdg_lower.specs.declared.scope.Scope.{Scope}
use Rattle.mdg_lower.specs.Lookup.{Name, meaning, temp}
use Rattle.mdg_lower.specs.Operands.{Operand, Reference, named, member, keyed, other}
use Rattle.mdg_lower.specs.Instructions.{undefined_text}
use Rattle.mdg_lower.specs.Access.{stable_local, base_local, after_base}
use Rattle.mdg_lower.specs.Operators.{unary_operation, binary_operation, logical_operation, binary_of, conditional, void_of, type_of_name, type_of, removal, keyed_removal, delete_member, delete_keyed, delete_value, delete_of, unary_of}
use Rattle.mdg_lower.specs.WellFormed.{Counts, WellFormedLines, ScopeFits}
use Rattle.mdg_lower.proofs.WellFormedJoins.{well_formed_then, well_formed_guarded, well_formed_either}
use Rattle.mdg_lower.proofs.WellFormedInstructions.{WellFormedOperand, WellFormedReference, well_formed_based, well_formed_key_in, well_formed_set_to, well_formed_set_at_to, well_formed_operate, well_formed_operate_on, well_formed_literal}

module _ (n : Counts) (scope : Scope) (fits : ScopeFits n scope) where
  -- an operator on one value
  pub well_formed_operated : (at : At) (e : Operand) (d : ℕ) → WellFormedOperand n scope e → WellFormedLines n scope (unary_operation scope at e d)
  unfolding unary_operation
  well_formed_operated at e d is = well_formed_then n scope _ _ (is d) (well_formed_operate_on n scope fits at d)

  -- a op b
  pub well_formed_joined : (at : At) (l r : Operand) (d : ℕ) → WellFormedOperand n scope l → WellFormedOperand n scope r → WellFormedLines n scope (binary_operation scope at l r d)
  unfolding binary_operation
  well_formed_joined at l r d l_is r_is =
      let last = well_formed_operate n scope fits at d (temp scope d ∷ temp scope (d + 1) ∷ []) in
      let from_second = well_formed_then n scope _ _ (r_is (d + 1)) last in
      well_formed_then n scope _ _ (l_is d) from_second

  -- a && b, a || b
  pub well_formed_both : (at : At) (l r : Operand) (d : ℕ) → WellFormedOperand n scope l → WellFormedOperand n scope r → WellFormedLines n scope (logical_operation scope at l r d)
  unfolding logical_operation
  well_formed_both at l r d l_is r_is = well_formed_then n scope _ _ (l_is d) (well_formed_guarded n scope at _ (r_is d))

  -- an operator between two values
  pub well_formed_binary_of : (at : At) (op : BinaryOperator) (l r : Operand) (d : ℕ) → WellFormedOperand n scope l → WellFormedOperand n scope r → WellFormedLines n scope (binary_of scope at op l r d)
  well_formed_binary_of at b.Or l r d l_is r_is = well_formed_both at l r d l_is r_is
  well_formed_binary_of at b.And l r d l_is r_is = well_formed_both at l r d l_is r_is
  well_formed_binary_of at _ l r d l_is r_is = well_formed_joined at l r d l_is r_is

  -- c ? a : b
  pub well_formed_conditional : (at : At) (test chosen otherwise : Operand) (d : ℕ) → WellFormedOperand n scope test → WellFormedOperand n scope chosen → WellFormedOperand n scope otherwise → WellFormedLines n scope (conditional scope at test chosen otherwise d)
  unfolding conditional
  well_formed_conditional at test chosen otherwise d test_is chosen_is otherwise_is = well_formed_then n scope _ _ (test_is d) (well_formed_either n scope at _ _ (chosen_is d) (otherwise_is d))

  -- void e
  pub well_formed_emptied : (at : At) (e : Operand) (d : ℕ) → WellFormedOperand n scope e → WellFormedLines n scope (void_of scope at e d)
  unfolding void_of
  well_formed_emptied at e d is = well_formed_then n scope _ _ (is d) (well_formed_literal n scope fits at undefined_text d)

  -- typeof of a name, by what the name means
  pub well_formed_type_of_name : (at : At) (it : Meaning) (e : Operand) (d : ℕ) → WellFormedOperand n scope e → WellFormedLines n scope (type_of_name scope at it e d)
  well_formed_type_of_name at m.Nothing e d is = well_formed_operate n scope fits at d []
  well_formed_type_of_name at _ e d is = well_formed_operated at e d is

  -- typeof e
  pub well_formed_type_of : (at : At) (name : Option Name) (e : Operand) (d : ℕ) → WellFormedOperand n scope e → WellFormedLines n scope (type_of scope at name e d)
  well_formed_type_of at None e d is = well_formed_operated at e d is
  well_formed_type_of at (Some name) e d is = well_formed_type_of_name at (meaning scope name) e d is

  -- of.name = undefined
  pub well_formed_removal : (at : At) (of : Local) (name : Name) (d : ℕ) → WellFormedLines n scope (removal scope at of name d)
  unfolding removal
  well_formed_removal at of name d = well_formed_then n scope _ _ (well_formed_literal n scope fits at undefined_text d) (well_formed_set_to n scope fits at of name (temp scope d))

  -- of[key] = undefined
  pub well_formed_keyed_removal : (at : At) (of : Local) (key d : ℕ) → WellFormedLines n scope (keyed_removal scope at of key d)
  unfolding keyed_removal
  well_formed_keyed_removal at of key d = well_formed_then n scope _ _ (well_formed_literal n scope fits at undefined_text d) (well_formed_set_at_to n scope fits at of key (temp scope d))

  -- delete e.p
  pub well_formed_delete_member : (at : At) (e : Operand) (p : Name) (d : ℕ) → WellFormedOperand n scope e → WellFormedLines n scope (delete_member scope at e p d)
  unfolding delete_member
  well_formed_delete_member at e p d is =
      let k = stable_local scope e [] in
      let c = after_base scope k d in
      let last = well_formed_literal n scope fits at None d in
      let from_second = well_formed_then n scope _ _ (well_formed_guarded n scope at _ (well_formed_removal at (base_local scope k d) p c)) last in
      well_formed_then n scope _ _ (well_formed_based n scope fits k e d is) from_second

  -- delete e[k]
  pub well_formed_delete_keyed : (at : At) (e key : Operand) (d : ℕ) → WellFormedOperand n scope e → WellFormedOperand n scope key → WellFormedLines n scope (delete_keyed scope at e key d)
  unfolding delete_keyed
  well_formed_delete_keyed at e key d is key_is =
      let k = stable_local scope e (key ∷ []) in
      let c = after_base scope k d in
      let last = well_formed_literal n scope fits at None d in
      let from_third = well_formed_then n scope _ _ (well_formed_guarded n scope at _ (well_formed_keyed_removal at (base_local scope k d) c (c + 1))) last in
      let from_second = well_formed_then n scope _ _ (well_formed_key_in n scope fits at key c key_is) from_third in
      well_formed_then n scope _ _ (well_formed_based n scope fits k e d is) from_second

  -- delete of something else
  pub well_formed_delete_value : (at : At) (e : Operand) (d : ℕ) → WellFormedOperand n scope e → WellFormedLines n scope (delete_value scope at e d)
  unfolding delete_value
  well_formed_delete_value at e d is = well_formed_then n scope _ _ (is d) (well_formed_literal n scope fits at None d)

  -- delete by the reference that is its value
  pub well_formed_delete_of : (at : At) (reference : Reference) (e : Operand) (d : ℕ) → WellFormedReference n scope reference → WellFormedOperand n scope e → WellFormedLines n scope (delete_of scope at reference e d)
  well_formed_delete_of at (named name_at name) e d there is = well_formed_delete_value at e d is
  well_formed_delete_of at (member of p) e d there is = well_formed_delete_member at of p d there
  well_formed_delete_of at (keyed of key) e d there is = well_formed_delete_keyed at of key d there.0 there.1
  well_formed_delete_of at other e d there is = well_formed_delete_value at e d is

  -- an operator before its value
  pub well_formed_unary_of : (at : At) (op : UnaryOperator) (reference : Reference) (e : Operand) (d : ℕ) → WellFormedReference n scope reference → WellFormedOperand n scope e → WellFormedLines n scope (unary_of scope at op reference e d)
  well_formed_unary_of at u.Delete reference e d there is = well_formed_delete_of at reference e d there is
  well_formed_unary_of at u.Void reference e d there is = well_formed_emptied at e d is
  well_formed_unary_of at u.TypeOf reference e d there is = well_formed_type_of at e.name e d is
  well_formed_unary_of at u.Plus reference e d there is = well_formed_operated at e d is
  well_formed_unary_of at u.Minus reference e d there is = well_formed_operated at e d is
  well_formed_unary_of at u.BitNot reference e d there is = well_formed_operated at e d is
  well_formed_unary_of at u.Not reference e d there is = well_formed_operated at e d is
