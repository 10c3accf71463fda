-- Assignments are well-formed if their parts are.
use Rattle.std.specs.Prelude.{ℕ, ◌+◌, [], ◌∷◌}
use Rattle.mdg_tree.specs.declared.tree.At.{At}
use Rattle.mdg_tree.specs.declared.operator.AssignOperator.{AssignOperator}
use Rattle.mdg_tree.specs.declared.operator.AssignOperator.TheVariants as a
use Rattle.mdg_lower.specs.declared.scope.Scope.{Scope}
use Rattle.mdg_lower.specs.Lookup.{Name, temp}
use Rattle.mdg_lower.specs.Operands.{Operand, Reference, named, member, keyed, other}
use Rattle.mdg_lower.specs.Access.{stable_local, base_local, after_base}
use Rattle.mdg_lower.specs.Assignments.{assign_name, assign_member, assign_keyed, compound_name, compound_member, compound_keyed, assign_of, compound_of, assigned_with}
use Rattle.mdg_lower.specs.WellFormed.{Counts, WellFormedLines, ScopeFits}
use Rattle.mdg_lower.proofs.WellFormedJoins.{well_formed_then}
use Rattle.mdg_lower.proofs.WellFormedInstructions.{WellFormedOperand, WellFormedReference, well_formed_based, well_formed_key_in, well_formed_get_from, well_formed_get_at_from, well_formed_set_to, well_formed_set_at_to, well_formed_operate, well_formed_copy, well_formed_load, well_formed_put, well_formed_brought}

module _ (n : Counts) (scope : Scope) (fits : ScopeFits n scope) where
  -- n = v
  pub well_formed_assign_name : (at : At) (name : Name) (v : Operand) (d : ℕ) → WellFormedOperand n scope v → WellFormedLines n scope (assign_name scope at name v d)
  unfolding assign_name
  well_formed_assign_name at name v d v_is = well_formed_then n scope _ _ (v_is d) (well_formed_put n scope fits at name _)

  -- e.p = v
  pub well_formed_assign_member : (at : At) (e : Operand) (p : Name) (v : Operand) (d : ℕ) → WellFormedOperand n scope e → WellFormedOperand n scope v → WellFormedLines n scope (assign_member scope at e p v d)
  unfolding assign_member
  well_formed_assign_member at e p v d is v_is =
      let k = stable_local scope e (v ∷ []) in
      let c = after_base scope k d in
      let last = well_formed_brought n scope fits at k d in
      let from_third = well_formed_then n scope _ _ (well_formed_set_to n scope fits at (base_local scope k d) p (temp scope c)) last in
      let from_second = well_formed_then n scope _ _ (v_is c) from_third in
      well_formed_then n scope _ _ (well_formed_based n scope fits k e d is) from_second

  -- e[k] = v
  pub well_formed_assign_keyed : (at : At) (e key v : Operand) (d : ℕ) → WellFormedOperand n scope e → WellFormedOperand n scope key → WellFormedOperand n scope v → WellFormedLines n scope (assign_keyed scope at e key v d)
  unfolding assign_keyed
  well_formed_assign_keyed at e key v d is key_is v_is =
      let k = stable_local scope e (key ∷ v ∷ []) in
      let c = after_base scope k d in
      let last = well_formed_copy n scope fits at (temp scope d) (temp scope (c + 1)) in
      let from_fourth = well_formed_then n scope _ _ (well_formed_set_at_to n scope fits at (base_local scope k d) c (temp scope (c + 1))) last in
      let from_third = well_formed_then n scope _ _ (v_is (c + 1)) from_fourth in
      let from_second = well_formed_then n scope _ _ (well_formed_key_in n scope fits at key c key_is) from_third in
      well_formed_then n scope _ _ (well_formed_based n scope fits k e d is) from_second

  -- n op= v
  pub well_formed_compound_name : (at name_at : At) (name : Name) (v : Operand) (d : ℕ) → WellFormedOperand n scope v → WellFormedLines n scope (compound_name scope at name_at name v d)
  unfolding compound_name
  well_formed_compound_name at name_at name v d v_is =
      let last = well_formed_put n scope fits at name (temp scope d) in
      let from_third = well_formed_then n scope _ _ (well_formed_operate n scope fits at d (temp scope d ∷ temp scope (d + 1) ∷ [])) last in
      let from_second = well_formed_then n scope _ _ (v_is (d + 1)) from_third in
      well_formed_then n scope _ _ (well_formed_load n scope fits name_at name d) from_second

  -- e.p op= v
  pub well_formed_compound_member : (at : At) (e : Operand) (p : Name) (v : Operand) (d : ℕ) → WellFormedOperand n scope e → WellFormedOperand n scope v → WellFormedLines n scope (compound_member scope at e p v d)
  unfolding compound_member
  well_formed_compound_member at e p v d is v_is =
      let k = stable_local scope e (v ∷ []) in
      let c = after_base scope k d in
      let last = well_formed_brought n scope fits at k d in
      let from_fifth = well_formed_then n scope _ _ (well_formed_set_to n scope fits at (base_local scope k d) p (temp scope c)) last in
      let from_fourth = well_formed_then n scope _ _ (well_formed_operate n scope fits at c (temp scope c ∷ temp scope (c + 1) ∷ [])) from_fifth in
      let from_third = well_formed_then n scope _ _ (v_is (c + 1)) from_fourth in
      let from_second = well_formed_then n scope _ _ (well_formed_get_from n scope fits at c (base_local scope k d) p) from_third in
      well_formed_then n scope _ _ (well_formed_based n scope fits k e d is) from_second

  -- e[k] op= v
  pub well_formed_compound_keyed : (at : At) (e key v : Operand) (d : ℕ) → WellFormedOperand n scope e → WellFormedOperand n scope key → WellFormedOperand n scope v → WellFormedLines n scope (compound_keyed scope at e key v d)
  unfolding compound_keyed
  well_formed_compound_keyed at e key v d is key_is v_is =
      let k = stable_local scope e (key ∷ v ∷ []) in
      let c = after_base scope k d in
      let last = well_formed_copy n scope fits at (temp scope d) (temp scope (c + 1)) in
      let from_sixth = well_formed_then n scope _ _ (well_formed_set_at_to n scope fits at (base_local scope k d) c (temp scope (c + 1))) last in
      let from_fifth = well_formed_then n scope _ _ (well_formed_operate n scope fits at (c + 1) (temp scope (c + 1) ∷ temp scope (c + 2) ∷ [])) from_sixth in
      let from_fourth = well_formed_then n scope _ _ (v_is (c + 2)) from_fifth in
      let from_third = well_formed_then n scope _ _ (well_formed_get_at_from n scope fits at (c + 1) (base_local scope k d) c) from_fourth in
      let from_second = well_formed_then n scope _ _ (well_formed_key_in n scope fits at key c key_is) from_third in
      well_formed_then n scope _ _ (well_formed_based n scope fits k e d is) from_second

  -- a plain assignment by the reference that is its target
  pub well_formed_assign_of : (at : At) (reference : Reference) (v : Operand) (d : ℕ) → WellFormedReference n scope reference → WellFormedOperand n scope v → WellFormedLines n scope (assign_of scope at reference v d)
  well_formed_assign_of at (named name_at name) v d there v_is = well_formed_assign_name at name v d v_is
  well_formed_assign_of at (member e p) v d there v_is = well_formed_assign_member at e p v d there v_is
  well_formed_assign_of at (keyed e key) v d there v_is = well_formed_assign_keyed at e key v d there.0 there.1 v_is
  well_formed_assign_of at other v d there v_is = v_is d

  -- a compound assignment by the reference that is its target
  pub well_formed_compound_of : (at : At) (reference : Reference) (v : Operand) (d : ℕ) → WellFormedReference n scope reference → WellFormedOperand n scope v → WellFormedLines n scope (compound_of scope at reference v d)
  well_formed_compound_of at (named name_at name) v d there v_is = well_formed_compound_name at name_at name v d v_is
  well_formed_compound_of at (member e p) v d there v_is = well_formed_compound_member at e p v d there v_is
  well_formed_compound_of at (keyed e key) v d there v_is = well_formed_compound_keyed at e key v d there.0 there.1 v_is
  well_formed_compound_of at other v d there v_is = v_is d

  -- an assignment by the reference that is its target
  pub well_formed_assigned_with : (at : At) (op : AssignOperator) (reference : Reference) (v : Operand) (d : ℕ) → WellFormedReference n scope reference → WellFormedOperand n scope v → WellFormedLines n scope (assigned_with scope at op reference v d)
  well_formed_assigned_with at a.Plain reference v d there v_is = well_formed_assign_of at reference v d there v_is
  well_formed_assigned_with at _ reference v d there v_is = well_formed_compound_of at reference v d there v_is
