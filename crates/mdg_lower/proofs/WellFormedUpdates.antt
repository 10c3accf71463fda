-- Prefix and postfix operators are well-formed if their parts are.
use Rattle.std.specs.Prelude.{ℕ, ◌+◌, [], ◌∷◌}
use Rattle.mdg_tree.specs.declared.tree.At.{At}
use Rattle.mdg_lower.specs.declared.scope.Scope.{Scope}
use Rattle.mdg_lower.specs.Lookup.{Name, temp}
use Rattle.mdg_lower.specs.Operands.{Operand, Reference, named, member, keyed, other}
use Rattle.mdg_lower.specs.Access.{stable_local, base_local, after_base}
use Rattle.mdg_lower.specs.Assignments.{prefix_name, prefix_member, prefix_keyed, prefix_of, postfix_name, postfix_member, postfix_keyed, postfix_of}
use Rattle.mdg_lower.specs.WellFormed.{Counts, WellFormedLines, ScopeFits}
use Rattle.mdg_lower.proofs.WellFormedJoins.{well_formed_then}
use Rattle.mdg_lower.proofs.WellFormedInstructions.{WellFormedOperand, WellFormedReference, well_formed_based, well_formed_key_in, well_formed_get_from, well_formed_get_at_from, well_formed_set_to, well_formed_set_at_to, well_formed_operate, well_formed_operate_on, well_formed_copy, well_formed_load, well_formed_put, well_formed_brought}

module _ (n : Counts) (scope : Scope) (fits : ScopeFits n scope) where
  -- ++n, --n
  pub well_formed_prefix_name : (at name_at : At) (name : Name) (d : ℕ) → WellFormedLines n scope (prefix_name scope at name_at name d)
  unfolding prefix_name
  well_formed_prefix_name at name_at name d =
      let last = well_formed_put n scope fits at name (temp scope d) in
      let from_second = well_formed_then n scope _ _ (well_formed_operate_on n scope fits at d) last in
      well_formed_then n scope _ _ (well_formed_load n scope fits name_at name d) from_second

  -- ++e.p, --e.p
  pub well_formed_prefix_member : (at : At) (e : Operand) (p : Name) (d : ℕ) → WellFormedOperand n scope e → WellFormedLines n scope (prefix_member scope at e p d)
  unfolding prefix_member
  well_formed_prefix_member at e p d is =
      let k = stable_local scope e [] in
      let c = after_base scope k d in
      let last = well_formed_brought n scope fits at k d in
      let from_fourth = well_formed_then n scope _ _ (well_formed_set_to n scope fits at (base_local scope k d) p (temp scope c)) last in
      let from_third = well_formed_then n scope _ _ (well_formed_operate_on n scope fits at c) from_fourth in
      let from_second = well_formed_then n scope _ _ (well_formed_get_from n scope fits at c (base_local scope k d) p) from_third in
      well_formed_then n scope _ _ (well_formed_based n scope fits k e d is) from_second

  -- ++e[k], --e[k]
  pub well_formed_prefix_keyed : (at : At) (e key : Operand) (d : ℕ) → WellFormedOperand n scope e → WellFormedOperand n scope key → WellFormedLines n scope (prefix_keyed scope at e key d)
  unfolding prefix_keyed
  well_formed_prefix_keyed at e key d is key_is =
      let k = stable_local scope e (key ∷ []) in
      let c = after_base scope k d in
      let last = well_formed_copy n scope fits at (temp scope d) (temp scope (c + 1)) in
      let from_fifth = well_formed_then n scope _ _ (well_formed_set_at_to n scope fits at (base_local scope k d) c (temp scope (c + 1))) last in
      let from_fourth = well_formed_then n scope _ _ (well_formed_operate_on n scope fits at (c + 1)) from_fifth in
      let from_third = well_formed_then n scope _ _ (well_formed_get_at_from n scope fits at (c + 1) (base_local scope k d) c) from_fourth in
      let from_second = well_formed_then n scope _ _ (well_formed_key_in n scope fits at key c key_is) from_third in
      well_formed_then n scope _ _ (well_formed_based n scope fits k e d is) from_second

  -- an operator by the reference that is its target
  pub well_formed_prefix_of : (at : At) (reference : Reference) (e : Operand) (d : ℕ) → WellFormedReference n scope reference → WellFormedOperand n scope e → WellFormedLines n scope (prefix_of scope at reference e d)
  well_formed_prefix_of at (named name_at name) e d there is = well_formed_prefix_name at name_at name d
  well_formed_prefix_of at (member of p) e d there is = well_formed_prefix_member at of p d there
  well_formed_prefix_of at (keyed of key) e d there is = well_formed_prefix_keyed at of key d there.0 there.1
  well_formed_prefix_of at other e d there is = is d

  -- n++, n--
  pub well_formed_postfix_name : (at name_at : At) (name : Name) (d : ℕ) → WellFormedLines n scope (postfix_name scope at name_at name d)
  unfolding postfix_name
  well_formed_postfix_name at name_at name d =
      let last = well_formed_put n scope fits at name (temp scope (d + 1)) in
      let from_third = well_formed_then n scope _ _ (well_formed_operate n scope fits at (d + 1) (temp scope d ∷ [])) last in
      let from_second = well_formed_then n scope _ _ (well_formed_operate_on n scope fits at d) from_third in
      well_formed_then n scope _ _ (well_formed_load n scope fits name_at name d) from_second

  -- e.p++, e.p--
  pub well_formed_postfix_member : (at : At) (e : Operand) (p : Name) (d : ℕ) → WellFormedOperand n scope e → WellFormedLines n scope (postfix_member scope at e p d)
  unfolding postfix_member
  well_formed_postfix_member at e p d is =
      let k = stable_local scope e [] in
      let c = after_base scope k d in
      let last = well_formed_brought n scope fits at k d in
      let from_fifth = well_formed_then n scope _ _ (well_formed_set_to n scope fits at (base_local scope k d) p (temp scope (c + 1))) last in
      let from_fourth = well_formed_then n scope _ _ (well_formed_operate n scope fits at (c + 1) (temp scope c ∷ [])) from_fifth in
      let from_third = well_formed_then n scope _ _ (well_formed_operate_on n scope fits at c) from_fourth in
      let from_second = well_formed_then n scope _ _ (well_formed_get_from n scope fits at c (base_local scope k d) p) from_third in
      well_formed_then n scope _ _ (well_formed_based n scope fits k e d is) from_second

  -- e[k]++, e[k]--
  pub well_formed_postfix_keyed : (at : At) (e key : Operand) (d : ℕ) → WellFormedOperand n scope e → WellFormedOperand n scope key → WellFormedLines n scope (postfix_keyed scope at e key d)
  unfolding postfix_keyed
  well_formed_postfix_keyed at e key d is key_is =
      let k = stable_local scope e (key ∷ []) in
      let c = after_base scope k d in
      let last = well_formed_copy n scope fits at (temp scope d) (temp scope (c + 1)) in
      let from_sixth = well_formed_then n scope _ _ (well_formed_set_at_to n scope fits at (base_local scope k d) c (temp scope (c + 2))) last in
      let from_fifth = well_formed_then n scope _ _ (well_formed_operate n scope fits at (c + 2) (temp scope (c + 1) ∷ [])) from_sixth in
      let from_fourth = well_formed_then n scope _ _ (well_formed_operate_on n scope fits at (c + 1)) from_fifth in
      let from_third = well_formed_then n scope _ _ (well_formed_get_at_from n scope fits at (c + 1) (base_local scope k d) c) from_fourth in
      let from_second = well_formed_then n scope _ _ (well_formed_key_in n scope fits at key c key_is) from_third in
      well_formed_then n scope _ _ (well_formed_based n scope fits k e d is) from_second

  -- an operator by the reference that is its target
  pub well_formed_postfix_of : (at : At) (reference : Reference) (e : Operand) (d : ℕ) → WellFormedReference n scope reference → WellFormedOperand n scope e → WellFormedLines n scope (postfix_of scope at reference e d)
  well_formed_postfix_of at (named name_at name) e d there is = well_formed_postfix_name at name_at name d
  well_formed_postfix_of at (member of p) e d there is = well_formed_postfix_member at of p d there
  well_formed_postfix_of at (keyed of key) e d there is = well_formed_postfix_keyed at of key d there.0 there.1
  well_formed_postfix_of at other e d there is = is d
