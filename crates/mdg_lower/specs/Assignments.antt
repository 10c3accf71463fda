-- Assignments (11.13), and prefix and postfix operators (11.3, 11.4.4, 11.4.5).
use Rattle.std.specs.Prelude.{ℕ, ◌+◌, [], ◌∷◌}
use Rattle.mdg_tree.specs.declared.tree.At.{At}
use Rattle.mdg_tree.specs.declared.operator.AssignOperator.{AssignOperator}
use Rattle.mdg_tree.specs.declared.operator.AssignOperator.TheVariants as a
use Rattle.mdg_lower.specs.declared.scope.Scope.{Scope}
use Rattle.mdg_lower.specs.Lookup.{Name, temp}
use Rattle.mdg_lower.specs.Builder.{Lines, ◌>>◌}
use Rattle.mdg_lower.specs.Operands.{Operand, Reference, keyed, member, named, other}
use Rattle.mdg_lower.specs.Instructions.{copy, get_at_from, get_from, load_name, operate, operate_on, set_at_to, set_to, store_name}
use Rattle.mdg_lower.specs.Access.{after_base, base_local, lower_base, lower_key, move_result, stable_local}

module _ (scope : Scope) where
  -- n = v
  unfoldable pub assign_name : At → Name → Operand → ℕ → Lines
  assign_name at name v d = do
    v.value scope d
    store_name scope at name (temp scope d)

  -- e.p = v
  unfoldable pub assign_member : At → Operand → Name → Operand → ℕ → Lines
  assign_member at e p v d = let k = stable_local scope e (v ∷ []) in let c = after_base scope k d in do
    lower_base scope k e d
    v.value scope c
    set_to scope at (base_local scope k d) p (temp scope c)
    move_result scope at k d

  -- e[k] = v
  unfoldable pub assign_keyed : At → Operand → Operand → Operand → ℕ → Lines
  assign_keyed at e key v d = let k = stable_local scope e (key ∷ v ∷ []) in let c = after_base scope k d in do
    lower_base scope k e d
    lower_key scope at key c
    v.value scope (c + 1)
    set_at_to scope at (base_local scope k d) c (temp scope (c + 1))
    copy scope at (temp scope d) (temp scope (c + 1))

  -- n op= v
  unfoldable pub compound_name : At → At → Name → Operand → ℕ → Lines
  compound_name at name_at name v d = do
    load_name scope name_at name d
    v.value scope (d + 1)
    operate scope at d (temp scope d ∷ temp scope (d + 1) ∷ [])
    store_name scope at name (temp scope d)

  -- e.p op= v
  unfoldable pub compound_member : At → Operand → Name → Operand → ℕ → Lines
  compound_member at e p v d = let k = stable_local scope e (v ∷ []) in let c = after_base scope k d in do
    lower_base scope k e d
    get_from scope at c (base_local scope k d) p
    v.value scope (c + 1)
    operate scope at c (temp scope c ∷ temp scope (c + 1) ∷ [])
    set_to scope at (base_local scope k d) p (temp scope c)
    move_result scope at k d

  -- e[k] op= v
  unfoldable pub compound_keyed : At → Operand → Operand → Operand → ℕ → Lines
  compound_keyed at e key v d = let k = stable_local scope e (key ∷ v ∷ []) in let c = after_base scope k d in do
    lower_base scope k e d
    lower_key scope at key c
    get_at_from scope at (c + 1) (base_local scope k d) c
    v.value scope (c + 2)
    operate scope at (c + 1) (temp scope (c + 1) ∷ temp scope (c + 2) ∷ [])
    set_at_to scope at (base_local scope k d) c (temp scope (c + 1))
    copy scope at (temp scope d) (temp scope (c + 1))

  abbrev pub assign_of : At → Reference → Operand → ℕ → Lines
  assign_of at (named name_at name) v d = assign_name at name v d
  assign_of at (member e p) v d = assign_member at e p v d
  assign_of at (keyed e key) v d = assign_keyed at e key v d
  assign_of at other v d = v.value scope d

  abbrev pub compound_of : At → Reference → Operand → ℕ → Lines
  compound_of at (named name_at name) v d = compound_name at name_at name v d
  compound_of at (member e p) v d = compound_member at e p v d
  compound_of at (keyed e key) v d = compound_keyed at e key v d
  compound_of at other v d = v.value scope d

  abbrev pub assigned_with : At → AssignOperator → Reference → Operand → ℕ → Lines
  assigned_with at a.Plain reference v d = assign_of at reference v d
  assigned_with at _ reference v d = compound_of at reference v d

  -- ++n, --n
  unfoldable pub prefix_name : At → At → Name → ℕ → Lines
  prefix_name at name_at name d = do
    load_name scope name_at name d
    operate_on scope at d
    store_name scope at name (temp scope d)

  -- ++e.p, --e.p
  unfoldable pub prefix_member : At → Operand → Name → ℕ → Lines
  prefix_member at e p d = let k = stable_local scope e [] in let c = after_base scope k d in do
    lower_base scope k e d
    get_from scope at c (base_local scope k d) p
    operate_on scope at c
    set_to scope at (base_local scope k d) p (temp scope c)
    move_result scope at k d

  -- ++e[k], --e[k]
  unfoldable pub prefix_keyed : At → Operand → Operand → ℕ → Lines
  prefix_keyed at e key d = let k = stable_local scope e (key ∷ []) in let c = after_base scope k d in do
    lower_base scope k e d
    lower_key scope at key c
    get_at_from scope at (c + 1) (base_local scope k d) c
    operate_on scope at (c + 1)
    set_at_to scope at (base_local scope k d) c (temp scope (c + 1))
    copy scope at (temp scope d) (temp scope (c + 1))

  abbrev pub prefix_of : At → Reference → Operand → ℕ → Lines
  prefix_of at (named name_at name) e d = prefix_name at name_at name d
  prefix_of at (member of p) e d = prefix_member at of p d
  prefix_of at (keyed of key) e d = prefix_keyed at of key d
  prefix_of at other e d = e.value scope d

  -- n++, n--
  unfoldable pub postfix_name : At → At → Name → ℕ → Lines
  postfix_name at name_at name d = do
    load_name scope name_at name d
    operate_on scope at d
    operate scope at (d + 1) (temp scope d ∷ [])
    store_name scope at name (temp scope (d + 1))

  -- e.p++, e.p--
  unfoldable pub postfix_member : At → Operand → Name → ℕ → Lines
  postfix_member at e p d = let k = stable_local scope e [] in let c = after_base scope k d in do
    lower_base scope k e d
    get_from scope at c (base_local scope k d) p
    operate_on scope at c
    operate scope at (c + 1) (temp scope c ∷ [])
    set_to scope at (base_local scope k d) p (temp scope (c + 1))
    move_result scope at k d

  -- e[k]++, e[k]--
  unfoldable pub postfix_keyed : At → Operand → Operand → ℕ → Lines
  postfix_keyed at e key d = let k = stable_local scope e (key ∷ []) in let c = after_base scope k d in do
    lower_base scope k e d
    lower_key scope at key c
    get_at_from scope at (c + 1) (base_local scope k d) c
    operate_on scope at (c + 1)
    operate scope at (c + 2) (temp scope (c + 1) ∷ [])
    set_at_to scope at (base_local scope k d) c (temp scope (c + 2))
    copy scope at (temp scope d) (temp scope (c + 1))

  abbrev pub postfix_of : At → Reference → Operand → ℕ → Lines
  postfix_of at (named name_at name) e d = postfix_name at name_at name d
  postfix_of at (member of p) e d = postfix_member at of p d
  postfix_of at (keyed of key) e d = postfix_keyed at of key d
  postfix_of at other e d = e.value scope d
