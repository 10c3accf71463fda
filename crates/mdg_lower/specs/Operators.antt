-- Operators (11.4 to 11.12).
use Rattle.std.specs.Prelude.{ℕ, ◌+◌, [], ◌∷◌, ◌++◌, length, Option, Some, None}
use Rattle.mdg_base.specs.declared.number.Local.{Local}
use Rattle.mdg_tree.specs.declared.tree.At.{At}
use Rattle.mdg_tree.specs.declared.operator.BinaryOperator.{BinaryOperator}
use Rattle.mdg_tree.specs.declared.operator.BinaryOperator.TheVariants as b
use Rattle.mdg_tree.specs.declared.operator.UnaryOperator.{UnaryOperator}
use Rattle.mdg_tree.specs.declared.operator.UnaryOperator.TheVariants as u
use Rattle.mdg_lower.specs.declared.scope.Meaning.{Meaning}
use Rattle.mdg_lower.specs.declared.scope.Meaning.TheVariants as m
use Rattle.mdg_lower.specs.declared.scope.Scope.{Scope}
use Rattle.mdg_lower.specs.Lookup.{Name, meaning, temp}
use Rattle.mdg_lower.specs.Builder.{Lines, ◌>>◌, one}
use Rattle.mdg_lower.specs.Labels.{at_site, branch, jump}
use Rattle.mdg_lower.specs.Operands.{Operand, Reference, keyed, member, named, other}
use Rattle.mdg_lower.specs.Instructions.{literal, operate, operate_on, set_at_to, set_to, undefined_text}
use Rattle.mdg_lower.specs.Access.{after_base, base_local, lower_base, lower_key, stable_local}

module _ (scope : Scope) where
  -- the branch to the next line or past the part
  unfoldable pub emit_optional : At → Lines → Lines
  emit_optional at part s = (one scope at (branch (s + 1) (s + 1 + length (part (s + 1)))) >> part) s

  -- a branch to one of two parts
  unfoldable pub either : At → Lines → Lines → Lines
  either at chosen otherwise s =
      let first = s + 1 in
      let second = first + length (chosen first) + 1 in
      let end = second + length (otherwise second) in
      one scope at (branch first second) s ++ (chosen first ++ (one scope at (jump (at_site end)) s ++ otherwise second))

  -- an operator on one value
  unfoldable pub unary_operation : At → Operand → ℕ → Lines
  unary_operation at e d = do
    e.value scope d
    operate_on scope at d

  -- a op b
  unfoldable pub binary_operation : At → Operand → Operand → ℕ → Lines
  binary_operation at l r d = do
    l.value scope d
    r.value scope (d + 1)
    operate scope at d (temp scope d ∷ temp scope (d + 1) ∷ [])

  -- a && b, a || b
  unfoldable pub logical_operation : At → Operand → Operand → ℕ → Lines
  logical_operation at l r d = do
    l.value scope d
    emit_optional at (r.value scope d)

  abbrev pub binary_of : At → BinaryOperator → Operand → Operand → ℕ → Lines
  binary_of at b.Or l r d = logical_operation at l r d
  binary_of at b.And l r d = logical_operation at l r d
  binary_of at _ l r d = binary_operation at l r d

  -- c ? a : b
  unfoldable pub conditional : At → Operand → Operand → Operand → ℕ → Lines
  conditional at test chosen otherwise d = do
    test.value scope d
    either at (chosen.value scope d) (otherwise.value scope d)

  -- void e
  unfoldable pub void_of : At → Operand → ℕ → Lines
  void_of at e d = do
    e.value scope d
    literal scope at undefined_text d

  abbrev pub type_of_name : At → Meaning → Operand → ℕ → Lines
  type_of_name at m.Nothing e d = operate scope at d []
  type_of_name at _ e d = unary_operation at e d

  -- typeof e
  abbrev pub type_of : At → Option Name → Operand → ℕ → Lines
  type_of at None e d = unary_operation at e d
  type_of at (Some name) e d = type_of_name at (meaning scope name) e d

  -- of.name = undefined, by way of %d
  unfoldable pub removal : At → Local → Name → ℕ → Lines
  removal at of name d = do
    literal scope at undefined_text d
    set_to scope at of name (temp scope d)

  -- of[key] = undefined, by way of %d
  unfoldable pub keyed_removal : At → Local → ℕ → ℕ → Lines
  keyed_removal at of key d = do
    literal scope at undefined_text d
    set_at_to scope at of key (temp scope d)

  -- delete e.p
  unfoldable pub delete_member : At → Operand → Name → ℕ → Lines
  delete_member at e p d = let k = stable_local scope e [] in let c = after_base scope k d in do
    lower_base scope k e d
    emit_optional at (removal at (base_local scope k d) p c)
    literal scope at None d

  -- delete e[k]
  unfoldable pub delete_keyed : At → Operand → Operand → ℕ → Lines
  delete_keyed at e key d = let k = stable_local scope e (key ∷ []) in let c = after_base scope k d in do
    lower_base scope k e d
    lower_key scope at key c
    emit_optional at (keyed_removal at (base_local scope k d) c (c + 1))
    literal scope at None d

  -- delete of something else
  unfoldable pub delete_value : At → Operand → ℕ → Lines
  delete_value at e d = do
    e.value scope d
    literal scope at None d

  abbrev pub delete_of : At → Reference → Operand → ℕ → Lines
  delete_of at (named name_at name) e d = delete_value at e d
  delete_of at (member of p) e d = delete_member at of p d
  delete_of at (keyed of key) e d = delete_keyed at of key d
  delete_of at other e d = delete_value at e d

  abbrev pub unary_of : At → UnaryOperator → Reference → Operand → ℕ → Lines
  unary_of at u.Delete reference e d = delete_of at reference e d
  unary_of at u.Void reference e d = void_of at e d
  unary_of at u.TypeOf reference e d = type_of at e.name e d
  unary_of at u.Plus reference e d = unary_operation at e d
  unary_of at u.Minus reference e d = unary_operation at e d
  unary_of at u.BitNot reference e d = unary_operation at e d
  unary_of at u.Not reference e d = unary_operation at e d
