-- What a statement gives, from what its parts give (12).
use Rattle.std.specs.Prelude.{ℕ, ◌+◌, Bool, true, List, [], ◌∷◌, ◌++◌, length, map, Option, Some, None, codes}
use Rattle.mdg_base.specs.declared.number.Local.{Local}
use Rattle.mdg_tree.specs.declared.tree.At.{At}
use Rattle.mdg_code.specs.declared.statement.Statement.TheVariants as st
use Rattle.mdg_lower.specs.declared.draft.Label.{Label}
use Rattle.mdg_lower.specs.declared.scope.Meaning.{Meaning}
use Rattle.mdg_lower.specs.declared.scope.Meaning.TheVariants as m
use Rattle.mdg_lower.specs.declared.scope.Scope.{Scope}
use Rattle.mdg_lower.specs.Lookup.{Name, meaning, temp, loop_at}
use Rattle.mdg_lower.specs.Builder.{Lines, ◌>>◌, nothing, one}
use Rattle.mdg_lower.specs.Labels.{at_site, branch, jump, resolved}
use Rattle.mdg_lower.specs.Operands.{Operand, Reference, keyed, member, named, other}
use Rattle.mdg_lower.specs.Instructions.{complete, copy, function_value, literal, object, operate, set_at_to, set_to, store_name, undefined_text}
use Rattle.mdg_lower.specs.Access.{after_base, base_local, lower_base, lower_key, stable_local}
use Rattle.mdg_lower.specs.Operators.{either, emit_optional}

-- a name of a `var`, with its value
pub record DeclarationPart : Type 0 where
  pub name : Name
  pub value : Option Operand

-- what a function is as a part of others: where its keyword stands, and its name
pub record FunctionPart : Type 0 where
  pub at : At
  pub name : Option Name

-- which site a loop's next iteration begins at: that of its test, or that after its body
pub data ContinueSite : Type 0 where
  to_test : ContinueSite
  to_update : ContinueSite

abbrev pub continue_site : ContinueSite → ℕ → ℕ → ℕ
continue_site to_test start last = start
continue_site to_update start last = last

module _ (scope : Scope) where
  abbrev pub optional : Option Operand → ℕ → Lines
  optional None d = nothing
  optional (Some e) d = e.value scope d

  -- an expression statement
  unfoldable pub expression : Operand → Lines
  expression e = e.value scope 0

  -- n = e of a `var`
  unfoldable pub declared : At → Name → Operand → Lines
  declared at name e = do
    e.value scope 0
    store_name scope at name (temp scope 0)

  abbrev pub declaration : At → Name → Option Operand → Lines
  declaration at name None = nothing
  declaration at name (Some e) = declared at name e

  -- var n, m = e
  unfoldable pub declarations : At → List DeclarationPart → Lines
  declarations at [] = nothing
  declarations at (d ∷ ds) = do
    declaration at d.name d.value
    declarations at ds

  -- if (e) s
  unfoldable pub if_then : At → Operand → Lines → Lines
  if_then at test body = do
    test.value scope 0
    emit_optional scope at body

  -- if (e) s else u
  unfoldable pub if_else : At → Operand → Lines → Lines → Lines
  if_else at test body otherwise = do
    test.value scope 0
    either scope at body otherwise

  -- a test, a branch into the loop or past it, the loop's body and update, and the jump back to the test
  unfoldable pub loop_lines : At → ContinueSite → Lines → Lines → Lines → Lines
  loop_lines at turn test body update s =
      let first = s + length (test s) + 1 in
      let rest = (body >> update) first in
      let end = first + length rest + 1 in
      let next = continue_site turn s (first + length (body first)) in
      test s ++ (one scope at (branch first end) s ++ (map (resolved next end) rest ++ one scope at (jump (at_site s)) s))

  -- while (e) s
  unfoldable pub while_of : At → Operand → Lines → Lines
  while_of at test body = loop_lines at to_test (test.value scope 0) body nothing

  -- for (i; e; u) s
  unfoldable pub for_of : At → Lines → Option Operand → Option Operand → Lines → Lines
  for_of at init test update body = do
    init
    loop_lines at to_update (optional test 0) body (optional update 0)

  -- an iteration of a `for` with `in`: the local of the loop gives a name, the goal becomes it, and the body runs
  unfoldable pub for_in_body : At → Local → Lines → Lines → Lines
  for_in_body e_at local goal body = do
    operate scope e_at 0 (local ∷ [])
    goal
    body

  -- for (goal in e) s
  unfoldable pub for_in : At → Lines → At → Operand → Lines → Lines
  for_in at goal e_at e body = do
    e.value scope 0
    copy scope at (loop_at scope at.offset) (temp scope 0)
    loop_lines at to_test nothing (for_in_body e_at (loop_at scope at.offset) goal body) nothing

  -- do s while (e)
  unfoldable pub do_while : At → Lines → Operand → Lines
  do_while at body test s =
      let next = s + length (body s) in
      let rest = (body >> test.value scope 0) s in
      let end = s + length rest + 1 in
      map (resolved next end) rest ++ one scope at (branch s end) s

  -- g.p as the target of a `for` with `in`
  unfoldable pub goal_member : At → Operand → Name → Lines
  goal_member at e p = let k = stable_local scope e [] in do
    lower_base scope k e 1
    set_to scope at (base_local scope k 1) p (temp scope 0)

  -- g[k]
  unfoldable pub goal_keyed : At → Operand → Operand → Lines
  goal_keyed at e key = let k = stable_local scope e (key ∷ []) in let c = after_base scope k 1 in do
    lower_base scope k e 1
    lower_key scope at key c
    set_at_to scope at (base_local scope k 1) c (temp scope 0)

  -- a name as the goal
  unfoldable pub store_goal : At → Name → Lines
  store_goal at name = store_name scope at name (temp scope 0)

  abbrev pub goal_of : At → Reference → Lines
  goal_of at (named name_at name) = store_goal at name
  goal_of at (member e p) = goal_member at e p
  goal_of at (keyed e key) = goal_keyed at e key
  goal_of at other = nothing

  unfoldable pub leave : At → Label → Lines
  leave at target = one scope at (jump target)

  -- the function ends with %0
  unfoldable pub return_temporary : At → Lines
  return_temporary at = one scope at (complete (st.Return (temp scope 0)))

  -- `return` with no value, and the end of each function
  unfoldable pub return_undefined : At → Lines
  return_undefined at = do
    literal scope at undefined_text 0
    return_temporary at

  -- return e
  unfoldable pub return_value : At → Operand → Lines
  return_value at e = do
    e.value scope 0
    return_temporary at

  -- throw e
  unfoldable pub throw_value : At → Operand → Lines
  throw_value at e = do
    e.value scope 0
    one scope at (complete (st.Throw (temp scope 0)))

  -- a declared function is made, and its name becomes it
  unfoldable pub hoisted_as : At → Name → Lines
  hoisted_as at name = do
    function_value scope at at 0
    store_name scope at name (temp scope 0)

  abbrev pub hoisted_function : At → Option Name → Lines
  hoisted_function at None = nothing
  hoisted_function at (Some name) = hoisted_as at name

  -- the name becomes %0, be it a function's own name or not
  abbrev pub initialise_by : At → Meaning → Lines
  initialise_by at (m.Local local own) = copy scope at local (temp scope 0)
  initialise_by at (m.Cell cell own) = one scope at (complete (st.SetCell cell (temp scope 0)))
  initialise_by at _ = nothing

  -- a function's own name
  unfoldable pub own_named : At → Name → Lines
  own_named at name = do
    one scope at (complete (st.Own (temp scope 0)))
    initialise_by at (meaning scope name)

  abbrev pub own_start : At → Bool → Option Name → Lines
  own_start at true (Some name) = own_named at name
  own_start at _ _ = nothing

  abbrev pub parameter_by : At → ℕ → Meaning → Lines
  parameter_by at i (m.Cell cell own) = one scope at (complete (st.SetCell cell (record { 0 = i })))
  parameter_by at i _ = nothing

  -- the parameters that are cells, from number i on
  unfoldable pub parameters_from : At → List Name → ℕ → Lines
  parameters_from at [] i = nothing
  parameters_from at (p ∷ ps) i = do
    parameter_by at i (meaning scope p)
    parameters_from at ps (i + 1)

  -- the start of a function
  unfoldable pub function_start : At → List Name → Bool → Option Name → Lines
  function_start at parameters own name = do
    parameters_from at parameters 0
    own_start at own name

  -- the start of a file's body
  unfoldable pub body_start : At → Lines
  body_start at = do
    object scope at 0
    object scope at 1
    set_to scope at (temp scope 0) (codes "exports") (temp scope 1)
    one scope at (complete (st.SetCell scope.module (temp scope 0)))
    store_name scope at (codes "module") (temp scope 0)
    store_name scope at (codes "exports") (temp scope 1)
