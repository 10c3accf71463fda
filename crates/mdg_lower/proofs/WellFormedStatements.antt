-- Statements are well-formed if their parts are.
use Rattle.std.specs.Prelude.{ℕ, ◌+◌, Bool, true, false, List, [], ◌∷◌, Option, Some, None, codes}
use Rattle.std.proofs.Common.{refl}
use Rattle.mdg_base.specs.declared.number.Local.{Local}
use Rattle.mdg_tree.specs.declared.tree.At.{At}
use Rattle.mdg_lower.specs.declared.draft.Label.{Label}
use Rattle.mdg_lower.specs.declared.scope.Meaning.{Meaning}
use Rattle.mdg_lower.specs.declared.scope.Meaning.TheVariants as m
use Rattle.mdg_lower.specs.declared.scope.Scope.{Scope}
use Rattle.mdg_lower.specs.Lookup.{Name, meaning, temp, loop_at}
use Rattle.mdg_lower.specs.Builder.{Lines, nothing, one}
use Rattle.mdg_lower.specs.Operands.{Operand, Reference, named, member, keyed, other}
use Rattle.mdg_lower.specs.Access.{stable_local}
use Rattle.mdg_lower.specs.Statements.{DeclarationPart, to_test, to_update, optional, expression, declared, declaration, declarations, if_then, if_else, while_of, for_of, for_in_body, for_in, goal_member, goal_keyed, store_goal, goal_of, leave, return_temporary, return_undefined, return_value, throw_value, hoisted_as, hoisted_function, initialise_by, own_named, own_start, parameter_by, parameters_from, function_start, body_start}
use Rattle.mdg_lower.specs.Forms.{ScopedLines, sequence}
use Rattle.mdg_lower.specs.WellFormed.{Counts, WellFormedLines, ScopeFits, IsMeaningThere}
use Rattle.mdg_lower.proofs.WellFormedJoins.{IsUnaimedTarget, well_formed_nothing, well_formed_then, well_formed_one, well_formed_guarded, well_formed_either}
use Rattle.mdg_lower.proofs.WellFormedLoops.{well_formed_turning}
use Rattle.mdg_lower.proofs.WellFormedInstructions.{WellFormedOperand, WellFormedReference, well_formed_literal, well_formed_copy, well_formed_operate, well_formed_set_to, well_formed_set_at_to, well_formed_object, well_formed_function_value, well_formed_put, well_formed_based, well_formed_key_in}

-- an expression that may be absent is well-formed
abbrev pub WellFormedOptional : Counts → Scope → Option Operand → Type 0
WellFormedOptional n scope None = Unit {0}
WellFormedOptional n scope (Some e) = WellFormedOperand n scope e

-- the values of these declarations are well-formed
abbrev pub WellFormedDeclarations : Counts → Scope → List DeclarationPart → Type 0
WellFormedDeclarations n scope [] = Unit {0}
WellFormedDeclarations n scope (d ∷ ds) = WellFormedOptional n scope d.value × WellFormedDeclarations n scope ds

-- each of these is well-formed
abbrev pub WellFormedEach : Counts → Scope → List ScopedLines → Type 0
WellFormedEach n scope [] = Unit {0}
WellFormedEach n scope (one ∷ rest) = WellFormedLines n scope (one scope) × WellFormedEach n scope rest

module _ (n : Counts) (scope : Scope) (fits : ScopeFits n scope) where
  -- a sequence of parts
  pub well_formed_sequence : (parts : List ScopedLines) → WellFormedEach n scope parts → WellFormedLines n scope (sequence parts scope)
  well_formed_sequence [] is = well_formed_nothing n scope
  well_formed_sequence (one ∷ rest) is = well_formed_then n scope (one scope) (sequence rest scope) is.0 (well_formed_sequence rest is.1)

  -- an expression that may be absent
  pub well_formed_optional : (e : Option Operand) (d : ℕ) → WellFormedOptional n scope e → WellFormedLines n scope (optional scope e d)
  well_formed_optional None d is = well_formed_nothing n scope
  well_formed_optional (Some e) d is = is d

  -- an expression statement
  pub well_formed_expression : (e : Operand) → WellFormedOperand n scope e → WellFormedLines n scope (expression scope e)
  unfolding expression
  well_formed_expression e is = is 0

  -- n = e of a `var`
  pub well_formed_declared : (at : At) (name : Name) (e : Operand) → WellFormedOperand n scope e → WellFormedLines n scope (declared scope at name e)
  unfolding declared
  well_formed_declared at name e is = well_formed_then n scope _ _ (is 0) (well_formed_put n scope fits at name _)

  -- a name of a `var`, with or without a value
  well_formed_declaration : (at : At) (name : Name) (e : Option Operand) → WellFormedOptional n scope e → WellFormedLines n scope (declaration scope at name e)
  well_formed_declaration at name None is = well_formed_nothing n scope
  well_formed_declaration at name (Some e) is = well_formed_declared at name e is

  -- var n, m = e
  pub well_formed_declarations : (at : At) (ds : List DeclarationPart) → WellFormedDeclarations n scope ds → WellFormedLines n scope (declarations scope at ds)
  unfolding declarations
  well_formed_declarations at [] is = well_formed_nothing n scope
  well_formed_declarations at (d ∷ ds) is = well_formed_then n scope _ _ (well_formed_declaration at d.name d.value is.0) (well_formed_declarations at ds is.1)

  -- if (e) s
  pub well_formed_when : (at : At) (test : Operand) (body : Lines) → WellFormedOperand n scope test → WellFormedLines n scope body → WellFormedLines n scope (if_then scope at test body)
  unfolding if_then
  well_formed_when at test body st sb = well_formed_then n scope _ _ (st 0) (well_formed_guarded n scope at body sb)

  -- if (e) s else u
  pub well_formed_choice : (at : At) (test : Operand) (body otherwise : Lines) → WellFormedOperand n scope test → WellFormedLines n scope body → WellFormedLines n scope otherwise
      → WellFormedLines n scope (if_else scope at test body otherwise)
  unfolding if_else
  well_formed_choice at test body otherwise st sb so = well_formed_then n scope _ _ (st 0) (well_formed_either n scope at body otherwise sb so)

  -- while (e) s
  pub well_formed_while : (at : At) (test : Operand) (body : Lines) → WellFormedOperand n scope test → WellFormedLines n scope body → WellFormedLines n scope (while_of scope at test body)
  unfolding while_of
  well_formed_while at test body st sb = well_formed_turning n scope at to_test _ body nothing (st 0) sb (well_formed_nothing n scope)

  -- for (i; e; u) s
  pub well_formed_for : (at : At) (init : Lines) (test update : Option Operand) (body : Lines) → WellFormedLines n scope init → WellFormedOptional n scope test → WellFormedOptional n scope update
      → WellFormedLines n scope body → WellFormedLines n scope (for_of scope at init test update body)
  unfolding for_of
  well_formed_for at init test update body si st su sb =
      well_formed_then n scope _ _ si (well_formed_turning n scope at to_update _ body _ (well_formed_optional test 0 st) sb (well_formed_optional update 0 su))

  -- an iteration of a `for` with `in`
  well_formed_in_turn : (e_at : At) (local : Local) (goal body : Lines) → WellFormedLines n scope goal → WellFormedLines n scope body → WellFormedLines n scope (for_in_body scope e_at local goal body)
  unfolding for_in_body
  well_formed_in_turn e_at local goal body sg sb = well_formed_then n scope _ _ (well_formed_operate n scope fits e_at 0 _) (well_formed_then n scope goal body sg sb)

  -- for (goal in e) s
  pub well_formed_for_in : (at : At) (goal : Lines) (e_at : At) (e : Operand) (body : Lines) → WellFormedLines n scope goal → WellFormedOperand n scope e → WellFormedLines n scope body
      → WellFormedLines n scope (for_in scope at goal e_at e body)
  unfolding for_in
  well_formed_for_in at goal e_at e body sg se sb =
      let turn = well_formed_in_turn e_at (loop_at scope at.offset) goal body sg sb in
      let loop = well_formed_turning n scope at to_test nothing _ nothing (well_formed_nothing n scope) turn (well_formed_nothing n scope) in
      well_formed_then n scope _ _ (se 0) (well_formed_then n scope _ _ (well_formed_copy n scope fits at _ _) loop)

  -- g.p as the target of a `for` with `in`
  well_formed_goal_member : (at : At) (e : Operand) (p : Name) → WellFormedOperand n scope e → WellFormedLines n scope (goal_member scope at e p)
  unfolding goal_member
  well_formed_goal_member at e p is = well_formed_then n scope _ _ (well_formed_based n scope fits (stable_local scope e []) e 1 is) (well_formed_set_to n scope fits at _ p _)

  -- g[k]
  well_formed_goal_keyed : (at : At) (e key : Operand) → WellFormedOperand n scope e → WellFormedOperand n scope key → WellFormedLines n scope (goal_keyed scope at e key)
  unfolding goal_keyed
  well_formed_goal_keyed at e key is ks =
      well_formed_then n scope _ _ (well_formed_based n scope fits (stable_local scope e (key ∷ [])) e 1 is)
      (well_formed_then n scope _ _ (well_formed_key_in n scope fits at key _ ks) (well_formed_set_at_to n scope fits at _ _ _))

  -- a name as the goal
  pub well_formed_put_goal : (at : At) (name : Name) → WellFormedLines n scope (store_goal scope at name)
  unfolding store_goal
  well_formed_put_goal at name = well_formed_put n scope fits at name _

  -- the goal of a `for` with `in`
  pub well_formed_goal_of : (at : At) (reference : Reference) → WellFormedReference n scope reference → WellFormedLines n scope (goal_of scope at reference)
  well_formed_goal_of at (named name_at name) is = well_formed_put_goal at name
  well_formed_goal_of at (member e p) is = well_formed_goal_member at e p is
  well_formed_goal_of at (keyed e key) is = well_formed_goal_keyed at e key is.0 is.1
  well_formed_goal_of at other is = well_formed_nothing n scope

  -- a jump that waits for its loop
  pub well_formed_leave : (at : At) (target : Label) → IsUnaimedTarget target → WellFormedLines n scope (leave scope at target)
  unfolding leave
  well_formed_leave at target is = well_formed_one n scope at _ tt refl (is, is)

  -- the function ends with %0
  well_formed_given_back : (at : At) → WellFormedLines n scope (return_temporary scope at)
  unfolding return_temporary
  well_formed_given_back at = well_formed_one n scope at _ tt refl tt

  -- `return` with no value
  pub well_formed_nothing_back : (at : At) → WellFormedLines n scope (return_undefined scope at)
  unfolding return_undefined
  well_formed_nothing_back at = well_formed_then n scope _ _ (well_formed_literal n scope fits at _ 0) (well_formed_given_back at)

  -- return e
  pub well_formed_value_back : (at : At) (e : Operand) → WellFormedOperand n scope e → WellFormedLines n scope (return_value scope at e)
  unfolding return_value
  well_formed_value_back at e is = well_formed_then n scope _ _ (is 0) (well_formed_given_back at)

  -- throw e
  pub well_formed_thrown : (at : At) (e : Operand) → WellFormedOperand n scope e → WellFormedLines n scope (throw_value scope at e)
  unfolding throw_value
  well_formed_thrown at e is = well_formed_then n scope _ _ (is 0) (well_formed_one n scope at _ tt refl tt)

  -- a declared function is made
  well_formed_hoisted_as : (at : At) (name : Name) → WellFormedLines n scope (hoisted_as scope at name)
  unfolding hoisted_as
  well_formed_hoisted_as at name = well_formed_then n scope _ _ (well_formed_function_value n scope fits at at 0) (well_formed_put n scope fits at name _)

  -- a declared function, which may have no name
  pub well_formed_hoisted_function : (at : At) (name : Option Name) → WellFormedLines n scope (hoisted_function scope at name)
  well_formed_hoisted_function at None = well_formed_nothing n scope
  well_formed_hoisted_function at (Some name) = well_formed_hoisted_as at name

  -- the name becomes %0, be it a function's own name or not
  well_formed_store_by : (at : At) (it : Meaning) → IsMeaningThere n it → WellFormedLines n scope (initialise_by scope at it)
  well_formed_store_by at (m.Local local own) there = well_formed_copy n scope fits at local _
  well_formed_store_by at (m.Cell cell own) there = well_formed_one n scope at _ there refl tt
  well_formed_store_by at m.Require there = well_formed_nothing n scope
  well_formed_store_by at m.Literal there = well_formed_nothing n scope
  well_formed_store_by at m.Global there = well_formed_nothing n scope
  well_formed_store_by at m.Nothing there = well_formed_nothing n scope

  -- a function's own name
  well_formed_own_named : (at : At) (name : Name) → WellFormedLines n scope (own_named scope at name)
  unfolding own_named
  well_formed_own_named at name = well_formed_then n scope _ _ (well_formed_one n scope at _ tt refl tt) (well_formed_store_by at (meaning scope name) (fits.meanings_there name))

  -- a function's own name, where it has one
  well_formed_own_start : (at : At) (own : Bool) (name : Option Name) → WellFormedLines n scope (own_start scope at own name)
  well_formed_own_start at true (Some name) = well_formed_own_named at name
  well_formed_own_start at true None = well_formed_nothing n scope
  well_formed_own_start at false (Some name) = well_formed_nothing n scope
  well_formed_own_start at false None = well_formed_nothing n scope

  -- a parameter that may be a cell
  well_formed_parameter_by : (at : At) (i : ℕ) (it : Meaning) → IsMeaningThere n it → WellFormedLines n scope (parameter_by scope at i it)
  well_formed_parameter_by at i (m.Local local own) there = well_formed_nothing n scope
  well_formed_parameter_by at i (m.Cell cell own) there = well_formed_one n scope at _ there refl tt
  well_formed_parameter_by at i m.Require there = well_formed_nothing n scope
  well_formed_parameter_by at i m.Literal there = well_formed_nothing n scope
  well_formed_parameter_by at i m.Global there = well_formed_nothing n scope
  well_formed_parameter_by at i m.Nothing there = well_formed_nothing n scope

  -- the parameters that are cells
  well_formed_parameters : (at : At) (ps : List Name) (i : ℕ) → WellFormedLines n scope (parameters_from scope at ps i)
  unfolding parameters_from
  well_formed_parameters at [] i = well_formed_nothing n scope
  well_formed_parameters at (p ∷ ps) i = well_formed_then n scope _ _ (well_formed_parameter_by at i (meaning scope p) (fits.meanings_there p)) (well_formed_parameters at ps (i + 1))

  -- the start of a function
  pub well_formed_function_start : (at : At) (parameters : List Name) (own : Bool) (name : Option Name) → WellFormedLines n scope (function_start scope at parameters own name)
  unfolding function_start
  well_formed_function_start at parameters own name = well_formed_then n scope _ _ (well_formed_parameters at parameters 0) (well_formed_own_start at own name)

  -- the start of a file's body
  pub well_formed_body_start : (at : At) → WellFormedLines n scope (body_start scope at)
  unfolding body_start
  well_formed_body_start at =
      let puts = well_formed_then n scope _ _ (well_formed_put n scope fits at (codes "module") (temp scope 0)) (well_formed_put n scope fits at (codes "exports") (temp scope 1)) in
      let cell = well_formed_then n scope _ _ (well_formed_one n scope at _ fits.module_there refl tt) puts in
      let set = well_formed_then n scope _ _ (well_formed_set_to n scope fits at (temp scope 0) (codes "exports") (temp scope 1)) cell in
      well_formed_then n scope _ _ (well_formed_object n scope fits at 0) (well_formed_then n scope _ _ (well_formed_object n scope fits at 1) set)
