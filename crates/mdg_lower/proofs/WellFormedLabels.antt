-- Lines in which no jump waits for a loop.
use Rattle.std.proofs.Common.{ℕ, ◌+◌, Bool, true, false, List, [], ◌∷◌, length, All, Option, Some, None}
use Rattle.std.specs.Prelude.{codes}
use Rattle.std.proofs.lemmas.List.Elements.{All-append, All-nil, All-cons, All-map}
use Rattle.mdg_base.specs.declared.number.Local.{Local}
use Rattle.mdg_tree.specs.declared.tree.At.{At}
use Rattle.mdg_lower.specs.declared.draft.Draft.{Draft}
use Rattle.mdg_lower.specs.declared.draft.Draft.TheVariants as d
use Rattle.mdg_lower.specs.declared.draft.Label.{Label}
use Rattle.mdg_lower.specs.declared.draft.Label.TheVariants as to
use Rattle.mdg_lower.specs.declared.scope.Meaning.{Meaning}
use Rattle.mdg_lower.specs.declared.scope.Meaning.TheVariants as m
use Rattle.mdg_lower.specs.declared.scope.Scope.{Scope}
use Rattle.mdg_lower.specs.Lookup.{Name, meaning, temp}
use Rattle.mdg_lower.specs.Builder.{Lines, ◌>>◌, nothing, one, line_of}
use Rattle.mdg_lower.specs.Instructions.{copy, set_to, object, function_value, store_name_by, store_name}
use Rattle.mdg_lower.specs.Labels.{resolved_label, resolved_draft, resolved, closed}
use Rattle.mdg_lower.specs.Statements.{hoisted_as, hoisted_function, initialise_by, own_named, own_start, parameter_by, parameters_from, function_start, body_start}
use Rattle.mdg_lower.specs.WellFormed.{IsResolvedLabel, IsResolved}

-- no line's target waits for a loop
abbrev pub ResolvedLines : Lines → Type 0
ResolvedLines code = (s : ℕ) → All (λ line. IsResolved line.draft) (code s)

-- there is no line
pub resolved_nothing : ResolvedLines nothing
unfolding nothing
resolved_nothing s = All-nil (λ line. IsResolved line.draft)

-- one part, and after it the next
pub resolved_then : (a b : Lines) → ResolvedLines a → ResolvedLines b → ResolvedLines (a >> b)
unfolding ◌>>◌
resolved_then a b ha hb s = All-append (λ line. IsResolved line.draft) (a s) (b (s + length (a s))) (ha s) (hb (s + length (a s)))

-- one line that does not wait
pub resolved_one : (scope : Scope) (at : At) (it : Draft) → IsResolved it → ResolvedLines (one scope at it)
unfolding one
resolved_one scope at it h s = All-cons (λ line. IsResolved line.draft) (line_of scope at it) [] h (All-nil (λ line. IsResolved line.draft))

-- a target that was resolved waits for nothing
target_closed : (x y : ℕ) (t : Label) → IsResolvedLabel (resolved_label x y t)
unfolding resolved_label
target_closed x y (to.Site site) = tt
target_closed x y to.Break = tt
target_closed x y to.Continue = tt

-- neither does a draft that was resolved
draft_closed : (x y : ℕ) (it : Draft) → IsResolved (resolved_draft x y it)
unfolding resolved_draft
draft_closed x y (d.Complete statement) = tt
draft_closed x y (d.Get into of name) = tt
draft_closed x y (d.Set of name value) = tt
draft_closed x y (d.Shared into home name) = tt
draft_closed x y (d.Branch left right) = (target_closed x y left, target_closed x y right)

-- the jumps that no loop encloses are resolved
pub resolved_closed : (body : Lines) → ResolvedLines (closed body)
unfolding closed resolved
resolved_closed body s =
    let end = s + length (body s) in
    All-map (λ line. IsResolved line.draft) (resolved end end) (body s) (λ k line lt. draft_closed end end _)

module _ (scope : Scope) where
  -- into = of
  resolved_copy : (at : At) (into of : Local) → ResolvedLines (copy scope at into of)
  unfolding copy
  resolved_copy at into of = resolved_one scope at _ tt

  -- a name of this meaning becomes a value
  resolved_put_by : (at : At) (value : Local) (it : Meaning) → ResolvedLines (store_name_by scope at value it)
  resolved_put_by at value (m.Local local false) = resolved_copy at local value
  resolved_put_by at value (m.Local local true) = resolved_one scope at _ tt
  resolved_put_by at value (m.Cell cell false) = resolved_one scope at _ tt
  resolved_put_by at value (m.Cell cell true) = resolved_one scope at _ tt
  resolved_put_by at value m.Require = resolved_one scope at _ tt
  resolved_put_by at value m.Literal = resolved_one scope at _ tt
  resolved_put_by at value m.Global = resolved_one scope at _ tt
  resolved_put_by at value m.Nothing = resolved_one scope at _ tt

  -- a name becomes a value
  resolved_put : (at : At) (name : Name) (value : Local) → ResolvedLines (store_name scope at name value)
  unfolding store_name
  resolved_put at name value = resolved_put_by at value (meaning scope name)

  -- %d = object
  resolved_object : (at : At) (d : ℕ) → ResolvedLines (object scope at d)
  unfolding object
  resolved_object at d = resolved_one scope at _ tt

  -- of.name = value
  resolved_set_to : (at : At) (of : Local) (name : Name) (value : Local) → ResolvedLines (set_to scope at of name value)
  unfolding set_to
  resolved_set_to at of name value = resolved_one scope at _ tt

  -- %d = function f
  resolved_function_value : (at word : At) (d : ℕ) → ResolvedLines (function_value scope at word d)
  unfolding function_value
  resolved_function_value at word d = resolved_one scope at _ tt

  -- a declared function is made, and its name becomes it
  resolved_hoisted_as : (at : At) (name : Name) → ResolvedLines (hoisted_as scope at name)
  unfolding hoisted_as
  resolved_hoisted_as at name = resolved_then _ _ (resolved_function_value at at 0) (resolved_put at name _)

  -- a declared function, which may have no name
  pub resolved_hoisted_function : (at : At) (name : Option Name) → ResolvedLines (hoisted_function scope at name)
  resolved_hoisted_function at None = resolved_nothing
  resolved_hoisted_function at (Some name) = resolved_hoisted_as at name

  -- the name becomes %0, be it a function's own name or not
  resolved_store_by : (at : At) (it : Meaning) → ResolvedLines (initialise_by scope at it)
  resolved_store_by at (m.Local local own) = resolved_copy at local _
  resolved_store_by at (m.Cell cell own) = resolved_one scope at _ tt
  resolved_store_by at m.Require = resolved_nothing
  resolved_store_by at m.Literal = resolved_nothing
  resolved_store_by at m.Global = resolved_nothing
  resolved_store_by at m.Nothing = resolved_nothing

  -- a function's own name
  resolved_own_named : (at : At) (name : Name) → ResolvedLines (own_named scope at name)
  unfolding own_named
  resolved_own_named at name = resolved_then _ _ (resolved_one scope at _ tt) (resolved_store_by at (meaning scope name))

  -- a function's own name, where it has one
  resolved_own_start : (at : At) (own : Bool) (name : Option Name) → ResolvedLines (own_start scope at own name)
  resolved_own_start at true (Some name) = resolved_own_named at name
  resolved_own_start at true None = resolved_nothing
  resolved_own_start at false (Some name) = resolved_nothing
  resolved_own_start at false None = resolved_nothing

  -- a parameter that may be a cell
  resolved_parameter_by : (at : At) (i : ℕ) (it : Meaning) → ResolvedLines (parameter_by scope at i it)
  resolved_parameter_by at i (m.Local local own) = resolved_nothing
  resolved_parameter_by at i (m.Cell cell own) = resolved_one scope at _ tt
  resolved_parameter_by at i m.Require = resolved_nothing
  resolved_parameter_by at i m.Literal = resolved_nothing
  resolved_parameter_by at i m.Global = resolved_nothing
  resolved_parameter_by at i m.Nothing = resolved_nothing

  -- the parameters that are cells
  resolved_parameters : (at : At) (ps : List Name) (i : ℕ) → ResolvedLines (parameters_from scope at ps i)
  unfolding parameters_from
  resolved_parameters at [] i = resolved_nothing
  resolved_parameters at (p ∷ ps) i = resolved_then _ _ (resolved_parameter_by at i (meaning scope p)) (resolved_parameters at ps (i + 1))

  -- the start of a function has no branch
  pub resolved_function_start : (at : At) (parameters : List Name) (own : Bool) (name : Option Name) → ResolvedLines (function_start scope at parameters own name)
  unfolding function_start
  resolved_function_start at parameters own name = resolved_then _ _ (resolved_parameters at parameters 0) (resolved_own_start at own name)

  -- nor has that of a file's body
  pub resolved_body_start : (at : At) → ResolvedLines (body_start scope at)
  unfolding body_start
  resolved_body_start at =
      let puts = resolved_then _ _ (resolved_put at (codes "module") (temp scope 0)) (resolved_put at (codes "exports") (temp scope 1)) in
      let cell = resolved_then _ _ (resolved_one scope at _ tt) puts in
      let set = resolved_then _ _ (resolved_set_to at (temp scope 0) (codes "exports") (temp scope 1)) cell in
      resolved_then _ _ (resolved_object at 0) (resolved_then _ _ (resolved_object at 1) set)
