-- The lines of one instruction, of names and of bases are well-formed.
use Rattle.std.specs.Prelude.{◌≡◌, ℕ, ◌+◌, true, false, List, [], ◌∷◌, ◌++◌, length, IfSome, Option, Some, None}
use Rattle.std.proofs.Common.{refl, ap, subst, ◌∙◌, arith, append_assoc, length-append}
use Rattle.mdg_base.specs.declared.number.Local.{Local}
use Rattle.mdg_tree.specs.declared.tree.At.{At}
use Rattle.mdg_code.specs.declared.statement.Statement.TheVariants as st
use Rattle.mdg_lower.specs.declared.scope.Meaning.{Meaning}
use Rattle.mdg_lower.specs.declared.scope.Meaning.TheVariants as m
use Rattle.mdg_lower.specs.declared.scope.Scope.{Scope}
use Rattle.mdg_lower.specs.declared.scope.Dependency.{Dependency}
use Rattle.mdg_lower.specs.declared.scope.Dependency.TheVariants as w
use Rattle.mdg_lower.specs.Lookup.{Name, meaning, dependency_at}
use Rattle.mdg_lower.specs.Builder.{Lines, ◌>>◌, one}
use Rattle.mdg_lower.specs.Instructions.{complete, literal, copy, operate, operate_on, get_from, set_to, get_at_from, set_at_to, global, load_name_by, load_name, store_name_by, store_name, require_by, require, object, function_value}
use Rattle.mdg_lower.specs.Operands.{Operand, Reference, named, member, keyed, other}
use Rattle.mdg_lower.specs.Access.{lower_base, move_result, lower_key}
use Rattle.mdg_lower.specs.WellFormed.{Counts, WellFormed, WellFormedLines, ScopeFits, IsMeaningThere, IsDependencyThere}
use Rattle.mdg_lower.proofs.WellFormedJoins.{well_formed_nothing, well_formed_then, well_formed_one, well_formed_awaited}

-- the lines of the expression's value are well-formed, at whichever temporary they leave it
abbrev pub WellFormedOperand : Counts → Scope → Operand → Type 0
WellFormedOperand n scope e = (d : ℕ) → WellFormedLines n scope (e.value scope d)

-- each of them is well-formed
abbrev pub WellFormedOperands : Counts → Scope → List Operand → Type 0
WellFormedOperands n scope [] = Unit {0}
WellFormedOperands n scope (e ∷ es) = WellFormedOperand n scope e × WellFormedOperands n scope es

-- the parts of a root are well-formed
abbrev pub WellFormedReference : Counts → Scope → Reference → Type 0
WellFormedReference n scope (named at name) = Unit {0}
WellFormedReference n scope (member e p) = WellFormedOperand n scope e
WellFormedReference n scope (keyed e key) = WellFormedOperand n scope e × WellFormedOperand n scope key
WellFormedReference n scope other = Unit {0}

-- Three parts, grouped either way.
regrouped : (a b c : Lines) (s : ℕ) → ((a >> b) >> c) s ≡ (a >> (b >> c)) s
unfolding ◌>>◌
regrouped a b c s =
    append_assoc (a s) (b (s + length (a s))) _
    ∙ ap (λ m. a s ++ (b (s + length (a s)) ++ c m)) (omega (arith, length-append (a s) (b (s + length (a s)))))

-- three parts that are well-formed grouped one way are well-formed grouped the other way
pub well_formed_regrouped : (n : Counts) (scope : Scope) (a b c : Lines) → WellFormedLines n scope ((a >> b) >> c) → WellFormedLines n scope (a >> (b >> c))
unfolding WellFormedLines
well_formed_regrouped n scope a b c is s = subst (WellFormed n scope s) (regrouped a b c s) (is s)

module _ (n : Counts) (scope : Scope) (fits : ScopeFits n scope) where
  -- %d = literal
  pub well_formed_literal : (at : At) (text : Option Name) (d : ℕ) → WellFormedLines n scope (literal scope at text d)
  unfolding literal
  well_formed_literal at text d = well_formed_one n scope at _ tt refl tt

  -- into = of
  pub well_formed_copy : (at : At) (into of : Local) → WellFormedLines n scope (copy scope at into of)
  unfolding copy
  well_formed_copy at into of = well_formed_one n scope at _ tt refl tt

  -- %d = op(of..)
  pub well_formed_operate : (at : At) (d : ℕ) (of : List Local) → WellFormedLines n scope (operate scope at d of)
  unfolding operate
  well_formed_operate at d of = well_formed_one n scope at _ tt refl tt

  -- %d = op(%d)
  pub well_formed_operate_on : (at : At) (d : ℕ) → WellFormedLines n scope (operate_on scope at d)
  unfolding operate_on
  well_formed_operate_on at d = well_formed_operate at d _

  -- %d = of.name
  pub well_formed_get_from : (at : At) (d : ℕ) (of : Local) (name : Name) → WellFormedLines n scope (get_from scope at d of name)
  unfolding get_from
  well_formed_get_from at d of name = well_formed_one n scope at _ tt refl tt

  -- of.name = value
  pub well_formed_set_to : (at : At) (of : Local) (name : Name) (value : Local) → WellFormedLines n scope (set_to scope at of name value)
  unfolding set_to
  well_formed_set_to at of name value = well_formed_one n scope at _ tt refl tt

  -- %d = of[key]
  pub well_formed_get_at_from : (at : At) (d : ℕ) (of : Local) (key : ℕ) → WellFormedLines n scope (get_at_from scope at d of key)
  unfolding get_at_from
  well_formed_get_at_from at d of key = well_formed_one n scope at _ tt refl tt

  -- of[key] = value
  pub well_formed_set_at_to : (at : At) (of : Local) (key : ℕ) (value : Local) → WellFormedLines n scope (set_at_to scope at of key value)
  unfolding set_at_to
  well_formed_set_at_to at of key value = well_formed_one n scope at _ tt refl tt

  -- %d = shared b
  pub well_formed_global : (at : At) (name : Name) (d : ℕ) → WellFormedLines n scope (global scope at name d)
  unfolding global
  well_formed_global at name d = well_formed_one n scope at _ tt refl tt

  -- %d = object
  pub well_formed_object : (at : At) (d : ℕ) → WellFormedLines n scope (object scope at d)
  unfolding object
  well_formed_object at d = well_formed_one n scope at _ tt refl tt

  -- %d = function f, which is one of the package
  pub well_formed_function_value : (at word : At) (d : ℕ) → WellFormedLines n scope (function_value scope at word d)
  unfolding function_value
  well_formed_function_value at word d = well_formed_one n scope at _ (fits.functions_there word.offset) refl tt

  -- a name's value, by what the name means
  pub well_formed_load_by : (at : At) (name : Name) (d : ℕ) (it : Meaning) → IsMeaningThere n it → WellFormedLines n scope (load_name_by scope at name d it)
  well_formed_load_by at name d (m.Local local own) there = well_formed_copy at _ local
  well_formed_load_by at name d (m.Cell cell own) there = well_formed_one n scope at _ there refl tt
  well_formed_load_by at name d m.Require there = well_formed_operate at d []
  well_formed_load_by at name d m.Literal there = well_formed_literal at (Some name) d
  well_formed_load_by at name d m.Global there = well_formed_global at name d
  well_formed_load_by at name d m.Nothing there = well_formed_operate at d []

  -- a name's value
  pub well_formed_load : (at : At) (name : Name) (d : ℕ) → WellFormedLines n scope (load_name scope at name d)
  unfolding load_name
  well_formed_load at name d = well_formed_load_by at name d (meaning scope name) (fits.meanings_there name)

  -- a throw
  throws : (at : At) (value : Local) → WellFormedLines n scope (one scope at (complete (st.Throw value)))
  throws at value = well_formed_one n scope at _ tt refl tt

  -- a name becomes a value, by what the name means
  pub well_formed_put_by : (at : At) (value : Local) (it : Meaning) → IsMeaningThere n it → WellFormedLines n scope (store_name_by scope at value it)
  well_formed_put_by at value (m.Local local false) there = well_formed_copy at local value
  well_formed_put_by at value (m.Local local true) there = throws at value
  well_formed_put_by at value (m.Cell cell false) there = well_formed_one n scope at _ there refl tt
  well_formed_put_by at value (m.Cell cell true) there = throws at value
  well_formed_put_by at value m.Require there = throws at value
  well_formed_put_by at value m.Literal there = throws at value
  well_formed_put_by at value m.Global there = throws at value
  well_formed_put_by at value m.Nothing there = throws at value

  -- a name becomes a value
  pub well_formed_put : (at : At) (name : Name) (value : Local) → WellFormedLines n scope (store_name scope at name value)
  unfolding store_name
  well_formed_put at name value = well_formed_put_by at value (meaning scope name) (fits.meanings_there name)

  -- the base of a property
  pub well_formed_based : (k : Option Local) (e : Operand) (d : ℕ) → WellFormedOperand n scope e → WellFormedLines n scope (lower_base scope k e d)
  well_formed_based None e d is = is d
  well_formed_based (Some local) e d is = well_formed_nothing n scope

  -- %d = %c, where the two differ
  pub well_formed_brought : (at : At) (k : Option Local) (d : ℕ) → WellFormedLines n scope (move_result scope at k d)
  well_formed_brought at None d = well_formed_copy at _ _
  well_formed_brought at (Some local) d = well_formed_nothing n scope

  -- a computed key
  pub well_formed_key_in : (at : At) (key : Operand) (c : ℕ) → WellFormedOperand n scope key → WellFormedLines n scope (lower_key scope at key c)
  unfolding lower_key
  well_formed_key_in at key c is = well_formed_then n scope _ _ (is c) (well_formed_operate_on at c)

  -- a call of `require`, by what it asks for
  pub well_formed_require_by : (at : At) (dependencies : Option Dependency) (d : ℕ) → IfSome dependencies (IsDependencyThere n) → WellFormedLines n scope (require_by scope at dependencies d)
  well_formed_require_by at None d there = well_formed_operate at d []
  well_formed_require_by at (Some (w.Module name)) d there = well_formed_one n scope at _ tt refl tt
  well_formed_require_by at (Some (w.File file cell)) d there =
      let loaded = well_formed_awaited n scope at (complete (st.Load file)) there.0 tt in
      let taken = well_formed_one n scope at _ there.1 refl tt in
      well_formed_regrouped n scope _ _ _ (well_formed_then n scope _ _ loaded (well_formed_then n scope _ _ taken (well_formed_get_from at d _ _)))

  -- a call of `require`
  pub well_formed_require : (at : At) (offset : ℕ) (d : ℕ) → WellFormedLines n scope (require scope at offset d)
  unfolding require
  well_formed_require at offset d = well_formed_require_by at (dependency_at scope offset) d (fits.dependencies_there offset)
