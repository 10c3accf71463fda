-- Properties and calls are well-formed if their parts are.
use Rattle.std.specs.Prelude.{ℕ, ◌+◌, List, [], ◌∷◌, Option, Some, None}
use Rattle.mdg_base.specs.declared.number.Local.{Local}
use Rattle.mdg_tree.specs.declared.tree.At.{At}
use Rattle.mdg_lower.specs.declared.scope.Meaning.{Meaning}
use Rattle.mdg_lower.specs.declared.scope.Meaning.TheVariants as m
use Rattle.mdg_lower.specs.declared.scope.Scope.{Scope}
use Rattle.mdg_lower.specs.Lookup.{Name, meaning}
use Rattle.mdg_lower.specs.Operands.{Operand, Reference, named, member, keyed, other}
use Rattle.mdg_lower.specs.Access.{stable_local, base_local, after_base, get, get_at, arguments, emit_call, method, method_at, plain_call, named_call, call_of}
use Rattle.mdg_lower.specs.WellFormed.{Counts, WellFormedLines, ScopeFits}
use Rattle.mdg_lower.proofs.WellFormedJoins.{well_formed_nothing, well_formed_then, well_formed_awaited}
use Rattle.mdg_lower.proofs.WellFormedInstructions.{WellFormedOperand, WellFormedOperands, WellFormedReference, well_formed_based, well_formed_key_in, well_formed_get_from, well_formed_get_at_from, well_formed_require}

module _ (n : Counts) (scope : Scope) (fits : ScopeFits n scope) where
  -- e.p
  pub well_formed_get : (at : At) (e : Operand) (p : Name) (d : ℕ) → WellFormedOperand n scope e → WellFormedLines n scope (get scope at e p d)
  unfolding get
  well_formed_get at e p d is =
      let k = stable_local scope e [] in
      let last = well_formed_get_from n scope fits at d (base_local scope k d) p in
      well_formed_then n scope _ _ (well_formed_based n scope fits k e d is) last

  -- e[k]
  pub well_formed_get_at : (at : At) (e key : Operand) (d : ℕ) → WellFormedOperand n scope e → WellFormedOperand n scope key → WellFormedLines n scope (get_at scope at e key d)
  unfolding get_at
  well_formed_get_at at e key d is key_is =
      let k = stable_local scope e (key ∷ []) in
      let c = after_base scope k d in
      let last = well_formed_get_at_from n scope fits at d (base_local scope k d) c in
      let from_second = well_formed_then n scope _ _ (well_formed_key_in n scope fits at key c key_is) last in
      well_formed_then n scope _ _ (well_formed_based n scope fits k e d is) from_second

  -- the arguments of a call
  pub well_formed_arguments : (es : List Operand) (c : ℕ) → WellFormedOperands n scope es → WellFormedLines n scope (arguments scope es c)
  unfolding arguments
  well_formed_arguments [] c are = well_formed_nothing n scope
  well_formed_arguments (e ∷ es) c are = well_formed_then n scope _ _ (are.0 c) (well_formed_arguments es (c + 1) are.1)

  -- a call, and its land after it
  pub well_formed_finish : (at : At) (receiver : Option Local) (c : ℕ) (es : List Operand) (d : ℕ) → WellFormedOperands n scope es → WellFormedLines n scope (emit_call scope at receiver c es d)
  unfolding emit_call
  well_formed_finish at receiver c es d are = well_formed_then n scope _ _ (well_formed_arguments es (c + 1) are) (well_formed_awaited n scope at _ tt tt)

  -- e.p(a..)
  pub well_formed_method : (at : At) (e : Operand) (p : Name) (es : List Operand) (d : ℕ) → WellFormedOperand n scope e → WellFormedOperands n scope es → WellFormedLines n scope (method scope at e p es d)
  unfolding method
  well_formed_method at e p es d is are =
      let k = stable_local scope e es in
      let c = after_base scope k d in
      let last = well_formed_finish at (Some (base_local scope k d)) c es d are in
      let from_second = well_formed_then n scope _ _ (well_formed_get_from n scope fits at c (base_local scope k d) p) last in
      well_formed_then n scope _ _ (well_formed_based n scope fits k e d is) from_second

  -- e[k](a..)
  pub well_formed_method_at : (at : At) (e key : Operand) (es : List Operand) (d : ℕ) → WellFormedOperand n scope e → WellFormedOperand n scope key → WellFormedOperands n scope es → WellFormedLines n scope (method_at scope at e key es d)
  unfolding method_at
  well_formed_method_at at e key es d is key_is are =
      let k = stable_local scope e (key ∷ es) in
      let c = after_base scope k d in
      let last = well_formed_finish at (Some (base_local scope k d)) c es d are in
      let from_third = well_formed_then n scope _ _ (well_formed_get_at_from n scope fits at c (base_local scope k d) c) last in
      let from_second = well_formed_then n scope _ _ (well_formed_key_in n scope fits at key c key_is) from_third in
      well_formed_then n scope _ _ (well_formed_based n scope fits k e d is) from_second

  -- f(a..)
  pub well_formed_plain_call : (at : At) (f : Operand) (es : List Operand) (d : ℕ) → WellFormedOperand n scope f → WellFormedOperands n scope es → WellFormedLines n scope (plain_call scope at f es d)
  unfolding plain_call
  well_formed_plain_call at f es d is are = well_formed_then n scope _ _ (is d) (well_formed_finish at None d es d are)

  -- a call of a name, by what the name means
  pub well_formed_named_call : (at : At) (it : Meaning) (offset : ℕ) (f : Operand) (es : List Operand) (d : ℕ) → WellFormedOperand n scope f → WellFormedOperands n scope es → WellFormedLines n scope (named_call scope at it offset f es d)
  well_formed_named_call at m.Require offset f es d is are = well_formed_require n scope fits at offset d
  well_formed_named_call at (m.Local local own) offset f es d is are = well_formed_plain_call at f es d is are
  well_formed_named_call at (m.Cell cell own) offset f es d is are = well_formed_plain_call at f es d is are
  well_formed_named_call at m.Literal offset f es d is are = well_formed_plain_call at f es d is are
  well_formed_named_call at m.Global offset f es d is are = well_formed_plain_call at f es d is are
  well_formed_named_call at m.Nothing offset f es d is are = well_formed_plain_call at f es d is are

  -- a call by the reference that is what is called
  pub well_formed_call_of : (at : At) (reference : Reference) (f : Operand) (es : List Operand) (d : ℕ) → WellFormedReference n scope reference → WellFormedOperand n scope f → WellFormedOperands n scope es → WellFormedLines n scope (call_of scope at reference f es d)
  well_formed_call_of at (named name_at name) f es d there is are = well_formed_named_call at (meaning scope name) name_at.offset f es d is are
  well_formed_call_of at (member e p) f es d there is are = well_formed_method at e p es d there are
  well_formed_call_of at (keyed e key) f es d there is are = well_formed_method_at at e key es d there.0 there.1 are
  well_formed_call_of at other f es d there is are = well_formed_plain_call at f es d is are
