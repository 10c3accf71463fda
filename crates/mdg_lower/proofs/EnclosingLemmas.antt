-- The functions around a function, one at a time.
use Rattle.std.proofs.Common.{◌≡◌, ℕ, zero, suc, ◌-◌, ◌<◌, List, Option, Some, None, refl, sym, ap, ◌∙◌, arith}
use Rattle.mdg_lower.specs.declared.scope.Bindings.{Bindings}
use Rattle.mdg_lower.specs.declared.scope.Meaning.{Meaning}
use Rattle.mdg_lower.specs.Lookup.{Name, cell_in, bindings_at, or_else, enclosing_cell, enclosing_by}

pub enclosing_last : (all_bindings : List Bindings) (steps : ℕ) (function : Option ℕ) (name : Name) → steps ≡ 0 → enclosing_cell all_bindings steps function name ≡ None
unfolding enclosing_cell
enclosing_last all_bindings zero function name h = refl
enclosing_last all_bindings (suc n) function name h = absurd (omega arith)

enclosing_more : (all_bindings : List Bindings) (steps : ℕ) (function : Option ℕ) (name : Name) → 0 < steps
    → enclosing_cell all_bindings steps function name ≡ enclosing_by (bindings_at all_bindings function) name (λ parent. enclosing_cell all_bindings (steps - 1) parent name)
unfolding enclosing_cell
enclosing_more all_bindings zero function name h = absurd (omega arith)
enclosing_more all_bindings (suc n) function name h =
    let e : suc n - 1 ≡ n = omega arith in
    ap (λ m. enclosing_by (bindings_at all_bindings function) name (λ parent. enclosing_cell all_bindings m parent name)) (sym e)

pub enclosing_absent : (all_bindings : List Bindings) (steps : ℕ) (function : Option ℕ) (name : Name) → 0 < steps → bindings_at all_bindings function ≡ None
    → enclosing_cell all_bindings steps function name ≡ None
enclosing_absent all_bindings steps function name h e =
    enclosing_more all_bindings steps function name h ∙ ap (λ w. enclosing_by w name (λ parent. enclosing_cell all_bindings (steps - 1) parent name)) e

pub enclosing_here : (all_bindings : List Bindings) (steps : ℕ) (function : Option ℕ) (name : Name) (bindings : Bindings) (meaning : Meaning) → 0 < steps → bindings_at all_bindings function ≡ Some bindings
    → cell_in bindings name ≡ Some meaning → enclosing_cell all_bindings steps function name ≡ Some meaning
enclosing_here all_bindings steps function name bindings meaning h e m =
    enclosing_more all_bindings steps function name h ∙ ap (λ w. enclosing_by w name (λ parent. enclosing_cell all_bindings (steps - 1) parent name)) e
    ∙ ap (λ w. or_else w (enclosing_cell all_bindings (steps - 1) bindings.parent name)) m

pub enclosing_further : (all_bindings : List Bindings) (steps : ℕ) (function : Option ℕ) (name : Name) (bindings : Bindings) → 0 < steps → bindings_at all_bindings function ≡ Some bindings
    → cell_in bindings name ≡ None → enclosing_cell all_bindings steps function name ≡ enclosing_cell all_bindings (steps - 1) bindings.parent name
enclosing_further all_bindings steps function name bindings h e m =
    enclosing_more all_bindings steps function name h ∙ ap (λ w. enclosing_by w name (λ parent. enclosing_cell all_bindings (steps - 1) parent name)) e
    ∙ ap (λ w. or_else w (enclosing_cell all_bindings (steps - 1) bindings.parent name)) m

pub ruleset outwards = (enclosing_last, enclosing_absent, enclosing_here, enclosing_further)
