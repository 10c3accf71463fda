-- The functions around a function, a step at a time.
use Rattle.std.proofs.Common.{◌≡◌, ℕ, zero, suc, ◌-◌, ◌<◌, false, List, [], ◌∷◌, refl, sym, ap, ◌∙◌, arith, nat_eq, if◌then◌else◌}
use Rattle.mdg_scope.specs.Resolution.{around, parent}

pub around_last : (parents : List ℕ) (function : ℕ) → around parents 0 function ≡ function ∷ []
around_last parents function = refl

by_steps : (parents : List ℕ) (steps : ℕ) → around parents steps 0 ≡ 0 ∷ []
by_steps parents zero = refl
by_steps parents (suc n) = refl

pub around_body : (parents : List ℕ) (steps function : ℕ) → function ≡ 0 → around parents steps function ≡ function ∷ []
around_body parents steps zero h = by_steps parents steps
around_body parents steps (suc f) h = absurd (omega arith)

pub around_next : (parents : List ℕ) (steps function : ℕ) → 0 < steps → 0 < function → around parents steps function ≡ function ∷ around parents (steps - 1) (parent parents function)
around_next parents zero function h k = absurd (omega arith)
around_next parents (suc n) zero h k = absurd (omega arith)
around_next parents (suc n) (suc f) h k =
    let z : nat_eq (suc f) 0 ≡ false = grind arith in
    let e : suc n - 1 ≡ n = omega arith in
    ap (λ b. if b then suc f ∷ [] else suc f ∷ around parents n (parent parents (suc f))) z ∙ ap (λ m. suc f ∷ around parents m (parent parents (suc f))) (sym e)

pub ruleset steps = (around_last, around_body, around_next)
