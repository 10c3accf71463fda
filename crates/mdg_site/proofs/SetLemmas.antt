-- Sets of facts.
use Rattle.std.proofs.Common.{◌≡◌, ℕ, ◌<◌, ◌+◌, Bool, true, false, ◌&&◌, ◌||◌, eqb, IsTrue, List, [], ◌∷◌, ◌++◌, ◌⊎◌, refl, sym, ap, ◌∙◌, subst, inl, inr, ⊎_elim, eqb-true, eq-eqb, arith}
use Rattle.mdg_site.specs.Facts.{NumberSet, Has, Within, Same}
use Rattle.mdg_site.specs.Graph.{none, along}

-- a disjunction's two ways
pub or_cases : (a b : Bool) → a || b ≡ true → (a ≡ true) ⊎ (b ≡ true)
or_cases true b e = inl refl
or_cases false b e = inr e

pub or_left : (a b : Bool) → a ≡ true → a || b ≡ true
or_left a b e = subst (λ (x : Bool). x || b ≡ true) (sym e) refl

pub or_right : (a b : Bool) → b ≡ true → a || b ≡ true
or_right true b e = refl
or_right false b e = e

pub and_both : (a b : Bool) → a && b ≡ true → (a ≡ true) × (b ≡ true)
and_both true b e = (refl, e)
and_both false b e = (e, grind arith)

-- two tests that agree where they are true
pub same_bools : (a b : Bool) → (a ≡ true → b ≡ true) → (b ≡ true → a ≡ true) → a ≡ b
same_bools true b f g = sym (f refl)
same_bools false true f g = g refl
same_bools false false f g = refl

pub same_sets : (F G : NumberSet) → Within F G → Within G F → Same F G
same_sets F G f g r n = same_bools (F r n) (G r n) (f r n) (g r n)

pub Within-refl : (F : NumberSet) → Within F F
Within-refl F r n h = h

pub Within-trans : (F G H : NumberSet) → Within F G → Within G H → Within F H
Within-trans F G H f g r n h = g r n (f r n h)

pub Same-within : (F G : NumberSet) → Same F G → Within F G
Same-within F G e r n h = sym (e r n) ∙ h

pub Same-back : (F G : NumberSet) → Same F G → Within G F
Same-back F G e r n h = e r n ∙ h

-- a fact of F with a list is at its head, or is one of the rest
pub along_cases : (F : NumberSet) (f : ℕ × ℕ) (fs : List (ℕ × ℕ)) (r n : ℕ) → Has (along F (f ∷ fs)) r n → ((r ≡ f.0) × (n ≡ f.1)) ⊎ Has (along F fs) r n
along_cases F f fs r n h = ⊎_elim
    (λ e. let b = and_both (eqb r f.0) (eqb n f.1) e in inl (eqb-true r f.0 b.0, eqb-true n f.1 b.1))
    (λ e. inr e) (or_cases (eqb r f.0 && eqb n f.1) (along F fs r n) h)

pub along_head : (F : NumberSet) (f : ℕ × ℕ) (fs : List (ℕ × ℕ)) → Has (along F (f ∷ fs)) f.0 f.1
along_head F f fs = or_left (eqb f.0 f.0 && eqb f.1 f.1) (along F fs f.0 f.1)
    (ap (λ (b : Bool). b && eqb f.1 f.1) (eq-eqb f.0 f.0 refl) ∙ eq-eqb f.1 f.1 refl)

pub along_rest : (F : NumberSet) (f : ℕ × ℕ) (fs : List (ℕ × ℕ)) → Within (along F fs) (along F (f ∷ fs))
along_rest F f fs r n h = or_right (eqb r f.0 && eqb n f.1) (along F fs r n) h

-- F is within F with a list
pub along_base : (F : NumberSet) (fs : List (ℕ × ℕ)) → Within F (along F fs)
along_base F [] r n h = h
along_base F (f ∷ fs) r n h = along_rest F f fs r n (along_base F fs r n h)

pub along_within : (F G : NumberSet) (fs : List (ℕ × ℕ)) → Within F G → Within (along F fs) (along G fs)
along_within F G [] w r n h = w r n h
along_within F G (f ∷ fs) w r n h = ⊎_elim
    (λ e. or_left (eqb r f.0 && eqb n f.1) (along G fs r n) e)
    (λ e. along_rest G f fs r n (along_within F G fs w r n e)) (or_cases (eqb r f.0 && eqb n f.1) (along F fs r n) h)

-- to add two lists is to add both at once
pub along_append : (F : NumberSet) (fs gs : List (ℕ × ℕ)) → Same (along F (gs ++ fs)) (along (along F fs) gs)
along_append F fs [] r n = refl
along_append F fs (g ∷ gs) r n = ap (λ (b : Bool). (eqb r g.0 && eqb n g.1) || b) (along_append F fs gs r n)
