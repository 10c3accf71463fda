-- What the scanner's tests tell, and how it cuts lists.
use Rattle.std.proofs.Common.{◌≡◌, ℕ, zero, suc, ◌≤◌, ◌<◌, Bool, true, false, ◌==◌, inl, inr, List, [], ◌∷◌, ◌++◌, length, arith, refl, ap, ◌∙◌, eqb-true, length-append, Contains, slice_index_or, eq-eqb}
use Rattle.std.specs.Prelude.{Option, Some, None}
use Rattle.std.proofs.lemmas.List.{take_at}
use Rattle.mdg_text.specs.Characters.{starts}
use Rattle.mdg_text.specs.Characters.{Each}
use Rattle.mdg_text.specs.Scanner.{◌>>=◌, skip, before, same_text, is_in}
use Rattle.mdg_base.proofs.Decisions.{both_true, either_true, decided}

pub bind_ok : {A B : Type 0} (o : Option A) (f : A → Option B) (y : B) → (o >>= f) ≡ Some y → (x : A) × (o ≡ Some x) × (f x ≡ Some y)
bind_ok None f y e = absurd cc
bind_ok (Some x) f y e = (x, refl, e)

-- what is skipped is gone, where the rest does not go on
pub skip-append : (p : ℕ → Bool) (a x : List ℕ) → Each p a → starts p x ≡ false → skip p (a ++ x) ≡ x
unfolding skip
skip-append p [] [] e s = refl
skip-append p [] (c ∷ cs) e s = rw s
skip-append p (d ∷ ds) x e s = rw e.0 (skip-append p ds x e.1 s)

pub record Skipped (p : ℕ → Bool) (text : List ℕ) : Type 0 where
  pub prefix : List ℕ
  pub cut : text ≡ prefix ++ skip p text
  pub each : Each p prefix

pub skipped : (p : ℕ → Bool) (text : List ℕ) → Skipped p text
unfolding skip
skipped p [] = record { prefix = []; cut = refl; each = tt }
skipped p (c ∷ cs) =
    let s = skipped p cs in
    elim (decided (p c)) [
      | inl on ↦ record { prefix = c ∷ s.prefix; cut = rw on (ap (λ (l : List ℕ). c ∷ l) s.cut); each = (on, s.each) }
      | inr off ↦ record { prefix = []; cut = rw off refl; each = tt }
    ]

pub skip_stops : (p : ℕ → Bool) (text : List ℕ) → starts p (skip p text) ≡ false
unfolding skip
skip_stops p [] = refl
skip_stops p (c ∷ cs) = elim (decided (p c)) [ inl on ↦ rw on (skip_stops p cs) | inr off ↦ rw off off ]

pub before-append : (a x : List ℕ) → before (a ++ x) x ≡ a
unfolding before
before-append a x = take_at a x _ (omega (arith, length-append a x))

-- the prefix is what stands before the rest
pub before_is : (text a x : List ℕ) → text ≡ a ++ x → before text x ≡ a
before_is text a x e = ap (λ t. before t x) e ∙ before-append a x

pub same_text-self : (x : List ℕ) → same_text x x ≡ true
unfolding same_text
same_text-self [] = refl
same_text-self (c ∷ cs) = rw (eq-eqb c c refl) (same_text-self cs)

pub same_text-true : (x y : List ℕ) → same_text x y ≡ true → x ≡ y
unfolding same_text
same_text-true [] [] e = refl
same_text-true [] (d ∷ ds) e = absurd cc
same_text-true (c ∷ cs) [] e = absurd cc
same_text-true (c ∷ cs) (d ∷ ds) e = let b = both_true (c == d) (same_text cs ds) e in
    let h : c ≡ d = eqb-true c d b.0 in let t : cs ≡ ds = same_text-true cs ds b.1 in cc

pub is_in-true : (ys : List (List ℕ)) (x : List ℕ) → is_in ys x ≡ true → Contains ys x
unfolding is_in
is_in-true [] x e = absurd cc
is_in-true (y ∷ ys) x e = elim (either_true (same_text y x) (is_in ys x) e) [
  | inl h ↦ (0, omega arith, same_text-true y x h)
  | inr h ↦ (let r = is_in-true ys x h in (suc r.0, omega arith, r.2))
]

in_at : (ys : List (List ℕ)) (x : List ℕ) (i : ℕ) → i < length ys → slice_index_or ys i x ≡ x → is_in ys x ≡ true
unfolding is_in
in_at [] x i h e = absurd (omega arith)
in_at (y ∷ ys) x zero h e = rw e (rw (same_text-self x) refl)
in_at (y ∷ ys) x (suc i) h e = elim (decided (same_text y x)) [ inl on ↦ rw on refl | inr off ↦ rw off (in_at ys x i (omega arith) e) ]

pub is_in-contains : (ys : List (List ℕ)) (x : List ℕ) → Contains ys x → is_in ys x ≡ true
is_in-contains ys x c = in_at ys x c.0 c.1 c.2

-- what is skipped is at least what passes
pub skip_most : (p : ℕ → Bool) (a x : List ℕ) → Each p a → length (skip p (a ++ x)) ≤ length x
unfolding skip
skip_most p [] [] e = omega arith
skip_most p [] (c ∷ cs) e = let s = skipped p (c ∷ cs) in omega (arith, ap length s.cut, length-append s.prefix (skip p (c ∷ cs)))
skip_most p (d ∷ ds) x e = rw e.0 (skip_most p ds x e.1)
