-- A set whose facts are each in F or given by F extends F.
use Rattle.std.proofs.Common.{◌≡◌, ℕ, zero, suc, ◌<◌, Bool, true, false, not, ◌&&◌, List, [], ◌∷◌, ◌⊎◌, refl, sym, ◌∙◌, subst, ap, inl, inr, ⊎_elim, arith}
use Rattle.mdg_site.specs.Laid.{Laid}
use Rattle.mdg_site.specs.Facts.{NumberSet, Has, Within, Same}
use Rattle.mdg_site.specs.Graph.{along, DerivesFrom, Extends, GivesNumbers}
use Rattle.mdg_site.proofs.SetLemmas.{along_cases, along_head, along_rest, along_base, same_sets, and_both}
use Rattle.mdg_site.proofs.RuleLemmas.{given_grows}

abbrev push : Bool → ℕ × ℕ → List (ℕ × ℕ) → List (ℕ × ℕ)
push true f fs = f ∷ fs
push false f fs = fs

-- the facts of G among the first nodes of a row that F lacks
abbrev row_onto : NumberSet → NumberSet → ℕ → ℕ → List (ℕ × ℕ) → List (ℕ × ℕ)
row_onto F G r zero fs = fs
row_onto F G r (suc n) fs = push (G r n && not (F r n)) (r, n) (row_onto F G r n fs)

abbrev all_onto : NumberSet → NumberSet → ℕ → ℕ → List (ℕ × ℕ)
all_onto F G zero n = []
all_onto F G (suc r) n = row_onto F G r n (all_onto F G r n)

not-true : (b : Bool) → not b ≡ true → b ≡ false
not-true true e = sym e
not-true false e = refl

module _ (l : Laid) (F G : NumberSet) (given : (r n : ℕ) → Has G r n → F r n ≡ false → GivesNumbers l F r n) where
  push_derives : (b : Bool) (r n : ℕ) → (b ≡ true → Has G r n × (F r n ≡ false)) → (fs : List (ℕ × ℕ)) → DerivesFrom l F fs → DerivesFrom l F (push b (r, n) fs)
  push_derives true r n h fs d = let p = h refl in (given_grows l F (along F fs) (along_base F fs) r n (given r n p.0 p.1), d)
  push_derives false r n h fs d = d

  tested : (r n : ℕ) → G r n && not (F r n) ≡ true → Has G r n × (F r n ≡ false)
  tested r n e = let p = and_both (G r n) (not (F r n)) e in (p.0, not-true (F r n) p.1)

  row_derives : (r n : ℕ) (fs : List (ℕ × ℕ)) → DerivesFrom l F fs → DerivesFrom l F (row_onto F G r n fs)
  row_derives r zero fs d = d
  row_derives r (suc n) fs d = push_derives (G r n && not (F r n)) r n (tested r n) (row_onto F G r n fs) (row_derives r n fs d)

  all_derives : (r n : ℕ) → DerivesFrom l F (all_onto F G r n)
  all_derives zero n = tt
  all_derives (suc r) n = row_derives r n (all_onto F G r n) (all_derives r n)

module _ (F G : NumberSet) (within : Within F G) where
  push_sound : (b : Bool) (r n : ℕ) → (b ≡ true → Has G r n) → (fs : List (ℕ × ℕ)) → Within (along F fs) G → Within (along F (push b (r, n) fs)) G
  push_sound true r n h fs w q m e = ⊎_elim (λ p. subst (λ (x : ℕ). Has G x m) (sym p.0) (subst (λ (x : ℕ). Has G r x) (sym p.1) (h refl))) (λ p. w q m p) (along_cases F (r, n) fs q m e)
  push_sound false r n h fs w q m e = w q m e

  row_sound : (r n : ℕ) (fs : List (ℕ × ℕ)) → Within (along F fs) G → Within (along F (row_onto F G r n fs)) G
  row_sound r zero fs w q m e = w q m e
  row_sound r (suc n) fs w q m e = push_sound (G r n && not (F r n)) r n (λ p. (and_both (G r n) (not (F r n)) p).0) (row_onto F G r n fs) (row_sound r n fs w) q m e

  all_sound : (r n : ℕ) → Within (along F (all_onto F G r n)) G
  all_sound zero n q m e = within q m e
  all_sound (suc r) n q m e = row_sound r n (all_onto F G r n) (all_sound r n) q m e

push_keeps : (F : NumberSet) (b : Bool) (f : ℕ × ℕ) (fs : List (ℕ × ℕ)) → Within (along F fs) (along F (push b f fs))
push_keeps F true f fs q m e = along_rest F f fs q m e
push_keeps F false f fs q m e = e

row_keeps : (F G : NumberSet) (r n : ℕ) (fs : List (ℕ × ℕ)) → Within (along F fs) (along F (row_onto F G r n fs))
row_keeps F G r zero fs q m e = e
row_keeps F G r (suc n) fs q m e = push_keeps F (G r n && not (F r n)) (r, n) (row_onto F G r n fs) q m (row_keeps F G r n fs q m e)

-- a fact of G is pushed, or F has it
push_has : (F : NumberSet) (a b : Bool) (r n : ℕ) (fs : List (ℕ × ℕ)) → b ≡ true → F r n ≡ a → Has (along F (push (b && not a) (r, n) fs)) r n
push_has F true true r n fs e q = along_base F fs r n q
push_has F false true r n fs e q = along_head F (r, n) fs
push_has F a false r n fs e q = absurd (no e)
  where
    no : false ≡ true → ⊥
    no x = grind arith

split : (x y : ℕ) → x < suc y → (x ≡ y) ⊎ (x < y)
split x y q = grind arith

row_has : (F G : NumberSet) (r k : ℕ) → Has G r k → (n : ℕ) (fs : List (ℕ × ℕ)) → k < n → Has (along F (row_onto F G r n fs)) r k
row_has F G r k h zero fs i = absurd (omega arith)
row_has F G r k h (suc n) fs i = ⊎_elim
    (λ q. subst (λ (x : ℕ). Has (along F (push (G r n && not (F r n)) (r, n) (row_onto F G r n fs))) r x) (sym q) (push_has F (F r n) (G r n) r n (row_onto F G r n fs) (subst (λ (x : ℕ). Has G r x) q h) refl))
    (λ q. push_keeps F (G r n && not (F r n)) (r, n) (row_onto F G r n fs) r k (row_has F G r k h n fs q))
    (split k n (omega arith))

all_has : (F G : NumberSet) (s k : ℕ) → Has G s k → (r n : ℕ) → s < r → k < n → Has (along F (all_onto F G r n)) s k
all_has F G s k h zero n i j = absurd (omega arith)
all_has F G s k h (suc r) n i j = ⊎_elim
    (λ q. subst (λ (x : ℕ). Has (along F (row_onto F G x n (all_onto F G x n))) s k) q (row_has F G s k h n (all_onto F G s n) j))
    (λ q. row_keeps F G r n (all_onto F G r n) s k (all_has F G s k h r n q j))
    (split s r (omega arith))

-- where each fact of G is one of F or is given by F, and G is finite, G extends F
pub extends_all : (l : Laid) (F G : NumberSet) (rows nodes : ℕ) → Within F G → ((r n : ℕ) → Has G r n → F r n ≡ false → GivesNumbers l F r n) → ((r n : ℕ) → Has G r n → (r < rows) × (n < nodes)) → Extends l F G
extends_all l F G rows nodes w given ranged = record {
  steps = all_onto F G rows nodes;
  derived = all_derives l F G given rows nodes;
  exact = same_sets (along F (all_onto F G rows nodes)) G (all_sound F G w rows nodes) (λ r n h. let p = ranged r n h in all_has F G r n h rows nodes p.0 p.1);
}
