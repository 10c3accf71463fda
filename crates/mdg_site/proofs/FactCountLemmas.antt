-- A larger set has more facts.
use Rattle.std.proofs.Common.{◌≡◌, ℕ, zero, suc, ◌+◌, ◌*◌, ◌<◌, ◌≤◌, Bool, true, false, ◌⊎◌, refl, sym, ◌∙◌, subst, ap, inl, inr, ⊎_elim, arith, mul-le-mul_right}
use Rattle.mdg_site.specs.Facts.{NumberSet, Has, Within, Same}
use Rattle.mdg_site.specs.FactCount.{count_row, count}
use Rattle.mdg_site.specs.Shapes.{one_if}

one_le : (a b : Bool) → (a ≡ true → b ≡ true) → one_if a ≤ one_if b
one_le true b f = subst (λ (x : Bool). 1 ≤ one_if x) (sym (f refl)) (omega arith)
one_le false true f = omega arith
one_le false false f = omega arith

row_le : (F G : NumberSet) → Within F G → (r n : ℕ) → count_row F r n ≤ count_row G r n
row_le F G w r zero = omega arith
row_le F G w r (suc n) = omega (arith, row_le F G w r n, one_le (F r n) (G r n) (w r n))

pub count_le : (F G : NumberSet) → Within F G → (r n : ℕ) → count F r n ≤ count G r n
count_le F G w zero n = omega arith
count_le F G w (suc r) n = omega (arith, count_le F G w r n, row_le F G w r n)

one_lt : (a b : Bool) → a ≡ false → b ≡ true → one_if a < one_if b
one_lt a b e f = subst (λ (x : Bool). one_if x < one_if b) (sym e) (subst (λ (x : Bool). 0 < one_if x) (sym f) (omega arith))

row_lt : (F G : NumberSet) → Within F G → (r k : ℕ) → F r k ≡ false → Has G r k → (n : ℕ) → k < n → (k ≡ n) ⊎ (k < n) → count_row F r n < count_row G r n
row_lt F G w r k e f zero h c = absurd (omega arith)
row_lt F G w r k e f (suc n) h c = here n (split k n (omega arith)) h
  where
    split : (x y : ℕ) → x < suc y → (x ≡ y) ⊎ (x < y)
    split x y q = grind arith

    here : (m : ℕ) → (k ≡ m) ⊎ (k < m) → k < suc m → count_row F r (suc m) < count_row G r (suc m)
    here m (inl q) u = let x : one_if (F r m) < one_if (G r m) = subst (λ (z : ℕ). one_if (F r z) < one_if (G r z)) q (one_lt (F r k) (G r k) e f) in omega (arith, row_le F G w r m)
    here zero (inr q) u = absurd (omega arith)
    here (suc m) (inr q) u = omega (arith, here m (split k m (omega arith)) (omega arith), one_le (F r (suc m)) (G r (suc m)) (w r (suc m)))

pub count_lt : (F G : NumberSet) → Within F G → (s k : ℕ) → F s k ≡ false → Has G s k → (r n : ℕ) → s < r → k < n → count F r n < count G r n
count_lt F G w s k e f zero n h i = absurd (omega arith)
count_lt F G w s k e f (suc r) n h i = go (λ q. count_lt F G w s k e f r n q i) (split s r (omega arith))
  where
    split : (x y : ℕ) → x < suc y → (x ≡ y) ⊎ (x < y)
    split x y q = grind arith

    go : (s < r → count F r n < count G r n) → (s ≡ r) ⊎ (s < r) → count F (suc r) n < count G (suc r) n
    go rec (inl q) = let x : count_row F r n < count_row G r n = subst (λ (z : ℕ). count_row F z n < count_row G z n) q (row_lt F G w s k e f n i (inr i)) in omega (arith, count_le F G w r n)
    go rec (inr q) = omega (arith, rec q, row_le F G w r n)

one_small : (a : Bool) → one_if a ≤ 1
one_small true = omega arith
one_small false = omega arith

row_bound : (F : NumberSet) (r n : ℕ) → count_row F r n ≤ n
row_bound F r zero = omega arith
row_bound F r (suc n) = omega (arith, row_bound F r n, one_small (F r n))

pub count_bound : (F : NumberSet) (r n : ℕ) → count F r n ≤ r * n
count_bound F zero n = omega arith
count_bound F (suc r) n = let a = count_bound F r n in let b = row_bound F r n in grind arith

row_same : (F G : NumberSet) → Same F G → (r n : ℕ) → count_row F r n ≡ count_row G r n
row_same F G e r zero = refl
row_same F G e r (suc n) = let a = row_same F G e r n in let b : one_if (F r n) ≡ one_if (G r n) = ap one_if (e r n) in omega arith

pub count_same : (F G : NumberSet) → Same F G → (r n : ℕ) → count F r n ≡ count G r n
count_same F G e zero n = refl
count_same F G e (suc r) n = let a = count_same F G e r n in let b = row_same F G e r n in omega arith
