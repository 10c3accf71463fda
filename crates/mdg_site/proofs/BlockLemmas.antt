-- Blocks one after another.
use Rattle.std.proofs.Common.{◌≡◌, ℕ, zero, suc, ◌+◌, ◌*◌, ◌-◌, ◌<◌, ◌≤◌, ◌^◌, Bool, true, false, cond, ltb, ltb-true, List, [], ◌∷◌, ◌++◌, length, get_or, Option, refl, sym, ◌∙◌, ap, subst, ⊎_elim, arith, ◌⊎◌, inl, inr}
use Rattle.std.specs.declared.option.Option.TheVariants.{Some, None}
use Rattle.std.specs.Prelude.{nat_lt}
use Rattle.std.proofs.lemmas.List.{get_or_append_left, get_or_push, length_push}
use Rattle.mdg_site.specs.Blocks.{sum_below, slot, slot_at, below, shift, grid}
use Rattle.mdg_site.specs.Tables.{IsTable}

pub sum_more : (f : ℕ → ℕ) (i : ℕ) → sum_below f (i + 1) ≡ sum_below f i + f i
sum_more f i = rw (let e : i + 1 ≡ suc i = omega arith in e) refl

pub sum_le : (f : ℕ → ℕ) (i n : ℕ) → i ≤ n → sum_below f i ≤ sum_below f n
sum_le f i zero h = let e : i ≡ 0 = omega arith in subst (λ (x : ℕ). sum_below f x ≤ 0) (sym e) (omega arith)
sum_le f i (suc n) h = ⊎_elim (λ q. let r = sum_le f i n q in omega arith) (λ q. subst (λ (x : ℕ). sum_below f x ≤ sum_below f (suc n)) (sym q) (omega arith)) (split i n h)
  where
    split : (a b : ℕ) → a ≤ suc b → (a ≤ b) ⊎ (a ≡ suc b)
    split a b q = grind arith

-- a thing of a block below n stands below the end of n blocks
pub sum_lt : (f : ℕ → ℕ) (i n x : ℕ) → i < n → x < f i → sum_below f i + x < sum_below f n
sum_lt f i n x h k = let a = sum_le f (i + 1) n (omega arith) in let b = sum_more f i in omega arith

pub end_fits : (f : ℕ → ℕ) (i m n b : ℕ) → m ≡ n → i < m → sum_below f n < b → sum_below f i + f i < b
end_fits f i m n b e h k = let a = sum_le f (i + 1) n (omega arith) in let m = sum_more f i in omega arith

-- two functions that agree below n have one sum
pub sum_same : (f g : ℕ → ℕ) (n : ℕ) → ((i : ℕ) → i < n → f i ≡ g i) → sum_below f n ≡ sum_below g n
sum_same f g zero h = refl
sum_same f g (suc n) h = let a = sum_same f g n (λ i k. h i (omega (arith, k))) in let b = h n (omega arith) in omega arith

pub cond_some : (b : Bool) (x r : ℕ) → cond b (Some x) None ≡ Some r → (b ≡ true) × (x ≡ r)
cond_some true x r e = (refl, cc)
cond_some false x r e = absurd cc

pub slot_some : (f : ℕ → ℕ) (i x r : ℕ) → slot f i x ≡ Some r → (x < f i) × (r ≡ sum_below f i + x)
slot_some f i x r e = let p = cond_some (nat_lt x (f i)) (sum_below f i + x) r e in (ltb-true x (f i) p.0, sym p.1)

pub slot_there : (f : ℕ → ℕ) (i x : ℕ) → x < f i → slot f i x ≡ Some (sum_below f i + x)
slot_there f i x h = grind arith

-- one more sum at the end
pub sums_push : (f : ℕ → ℕ) (xs ys : List ℕ) (n e : ℕ) → ys ≡ xs ++ e ∷ [] → length xs ≡ n + 1 → ((i : ℕ) → i ≤ n → get_or xs i 0 ≡ sum_below f i) → e ≡ sum_below f (n + 1) → (i : ℕ) → i ≤ n + 1 → get_or ys i 0 ≡ sum_below f i
sums_push f xs ys n e is len sums end i h = subst (λ (zs : List ℕ). get_or zs i 0 ≡ sum_below f i) (sym is) (⊎_elim
    (λ q. get_or_append_left xs (e ∷ []) 0 i (omega arith) ∙ sums i q)
    (λ q. get_or_push xs e 0 i (len ∙ sym q) ∙ end ∙ ap (sum_below f) (sym q))
    (split i n h))
  where
    split : (a b : ℕ) → a ≤ b + 1 → (a ≤ b) ⊎ (a ≡ b + 1)
    split a b q = grind arith

pub length_more : (xs ys : List ℕ) (n e : ℕ) → ys ≡ xs ++ e ∷ [] → length xs ≡ n → length ys ≡ n + 1
length_more xs ys n e is len = ap length is ∙ length_push xs e ∙ ap (λ (z : ℕ). z + 1) len
