-- What holds at each place, and of each two, of joined and of mapped lists.
use Rattle.std.proofs.Common.{◌≡◌, ℕ, zero, suc, ◌+◌, ◌-◌, ◌<◌, ◌≤◌, List, [], ◌∷◌, ◌++◌, length, get_or, map, sym, subst, arith, length-append, ⊎_elim}
use Rattle.std.specs.Prelude.{All}
use Rattle.std.specs.List.{AllPairs}
use Rattle.std.proofs.Math.ListN.{get_or-append}
use Rattle.std.proofs.Math.Seq.{get_or-append_right}
use Rattle.std.proofs.lemmas.Bool.{cases_lt}
use Rattle.std.proofs.lemmas.List.Elements.{All-append, All-head, All-map, All-tail}
use Rattle.std.proofs.lemmas.List.Kept.{AllPairs-cons}

-- P holds of each place and the element there, where the places are counted from a number on
abbrev pub EachFrom : {X : Type 0} → ℕ → (ℕ → X → Type 0) → List X → Type 0
EachFrom {X} n P xs = (i : ℕ) (d : X) → i < length xs → P (n + i) (get_or xs i d)

-- one element, and those after it
pub each_more : {X : Type 0} (n : ℕ) (P : ℕ → X → Type 0) (x : X) (xs : List X) → P n x → EachFrom (n + 1) P xs → EachFrom n P (x ∷ xs)
each_more n P x xs first rest zero d within = let e : n ≡ n + 0 = omega arith in subst (λ k. P k x) e first
each_more n P x xs first rest (suc i) d within = let e : n + 1 + i ≡ n + suc i = omega arith in subst (λ k. P k (get_or xs i d)) e (rest i d (omega arith))

-- the places of both lists
pub each_joined : {X : Type 0} (n : ℕ) (P : ℕ → X → Type 0) (xs ys : List X) → EachFrom n P xs → EachFrom (n + length xs) P ys → EachFrom n P (xs ++ ys)
each_joined {X} n P xs ys p q i d within = ⊎_elim before beyond (cases_lt i (length xs))
  where
    before : i < length xs → P (n + i) (get_or (xs ++ ys) i d)
    before h = subst (λ (x : X). P (n + i) x) (sym (get_or-append xs ys d i h)) (p i d h)

    beyond : length xs ≤ i → P (n + i) (get_or (xs ++ ys) i d)
    beyond h =
        let j : n + length xs + (i - length xs) ≡ n + i = omega arith in
        let k : i - length xs < length ys = omega (arith, length-append xs ys) in
        subst (λ (x : X). P (n + i) x) (sym (get_or-append_right xs ys i d h))
        (subst (λ k. P k (get_or ys (i - length xs) d)) j (q (i - length xs) d k))

-- the first is so to each later one
pairs_head : {X : Type 0} (R : X → X → Type 0) (x : X) (xs : List X) → AllPairs R (x ∷ xs) → All (R x) xs
pairs_head R x xs h k d within = h zero (suc k) d (omega arith) (omega arith)

-- and the later ones among each other
pairs_tail : {X : Type 0} (R : X → X → Type 0) (x : X) (xs : List X) → AllPairs R (x ∷ xs) → AllPairs R xs
pairs_tail R x xs h i j d lt within = h (suc i) (suc j) d (omega arith) (omega arith)

-- each two of both lists
pub pairs_joined : {X : Type 0} (R : X → X → Type 0) (xs ys : List X) → AllPairs R xs → AllPairs R ys → All (λ x. All (R x) ys) xs → AllPairs R (xs ++ ys)
pairs_joined R [] ys p q across = q
pairs_joined {X} R (x ∷ xs) ys p q across =
    AllPairs-cons R x (xs ++ ys)
    (All-append (R x) xs ys (pairs_head R x xs p) (All-head (λ (x : X). All (R x) ys) x xs across))
    (pairs_joined R xs ys (pairs_tail R x xs p) q (All-tail (λ (x : X). All (R x) ys) x xs across))

-- each two of the mapped elements
pub pairs_mapped : {X Y : Type 0} (R : Y → Y → Type 0) (f : X → Y) (xs : List X) → AllPairs (λ x y. R (f x) (f y)) xs → AllPairs R (map f xs)
pairs_mapped R f [] p = λ i j d lt within. absurd (omega arith)
pairs_mapped {X} R f (x ∷ xs) p =
    AllPairs-cons R (f x) (map f xs)
    (All-map (R (f x)) f xs (pairs_head (λ (x y : X). R (f x) (f y)) x xs p))
    (pairs_mapped R f xs (pairs_tail (λ (x y : X). R (f x) (f y)) x xs p))
