-- One more line is resolved.
use Rattle.std.proofs.Common.{◌≡◌, ℕ, zero, suc, ◌+◌, ◌<◌, List, [], ◌∷◌, ◌++◌, length, get_or, take, drop, refl, ap, arith, add-one}
use Rattle.std.specs.Prelude.{map, slice_set}

resolved_suc : {A : Type 0} (f : A → A) (xs : List A) (i : ℕ) (d : A) → i < length xs
    → slice_set (map f (take i xs) ++ drop i xs) i (f (get_or (map f (take i xs) ++ drop i xs) i d)) ≡ map f (take (suc i) xs) ++ drop (suc i) xs
resolved_suc f [] i d h = absurd (omega arith)
resolved_suc f (x ∷ xs) zero d h = refl
resolved_suc f (x ∷ xs) (suc i) d h = ap (λ l. f x ∷ l) (resolved_suc f xs i d (omega arith))

pub one_resolved : {A : Type 0} (f : A → A) (xs : List A) (i : ℕ) (d : A) → i < length xs
    → slice_set (map f (take i xs) ++ drop i xs) i (f (get_or (map f (take i xs) ++ drop i xs) i d)) ≡ map f (take (i + 1) xs) ++ drop (i + 1) xs
one_resolved f xs i d h = rw add-one (resolved_suc f xs i d h)
