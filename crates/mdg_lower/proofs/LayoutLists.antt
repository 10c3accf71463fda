-- What holds at places of lists that are joined or mapped.
use Rattle.std.proofs.Common.{◌≡◌, ℕ, zero, suc, ◌+◌, List, [], ◌∷◌, ◌++◌, map, length, get_or, All, subst, arith}
use Rattle.mdg_code.specs.Places.{EachAt, HasAt}

-- what holds of all holds of the first
pub first_of : {X : Type 0} (P : X → Type 0) (x : X) (xs : List X) → All P (x ∷ xs) → P x
first_of P x xs all = all 0 x (omega arith)

-- and of the rest
pub rest_of : {X : Type 0} (P : X → Type 0) (x : X) (xs : List X) → All P (x ∷ xs) → All P xs
rest_of P x xs all k d within = all (suc k) d (omega (arith, within))

-- what follows of each holds of all
pub all_then : {X : Type 0} (P Q : X → Type 0) → ((x : X) → P x → Q x) → (xs : List X) → All P xs → All Q xs
all_then P Q then xs all k d within = then (get_or xs k d) (all k d within)

-- what stands at a place stands one place on after one more element
pub has_more : {X : Type 0} (P : X → Type 0) (x : X) (xs : List X) (i : ℕ) → HasAt P xs i → HasAt P (x ∷ xs) (suc i)
has_more P x xs i has = (omega (arith, has.0), λ d. has.1 d)

-- what stands at a place stands there under more elements
pub has_left : {X : Type 0} (P : X → Type 0) (xs ys : List X) (i : ℕ) → HasAt P xs i → HasAt P (xs ++ ys) i
has_left P [] ys i has = absurd (omega (arith, has.0))
has_left P (x ∷ xs) ys zero has = (omega arith, λ d. has.1 d)
has_left P (x ∷ xs) ys (suc i) has =
    let rest : HasAt P (xs ++ ys) i = has_left P xs ys i (omega (arith, has.0), λ d. has.1 d) in
    (omega (arith, rest.0), λ d. rest.1 d)

-- what stands at a place stands so many places on after others
pub has_right : {X : Type 0} (P : X → Type 0) (xs ys : List X) (i : ℕ) → HasAt P ys i → HasAt P (xs ++ ys) (length xs + i)
has_right P [] ys i has = subst (HasAt P ys) (omega arith) has
has_right P (x ∷ xs) ys i has =
    let rest : HasAt P (xs ++ ys) (length xs + i) = has_right P xs ys i has in
    let next : suc (length xs + i) ≡ length (x ∷ xs) + i = omega arith in
    subst (HasAt P (x ∷ (xs ++ ys))) next (omega (arith, rest.0), λ d. rest.1 d)

-- the last element stands after the others
pub has_seam : {X : Type 0} (P : X → Type 0) (xs : List X) (y : X) → P y → HasAt P (xs ++ y ∷ []) (length xs)
has_seam P xs y p = subst (HasAt P (xs ++ y ∷ [])) (omega arith) (has_right P xs (y ∷ []) 0 (omega arith, λ d. p))

-- what follows of an element holds at its place
pub has_then : {X : Type 0} (P Q : X → Type 0) → ((x : X) → P x → Q x) → (xs : List X) (i : ℕ) → HasAt P xs i → HasAt Q xs i
has_then P Q then xs i has = (has.0, λ d. then (get_or xs i d) (has.1 d))

-- what holds of all holds beside it
pub has_both : {X : Type 0} (P Q : X → Type 0) (xs : List X) (i : ℕ) → HasAt P xs i → All Q xs → HasAt (λ x. P x × Q x) xs i
has_both P Q xs i has all = (has.0, λ d. (has.1 d, all i d has.0))

-- what stands at a place of a list stands there in the mapped list
pub has_map : {X Y : Type 0} (f : X → Y) (P : Y → Type 0) (xs : List X) (i : ℕ) → HasAt (λ x. P (f x)) xs i → HasAt P (map f xs) i
has_map f P [] i has = absurd (omega (arith, has.0))
has_map f P (x ∷ xs) zero has = (omega arith, λ d. has.1 x)
has_map f P (x ∷ xs) (suc i) has =
    let rest : HasAt P (map f xs) i = has_map f P xs i (omega (arith, has.0), λ d. has.1 d) in
    (omega (arith, rest.0), λ d. rest.1 d)

-- what stands at a place of a mapped list is made of what stands there
pub map_has : {X Y : Type 0} (f : X → Y) (P : Y → Type 0) (xs : List X) (i : ℕ) → HasAt P (map f xs) i → HasAt (λ x. P (f x)) xs i
map_has f P [] i has = absurd (omega (arith, has.0))
map_has f P (x ∷ xs) zero has = (omega arith, λ d. has.1 (f x))
map_has f P (x ∷ xs) (suc i) has =
    let rest : HasAt (λ y. P (f y)) xs i = map_has f P xs i (omega (arith, has.0), λ d. has.1 d) in
    (omega (arith, rest.0), λ d. rest.1 d)

-- one element more before those of which it holds at each place
each_cons : {X : Type 0} (P : ℕ → X → Type 0) (x : X) (xs : List X) → P 0 x → EachAt (λ i y. P (suc i) y) xs → EachAt P (x ∷ xs)
each_cons P x xs p each zero d within = p
each_cons P x xs p each (suc i) d within = each i d (omega (arith, within))

-- what holds at each place of both lists holds of the joined one
pub each_append : {X : Type 0} (P : ℕ → X → Type 0) (xs ys : List X) → EachAt P xs → EachAt (λ j y. P (length xs + j) y) ys → EachAt P (xs ++ ys)
each_append P [] ys before beyond = λ j d within. subst (λ k. P k (get_or ys j d)) (omega arith) (beyond j d within)
each_append P (x ∷ xs) ys before beyond =
    each_cons P x (xs ++ ys) (before 0 x (omega arith))
    (each_append (λ i y. P (suc i) y) xs ys (λ i d within. before (suc i) d (omega (arith, within)))
    (λ j d within. let next : length (x ∷ xs) + j ≡ suc (length xs + j) = omega arith in subst (λ k. P k (get_or ys j d)) next (beyond j d within)))

-- what follows at each place holds at each
pub each_then : {X : Type 0} (P Q : ℕ → X → Type 0) → ((i : ℕ) (x : X) → P i x → Q i x) → (xs : List X) → EachAt P xs → EachAt Q xs
each_then P Q then xs each i d within = then i (get_or xs i d) (each i d within)

-- what holds at each place of a list holds of the mapped list
pub each_map : {X Y : Type 0} (f : X → Y) (P : ℕ → Y → Type 0) (xs : List X) → EachAt (λ i x. P i (f x)) xs → EachAt P (map f xs)
each_map f P [] each = λ i d within. absurd (omega (arith, within))
each_map f P (x ∷ xs) each =
    each_cons P (f x) (map f xs) (each 0 x (omega arith)) (each_map f (λ k y. P (suc k) y) xs (λ k e inside. each (suc k) e (omega (arith, inside))))
