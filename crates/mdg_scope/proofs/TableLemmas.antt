-- Scopes of names, seen through their keys.
use Rattle.std.proofs.Common.{◌≡◌, Bool, true, false, if◌then◌else◌, ◌||◌, List, [], ◌∷◌, ◌++◌, map, refl, sym, ap, ◌∙◌, not, cond, ◌+◌, length, nat_lt, Some, None}
use Rattle.std.proofs.lemmas.List.{length-map}
use Rattle.std.specs.List.{list_any, position, position_or_len, prefix_len}

-- a test of mapped items
pub any_mapped : {A B : Type 0} (f : A → B) (p : B → Bool) (xs : List A) → list_any p (map f xs) ≡ list_any (λ x. p (f x)) xs
any_mapped f p [] = refl
any_mapped f p (x ∷ xs) = ap (λ b. p (f x) || b) (any_mapped f p xs)

-- one more mapped item
pub mapped_behind : {A B : Type 0} (f : A → B) (xs : List A) (x : A) → map f (xs ++ x ∷ []) ≡ map f xs ++ f x ∷ []
mapped_behind f [] x = refl
mapped_behind f (y ∷ ys) x = ap (λ l. f y ∷ l) (mapped_behind f ys x)

-- the item goes after the others where the test says so, also after a map
pub mapped_choice : {A B : Type 0} (f : A → B) (b c : Bool) (xs : List A) (x : A) → c ≡ b
    → map f (if b then xs else xs ++ x ∷ []) ≡ (if c then map f xs else map f xs ++ f x ∷ [])
mapped_choice f true c xs x e = ap (λ w. if w then map f xs else map f xs ++ f x ∷ []) (sym e)
mapped_choice f false c xs x e = mapped_behind f xs x ∙ ap (λ w. if w then map f xs else map f xs ++ f x ∷ []) (sym e)

prefix_mapped : {A B : Type 0} (f : A → B) (p : B → Bool) (xs : List A) → prefix_len p (map f xs) ≡ prefix_len (λ x. p (f x)) xs
prefix_mapped f p [] = refl
prefix_mapped f p (x ∷ xs) = ap (λ n. cond (p (f x)) (1 + n) 0) (prefix_mapped f p xs)

-- the first of mapped items that passes
pub position_mapped : {A B : Type 0} (f : A → B) (p : B → Bool) (xs : List A) → position p (map f xs) ≡ position (λ x. p (f x)) xs
position_mapped f p xs =
    ap (λ n. cond (nat_lt n (length (map f xs))) (Some n) None) (prefix_mapped f (λ y. not (p y)) xs)
    ∙ ap (λ l. cond (nat_lt (position_or_len (λ x. p (f x)) xs) l) (Some (position_or_len (λ x. p (f x)) xs)) None) (length-map xs f)
