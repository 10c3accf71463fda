-- What gathered lists contain.
use Rattle.std.proofs.Common.{◌≡◌, ◌⊎◌, ◌↔◌, List, [], ◌∷◌, ◌++◌, ℕ, ◌+◌, ◌<◌, ◌≤◌, length, map, sym, ◌∙◌, ap, subst, arith, refl, inl, inr, ⊎_elim}
use Rattle.std.specs.Prelude.{Contains, slice_get, Option, Some, None}
use Rattle.std.specs.List.{cons_option, filter_map}
use Rattle.std.proofs.lemmas.List.Elements.{Contains-append_left, Contains-append_right, Contains-append_cases, Contains-push, Contains-push_cases}
use Rattle.std.proofs.lemmas.Option.{slice_get_within, slice_get-get_or, get_or_from_slice_get}
use Rattle.mdg_scan.specs.Finding.{Adds, Before, Somewhere}

pub Contains-none : {X : Type 0} (x : X) → Contains [] x → ⊥
Contains-none x there = absurd (omega (arith, there.1))

pub Contains-one : {X : Type 0} (y x : X) → Contains (y ∷ []) x → y ≡ x
Contains-one y x there = ⊎_elim (λ none. absurd (Contains-none x none)) (λ is. is) (Contains-push_cases [] y x there)

pub Contains-first : {X : Type 0} (x : X) (xs : List X) → Contains (x ∷ xs) x
Contains-first x xs = Contains-append_left (x ∷ []) xs x (Contains-push [] x)

pub Contains-later : {X : Type 0} (y : X) (xs : List X) (x : X) → Contains xs x → Contains (y ∷ xs) x
Contains-later y xs x there = Contains-append_right (y ∷ []) xs x there

pub Contains-cases : {X : Type 0} (y : X) (xs : List X) (x : X) → Contains (y ∷ xs) x → (y ≡ x) ⊎ Contains xs x
Contains-cases y xs x there = ⊎_elim (λ first. inl (Contains-one y x first)) (λ later. inr later) (Contains-append_cases (y ∷ []) xs x there)

-- what `filter_map` keeps comes from an item
FromItem : {X Y : Type 0} → (X → Option Y) → List X → Y → Type 0
FromItem {X} {Y} h xs y = (x : X) × Contains xs x × (h x ≡ Some y)

from_first : {X Y : Type 0} (h : X → Option Y) (x : X) (xs : List X) (y : Y) → (Contains (filter_map h xs) y → (z : X) × Contains xs z × (h z ≡ Some y)) → (o : Option Y) → h x ≡ o → Contains (cons_option o (filter_map h xs)) y → (z : X) × Contains (x ∷ xs) z × (h z ≡ Some y)
from_first h x xs y later None is there = let r = later there in (r.0, Contains-later x xs r.0 r.1, r.2)
from_first h x xs y later (Some w) is there =
    ⊎_elim (λ first. (x, Contains-first x xs, is ∙ ap Some first)) (λ rest. let r = later rest in (r.0, Contains-later x xs r.0 r.1, r.2)) (Contains-cases w (filter_map h xs) y there)

pub filter_map-from : {X Y : Type 0} (h : X → Option Y) (xs : List X) (y : Y) → Contains (filter_map h xs) y → (x : X) × Contains xs x × (h x ≡ Some y)
filter_map-from h [] y there = absurd (Contains-none y there)
filter_map-from h (x ∷ xs) y there = from_first h x xs y (filter_map-from h xs y) (h x) refl there

to_first : {X Y : Type 0} (h : X → Option Y) (x : X) (xs : List X) (y : Y) → h x ≡ Some y → Contains (cons_option (h x) (filter_map h xs)) y
to_first {X} {Y} h x xs y is = let P : Option Y → Type 0 = λ o. Contains (cons_option o (filter_map h xs)) y in subst P (sym is) (Contains-first y (filter_map h xs))

to_later : {Y : Type 0} (o : Option Y) (ys : List Y) (y : Y) → Contains ys y → Contains (cons_option o ys) y
to_later None ys y there = there
to_later (Some w) ys y there = Contains-later w ys y there

pub filter_map-to : {X Y : Type 0} (h : X → Option Y) (xs : List X) (x : X) (y : Y) → Contains xs x → h x ≡ Some y → Contains (filter_map h xs) y
filter_map-to h [] x y there is = absurd (Contains-none x there)
filter_map-to {X} h (z ∷ xs) x y there is =
    ⊎_elim (λ first. let P : X → Type 0 = λ w. h w ≡ Some y in to_first h z xs y (subst P (sym first) is)) (λ later. to_later (h z) (filter_map h xs) y (filter_map-to h xs x y later is)) (Contains-cases z xs x there)

pub map-from : {X Y : Type 0} (h : X → Y) (xs : List X) (y : Y) → Contains (map h xs) y → (x : X) × Contains xs x × (h x ≡ y)
map-from h [] y there = absurd (Contains-none y there)
map-from h (x ∷ xs) y there =
    ⊎_elim (λ first. (x, Contains-first x xs, first)) (λ later. let r = map-from h xs y later in (r.0, Contains-later x xs r.0 r.1, r.2)) (Contains-cases (h x) (map h xs) y there)

pub map-to : {X Y : Type 0} (h : X → Y) (xs : List X) (x : X) → Contains xs x → Contains (map h xs) (h x)
map-to h [] x there = absurd (Contains-none x there)
map-to {X} {Y} h (z ∷ xs) x there =
    ⊎_elim (λ first. let P : X → Type 0 = λ w. Contains (map h (z ∷ xs)) (h w) in subst P first (Contains-first (h z) (map h xs))) (λ later. Contains-later (h z) (map h xs) (h x) (map-to h xs x later)) (Contains-cases z xs x there)

-- nothing is added
pub Adds-nothing : {X : Type 0} (P : X → Type 0) (old new : List X) → ((x : X) → P x → ⊥) → new ≡ old → Adds P old new
unfolding Adds
Adds-nothing {X} P old new none is = λ x.
    let Q : List X → Type 0 = λ xs. Contains xs x ↔ (Contains old x ⊎ P x) in
    subst Q (sym is) (λ there. inl there, λ some. ⊎_elim (λ there. there) (λ p. absurd (none x p)) some)

-- these items are added
pub Adds-items : {X : Type 0} (P : X → Type 0) (old items new : List X) → ((x : X) → Contains items x ↔ P x) → new ≡ old ++ items → Adds P old new
unfolding Adds
Adds-items {X} P old items new exact is = λ x.
    let Q : List X → Type 0 = λ xs. Contains xs x ↔ (Contains old x ⊎ P x) in
    subst Q (sym is) (
      λ there. ⊎_elim (λ before. inl before) (λ added. inr ((exact x).0 added)) (Contains-append_cases old items x there),
      λ some. ⊎_elim (λ before. Contains-append_left old items x before) (λ p. Contains-append_right old items x ((exact x).1 p)) some,
    )

-- the same is added under another name
pub Adds-as : {X : Type 0} (P Q : X → Type 0) (old new : List X) → ((x : X) → P x ↔ Q x) → Adds P old new → Adds Q old new
unfolding Adds
Adds-as P Q old new same adds = λ x. (
  λ there. ⊎_elim (λ before. inl before) (λ p. inr ((same x).0 p)) ((adds x).0 there),
  λ some. (adds x).1 (⊎_elim (λ before. inl before) (λ q. inr ((same x).1 q)) some),
)

-- one thing after the other
pub Adds-then : {X : Type 0} (P Q R : X → Type 0) (old mid new : List X) → ((x : X) → R x ↔ (P x ⊎ Q x)) → Adds P old mid → Adds Q mid new → Adds R old new
unfolding Adds
Adds-then P Q R old mid new either first last = λ x. (
  λ there. ⊎_elim (λ m. ⊎_elim (λ o. inl o) (λ p. inr ((either x).1 (inl p))) ((first x).0 m)) (λ q. inr ((either x).1 (inr q))) ((last x).0 there),
  λ some. ⊎_elim (λ o. (last x).1 (inl ((first x).1 (inl o)))) (λ r. ⊎_elim (λ p. (last x).1 (inl ((first x).1 (inr p)))) (λ q. (last x).1 (inr q)) ((either x).0 r)) some,
)

pub some_is : {X : Type 0} (a b : X) → Some a ≡ Some b → a ≡ b
some_is a b is = cc

-- a loop over items: at its start, at each turn, at its end
pub Before-none : {X Y : Type 0} (P : ℕ → Y → X → Type 0) (ys : List Y) (old new : List X) → new ≡ old → Adds (Before P ys 0) old new
Before-none P ys old new is = Adds-nothing (Before P ys 0) old new (λ x before. absurd (omega (arith, before.2))) is

more_cases : {X Y : Type 0} (P : ℕ → Y → X → Type 0) (ys : List Y) (i : ℕ) (y : Y) → slice_get ys i ≡ Some y → (x : X) → Before P ys (i + 1) x ↔ (Before P ys i x ⊎ P i y x)
more_cases {X} {Y} P ys i y is x = (split, join)
  where
    here : (k : ℕ) (z : Y) → slice_get ys k ≡ Some z → P k z x → k ≡ i → P i y x
    here k z at p same =
        let Q : ℕ → Type 0 = λ n. slice_get ys n ≡ Some z in
        let R : ℕ → Type 0 = λ n. P n z x in
        let S : Y → Type 0 = λ w. P i w x in
        subst S (some_is z y (sym (subst Q same at) ∙ is)) (subst R same p)

    split : Before P ys (i + 1) x → Before P ys i x ⊎ P i y x
    split before = ⊎_elim (λ below. inl (before.0, before.1, below, before.3, before.4)) (λ same. inr (here before.0 before.1 before.3 before.4 same)) (let s : (before.0 < i) ⊎ (before.0 ≡ i) = grind (arith, before.2) in s)

    join : Before P ys i x ⊎ P i y x → Before P ys (i + 1) x
    join some = ⊎_elim (λ before. (before.0, before.1, omega (arith, before.2), before.3, before.4)) (λ p. (i, y, omega arith, is, p)) some

pub Before-more : {X Y : Type 0} (P : ℕ → Y → X → Type 0) (ys : List Y) (i : ℕ) (y : Y) (old mid new : List X) → slice_get ys i ≡ Some y → Adds (Before P ys i) old mid → Adds (P i y) mid new → Adds (Before P ys (i + 1)) old new
Before-more P ys i y old mid new is first last = Adds-then (Before P ys i) (P i y) (Before P ys (i + 1)) old mid new (more_cases P ys i y is) first last

pub Before-all : {X Y : Type 0} (P : ℕ → Y → X → Type 0) (ys : List Y) (i : ℕ) (old new : List X) → length ys ≤ i → Adds (Before P ys i) old new → Adds (Somewhere P ys) old new
Before-all P ys i old new all adds = Adds-as (Before P ys i) (Somewhere P ys) old new
    (λ x. (λ before. (before.0, before.1, before.3, before.4), λ some. (some.0, some.1, omega (arith, slice_get_within ys some.0 some.1 some.2, all), some.2, some.3))) adds

-- an item that stands at a place is contained, and the other way round
pub Contains-from_get : {X : Type 0} (xs : List X) (k : ℕ) (x : X) → slice_get xs k ≡ Some x → Contains xs x
Contains-from_get xs k x is = (k, slice_get_within xs k x is, get_or_from_slice_get xs k x x is)

pub get_from_Contains : {X : Type 0} (xs : List X) (x : X) → Contains xs x → (k : ℕ) × (slice_get xs k ≡ Some x)
get_from_Contains xs x there = (there.0, slice_get-get_or xs there.0 x there.1 ∙ ap Some there.2)
