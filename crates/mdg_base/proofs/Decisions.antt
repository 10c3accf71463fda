-- What a test that is true or false tells of its parts.
use Rattle.std.proofs.Common.{◌≡◌, Bool, true, false, cond, not, ◌&&◌, ◌||◌, ◌⊎◌, inl, inr, refl}
use Rattle.std.specs.Prelude.{Option, Some, None}

pub decided : (b : Bool) → (b ≡ true) ⊎ (b ≡ false)
decided true = inl refl
decided false = inr refl

pub both_true : (a b : Bool) → (a && b) ≡ true → (a ≡ true) × (b ≡ true)
both_true true b e = (refl, e)
both_true false b e = absurd cc

pub either_true : (a b : Bool) → (a || b) ≡ true → (a ≡ true) ⊎ (b ≡ true)
either_true true b e = inl refl
either_true false b e = inr e

pub neither : (a b : Bool) → (a || b) ≡ false → (a ≡ false) × (b ≡ false)
neither true b e = absurd cc
neither false b e = (refl, e)

pub either_right : (a b : Bool) → b ≡ true → (a || b) ≡ true
either_right true b e = refl
either_right false b e = e

pub not_true : (a : Bool) → not a ≡ true → a ≡ false
not_true true e = absurd cc
not_true false e = refl

pub contradict : {b : Bool} → b ≡ true → b ≡ false → ⊥
contradict p q = cc

pub some_is : {T : Type 0} (a b : T) → Some a ≡ Some b → a ≡ b
some_is a b e = cc

pub chosen : {A : Type 0} (b : Bool) (x y z : A) → cond b x y ≡ z → ((b ≡ true) × (x ≡ z)) ⊎ ((b ≡ false) × (y ≡ z))
chosen true x y z e = inl (refl, e)
chosen false x y z e = inr (refl, e)

pub guard_of : {A : Type 0} (b : Bool) (x : Option A) (y : A) → cond b x None ≡ Some y → (b ≡ true) × (x ≡ Some y)
guard_of true x y e = (refl, e)
guard_of false x y e = absurd cc

pub unguarded : {A : Type 0} (b : Bool) (x : Option A) (y : A) → cond b None x ≡ Some y → (b ≡ false) × (x ≡ Some y)
unguarded true x y e = absurd cc
unguarded false x y e = (refl, e)
