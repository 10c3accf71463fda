-- Inversions of the combinators of the reference reader.
use Rattle.std.proofs.Common.{◌≡◌, ℕ, ◌+◌, ◌≤◌, ◌<◌, Bool, true, false, cond, not, ◌&&◌, ◌||◌, ◌⊎◌, inl, inr, List, [], ◌∷◌, arith, refl, sym, ap, ◌∙◌}
use Rattle.std.specs.Prelude.{Option, Some, None, nat_le}
use Rattle.std.proofs.lemmas.Bool.{leb-true, le-leb}
use Rattle.mdg_read.specs.declared.terminal.Terminal.{Terminal}
use Rattle.mdg_read.specs.declared.terminal.Terminal.TheVariants as s
use Rattle.mdg_read.specs.declared.parsed.Parsed.{Parsed}
use Rattle.mdg_read.specs.Combinators.{◌>>=◌, expect, bounded}
use Rattle.mdg_read.specs.TokenClass.{same, is_operator}
use Rattle.mdg_read.specs.Tokens.{Tokens, terminal_at}

pub some_is : {T : Type 0} (a b : T) → Some a ≡ Some b → a ≡ b
some_is a b e = cc

pub bind_ok : {A B : Type 0} (o : Option A) (f : A → Option B) (y : B) → (o >>= f) ≡ Some y → (x : A) × (o ≡ Some x) × (f x ≡ Some y)
bind_ok None f y e = absurd cc
bind_ok (Some x) f y e = (x, refl, e)

pub chosen : {A : Type 0} (b : Bool) (x y z : A) → cond b x y ≡ z → ((b ≡ true) × (x ≡ z)) ⊎ ((b ≡ false) × (y ≡ z))
chosen true x y z e = inl (refl, e)
chosen false x y z e = inr (refl, e)

pub true_or_false : (b : Bool) → (b ≡ true) ⊎ (b ≡ false)
true_or_false true = inl refl
true_or_false false = inr refl

pub guard_ok : {A : Type 0} (b : Bool) (x y : A) → cond b (Some x) None ≡ Some y → (b ≡ true) × (x ≡ y)
guard_ok true x y e = (refl, cc)
guard_ok false x y e = absurd cc

pub same-true : (a b : Terminal) → is_operator b ≡ false → same a b ≡ true → a ≡ b
same-true s.End s.End h e = refl
same-true s.Name s.Name h e = refl
same-true s.Numeral s.Numeral h e = refl
same-true s.Text s.Text h e = refl
same-true s.ReservedWord s.ReservedWord h e = refl
same-true s.OpenParen s.OpenParen h e = refl
same-true s.CloseParen s.CloseParen h e = refl
same-true s.OpenBracket s.OpenBracket h e = refl
same-true s.CloseBracket s.CloseBracket h e = refl
same-true s.OpenBrace s.OpenBrace h e = refl
same-true s.CloseBrace s.CloseBrace h e = refl
same-true s.Dot s.Dot h e = refl
same-true s.Semicolon s.Semicolon h e = refl
same-true s.Comma s.Comma h e = refl
same-true s.Question s.Question h e = refl
same-true s.Colon s.Colon h e = refl
same-true s.Break s.Break h e = refl
same-true s.Continue s.Continue h e = refl
same-true s.Do s.Do h e = refl
same-true s.Else s.Else h e = refl
same-true s.False s.False h e = refl
same-true s.For s.For h e = refl
same-true s.Function s.Function h e = refl
same-true s.If s.If h e = refl
same-true s.New s.New h e = refl
same-true s.Null s.Null h e = refl
same-true s.Return s.Return h e = refl
same-true s.Throw s.Throw h e = refl
same-true s.True s.True h e = refl
same-true s.Var s.Var h e = refl
same-true s.While s.While h e = refl
same-true s.Other s.Other h e = refl
same-true a (s.Binary o) h e = absurd cc
same-true a (s.Unary o) h e = absurd cc
same-true a (s.Assign o) h e = absurd cc
same-true a (s.Update o) h e = absurd cc
same-true _ _ h e = absurd cc

pub same_means : (found wanted : Terminal) → is_operator wanted ≡ false → same found wanted ≡ true → found ≡ wanted
same_means found wanted plain e = same-true found wanted plain e

pub same_is : {a b : Terminal} → same a b ≡ true → is_operator b ≡ false → a ≡ b
same_is {a} {b} e plain = same-true a b plain e

pub differs : (a b : Terminal) → is_operator b ≡ false → (a ≡ b → ⊥) → same a b ≡ false
differs a b plain n = elim (true_or_false (same a b)) [ inl h ↦ absurd (n (same-true a b plain h)) | inr h ↦ h ]

pub same_self : (k : Terminal) → same k k ≡ true
same_self (s.Binary o) = refl
same_self (s.Unary o) = refl
same_self (s.Assign o) = refl
same_self (s.Update o) = refl
same_self _ = refl

pub expect_ok : (ts : Tokens) (k : Terminal) (i : ℕ) → terminal_at ts i ≡ k → expect ts k i ≡ Some (i + 1)
unfolding expect
expect_ok ts k i e = rw (e, same_self k) refl

pub bounded_ok : {T : Type 0} (limit : ℕ) (r : Parsed T) → r.height ≤ limit → bounded limit r ≡ Some r
unfolding bounded
bounded_ok limit r h = rw (le-leb r.height limit h) refl

pub bounded_is : {T : Type 0} (limit : ℕ) (r q : Parsed T) → bounded limit r ≡ Some q → (r.height ≤ limit) × (r ≡ q)
unfolding bounded
bounded_is limit r q e = let p = guard_ok (nat_le r.height limit) r q e in (leb-true r.height limit p.0, p.1)

guard_then : {A B : Type 0} (b : Bool) (x : A) (f : A → Option B) (y : B) → (cond b (Some x) None >>= f) ≡ Some y → (b ≡ true) × (f x ≡ Some y)
guard_then true x f y e = (refl, e)
guard_then false x f y e = absurd cc

-- the token that was wanted stands there, and the reader went on after it
pub expect_then : {B : Type 0} (ts : Tokens) (k : Terminal) (i : ℕ) (f : ℕ → Option B) (y : B) → is_operator k ≡ false → (expect ts k i >>= f) ≡ Some y → (terminal_at ts i ≡ k) × (f (i + 1) ≡ Some y)
unfolding expect
expect_then ts k i f y plain e = let p = guard_then (same (terminal_at ts i) k) (i + 1) f y e in (same-true _ _ plain p.0, p.1)

pub guard_of : {A : Type 0} (b : Bool) (x : Option A) (y : A) → cond b x None ≡ Some y → (b ≡ true) × (x ≡ Some y)
guard_of true x y e = (refl, e)
guard_of false x y e = absurd cc

pub either_true : (a b : Bool) → (a || b) ≡ true → (a ≡ true) ⊎ (b ≡ true)
either_true true b e = inl refl
either_true false b e = inr e

pub both_true : (a b : Bool) → (a && b) ≡ true → (a ≡ true) × (b ≡ true)
both_true true b e = (refl, e)
both_true false b e = absurd cc

pub not_true : (a : Bool) → not a ≡ true → a ≡ false
not_true true e = cc
not_true false e = refl

pub or-true : (a : Bool) → (a || true) ≡ true
or-true true = refl
or-true false = refl
