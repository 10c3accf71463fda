-- One more occurrence, and the first violation among them.
use Rattle.std.proofs.Common.{◌≡◌, ℕ, zero, suc, ◌+◌, ◌<◌, ◌≤◌, ◌⊎◌, inl, inr, Bool, true, false, List, [], ◌∷◌, ◌++◌, length, get_or, take, refl, sym, ap, ◌∙◌, subst, arith, append_assoc, if◌then◌else◌}
use Rattle.std.specs.Prelude.{Contains, Option, Some, None}
use Rattle.std.proofs.lemmas.List.Elements.{Contains-append_left, Contains-append_right, Contains-append_cases}
use Rattle.mdg_scope.specs.declared.occurrence.Occurrence.{Occurrence}
use Rattle.mdg_scope.specs.declared.resolution.Resolution.{Resolution}
use Rattle.mdg_scope.specs.declared.resolution.Scopes.{Scopes}
use Rattle.mdg_scope.specs.declared.violation.ViolationKind.{ViolationKind}
use Rattle.mdg_scope.specs.declared.violation.ViolationKind.TheVariants as kind
use Rattle.mdg_scope.specs.declared.violation.Violation.{Violation}
use Rattle.mdg_scope.specs.Resolution.{resolution}
use Rattle.mdg_scope.specs.Violations.{violates, violation_of, Violates, Sooner, IsFirst, FirstOf, first_kind, is_sooner, sooner_of, found_by, rank}

after : (a b c : Violation) → Sooner a b → Sooner b c → Sooner a c
after a b c p q = grind arith

itself : (a : Violation) → Sooner a a
itself a = inr (refl, omega arith)

-- what the test of two violations shows
yes : (a b : Violation) → is_sooner b a ≡ true → Sooner b a
yes a b h = grind arith

no : (a b : Violation) → is_sooner b a ≡ false → Sooner a b
no a b h = grind arith

-- what stands after a strictly sooner one is no sooner than that
strict : (a b o : Violation) → is_sooner b a ≡ true → Sooner a o → Sooner o b → ⊥
strict a b o h p q = grind arith

alone : (w o : Occurrence) → Contains (w ∷ []) o → o ≡ w
alone w o (zero, h, e) = sym e
alone w o (suc k, h, e) = absurd (omega arith)

there : (w : Occurrence) → Contains (w ∷ []) w
there w = (zero, omega arith, refl)

take_suc : (all : List Occurrence) (i : ℕ) (d : Occurrence) → i < length all → take (suc i) all ≡ take i all ++ get_or all i d ∷ []
take_suc [] i d h = absurd (omega arith)
take_suc (x ∷ xs) zero d h = refl
take_suc (x ∷ xs) (suc i) d h = ap (λ l. x ∷ l) (take_suc xs i d (omega arith))

-- five tests, one for each rule, and the first that holds
abbrev pub test_of : Bool → Bool → Bool → Bool → Bool → ViolationKind → Bool
test_of a b c d e kind.Binding = a
test_of a b c d e kind.Meaning = b
test_of a b c d e kind.Requiring = c
test_of a b c d e kind.Constructing = d
test_of a b c d e kind.Jumping = e

abbrev pub first_test : Bool → Bool → Bool → Bool → Bool → Option ViolationKind
first_test a b c d e =
    if a then Some kind.Binding
    else (if b then Some kind.Meaning else (if c then Some kind.Requiring else (if d then Some kind.Constructing else (if e then Some kind.Jumping else None))))

one_on : (b c d e : Bool) (r : ViolationKind) → test_of false b c d e r ≡ true → 1 ≤ rank r
one_on b c d e kind.Binding h = cc
one_on b c d e kind.Meaning h = omega arith
one_on b c d e kind.Requiring h = omega arith
one_on b c d e kind.Constructing h = omega arith
one_on b c d e kind.Jumping h = omega arith

two_on : (c d e : Bool) (r : ViolationKind) → test_of false false c d e r ≡ true → 2 ≤ rank r
two_on c d e kind.Binding h = cc
two_on c d e kind.Meaning h = cc
two_on c d e kind.Requiring h = omega arith
two_on c d e kind.Constructing h = omega arith
two_on c d e kind.Jumping h = omega arith

three_on : (d e : Bool) (r : ViolationKind) → test_of false false false d e r ≡ true → 3 ≤ rank r
three_on d e kind.Binding h = cc
three_on d e kind.Meaning h = cc
three_on d e kind.Requiring h = cc
three_on d e kind.Constructing h = omega arith
three_on d e kind.Jumping h = omega arith

four_on : (e : Bool) (r : ViolationKind) → test_of false false false false e r ≡ true → 4 ≤ rank r
four_on e kind.Binding h = cc
four_on e kind.Meaning h = cc
four_on e kind.Requiring h = cc
four_on e kind.Constructing h = cc
four_on e kind.Jumping h = omega arith

none_on : (r : ViolationKind) → test_of false false false false false r ≡ true → ⊥
none_on kind.Binding h = cc
none_on kind.Meaning h = cc
none_on kind.Requiring h = cc
none_on kind.Constructing h = cc
none_on kind.Jumping h = cc

-- what the first of the tests shows
abbrev pub Told : (ViolationKind → Bool) → Option ViolationKind → Type 0
Told test None = (r : ViolationKind) → test r ≡ true → ⊥
Told test (Some f) = (test f ≡ true) × ((r : ViolationKind) → test r ≡ true → rank f ≤ rank r)

told : (a b c d e : Bool) → Told (test_of a b c d e) (first_test a b c d e)
told true b c d e = (refl, λ r h. omega arith)
told false true c d e = (refl, λ r h. one_on true c d e r h)
told false false true d e = (refl, λ r h. two_on true d e r h)
told false false false true e = (refl, λ r h. three_on true e r h)
told false false false false true = (refl, λ r h. four_on true r h)
told false false false false false = λ r h. none_on r h

same_test : (path : List ℕ) (w : Occurrence) (means : Resolution) (r : ViolationKind)
    → violates path r w means ≡ test_of (violates path kind.Binding w means) (violates path kind.Meaning w means) (violates path kind.Requiring w means) (violates path kind.Constructing w means) (violates path kind.Jumping w means) r
same_test path w means kind.Binding = refl
same_test path w means kind.Meaning = refl
same_test path w means kind.Requiring = refl
same_test path w means kind.Constructing = refl
same_test path w means kind.Jumping = refl

moved : (test other : ViolationKind → Bool) → ((r : ViolationKind) → test r ≡ other r) → (found : Option ViolationKind) → Told other found → Told test found
moved test other same None h = λ r k. h r (sym (same r) ∙ k)
moved test other same (Some f) h = (same f ∙ h.0, λ r k. h.1 r (sym (same r) ∙ k))

of_occurrence : (path : List ℕ) (w : Occurrence) (means : Resolution) → Told (λ r. violates path r w means) (first_kind path w means)
of_occurrence path w means = moved (λ r. violates path r w means) _ (same_test path w means) (first_kind path w means)
    (told (violates path kind.Binding w means) (violates path kind.Meaning w means) (violates path kind.Requiring w means) (violates path kind.Constructing w means) (violates path kind.Jumping w means))

module _ (path : List ℕ) (t : Scopes) (xs : List Occurrence) (w : Occurrence) where
  -- a violation among them all is one of the earlier occurrences, or one of the last
  split : (o : Violation) → Violates path t (xs ++ w ∷ []) o → Violates path t xs o ⊎ ((violates path o.kind w (resolution t w.within w.name) ≡ true) × (o ≡ violation_of w o.kind))
  split o b = elim (Contains-append_cases xs (w ∷ []) b.occurrence b.there) [
    | inl m ↦ inl (record { occurrence = b.occurrence; there = m; violation = b.violation; is = b.is })
    | inr m ↦ inr (subst (λ z. violates path o.kind z (resolution t z.within z.name) ≡ true) (alone w b.occurrence m) b.violation, subst (λ z. o ≡ violation_of z o.kind) (alone w b.occurrence m) b.is)
  ]

  earlier : (o : Violation) → Violates path t xs o → Violates path t (xs ++ w ∷ []) o
  earlier o b = record { occurrence = b.occurrence; there = Contains-append_left xs (w ∷ []) b.occurrence b.there; violation = b.violation; is = b.is }

  last : (f : ViolationKind) → violates path f w (resolution t w.within w.name) ≡ true → Violates path t (xs ++ w ∷ []) (violation_of w f)
  last f h = record { occurrence = w; there = Contains-append_right xs (w ∷ []) w (there w); violation = h; is = refl }

  -- the first rule that the last occurrence violates stands before its others
  before_others : (f : ViolationKind) → ((r : ViolationKind) → violates path r w (resolution t w.within w.name) ≡ true → rank f ≤ rank r)
      → (o : Violation) → (violates path o.kind w (resolution t w.within w.name) ≡ true) × (o ≡ violation_of w o.kind) → Sooner (violation_of w f) o
  before_others f h o k = inr (ap (λ z. z.offset) (sym k.1), h o.kind k.0)

  -- where a first violation stands among them all
  longer : (a : Violation) (p : IsFirst path t xs a) → xs ++ w ∷ [] ≡ p.before ++ p.violation.occurrence ∷ (p.rest ++ w ∷ [])
  longer a p = ap (λ l. l ++ w ∷ []) p.cut ∙ append_assoc p.before (p.violation.occurrence ∷ p.rest) (w ∷ [])

  choose : (a : Violation) (f : ViolationKind) → IsFirst path t xs a → violates path f w (resolution t w.within w.name) ≡ true → ((r : ViolationKind) → violates path r w (resolution t w.within w.name) ≡ true → rank f ≤ rank r)
      → (b : Bool) → is_sooner (violation_of w f) a ≡ b → FirstOf path t (xs ++ w ∷ []) (if b then Some (violation_of w f) else Some a)
  unfolding earlier last
  choose a f p h k true e = record {
    violation = last f h;
    before = xs;
    rest = [];
    cut = refl;
    earliest = λ o m q. strict a (violation_of w f) o e (p.first o m) q;
    first = λ o b. elim (split o b) [ inl m ↦ after (violation_of w f) a o (yes a (violation_of w f) e) (p.first o m) | inr m ↦ before_others f k o m ];
  }
  choose a f p h k false e = record {
    violation = earlier a p.violation;
    before = p.before;
    rest = p.rest ++ w ∷ [];
    cut = longer a p;
    earliest = p.earliest;
    first = λ o b. elim (split o b) [ inl m ↦ p.first o m | inr m ↦ after a (violation_of w f) o (no a (violation_of w f) e) (before_others f k o m) ];
  }

  joined : (best : Option Violation) (found : Option ViolationKind) → FirstOf path t xs best → Told (λ r. violates path r w (resolution t w.within w.name)) found
      → FirstOf path t (xs ++ w ∷ []) (sooner_of best (found_by w found))
  unfolding earlier last
  joined None None p h = λ o b. elim (split o b) [ inl m ↦ p o m | inr m ↦ h o.kind m.0 ]
  joined (Some a) None p h = record {
    violation = earlier a p.violation;
    before = p.before;
    rest = p.rest ++ w ∷ [];
    cut = longer a p;
    earliest = p.earliest;
    first = λ o b. elim (split o b) [ inl m ↦ p.first o m | inr m ↦ absurd (h o.kind m.0) ];
  }
  joined None (Some f) p h = record {
    violation = last f h.0;
    before = xs;
    rest = [];
    cut = refl;
    earliest = λ o m q. p o m;
    first = λ o b. elim (split o b) [ inl m ↦ absurd (p o m) | inr m ↦ before_others f h.1 o m ];
  }
  joined (Some a) (Some f) p h = choose a f p h.0 h.1 (is_sooner (violation_of w f) a) refl

pub one_more : (path : List ℕ) (t : Scopes) (ws : List Occurrence) (i : ℕ) (d w : Occurrence) (best : Option Violation) → i < length ws → w ≡ get_or ws i d → FirstOf path t (take i ws) best
    → FirstOf path t (take (i + 1) ws) (sooner_of best (found_by w (first_kind path w (resolution t w.within w.name))))
one_more path t ws i d w best h is p =
    let e : i + 1 ≡ suc i = omega arith in
    subst (λ l. FirstOf path t l (sooner_of best (found_by w (first_kind path w (resolution t w.within w.name)))))
    (sym (ap (λ k. take k ws) e ∙ take_suc ws i d h ∙ ap (λ x. take i ws ++ x ∷ []) (sym is)))
    (joined path t (take i ws) w best (first_kind path w (resolution t w.within w.name)) p (of_occurrence path w (resolution t w.within w.name)))
