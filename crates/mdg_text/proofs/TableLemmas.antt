-- Tables of reserved words and punctuators, part by part.
use Rattle.std.proofs.Common.{◌≡◌, ℕ, Bool, true, false, ◌||◌, inl, inr, List, [], ◌∷◌, ◌++◌, ◌==◌, IsTrue, ◌↔◌, Contains, length, refl, sym, ap, ◌∙◌, eqb-true, arith}
use Rattle.std.specs.List.{list_all}
use Rattle.std.proofs.lemmas.List.Elements.{All-contains}
use Rattle.std.proofs.lemmas.List.Sums.{AllPass-from_list_all}
use Rattle.mdg_text.specs.Punctuator.{one_character, two_characters, three_characters, four_characters, punctuators}
use Rattle.mdg_text.specs.Scanner.{same_text, is_in}
use Rattle.mdg_base.proofs.Decisions.{decided, contradict}
use Rattle.mdg_text.proofs.ScannerLemmas.{is_in-true, is_in-contains}

pub listed : (table : List (List ℕ)) (b : Bool) (x : List ℕ) → (IsTrue b ↔ Contains table x) → is_in table x ≡ b
listed table true x h = is_in-contains table x (h.0 refl)
listed table false x h = elim (decided (is_in table x)) [ inl on ↦ absurd (contradict (h.1 (is_in-true table x on)) refl) | inr off ↦ off ]

is_in-append : (a b : List (List ℕ)) (x : List ℕ) → is_in (a ++ b) x ≡ (is_in a x || is_in b x)
unfolding is_in
is_in-append [] b x = refl
is_in-append (y ∷ ys) b x = elim (decided (same_text y x)) [ inl on ↦ rw on refl | inr off ↦ rw off (is_in-append ys b x) ]

-- a table and one more part of it
pub one_part : (table part : List (List ℕ)) (p q r : Bool) (x : List ℕ) → is_in table x ≡ p → (IsTrue q ↔ Contains part x) → r ≡ (p || q) → is_in (table ++ part) x ≡ r
one_part table part p q r x h k e = is_in-append table part x ∙ (rw (h, listed part q x k) (sym e))

-- texts of one length stand in no table of another
other_length : (table : List (List ℕ)) (n : ℕ) (x : List ℕ) → list_all (λ y. length y == n) table ≡ true → (length x ≡ n → ⊥) → is_in table x ≡ false
other_length table n x h f = elim (decided (is_in table x)) [
  | inl on ↦ absurd (f (eqb-true (length x) n (All-contains (λ y. (length y == n) ≡ true) table x (AllPass-from_list_all (λ y. length y == n) table h) (is_in-true table x on))))
  | inr off ↦ off
]

parts : (x : List ℕ) → is_in punctuators x ≡ (((is_in one_character x || is_in two_characters x) || is_in three_characters x) || is_in four_characters x)
parts x = is_in-append (one_character ++ two_characters ++ three_characters) four_characters x
    ∙ ap (λ (b : Bool). b || is_in four_characters x) (is_in-append (one_character ++ two_characters) three_characters x
    ∙ ap (λ (b : Bool). b || is_in three_characters x) (is_in-append one_character two_characters x))

or_false : (b : Bool) → (b || false) ≡ b
or_false true = refl
or_false false = refl

pub size_one : (x : List ℕ) → length x ≡ 1 → is_in punctuators x ≡ is_in one_character x
size_one x e = parts x ∙ rw (other_length two_characters 2 x refl (λ z. omega arith), other_length three_characters 3 x refl (λ z. omega arith), other_length four_characters 4 x refl (λ z. omega arith))
    (or_false (is_in one_character x || false || false) ∙ (or_false (is_in one_character x || false) ∙ or_false (is_in one_character x)))

pub size_two : (x : List ℕ) → length x ≡ 2 → is_in punctuators x ≡ is_in two_characters x
size_two x e = parts x ∙ rw (other_length one_character 1 x refl (λ z. omega arith), other_length three_characters 3 x refl (λ z. omega arith), other_length four_characters 4 x refl (λ z. omega arith))
    (or_false (is_in two_characters x || false) ∙ or_false (is_in two_characters x))

pub size_three : (x : List ℕ) → length x ≡ 3 → is_in punctuators x ≡ is_in three_characters x
size_three x e = parts x ∙ rw (other_length one_character 1 x refl (λ z. omega arith), other_length two_characters 2 x refl (λ z. omega arith), other_length four_characters 4 x refl (λ z. omega arith))
    (or_false (is_in three_characters x))

pub size_four : (x : List ℕ) → length x ≡ 4 → is_in punctuators x ≡ is_in four_characters x
size_four x e = parts x ∙ rw (other_length one_character 1 x refl (λ z. omega arith), other_length two_characters 2 x refl (λ z. omega arith), other_length three_characters 3 x refl (λ z. omega arith)) refl

pub size_other : (x : List ℕ) → (length x ≡ 1 → ⊥) → (length x ≡ 2 → ⊥) → (length x ≡ 3 → ⊥) → (length x ≡ 4 → ⊥) → is_in punctuators x ≡ false
size_other x a b d e = parts x ∙ rw (other_length one_character 1 x refl a, other_length two_characters 2 x refl b, other_length three_characters 3 x refl d, other_length four_characters 4 x refl e) refl
