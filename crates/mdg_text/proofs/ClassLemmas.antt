-- By its first character a token is of one class.
use Rattle.std.proofs.Common.{◌≡◌, ℕ, suc, ◌≤◌, ◌<◌, Bool, true, false, cond, not, ◌&&◌, ◌||◌, ◌==◌, inl, inr, List, [], ◌∷◌, ◌++◌, length, arith, refl, subst, eqb-true, append_assoc, append-nil, lit<, Contains}
use Rattle.std.specs.Prelude.{nat_le, nat_lt}
use Rattle.std.specs.Char.{is_ascii_alphabetic}
use Rattle.std.proofs.lemmas.Bool.{leb-true, ltb-true, lt-ltb}
use Rattle.std.proofs.lemmas.List.Elements.{All-contains}
use Rattle.std.proofs.lemmas.List.Sums.{AllPass-from_list_all}
use Rattle.unicode_ident.proofs.IdentLemmas.{is_xid_start-ascii}
use Rattle.mdg_text.specs.Characters.{within, starts, is_digit, is_start, is_quote}
use Rattle.mdg_text.specs.Punctuator.{punctuators}
use Rattle.mdg_text.specs.Characters.{OneOrMore}
use Rattle.mdg_text.specs.Number.{IsInteger, IsMantissa, IsNumericLiteral, scaled}
use Rattle.mdg_text.specs.Lexeme.{IsIdentifier}
use Rattle.mdg_text.specs.Number as spec
use Rattle.mdg_text.specs.Scanner.{is_in}
use Rattle.mdg_base.proofs.Decisions.{both_true, either_true, not_true, decided, contradict}
use Rattle.mdg_text.proofs.ScannerLemmas.{is_in-true}

abbrev ascii_start : ℕ → Bool
ascii_start c = is_ascii_alphabetic c || ((c == 36) || (c == 95))

unfoldable pub class_of : List ℕ → ℕ
class_of [] = 0
class_of (c ∷ cs) = cond (is_quote c) 1 (cond (is_digit c || ((c == 46) && nat_lt 0 (length cs))) 2 (cond (is_in punctuators (c ∷ [])) 3 0))

start_ascii : (c : ℕ) → is_start c ≡ true → c < 128 → ascii_start c ≡ true
unfolding is_start
start_ascii c h l = rw (is_xid_start-ascii c l) at h

never : (c : ℕ) → is_start c ≡ true → c < 128 → ascii_start c ≡ false → ⊥
never c h l f = contradict (start_ascii c h l) f

no_quote : (c : ℕ) → is_start c ≡ true → is_quote c ≡ true → ⊥
unfolding is_quote
no_quote c h q = elim (either_true (c == 34) (c == 39) q) [
  | inl a ↦ (let e : c ≡ 34 = eqb-true c 34 a in never c h (omega arith) (rw e refl))
  | inr a ↦ (let e : c ≡ 39 = eqb-true c 39 a in never c h (omega arith) (rw e refl))
]

digit_bounds : (c : ℕ) → is_digit c ≡ true → (48 ≤ c) × (c ≤ 57)
unfolding is_digit within
digit_bounds c d = let b = both_true _ _ d in (leb-true 48 c b.0, leb-true c 57 b.1)

no_digit_letter : (c : ℕ) → 48 ≤ c → c ≤ 57 → ascii_start c ≡ true → ⊥
no_digit_letter c l h a = elim (either_true (is_ascii_alphabetic c) ((c == 36) || (c == 95)) a) [
  | inl b ↦ elim (either_true (nat_le 65 c && nat_le c 90) (nat_le 97 c && nat_le c 122) b) [
    | inl x ↦ (let y = leb-true 65 c (both_true (nat_le 65 c) (nat_le c 90) x).0 in omega arith)
    | inr x ↦ (let y = leb-true 97 c (both_true (nat_le 97 c) (nat_le c 122) x).0 in omega arith)
  ]
  | inr b ↦ elim (either_true (c == 36) (c == 95) b) [ inl x ↦ (let e : c ≡ 36 = eqb-true c 36 x in omega arith) | inr x ↦ (let e : c ≡ 95 = eqb-true c 95 x in omega arith) ]
]

no_digit : (c : ℕ) → is_start c ≡ true → is_digit c ≡ true → ⊥
no_digit c h d = let b = digit_bounds c d in no_digit_letter c b.0 b.1 (start_ascii c h (omega arith))

no_punctuator : (c : ℕ) → is_start c ≡ true → Contains punctuators (c ∷ []) → ⊥
no_punctuator c h m =
    let t = All-contains (λ x. (starts (λ d. nat_lt d 128) x && starts (λ d. not (ascii_start d)) x) ≡ true) punctuators (c ∷ []) (AllPass-from_list_all (λ x. starts (λ d. nat_lt d 128) x && starts (λ d. not (ascii_start d)) x) punctuators refl) m in
    let b = both_true (nat_lt c 128) (not (ascii_start c)) t in never c h (ltb-true c 128 b.0) (not_true (ascii_start c) b.1)

false_when : (b : Bool) → (b ≡ true → ⊥) → b ≡ false
false_when true f = absurd (f refl)
false_when false f = refl

dot_punctuator : (c : ℕ) → (c == 46) ≡ true → Contains punctuators (c ∷ [])
dot_punctuator c e = let q : c ≡ 46 = eqb-true c 46 e in rw q (6, lit< tt, refl)

pub name_class : (prefix : List ℕ) → IsIdentifier prefix → class_of prefix ≡ 0
unfolding class_of
name_class [] i = absurd i
name_class (c ∷ cs) i = rw (false_when (is_quote c) (no_quote c i.0), false_when (is_digit c) (no_digit c i.0), false_when (c == 46) (λ e. no_punctuator c i.0 (dot_punctuator c e)), false_when (is_in punctuators (c ∷ [])) (λ e. no_punctuator c i.0 (is_in-true punctuators (c ∷ []) e))) refl

pub quote_class : (c : ℕ) (cs : List ℕ) → is_quote c ≡ true → class_of (c ∷ cs) ≡ 1
unfolding class_of
quote_class c cs q = rw q refl

digit_no_quote : (c : ℕ) → is_digit c ≡ true → is_quote c ≡ false
unfolding is_quote
digit_no_quote c d = let b = digit_bounds c d in elim (decided ((c == 34) || (c == 39))) [
  | inl on ↦ absurd (elim (either_true (c == 34) (c == 39) on) [ inl a ↦ (let e : c ≡ 34 = eqb-true c 34 a in omega arith) | inr a ↦ (let e : c ≡ 39 = eqb-true c 39 a in omega arith) ])
  | inr off ↦ off
]

digit_class : (c : ℕ) (cs : List ℕ) → is_digit c ≡ true → class_of (c ∷ cs) ≡ 2
unfolding class_of
digit_class c cs d = rw (digit_no_quote c d, d) refl

digits_class : (a more : List ℕ) → OneOrMore is_digit a → class_of (a ++ more) ≡ 2
digits_class [] more d = absurd d
digits_class (c ∷ cs) more d = digit_class c (cs ++ more) d.0

zero_digit : is_digit 48 ≡ true
unfolding is_digit within
zero_digit = refl

integer_class : (a more : List ℕ) → IsInteger a → class_of (a ++ more) ≡ 2
integer_class a more (inl z) = rw z (digit_class 48 more zero_digit)
integer_class a more (inr z) = digits_class a more z.0

bare_class : (b more : List ℕ) → OneOrMore is_digit b → class_of (46 ∷ (b ++ more)) ≡ 2
unfolding class_of is_quote is_digit within
bare_class [] more d = absurd d
bare_class (c ∷ cs) more d = rw (lt-ltb 0 (suc (length (cs ++ more))) (omega arith)) refl

mantissa_class : (plain : Bool) (prefix more : List ℕ) → IsMantissa plain prefix → class_of (prefix ++ more) ≡ 2
mantissa_class plain prefix more (spec.integer i) = integer_class prefix more i
mantissa_class plain prefix more (spec.point a b i e cut) = rw (cut, append_assoc) (integer_class a (46 ∷ (b ++ more)) i)
mantissa_class plain prefix more (spec.fraction {b} d) = bare_class b more d

pub number_class : (plain : Bool) (prefix : List ℕ) → IsNumericLiteral plain prefix → class_of prefix ≡ 2
number_class plain prefix (spec.decimal m) = subst (λ (l : List ℕ). class_of l ≡ 2) (append-nil prefix) (mantissa_class plain prefix [] m)
number_class plain prefix (scaled p m e i x cut) = rw cut (mantissa_class p m e i)
number_class plain prefix (spec.hexadecimal {x} {ds} m d) = digit_class 48 (x ∷ ds) zero_digit

pub punctuator_class : (prefix : List ℕ) → Contains punctuators prefix → class_of prefix ≡ 3
unfolding class_of is_quote is_digit within is_in Rattle.mdg_text.specs.Scanner.same_text
punctuator_class prefix m = eqb-true (class_of prefix) 3 (All-contains (λ x. (class_of x == 3) ≡ true) punctuators prefix (AllPass-from_list_all (λ x. class_of x == 3) punctuators refl) m)
