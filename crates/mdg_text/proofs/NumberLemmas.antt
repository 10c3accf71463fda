-- Numeric literals: what is read of one is the relation, both ways.
use Rattle.std.proofs.Common.{◌≡◌, ℕ, ◌<◌, Bool, true, false, cond, ◌&&◌, ◌||◌, ◌==◌, ◌⊎◌, inl, inr, List, [], ◌∷◌, ◌++◌, drop, arith, refl, sym, ap, ◌∙◌, eqb-true, append_assoc}
use Rattle.std.specs.Prelude.{Option, Some, None, nat_le}
use Rattle.std.specs.Char.{is_ascii_alphabetic}
use Rattle.std.proofs.Common.{lit<}
use Rattle.std.proofs.lemmas.Bool.{leb-true, le-leb}
use Rattle.unicode_ident.proofs.IdentLemmas.{is_xid_start-ascii}
use Rattle.mdg_text.specs.Characters.{starts, within, is_digit, is_hex_digit, is_start, is_exponent_indicator, is_sign, is_hex_indicator}
use Rattle.mdg_text.specs.Characters.{Each, OneOrMore}
use Rattle.mdg_text.specs.Number.{IsInteger, IsMantissa, IsExponent, unsigned, signed, IsNumericLiteral, scaled, MayFollow}
use Rattle.mdg_text.specs.Number as spec
use Rattle.mdg_text.specs.Scanner.{◌>>=◌, skip, integer, may_follow, checked, power, signed_power, exponent, fraction, hexadecimal, decimal, number}
use Rattle.mdg_base.proofs.Decisions.{some_is, chosen, guard_of, both_true, either_true, not_true, decided, contradict, either_right}
use Rattle.mdg_text.proofs.ScannerLemmas.{bind_ok, skip-append, skipped}

-- the rule for what follows
pub follows : (plain : Bool) (rest : List ℕ) → MayFollow plain rest → may_follow plain rest ≡ true
unfolding may_follow
follows true rest f = rw (f.digit, f.name, f.point refl) refl
follows false rest f = rw (f.digit, f.name) refl

pub followed : (plain : Bool) (rest : List ℕ) → may_follow plain rest ≡ true → MayFollow plain rest
unfolding may_follow
followed plain rest e =
    let a = both_true _ _ e in let b = both_true _ _ a.1 in
    record { digit = not_true _ a.0; name = not_true _ b.0; point = λ p. (let z = not_true _ b.1 in rw p at z) }

checked-follows : (plain : Bool) (rest : List ℕ) → MayFollow plain rest → checked plain rest ≡ Some rest
unfolding checked
checked-follows plain rest f = rw (follows plain rest f) refl

checked_is : (plain : Bool) (r rest : List ℕ) → checked plain r ≡ Some rest → (r ≡ rest) × MayFollow plain rest
unfolding checked
checked_is plain r rest e = let g = guard_of (may_follow plain r) (Some r) rest e in let s : r ≡ rest = some_is r rest g.1 in (s, rw (← s) (followed plain r g.0))

-- integers
integer-append : (a rest : List ℕ) → IsInteger a → (starts is_digit rest ≡ false) → integer (a ++ rest) ≡ Some rest
unfolding integer
integer-append a rest (inl z) s = rw z refl
integer-append [] rest (inr z) s = absurd z.0
integer-append (d ∷ ds) rest (inr z) s = rw (z.1, z.0.0, skip-append is_digit ds rest z.0.1 s) refl

record IntegerCut (text rest : List ℕ) : Type 0 where
  pub prefix : List ℕ
  pub cut : text ≡ prefix ++ rest
  pub is : IsInteger prefix

integer_is : (text rest : List ℕ) → integer text ≡ Some rest → IntegerCut text rest
unfolding integer
integer_is [] rest e = absurd cc
integer_is (c ∷ cs) rest e = elim (chosen (c == 48) (Some cs) (cond (is_digit c) (Some (skip is_digit cs)) None) (Some rest) e) [
  | inl h ↦ (let q : c ≡ 48 = eqb-true c 48 h.0 in let r = some_is cs rest h.1 in record { prefix = 48 ∷ []; cut = cc; is = inl refl })
  | inr h ↦ (let g = guard_of (is_digit c) (Some (skip is_digit cs)) rest h.1 in let s = skipped is_digit cs in let r = some_is _ _ g.1 in
      record { prefix = c ∷ s.prefix; cut = ap (λ (l : List ℕ). c ∷ l) (s.cut ∙ ap (λ (l : List ℕ). s.prefix ++ l) r); is = inr ((g.0, s.each), h.0) })
]

-- digits at the start, of either kind
some_starts : (p : ℕ → Bool) (ds rest : List ℕ) → OneOrMore p ds → starts p (ds ++ rest) ≡ true
some_starts p [] rest d = absurd d
some_starts p (c ∷ cs) rest d = d.0

some_skips : (p : ℕ → Bool) (ds rest : List ℕ) → OneOrMore p ds → starts p rest ≡ false → skip p (ds ++ rest) ≡ rest
some_skips p [] rest d s = absurd d
some_skips p (c ∷ cs) rest d s = skip-append p (c ∷ cs) rest d s

record SomeCut (p : ℕ → Bool) (text rest : List ℕ) : Type 0 where
  pub prefix : List ℕ
  pub cut : text ≡ prefix ++ rest
  pub some : OneOrMore p prefix

some_cut : (p : ℕ → Bool) (text rest : List ℕ) → starts p text ≡ true → skip p text ≡ rest → SomeCut p text rest
unfolding skip
some_cut p [] rest s e = absurd cc
some_cut p (c ∷ cs) rest s e = let k = skipped p cs in let r : skip p cs ≡ rest = rw s at e in
    record { prefix = c ∷ k.prefix; cut = ap (λ (l : List ℕ). c ∷ l) (k.cut ∙ ap (λ (l : List ℕ). k.prefix ++ l) r); some = (s, k.each) }

-- exponents
power-append : (ds rest : List ℕ) → OneOrMore is_digit ds → MayFollow false rest → power (ds ++ rest) ≡ Some rest
unfolding power
power-append ds rest d f = rw (some_starts is_digit ds rest d, some_skips is_digit ds rest d f.digit) (checked-follows false rest f)

record PowerCut (text rest : List ℕ) : Type 0 where
  pub prefix : List ℕ
  pub cut : text ≡ prefix ++ rest
  pub some : OneOrMore is_digit prefix
  pub may : MayFollow false rest

power_is : (text rest : List ℕ) → power text ≡ Some rest → PowerCut text rest
unfolding power
power_is text rest e =
    let g = guard_of (starts is_digit text) (checked false (skip is_digit text)) rest e in
    let m = checked_is false (skip is_digit text) rest g.1 in
    let c = some_cut is_digit text rest g.0 m.0 in
    record { prefix = c.prefix; cut = c.cut; some = c.some; may = m.1 }

no_sign : (c : ℕ) → is_digit c ≡ true → is_sign c ≡ false
unfolding is_digit within is_sign
no_sign c d = elim (decided ((c == 43) || (c == 45))) [
  | inl on ↦ absurd (elim (either_true (c == 43) (c == 45) on) [
    | inl a ↦ (let e : c ≡ 43 = eqb-true c 43 a in contradict (rw e at d) refl)
    | inr a ↦ (let e : c ≡ 45 = eqb-true c 45 a in contradict (rw e at d) refl)
  ])
  | inr off ↦ off
]

signed-unsigned : (ds rest : List ℕ) → OneOrMore is_digit ds → MayFollow false rest → signed_power (ds ++ rest) ≡ Some rest
unfolding signed_power
signed-unsigned [] rest d f = absurd d
signed-unsigned (c ∷ cs) rest d f = rw (no_sign c d.0) (power-append (c ∷ cs) rest d f)

exponent-append : (plain : Bool) (prefix rest : List ℕ) → IsExponent prefix → MayFollow false rest → exponent plain (prefix ++ rest) ≡ Some rest
unfolding exponent signed_power
exponent-append plain prefix rest (unsigned {ds = ds} m d) f = rw m (signed-unsigned ds rest d f)
exponent-append plain prefix rest (signed {ds = ds} m s d) f = rw (m, s) (power-append ds rest d f)

pub data Scale (plain : Bool) (text rest : List ℕ) : Type 0 where
  without : text ≡ rest → MayFollow plain rest → Scale plain text rest
  with : (prefix : List ℕ) → text ≡ prefix ++ rest → IsExponent prefix → MayFollow false rest → Scale plain text rest

scale_signed : (plain : Bool) (e : ℕ) (text rest : List ℕ) → is_exponent_indicator e ≡ true → signed_power text ≡ Some rest → Scale plain (e ∷ text) rest
unfolding signed_power
scale_signed plain e [] rest m h = absurd cc
scale_signed plain e (c ∷ cs) rest m h = elim (chosen (is_sign c) (power cs) (power (c ∷ cs)) (Some rest) h) [
  | inl g ↦ (let p = power_is cs rest g.1 in with (e ∷ c ∷ p.prefix) (ap (λ (l : List ℕ). e ∷ c ∷ l) p.cut) (signed m g.0 p.some) p.may)
  | inr g ↦ (let p = power_is (c ∷ cs) rest g.1 in with (e ∷ p.prefix) (ap (λ (l : List ℕ). e ∷ l) p.cut) (unsigned m p.some) p.may)
]

exponent_is : (plain : Bool) (text rest : List ℕ) → exponent plain text ≡ Some rest → Scale plain text rest
unfolding exponent
exponent_is plain [] rest e = let m = checked_is plain [] rest e in without m.0 m.1
exponent_is plain (c ∷ cs) rest e = elim (chosen (is_exponent_indicator c) (signed_power cs) (checked plain (c ∷ cs)) (Some rest) e) [
  | inl h ↦ scale_signed plain c cs rest h.0 h.1
  | inr h ↦ (let m = checked_is plain (c ∷ cs) rest h.1 in without m.0 m.1)
]

-- the letters of exponents and of hexadecimal literals start names, and are no digits
indicators_start : (c : ℕ) → is_exponent_indicator c ≡ true → is_start c ≡ true
unfolding is_exponent_indicator is_start
indicators_start c m = elim (either_true (c == 101) (c == 69) m) [
  | inl a ↦ (let e : c ≡ 101 = eqb-true c 101 a in rw (e, is_xid_start-ascii 101 (lit< tt)) refl)
  | inr a ↦ (let e : c ≡ 69 = eqb-true c 69 a in rw (e, is_xid_start-ascii 69 (lit< tt)) refl)
]

hex_indicators_start : (c : ℕ) → is_hex_indicator c ≡ true → is_start c ≡ true
unfolding is_hex_indicator is_start
hex_indicators_start c m = elim (either_true (c == 120) (c == 88) m) [
  | inl a ↦ (let e : c ≡ 120 = eqb-true c 120 a in rw (e, is_xid_start-ascii 120 (lit< tt)) refl)
  | inr a ↦ (let e : c ≡ 88 = eqb-true c 88 a in rw (e, is_xid_start-ascii 88 (lit< tt)) refl)
]

indicator_tests : (c : ℕ) → is_exponent_indicator c ≡ true → (is_digit c ≡ false) × (is_hex_indicator c ≡ false) × ((c == 46) ≡ false)
unfolding is_exponent_indicator is_digit within is_hex_indicator
indicator_tests c m = elim (either_true (c == 101) (c == 69) m) [
  | inl a ↦ (let e : c ≡ 101 = eqb-true c 101 a in rw e (refl, refl, refl))
  | inr a ↦ (let e : c ≡ 69 = eqb-true c 69 a in rw e (refl, refl, refl))
]

no_punctuator : (rest : List ℕ) → starts is_start rest ≡ false → starts is_exponent_indicator rest ≡ false
no_punctuator [] s = refl
no_punctuator (c ∷ cs) s = elim (decided (is_exponent_indicator c)) [ inl on ↦ absurd (contradict (indicators_start c on) s) | inr off ↦ off ]

no_hex_indicator : (rest : List ℕ) → starts is_start rest ≡ false → starts is_hex_indicator rest ≡ false
no_hex_indicator [] s = refl
no_hex_indicator (c ∷ cs) s = elim (decided (is_hex_indicator c)) [ inl on ↦ absurd (contradict (hex_indicators_start c on) s) | inr off ↦ off ]

dot_tests : (is_digit 46 ≡ false) × (is_hex_indicator 46 ≡ false)
unfolding is_digit within is_hex_indicator
dot_tests = (refl, refl)

no_dot : (c : ℕ) → is_digit c ≡ true → (c == 46) ≡ false
no_dot c d = elim (decided (c == 46)) [ inl on ↦ (let q : c ≡ 46 = eqb-true c 46 on in absurd (contradict (rw q at d) dot_tests.0)) | inr off ↦ off ]

-- what may come after a mantissa, an exponent or not
record Continues (plain : Bool) (after : List ℕ) : Type 0 where
  pub digit : starts is_digit after ≡ false
  pub hex : starts is_hex_indicator after ≡ false
  pub point : plain ≡ true → starts (λ c. c == 46) after ≡ false

fraction_none : (after : List ℕ) → starts (λ c. c == 46) after ≡ false → fraction after ≡ exponent true after
unfolding fraction exponent
fraction_none [] e = refl
fraction_none (c ∷ cs) e = rw e refl

integer_reads : (a after : List ℕ) → IsInteger a → starts is_digit after ≡ false → starts is_hex_indicator after ≡ false → number (a ++ after) ≡ fraction after
unfolding number decimal
integer_reads a after (inl z) s x = rw (z, x) (ap (λ (o : Option (List ℕ)). o >>= fraction) (integer-append (48 ∷ []) after (inl refl) s))
integer_reads [] after (inr z) s x = absurd z.0
integer_reads (d ∷ ds) after (inr z) s x = rw (no_dot d z.0.0, z.1) (ap (λ (o : Option (List ℕ)). o >>= fraction) (integer-append (d ∷ ds) after (inr z) s))

point_reads : (b after : List ℕ) → Each is_digit b → starts is_digit after ≡ false → fraction (46 ∷ (b ++ after)) ≡ exponent false after
unfolding fraction
point_reads b after each s = rw (skip-append is_digit b after each s) refl

bare_reads : (b after : List ℕ) → OneOrMore is_digit b → starts is_digit after ≡ false → number (46 ∷ (b ++ after)) ≡ exponent false after
unfolding number
bare_reads b after d s = rw (some_starts is_digit b after d, some_skips is_digit b after d s) refl

mantissa_reads : (plain : Bool) (m after : List ℕ) → IsMantissa plain m → Continues plain after → number (m ++ after) ≡ exponent plain after
mantissa_reads true m after (spec.integer i) f = integer_reads m after i f.digit f.hex ∙ fraction_none after (f.point refl)
mantissa_reads false m after (spec.point a b i each cut) f = rw (cut, append_assoc) (integer_reads a (46 ∷ (b ++ after)) i dot_tests.0 dot_tests.1 ∙ point_reads b after each f.digit)
mantissa_reads false m after (spec.fraction {b} d) f = bare_reads b after d f.digit

no_exponent : (plain : Bool) (rest : List ℕ) → starts is_exponent_indicator rest ≡ false → exponent plain rest ≡ checked plain rest
unfolding exponent
no_exponent plain [] e = refl
no_exponent plain (c ∷ cs) e = rw e refl

ended : (plain : Bool) (rest : List ℕ) → MayFollow plain rest → Continues plain rest
ended plain rest f = record { digit = f.digit; hex = no_hex_indicator rest f.name; point = f.point }

scaled_on : (plain : Bool) (e rest : List ℕ) → IsExponent e → Continues plain (e ++ rest)
scaled_on plain e rest (unsigned {e = c} m d) = let t = indicator_tests c m in record { digit = t.0; hex = t.1; point = λ p. t.2 }
scaled_on plain e rest (signed {e = c} m s d) = let t = indicator_tests c m in record { digit = t.0; hex = t.1; point = λ p. t.2 }

hex_reads : (x : ℕ) (ds rest : List ℕ) → is_hex_indicator x ≡ true → OneOrMore is_hex_digit ds → MayFollow false rest → starts is_hex_digit rest ≡ false → number (48 ∷ x ∷ (ds ++ rest)) ≡ Some rest
unfolding number hexadecimal
hex_reads x ds rest m d f s = rw (m, some_starts is_hex_digit ds rest d, some_skips is_hex_digit ds rest d s) (checked-follows false rest f)

hex_starts : (c : ℕ) → is_hex_digit c ≡ true → (is_digit c ≡ true) ⊎ (is_ascii_alphabetic c ≡ true)
unfolding is_hex_digit within
hex_starts c h = elim (either_true (is_digit c) ((nat_le 65 c && nat_le c 70) || (nat_le 97 c && nat_le c 102)) h) [
  | inl a ↦ inl a
  | inr a ↦ inr (letter c a)
] where
  letter : (c : ℕ) → ((nat_le 65 c && nat_le c 70) || (nat_le 97 c && nat_le c 102)) ≡ true → is_ascii_alphabetic c ≡ true
  letter c h = elim (either_true (nat_le 65 c && nat_le c 70) (nat_le 97 c && nat_le c 102) h) [
    | inl x ↦ (let y = both_true (nat_le 65 c) (nat_le c 70) x in let l = leb-true 65 c y.0 in let u = leb-true c 70 y.1 in rw (le-leb 65 c l, le-leb c 90 (omega arith)) refl)
    | inr x ↦ (let y = both_true (nat_le 97 c) (nat_le c 102) x in let l = leb-true 97 c y.0 in let u = leb-true c 102 y.1 in either_right (nat_le 65 c && nat_le c 90) (nat_le 97 c && nat_le c 122) (rw (le-leb 97 c l, le-leb c 122 (omega arith)) refl))
  ]

hex_digit_small : (c : ℕ) → is_hex_digit c ≡ true → c < 128
unfolding is_hex_digit is_digit within
hex_digit_small c h = elim (either_true (nat_le 48 c && nat_le c 57) ((nat_le 65 c && nat_le c 70) || (nat_le 97 c && nat_le c 102)) h) [
  | inl a ↦ (let u = leb-true c 57 (both_true (nat_le 48 c) (nat_le c 57) a).1 in omega arith)
  | inr a ↦ elim (either_true (nat_le 65 c && nat_le c 70) (nat_le 97 c && nat_le c 102) a) [
    | inl x ↦ (let u = leb-true c 70 (both_true (nat_le 65 c) (nat_le c 70) x).1 in omega arith)
    | inr x ↦ (let u = leb-true c 102 (both_true (nat_le 97 c) (nat_le c 102) x).1 in omega arith)
  ]
]

letter_starts : (c : ℕ) → c < 128 → is_ascii_alphabetic c ≡ true → is_start c ≡ true
unfolding is_start
letter_starts c l a = rw (is_xid_start-ascii c l, a) refl

no_hex_digit : (rest : List ℕ) → starts is_digit rest ≡ false → starts is_start rest ≡ false → starts is_hex_digit rest ≡ false
no_hex_digit [] d s = refl
no_hex_digit (c ∷ cs) d s = elim (decided (is_hex_digit c)) [
  | inl on ↦ absurd (elim (hex_starts c on) [ inl a ↦ contradict a d | inr a ↦ contradict (letter_starts c (hex_digit_small c on) a) s ])
  | inr off ↦ off
]

-- a numeric literal that may be followed so is read whole
pub number-append : (plain : Bool) (prefix rest : List ℕ) → IsNumericLiteral plain prefix → MayFollow plain rest → number (prefix ++ rest) ≡ Some rest
number-append plain prefix rest (spec.decimal m) f = mantissa_reads plain prefix rest m (ended plain rest f) ∙ (no_exponent plain rest (no_punctuator rest f.name) ∙ checked-follows plain rest f)
number-append false prefix rest (scaled plain m e i x cut) f = rw (cut, append_assoc) (mantissa_reads plain m (e ++ rest) i (scaled_on plain e rest x) ∙ exponent-append plain e rest x f)
number-append false prefix rest (spec.hexadecimal {x} {ds} m d) f = hex_reads x ds rest m d f (no_hex_digit rest f.digit f.name)

pub record NumberCut (text rest : List ℕ) : Type 0 where
  pub plain : Bool
  pub prefix : List ℕ
  pub cut : text ≡ prefix ++ rest
  pub is : IsNumericLiteral plain prefix
  pub may : MayFollow plain rest

mantissa_cut : (plain : Bool) (text m after rest : List ℕ) → text ≡ m ++ after → IsMantissa plain m → Scale plain after rest → NumberCut text rest
mantissa_cut plain text m after rest cut i (without e f) = record { plain = plain; prefix = m; cut = rw (← e) cut; is = spec.decimal i; may = f }
mantissa_cut plain text m after rest cut i (with prefix e x f) =
    record { plain = false; prefix = m ++ prefix; cut = cut ∙ (ap (λ (l : List ℕ). m ++ l) e ∙ sym (append_assoc m prefix rest)); is = scaled plain m prefix i x refl; may = f }

fraction_is : (text a after rest : List ℕ) → text ≡ a ++ after → IsInteger a → fraction after ≡ Some rest → NumberCut text rest
unfolding fraction
fraction_is text a [] rest cut i e = let m = checked_is true [] rest e in mantissa_cut true text a [] rest cut (spec.integer i) (without m.0 m.1)
fraction_is text a (c ∷ cs) rest cut i e = elim (chosen (c == 46) (exponent false (skip is_digit cs)) (exponent true (c ∷ cs)) (Some rest) e) [
  | inl h ↦ (let q : c ≡ 46 = eqb-true c 46 h.0 in let s = skipped is_digit cs in
      mantissa_cut false text (a ++ 46 ∷ s.prefix) (skip is_digit cs) rest
      (cut ∙ (rw q (ap (λ (l : List ℕ). a ++ 46 ∷ l) s.cut) ∙ sym (append_assoc a (46 ∷ s.prefix) (skip is_digit cs))))
      (spec.point a s.prefix i s.each refl) (exponent_is false (skip is_digit cs) rest h.1))
  | inr h ↦ mantissa_cut true text a (c ∷ cs) rest cut (spec.integer i) (exponent_is true (c ∷ cs) rest h.1)
]

bare_is : (c : ℕ) (cs rest : List ℕ) → c ≡ 46 → starts is_digit cs ≡ true → exponent false (skip is_digit cs) ≡ Some rest → NumberCut (c ∷ cs) rest
bare_is c cs rest p d e = let s = some_cut is_digit cs (skip is_digit cs) d refl in
    mantissa_cut false (c ∷ cs) (46 ∷ s.prefix) (skip is_digit cs) rest (rw p (ap (λ (l : List ℕ). 46 ∷ l) s.cut)) (spec.fraction s.some) (exponent_is false (skip is_digit cs) rest e)

hexadecimal_is : (c : ℕ) (cs rest : List ℕ) → c ≡ 48 → starts is_hex_indicator cs ≡ true → hexadecimal (drop 1 cs) ≡ Some rest → NumberCut (c ∷ cs) rest
unfolding hexadecimal
hexadecimal_is c [] rest p m e = absurd cc
hexadecimal_is c (x ∷ xs) rest p m e =
    let g = guard_of (starts is_hex_digit xs) (checked false (skip is_hex_digit xs)) rest e in
    let k = checked_is false (skip is_hex_digit xs) rest g.1 in
    let s = some_cut is_hex_digit xs rest g.0 k.0 in
    record { plain = false; prefix = 48 ∷ x ∷ s.prefix; cut = rw p (ap (λ (l : List ℕ). 48 ∷ x ∷ l) s.cut); is = spec.hexadecimal m s.some; may = k.1 }

-- what is read of a numeric literal is one
pub number_is : (text rest : List ℕ) → number text ≡ Some rest → NumberCut text rest
unfolding number decimal
number_is [] rest e = absurd cc
number_is (c ∷ cs) rest e = elim (chosen (c == 46) (cond (starts is_digit cs) (exponent false (skip is_digit cs)) None) (cond ((c == 48) && starts is_hex_indicator cs) (hexadecimal (drop 1 cs)) (decimal (c ∷ cs))) (Some rest) e) [
  | inl h ↦ (let g = guard_of (starts is_digit cs) (exponent false (skip is_digit cs)) rest h.1 in bare_is c cs rest (eqb-true c 46 h.0) g.0 g.1)
  | inr h ↦ elim (chosen ((c == 48) && starts is_hex_indicator cs) (hexadecimal (drop 1 cs)) (decimal (c ∷ cs)) (Some rest) h.1) [
    | inl g ↦ (let b = both_true (c == 48) (starts is_hex_indicator cs) g.0 in hexadecimal_is c cs rest (eqb-true c 48 b.0) b.1 g.1)
    | inr g ↦ (let b = bind_ok (integer (c ∷ cs)) fraction rest g.1 in let i = integer_is (c ∷ cs) b.0 b.1 in fraction_is (c ∷ cs) i.prefix b.0 rest i.cut i.is b.2)
  ]
]
