-- Bytes and line ends before a place, character by character.
use Rattle.std.proofs.Common.{◌≡◌, ℕ, zero, suc, ◌+◌, ◌-◌, ◌≤◌, ◌<◌, Bool, true, false, cond, not, ◌&&◌, ◌==◌, inl, inr, List, [], ◌∷◌, ◌++◌, length, take, drop, get_or, arith, refl, sym, ap, ◌∙◌, eqb-true}
use Rattle.std.specs.Prelude.{nat_lt}
use Rattle.std.specs.Char.{len_utf8}
use Rattle.std.proofs.lemmas.Bool.{lt-ltb}
use Rattle.std.proofs.lemmas.List.{take_more, take-append-drop, length-take-le}
use Rattle.std.proofs.lemmas.List.Sums.{sum_by_more, sum_by-append}
use Rattle.mdg_text.specs.Characters.{starts, is_line_end}
use Rattle.mdg_text.specs.Characters.{width, line_ends}
use Rattle.mdg_text.specs.Cursor.{IsCursor, ends_line}
use Rattle.mdg_base.proofs.Decisions.{decided}

pub width_none : width [] ≡ 0
unfolding width
width_none = refl

pub width_more : (text : List ℕ) (i : ℕ) → i < length text → width (take (i + 1) text) ≡ width (take i text) + len_utf8 (get_or text i 0)
unfolding width
width_more text i h = sum_by_more len_utf8 text i 0 h

pub width-append : (xs ys : List ℕ) → width (xs ++ ys) ≡ width xs + width ys
unfolding width
width-append xs ys = sum_by-append len_utf8 xs ys

-- the part before a place is no wider than the whole
pub width_part : (text : List ℕ) (i : ℕ) → width (take i text) ≤ width text
width_part text i = omega (arith, width-append (take i text) (drop i text), ap width (take-append-drop i text))

-- the last character is CR
ends_in_cr : List ℕ → Bool
ends_in_cr [] = false
ends_in_cr (c ∷ []) = c == 13
ends_in_cr (c ∷ d ∷ ds) = ends_in_cr (d ∷ ds)

and_false : (b : Bool) → (b && false) ≡ false
and_false true = refl
and_false false = refl

one_line : (c : ℕ) → line_ends (c ∷ []) ≡ cond (is_line_end c) 1 0
unfolding line_ends
one_line c = rw (and_false (c == 13)) (go (is_line_end c)) where
  go : (b : Bool) → cond (b && not false) 1 0 + 0 ≡ cond b 1 0
  go true = refl
  go false = refl

cr_line : is_line_end 13 ≡ true
unfolding is_line_end
cr_line = refl

lf_line : is_line_end 10 ≡ true
unfolding is_line_end
lf_line = refl

-- two characters: the first counts unless they are CR and LF, or the second does
two_lines : (d c : ℕ) → line_ends (d ∷ c ∷ []) ≡ line_ends (d ∷ []) + cond (is_line_end c && not ((c == 10) && (d == 13))) 1 0
unfolding line_ends
two_lines d c = elim (decided (d == 13)) [
  | inl cr ↦ elim (decided (c == 10)) [
    | inl lf ↦ (let p : d ≡ 13 = eqb-true d 13 cr in let q : c ≡ 10 = eqb-true c 10 lf in rw (p, q, cr_line, lf_line) refl)
    | inr other ↦ rw (cr, other) (rest (is_line_end d) (is_line_end c))
  ]
  | inr other ↦ rw (other) (free (is_line_end d) (is_line_end c) (c == 13) (c == 10))
] where
  rest : (x y : Bool) → cond (x && not false) 1 0 + (cond (y && not ((c == 13) && false)) 1 0 + 0) ≡ cond (x && not false) 1 0 + 0 + cond (y && not false) 1 0
  rest x y = rw (and_false (c == 13)) (sums (x && not false) (y && not false)) where
    sums : (x y : Bool) → cond x 1 0 + (cond y 1 0 + 0) ≡ cond x 1 0 + 0 + cond y 1 0
    sums true true = refl
    sums true false = refl
    sums false true = refl
    sums false false = refl

  free : (x y u v : Bool) → cond (x && not false) 1 0 + (cond (y && not (u && false)) 1 0 + 0) ≡ cond (x && not false) 1 0 + 0 + cond (y && not (v && false)) 1 0
  free true true true true = refl
  free true true true false = refl
  free true true false true = refl
  free true true false false = refl
  free true false u v = refl
  free false true true true = refl
  free false true true false = refl
  free false true false true = refl
  free false true false false = refl
  free false false u v = refl

-- the characters count one after another
line_more : (a : List ℕ) (c : ℕ) → line_ends (a ++ c ∷ []) ≡ line_ends a + cond (is_line_end c && not ((c == 10) && ends_in_cr a)) 1 0
unfolding line_ends ends_in_cr
line_more [] c = one_line c ∙ (none (is_line_end c) (c == 10)) where
  none : (x y : Bool) → cond x 1 0 ≡ 0 + cond (x && not (y && false)) 1 0
  none true true = refl
  none true false = refl
  none false y = refl
line_more (d ∷ []) c = two_lines d c
line_more (d ∷ e ∷ es) c = ap (λ (n : ℕ). cond (is_line_end d && not ((d == 13) && (e == 10))) 1 0 + n) (line_more (e ∷ es) c) ∙ omega arith

last_at : (text : List ℕ) (i : ℕ) → i < length text → ends_in_cr (take (suc i) text) ≡ (get_or text i 0 == 13)
unfolding ends_in_cr
last_at [] i h = absurd (omega arith)
last_at (c ∷ cs) zero h = refl
last_at (c ∷ []) (suc i) h = absurd (omega arith)
last_at (c ∷ d ∷ ds) (suc i) h = last_at (d ∷ ds) i (omega arith)

none_before : (text : List ℕ) → ends_in_cr (take 0 text) ≡ false
unfolding ends_in_cr
none_before text = refl

cr_before : (text : List ℕ) (i : ℕ) → i ≤ length text → ends_in_cr (take i text) ≡ (nat_lt 0 i && (get_or text (i - 1) 0 == 13))
cr_before text zero h = none_before text
cr_before text (suc i) h = rw (lt-ltb 0 (suc i) (omega arith)) (last_at text i (omega arith) ∙ ap (λ (n : ℕ). get_or text n 0 == 13) (omega arith))

pub lines_more : (text : List ℕ) (i : ℕ) → i < length text → line_ends (take (i + 1) text) ≡ line_ends (take i text) + cond (ends_line text i) 1 0
lines_more text i h = ap line_ends (take_more text i 0 h) ∙ (line_more (take i text) (get_or text i 0) ∙ ap (λ (b : Bool). line_ends (take i text) + cond (is_line_end (get_or text i 0) && not ((get_or text i 0 == 10) && b)) 1 0) (cr_before text i (omega arith)))

pub lines_few : (text : List ℕ) → line_ends text ≤ length text
unfolding line_ends
lines_few [] = omega arith
lines_few (c ∷ cs) = let n = lines_few cs in elim (decided (is_line_end c && not ((c == 13) && starts (λ d. d == 10) cs))) [ inl on ↦ rw on (omega arith) | inr off ↦ rw off (omega arith) ]

pub lines_before : (text : List ℕ) (i : ℕ) → i ≤ length text → line_ends (take i text) ≤ i
lines_before text i h = omega (arith, lines_few (take i text), length-take-le i text h)

pub offset_fits : (text : List ℕ) (i offset wide : ℕ) → i < length text → width text ≤ wide → offset ≡ width (take i text) → offset + len_utf8 (get_or text i 0) ≤ wide
offset_fits text i offset wide h w e = let m = width_more text i h in let p = width_part text (i + 1) in omega arith

pub ruleset cursor_steps = (width_more, lines_more, offset_fits, lines_before)

line_none : line_ends [] ≡ 0
unfolding line_ends
line_none = refl

pub starting : (text : List ℕ) → IsCursor text (record { at = 0; offset = 0; line = 1 })
starting text = record { inside = omega arith; offset_is = sym width_none; line_is = ap (λ (n : ℕ). n + 1) (sym line_none) }
