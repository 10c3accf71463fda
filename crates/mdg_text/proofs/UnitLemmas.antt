-- Characters by their numbers, at places of the text.
use Rattle.std.proofs.Common.{◌≡◌, ℕ, ◌+◌, ◌*◌, ◌-◌, ◌<◌, true, false, inl, inr, ◌&&◌, ◌==◌, List, [], ◌∷◌, length, drop, get_or, arith, length-drop, refl, ap, ◌∙◌}
use Rattle.std.specs.Prelude.{Some, None, nat_lt}
use Rattle.std.specs.Char.{IsScalar}
use Rattle.std.proofs.lemmas.Bool.{le-leb, lt-ltb, leb-false, ltb-false}
use Rattle.std.proofs.lemmas.List.{drop_more}
use Rattle.mdg_text.specs.Characters.{within, is_hex_digit, is_high, is_low}
use Rattle.mdg_text.specs.StringLiteral.{two_digits, four_digits}
use Rattle.mdg_text.specs.Scanner.{hex4, second_hex4, unit16, hex_escape, part, begins_html_comment}
use Rattle.mdg_base.proofs.Decisions.{decided}

two_at : (text : List ℕ) (i : ℕ) → i + 1 < length text → drop i text ≡ get_or text i 0 ∷ get_or text (i + 1) 0 ∷ drop (i + 2) text
two_at text i h = drop_more text i 0 (omega arith) ∙ ap (λ (l : List ℕ). get_or text i 0 ∷ l) (drop_more text (i + 1) 0 h ∙ ap (λ (j : ℕ). get_or text (i + 1) 0 ∷ drop j text) (omega arith))

four_at : (text : List ℕ) (i : ℕ) → i + 3 < length text → drop i text ≡ get_or text i 0 ∷ get_or text (i + 1) 0 ∷ get_or text (i + 2) 0 ∷ get_or text (i + 2 + 1) 0 ∷ drop (i + 4) text
four_at text i h = two_at text i (omega arith) ∙ ap (λ (l : List ℕ). get_or text i 0 ∷ get_or text (i + 1) 0 ∷ l) (two_at text (i + 2) (omega arith) ∙ ap (λ (j : ℕ). get_or text (i + 2) 0 ∷ get_or text (i + 2 + 1) 0 ∷ drop j text) (omega arith))

none_short : (text : List ℕ) → length text < 4 → hex4 text ≡ None
unfolding hex4
none_short [] h = refl
none_short (a ∷ []) h = refl
none_short (a ∷ b ∷ []) h = refl
none_short (a ∷ b ∷ c ∷ []) h = refl
none_short (a ∷ b ∷ c ∷ d ∷ rest) h = absurd (omega arith)

pub hex4_short : (text : List ℕ) (i : ℕ) → length text - i < 4 → hex4 (drop i text) ≡ None
hex4_short text i h = none_short (drop i text) (omega (arith, length-drop i text))

pub hex4_off : (text : List ℕ) (i : ℕ) → i + 3 < length text → (is_hex_digit (get_or text i 0) && is_hex_digit (get_or text (i + 1) 0)) ≡ false → hex4 (drop i text) ≡ None
unfolding hex4
hex4_off text i h e = rw (four_at text i h, e) refl

pub hex4_half : (text : List ℕ) (i : ℕ) → i + 3 < length text → (is_hex_digit (get_or text i 0) && is_hex_digit (get_or text (i + 1) 0)) ≡ true
    → (is_hex_digit (get_or text (i + 2) 0) && is_hex_digit (get_or text (i + 2 + 1) 0)) ≡ false → hex4 (drop i text) ≡ None
unfolding hex4
hex4_half text i h p e = rw (four_at text i h, p, e) refl

sixteen : (a b c d : ℕ) → four_digits a b c d ≡ two_digits a b * 256 + two_digits c d
sixteen a b c d = omega arith

pub hex4_on : (text : List ℕ) (i : ℕ) → i + 3 < length text → (is_hex_digit (get_or text i 0) && is_hex_digit (get_or text (i + 1) 0)) ≡ true
    → (is_hex_digit (get_or text (i + 2) 0) && is_hex_digit (get_or text (i + 2 + 1) 0)) ≡ true
    → hex4 (drop i text) ≡ Some (unit16 (two_digits (get_or text i 0) (get_or text (i + 1) 0) * 256 + two_digits (get_or text (i + 2) 0) (get_or text (i + 2 + 1) 0)) (drop (i + 4) text))
unfolding hex4
hex4_on text i h p q = rw (four_at text i h, p, q) (ap (λ (n : ℕ). Some (unit16 n (drop (i + 4) text))) (sixteen (get_or text i 0) (get_or text (i + 1) 0) (get_or text (i + 2) 0) (get_or text (i + 2 + 1) 0)))

pub ruleset hex4_steps = (hex4_short, hex4_off, hex4_half, hex4_on)

second_none : (text : List ℕ) → length text < 2 → second_hex4 text ≡ None
unfolding second_hex4
second_none [] h = refl
second_none (a ∷ []) h = refl
second_none (a ∷ b ∷ rest) h = absurd (omega arith)

pub second_short : (text : List ℕ) (i : ℕ) → length text - i < 2 → second_hex4 (drop i text) ≡ None
second_short text i h = second_none (drop i text) (omega (arith, length-drop i text))

pub second_off : (text : List ℕ) (i : ℕ) → i + 1 < length text → ((get_or text i 0 == 92) && (get_or text (i + 1) 0 == 117)) ≡ false → second_hex4 (drop i text) ≡ None
unfolding second_hex4
second_off text i h e = rw (two_at text i h, e) refl

pub second_on : (text : List ℕ) (i : ℕ) → i + 1 < length text → ((get_or text i 0 == 92) && (get_or text (i + 1) 0 == 117)) ≡ true → second_hex4 (drop i text) ≡ hex4 (drop (i + 2) text)
unfolding second_hex4
second_on text i h e = rw (two_at text i h, e) refl

pub ruleset second_steps = (second_short, second_off, second_on)

hex_none : (text : List ℕ) → length text < 2 → hex_escape text ≡ None
unfolding hex_escape
hex_none [] h = refl
hex_none (a ∷ []) h = refl
hex_none (a ∷ b ∷ rest) h = absurd (omega arith)

pub hex_short : (text : List ℕ) (i : ℕ) → length text - i < 2 → hex_escape (drop i text) ≡ None
hex_short text i h = hex_none (drop i text) (omega (arith, length-drop i text))

pub hex_off : (text : List ℕ) (i : ℕ) → i + 1 < length text → (is_hex_digit (get_or text i 0) && is_hex_digit (get_or text (i + 1) 0)) ≡ false → hex_escape (drop i text) ≡ None
unfolding hex_escape
hex_off text i h e = rw (two_at text i h, e) refl

pub hex_on : (text : List ℕ) (i : ℕ) → i + 1 < length text → (is_hex_digit (get_or text i 0) && is_hex_digit (get_or text (i + 1) 0)) ≡ true
    → hex_escape (drop i text) ≡ Some (part (two_digits (get_or text i 0) (get_or text (i + 1) 0) ∷ []) (drop (i + 2) text))
unfolding hex_escape
hex_on text i h e = rw (two_at text i h, e) refl

pub ruleset hex_steps = (hex_short, hex_off, hex_on)

html_none : (text : List ℕ) → length text < 4 → begins_html_comment text ≡ false
unfolding begins_html_comment
html_none [] h = refl
html_none (a ∷ []) h = refl
html_none (a ∷ b ∷ []) h = refl
html_none (a ∷ b ∷ c ∷ []) h = refl
html_none (a ∷ b ∷ c ∷ d ∷ rest) h = absurd (omega arith)

pub html_short : (text : List ℕ) (i : ℕ) → length text - i < 4 → begins_html_comment (drop i text) ≡ false
html_short text i h = html_none (drop i text) (omega (arith, length-drop i text))

pub html_long : (text : List ℕ) (i : ℕ) → i + 3 < length text → begins_html_comment (drop i text)
    ≡ (((get_or text i 0 == 60) && (get_or text (i + 1) 0 == 33)) && ((get_or text (i + 2) 0 == 45) && (get_or text (i + 2 + 1) 0 == 45)))
unfolding begins_html_comment
html_long text i h = rw (four_at text i h) refl

pub ruleset html_steps = (html_short, html_long)

-- what is no surrogate is the number of a character
pub scalar_single : (u : ℕ) → u < 65536 → is_high u ≡ false → is_low u ≡ false → IsScalar u
unfolding is_high is_low within
scalar_single u h p q = elim (decided (nat_lt u 55296)) [
  | inl on ↦ rw on refl
  | inr off ↦ (let g = ltb-false u 55296 off in
      let a : 0xDBFF < u = leb-false u 0xDBFF (rw (le-leb 0xD800 u (omega arith)) at p) in
      let b : 0xDFFF < u = leb-false u 0xDFFF (rw (le-leb 0xDC00 u (omega arith)) at q) in
      rw (off, le-leb 57344 u (omega arith), lt-ltb u 1114112 (omega arith)) refl)
]

pub scalar_small : (u : ℕ) → u < 256 → IsScalar u
scalar_small u h = rw (lt-ltb u 55296 (omega arith)) refl
