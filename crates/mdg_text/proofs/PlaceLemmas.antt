-- The characters from a place of the text.
use Rattle.std.proofs.Common.{◌≡◌, ℕ, zero, suc, ◌+◌, ◌-◌, ◌≤◌, ◌<◌, Bool, true, false, cond, not, ◌&&◌, ◌||◌, ◌==◌, inl, inr, List, [], ◌∷◌, ◌++◌, length, take, drop, get_or, arith, length-drop, refl, sym, ap, ◌∙◌}
use Rattle.std.specs.Prelude.{Some, None}
use Rattle.std.proofs.lemmas.List.{drop_more, drop_all, drop-drop}
use Rattle.mdg_text.specs.Characters.{starts, is_line_end, is_hex_indicator}
use Rattle.mdg_text.specs.Characters.{in_line}
use Rattle.mdg_text.specs.Scanner.{skip, after_close, after_script, before, number, hexadecimal, is_in, punctuator_of, found_punctuator}
use Rattle.std.specs.Str.{encode_utf8_all}
use Rattle.std.proofs.lemmas.Bool.{le-leb, lt-leb}
use Rattle.mdg_text.specs.declared.token.TokenKind.TheVariants as variant
use Rattle.mdg_text.specs.Punctuator.{punctuators}
use Rattle.mdg_base.proofs.Decisions.{decided}

-- the first character, and none
pub ruleset first_character = (drop_more, drop_all)

pub skip_on : (p : ℕ → Bool) (text : List ℕ) (i : ℕ) → i < length text → p (get_or text i 0) ≡ true → skip p (drop i text) ≡ skip p (drop (i + 1) text)
unfolding skip
skip_on p text i h e = rw (drop_more text i 0 h, e) refl

pub skip_off : (p : ℕ → Bool) (text : List ℕ) (i : ℕ) → i < length text → p (get_or text i 0) ≡ false → skip p (drop i text) ≡ drop i text
unfolding skip
skip_off p text i h e = rw (drop_more text i 0 h, e) refl

pub skip_end : (p : ℕ → Bool) (text : List ℕ) (i : ℕ) → length text ≤ i → skip p (drop i text) ≡ drop i text
unfolding skip
skip_end p text i h = rw (drop_all i text h) refl

pub line_on : (text : List ℕ) (i : ℕ) → i < length text → is_line_end (get_or text i 0) ≡ false → skip in_line (drop i text) ≡ skip in_line (drop (i + 1) text)
line_on text i h e = skip_on in_line text i h (rw e refl)

pub line_off : (text : List ℕ) (i : ℕ) → i < length text → is_line_end (get_or text i 0) ≡ true → skip in_line (drop i text) ≡ drop i text
line_off text i h e = skip_off in_line text i h (rw e refl)

pub ruleset skips = (skip_on, skip_off, skip_end, line_on, line_off)

pub close_on : (text : List ℕ) (i : ℕ) → i + 1 < length text → ((get_or text i 0 == 42) && (get_or text (i + 1) 0 == 47)) ≡ true → after_close (drop i text) ≡ Some (drop (i + 2) text)
unfolding after_close
close_on text i h e =
    let a : i < length text = omega arith in
    let two : drop i text ≡ get_or text i 0 ∷ get_or text (i + 1) 0 ∷ drop (i + 2) text = drop_more text i 0 a ∙ ap (λ (l : List ℕ). get_or text i 0 ∷ l) (drop_more text (i + 1) 0 h ∙ ap (λ (j : ℕ). get_or text (i + 1) 0 ∷ drop j text) (omega arith)) in
    rw (two, e) refl

pub close_off : (text : List ℕ) (i : ℕ) → i + 1 < length text → ((get_or text i 0 == 42) && (get_or text (i + 1) 0 == 47)) ≡ false → after_close (drop i text) ≡ after_close (drop (i + 1) text)
unfolding after_close
close_off text i h e =
    let a : i < length text = omega arith in
    rw (drop_more text i 0 a, drop_more text (i + 1) 0 h, e) refl

one_left : (text : List ℕ) → length text ≤ 1 → after_close text ≡ None
unfolding after_close
one_left [] h = refl
one_left (c ∷ []) h = refl
one_left (c ∷ d ∷ ds) h = absurd (omega arith)

pub close_end : (text : List ℕ) (i : ℕ) → length text ≤ i + 1 → after_close (drop i text) ≡ None
close_end text i h = one_left (drop i text) (omega (arith, length-drop i text))

pub ruleset closing = (close_on, close_off, close_end)

-- where no close stands from a place on, none stands from a later one on
none_after : (c : ℕ) (cs : List ℕ) → after_close (c ∷ cs) ≡ None → after_close cs ≡ None
unfolding after_close
none_after c [] e = refl
none_after c (d ∷ ds) e = go ((c == 42) && (d == 47)) e where
  go : (b : Bool) → cond b (Some ds) (after_close (d ∷ ds)) ≡ None → after_close (d ∷ ds) ≡ None
  go true e = absurd cc
  go false e = e

none_later : (n : ℕ) (text : List ℕ) → after_close text ≡ None → after_close (drop n text) ≡ None
none_later zero text e = e
none_later (suc n) [] e = e
none_later (suc n) (c ∷ cs) e = none_later n cs (none_after c cs e)

pub no_close : (text : List ℕ) (i j : ℕ) → i ≤ j → after_close (drop i text) ≡ None → after_close (drop j text) ≡ None
no_close text i j h e = ap after_close (ap (λ (k : ℕ). drop k text) (omega arith) ∙ sym (drop-drop (j - i) i text)) ∙ none_later (j - i) (drop i text) e

pub ruleset closed = (no_close)

pub close_back : (text : List ℕ) (i : ℕ) → 1 < i → i ≤ length text → ((get_or text (i - 2) 0 == 42) && (get_or text (i - 2 + 1) 0 == 47)) ≡ false
    → after_close (drop (i - 1) text) ≡ None → after_close (drop (i - 1 - 1) text) ≡ None
close_back text i h k e n =
    let a : i - 1 - 1 ≡ i - 2 = omega arith in let b : i - 2 + 1 ≡ i - 1 = omega arith in
    rw a (close_off text (i - 2) (omega arith) e ∙ rw b n)

pub ruleset back = (close_end, close_back)

pub spelled_between : (text : List ℕ) (i j : ℕ) → i ≤ j → j ≤ length text → before (drop i text) (drop j text) ≡ take (j - i) (drop i text)
unfolding before
spelled_between text i j h k = ap (λ (n : ℕ). take n (drop i text)) (omega (arith, length-drop i text, length-drop j text))

pub ruleset between = (spelled_between)

pub script_short : (text : List ℕ) → length text < 2 → after_script text ≡ text
unfolding after_script
script_short [] h = refl
script_short (c ∷ []) h = elim (decided (c == 35)) [ inl on ↦ rw on refl | inr off ↦ rw off refl ]
script_short (c ∷ d ∷ ds) h = absurd (omega arith)

pub script_on : (text : List ℕ) → 1 < length text → ((get_or text 0 0 == 35) && (get_or text 1 0 == 33)) ≡ true → after_script text ≡ skip in_line (drop 2 text)
unfolding after_script
script_on [] h e = absurd (omega arith)
script_on (c ∷ []) h e = absurd (omega arith)
script_on (c ∷ d ∷ ds) h e = rw e refl

pub script_off : (text : List ℕ) → 1 < length text → ((get_or text 0 0 == 35) && (get_or text 1 0 == 33)) ≡ false → after_script text ≡ text
unfolding after_script
script_off [] h e = refl
script_off (c ∷ []) h e = absurd (omega arith)
script_off (c ∷ d ∷ ds) h e = rw e refl

pub ruleset scripts = (script_short, script_on, script_off)

pub hex_at : (text : List ℕ) (i none : ℕ) → i < length text → get_or text i none ≡ 48 → starts is_hex_indicator (drop (i + 1) text) ≡ true → number (drop i text) ≡ hexadecimal (drop (i + 2) text)
unfolding number
hex_at text i none h e m =
    let two : drop 1 (drop (i + 1) text) ≡ drop (i + 2) text = drop-drop 1 (i + 1) text ∙ ap (λ (n : ℕ). drop n text) (omega arith) in
    rw (drop_more text i none h, e, m, two) refl

pub range_is : (text : List ℕ) (i n : ℕ) → take (i + n - i) (drop i text) ≡ take n (drop i text)
range_is text i n = ap (λ (k : ℕ). take k (drop i text)) (omega arith)

pub ruleset ranged = (range_is)

pub punctuator_none : (n : ℕ) (text : List ℕ) → n ≡ 0 → punctuator_of n text ≡ None
unfolding punctuator_of
punctuator_none n text e = rw e refl

pub punctuator_short : (n : ℕ) (text : List ℕ) → 0 < n → length text < n → punctuator_of n text ≡ punctuator_of (n - 1) text
unfolding punctuator_of
punctuator_short zero text h l = absurd (omega arith)
punctuator_short (suc n) text h l = rw (lt-leb (suc n) (length text) (omega arith)) (ap (λ (k : ℕ). punctuator_of k text) (omega arith))

pub punctuator_off : (n : ℕ) (text : List ℕ) → 0 < n → n ≤ length text → is_in punctuators (take n text) ≡ false → punctuator_of n text ≡ punctuator_of (n - 1) text
unfolding punctuator_of
punctuator_off zero text h l e = absurd (omega arith)
punctuator_off (suc n) text h l e = rw (le-leb (suc n) (length text) l, e) (ap (λ (k : ℕ). punctuator_of k text) (omega arith))

pub punctuator_on : (n : ℕ) (text : List ℕ) → 0 < n → n ≤ length text → is_in punctuators (take n text) ≡ true → punctuator_of n text ≡ Some (found_punctuator n text)
unfolding punctuator_of
punctuator_on zero text h l e = absurd (omega arith)
punctuator_on (suc n) text h l e = rw (le-leb (suc n) (length text) l, e) refl

pub punctuator_on_at : (n i : ℕ) (text : List ℕ) → 0 < n → i + n ≤ length text → is_in punctuators (take n (drop i text)) ≡ true → punctuator_of n (drop i text) ≡ Some (record { kind = variant.Mark; value = encode_utf8_all (take n (drop i text)); rest = drop (i + n) text })
punctuator_on_at n i text h l e = punctuator_on n (drop i text) h (omega (arith, length-drop i text)) e ∙ ap (λ (x : List ℕ). Some (record { kind = variant.Mark; value = encode_utf8_all (take n (drop i text)); rest = x })) (drop-drop n i text)

pub ruleset punctuator_steps = (punctuator_none, punctuator_short, punctuator_off, punctuator_on_at, length-drop)
