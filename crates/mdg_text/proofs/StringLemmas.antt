-- String literals: what is read of one is the relation, both ways.
use Rattle.std.proofs.Common.{◌≡◌, ℕ, zero, suc, ◌≤◌, true, false, cond, not, ◌&&◌, ◌==◌, inl, inr, List, [], ◌∷◌, ◌++◌, length, drop, arith, refl, sym, ap, ◌∙◌, subst, eqb-true, append_assoc, append-nil, eq-eqb}
use Rattle.std.specs.Prelude.{Some, None}
use Rattle.std.specs.Str.{encode_utf8_all}
use Rattle.mdg_text.specs.declared.token.TokenKind.TheVariants as variant
use Rattle.mdg_text.specs.Characters.{starts, within, is_digit, is_hex_digit, is_line_end, is_quote, is_high, is_low}
use Rattle.mdg_text.specs.StringLiteral.{two_digits, four_digits, paired, escaped, IsHex4, digits, IsUnicode, single, pair, IsSimple, IsStringCharacter, plain, simple, null, hex, joined, joined_two, IsStringBody, close, more}
use Rattle.mdg_text.specs.StringLiteral as spec
use Rattle.mdg_text.specs.Scanner as r
use Rattle.mdg_text.specs.Scanner.{◌>>=◌, Part, part, Unit16, unit16, Found, hex4, second_hex4, low_hex4, unicode_escape, hex_escape, after_line_end, null_escape, string_character, string_body, string_at}
use Rattle.mdg_base.proofs.Decisions.{some_is, chosen, guard_of, both_true, either_true, not_true, decided, contradict}
use Rattle.mdg_text.proofs.ScannerLemmas.{bind_ok}

-- units of UTF-16, and characters by their number
hex4_reads : (text rest : List ℕ) (u : ℕ) → IsHex4 text u rest → hex4 text ≡ Some (unit16 u rest)
unfolding hex4
hex4_reads text rest u (digits a b c d p q s t e) = rw (p, q, s, t, e) refl

abbrev Hex4At : List ℕ → Unit16 → Type 0
Hex4At text x = IsHex4 text x.value x.rest

hex4_is : (text : List ℕ) (x : Unit16) → hex4 text ≡ Some x → Hex4At text x
unfolding hex4
hex4_is (a ∷ b ∷ c ∷ d ∷ rest) x e =
    let g = guard_of ((is_hex_digit a && is_hex_digit b) && (is_hex_digit c && is_hex_digit d)) (Some (unit16 (four_digits a b c d) rest)) x e in
    let o = both_true _ _ g.0 in let p = both_true _ _ o.0 in let q = both_true _ _ o.1 in
    subst (Hex4At (a ∷ b ∷ c ∷ d ∷ rest)) (some_is _ _ g.1) (digits a b c d p.0 p.1 q.0 q.1 refl)
hex4_is _ x e = absurd cc

unicode_reads : (text rest : List ℕ) (u : ℕ) → IsUnicode text u rest → r.unicode text ≡ Some (unit16 u rest)
unfolding r.unicode low_hex4 second_hex4
unicode_reads text rest u (single i h l) = rw (hex4_reads text rest u i, h, l) refl
unicode_reads text rest u (pair middle high low i h j l e) = rw (hex4_reads text (92 ∷ 117 ∷ middle) high i, h, hex4_reads middle rest low j, l, e) refl

abbrev UnicodeAt : List ℕ → Unit16 → Type 0
UnicodeAt text x = IsUnicode text x.value x.rest

record SecondCut (text : List ℕ) (x : Unit16) : Type 0 where
  pub middle : List ℕ
  pub cut : text ≡ 92 ∷ 117 ∷ middle
  pub is : IsHex4 middle x.value x.rest

second_is : (text : List ℕ) (x : Unit16) → second_hex4 text ≡ Some x → SecondCut text x
unfolding second_hex4
second_is (c ∷ d ∷ rest) x e =
    let g = guard_of ((c == 92) && (d == 117)) (hex4 rest) x e in let b = both_true (c == 92) (d == 117) g.0 in
    let p : c ≡ 92 = eqb-true c 92 b.0 in let q : d ≡ 117 = eqb-true d 117 b.1 in
    record { middle = rest; cut = rw (p, q) refl; is = hex4_is rest x g.1 }
second_is _ x e = absurd cc

low_is : (text rest : List ℕ) (high : ℕ) (x : Unit16) → IsHex4 text high rest → is_high high ≡ true → low_hex4 high rest ≡ Some x → UnicodeAt text x
unfolding low_hex4
low_is text rest high x i h e =
    let b = bind_ok (second_hex4 rest) (λ l. cond (is_low l.value) (Some (unit16 (paired high l.value) l.rest)) None) x e in
    let s = second_is rest b.0 b.1 in
    let g = guard_of (is_low b.0.value) (Some (unit16 (paired high b.0.value) b.0.rest)) x b.2 in
    subst (UnicodeAt text) (some_is _ _ g.1) (pair s.middle high b.0.value (subst (IsHex4 text high) s.cut i) h s.is g.0 refl)

unicode_is : (text : List ℕ) (x : Unit16) → r.unicode text ≡ Some x → UnicodeAt text x
unfolding r.unicode
unicode_is text x e =
    let b = bind_ok (hex4 text) (λ h. cond (is_high h.value) (low_hex4 h.value h.rest) (cond (is_low h.value) None (Some h))) x e in
    let i = hex4_is text b.0 b.1 in
    elim (chosen (is_high b.0.value) (low_hex4 b.0.value b.0.rest) (cond (is_low b.0.value) None (Some b.0)) (Some x) b.2) [
      | inl h ↦ low_is text b.0.rest b.0.value x i h.0 h.1
      | inr h ↦ elim (chosen (is_low b.0.value) None (Some b.0) (Some x) h.1) [
        | inl g ↦ absurd (let z = g.1 in cc)
        | inr g ↦ subst (UnicodeAt text) (some_is b.0 x g.1) (single i h.0 g.0)
      ]
    ]

-- elements
pub record IsReadStringCharacter (quote : ℕ) (text one middle : List ℕ) : Type 0 where
  pub head : ℕ
  pub tail : List ℕ
  pub cut : text ≡ head ∷ tail
  pub other : (head == quote) ≡ false
  pub reads : string_character (head ∷ tail) ≡ Some (part one middle)
  pub shorter : length middle ≤ length tail

slash_open : (quote : ℕ) → is_quote quote ≡ true → (92 == quote) ≡ false
unfolding is_quote
slash_open quote q = elim (either_true (quote == 34) (quote == 39) q) [
  | inl a ↦ (let e : quote ≡ 34 = eqb-true quote 34 a in rw e refl)
  | inr a ↦ (let e : quote ≡ 39 = eqb-true quote 39 a in rw e refl)
]

hex4_shorter : (text rest : List ℕ) (u : ℕ) → IsHex4 text u rest → length rest ≤ length text
hex4_shorter text rest u (digits a b c d p q s t e) = omega arith

unicode_shorter : (text rest : List ℕ) (u : ℕ) → IsUnicode text u rest → length rest ≤ length text
unicode_shorter text rest u (single i h l) = hex4_shorter text rest u i
unicode_shorter text rest u (pair middle high low i h j l e) = let x = hex4_shorter text (92 ∷ 117 ∷ middle) high i in let y = hex4_shorter middle rest low j in omega arith

-- after a backslash
escape_simple : (c : ℕ) (rest : List ℕ) → IsSimple c → r.escape (c ∷ rest) ≡ Some (part (escaped c ∷ []) rest)
unfolding r.escape
escape_simple c rest s = rw (s.in_line_is, s.digit, s.hex, s.unicode) refl

escape_null : (rest : List ℕ) → starts is_digit rest ≡ false → r.escape (48 ∷ rest) ≡ Some (part (0 ∷ []) rest)
unfolding r.escape null_escape is_line_end is_digit within
escape_null rest s = rw s refl

escape_hex : (a b : ℕ) (rest : List ℕ) → is_hex_digit a ≡ true → is_hex_digit b ≡ true → r.escape (120 ∷ a ∷ b ∷ rest) ≡ Some (part (two_digits a b ∷ []) rest)
unfolding r.escape hex_escape is_line_end is_digit within
escape_hex a b rest p q = rw (p, q) refl

escape_unicode : (c : ℕ) (text rest : List ℕ) → IsUnicode text c rest → r.escape (117 ∷ text) ≡ Some (part (c ∷ []) rest)
unfolding r.escape unicode_escape is_line_end is_digit within
escape_unicode c text rest i = rw (unicode_reads text rest c i) refl

escape_joined : (c : ℕ) (rest : List ℕ) → is_line_end c ≡ true → ((c == 13) && starts (λ d. d == 10) rest) ≡ false → r.escape (c ∷ rest) ≡ Some (part [] rest)
unfolding r.escape after_line_end
escape_joined c rest a b = rw (a, b) refl

escape_two : (rest : List ℕ) → r.escape (13 ∷ 10 ∷ rest) ≡ Some (part [] rest)
unfolding r.escape after_line_end is_line_end
escape_two rest = refl

slashed : (cs one middle : List ℕ) → r.escape cs ≡ Some (part one middle) → string_character (92 ∷ cs) ≡ Some (part one middle)
unfolding string_character is_line_end
slashed cs one middle e = e

of_escape : (quote : ℕ) (cs one middle : List ℕ) → is_quote quote ≡ true → r.escape cs ≡ Some (part one middle) → length middle ≤ length cs → IsReadStringCharacter quote (92 ∷ cs) one middle
of_escape quote cs one middle q e s = record { head = 92; tail = cs; cut = refl; other = slash_open quote q; reads = slashed cs one middle e; shorter = s }

pub string_character_reads : (quote : ℕ) (text one middle : List ℕ) → is_quote quote ≡ true → IsStringCharacter quote text one middle → IsReadStringCharacter quote text one middle
unfolding string_character
string_character_reads quote text one middle q (plain {c} {rest} a b s) = record { head = c; tail = rest; cut = refl; other = b; reads = rw (a, s) refl; shorter = omega arith }
string_character_reads quote text one middle q (simple {c} {rest} s) = of_escape quote (c ∷ rest) _ rest q (escape_simple c rest s) (omega arith)
string_character_reads quote text one middle q (null {rest} s) = of_escape quote (48 ∷ rest) _ rest q (escape_null rest s) (omega arith)
string_character_reads quote text one middle q (hex {a} {b} {rest} x y) = of_escape quote (120 ∷ a ∷ b ∷ rest) _ rest q (escape_hex a b rest x y) (omega arith)
string_character_reads quote text one middle q (spec.unicode {c} {text = after} {rest} i) = of_escape quote (117 ∷ after) _ rest q (escape_unicode c after rest i) (let s = unicode_shorter after rest c i in omega arith)
string_character_reads quote text one middle q (joined {c} {rest} a b) = of_escape quote (c ∷ rest) _ rest q (escape_joined c rest a b) (omega arith)
string_character_reads quote text one middle q (joined_two {rest}) = of_escape quote (13 ∷ 10 ∷ rest) _ rest q (escape_two rest) (omega arith)

pub string_body_reads : (n quote : ℕ) (value text all rest : List ℕ) → is_quote quote ≡ true → IsStringBody quote text all rest → length text ≤ n → string_body n quote value text ≡ Some (part (value ++ all) rest)
unfolding string_body
string_body_reads zero quote value text all rest q close h = absurd (omega arith)
string_body_reads (suc n) quote value text all rest q close h = rw (eq-eqb quote quote refl, append-nil) refl
string_body_reads zero quote value text all rest q (more {middle = middle} one others e b cut) h = (let i = string_character_reads quote text one middle q e in absurd (omega (arith, ap length i.cut)))
string_body_reads (suc n) quote value text all rest q (more {middle = middle} one others e b cut) h =
    let i = string_character_reads quote text one middle q e in
    rw (i.cut, i.other, i.reads) (string_body_reads n quote (value ++ one) middle others rest q b (omega (arith, ap length i.cut)) ∙ ap (λ (l : List ℕ). Some (part l rest)) (append_assoc value one others ∙ ap (λ (l : List ℕ). value ++ l) (sym cut)))

abbrev StringCharacterAt : ℕ → List ℕ → Part → Type 0
StringCharacterAt quote text p = IsStringCharacter quote text p.value p.rest

two : (c : ℕ) (cs : List ℕ) → ((c == 13) && starts (λ d. d == 10) cs) ≡ true → (rest : List ℕ) × (cs ≡ 10 ∷ rest) × (c ≡ 13)
two c [] e = absurd (let b = both_true (c == 13) false e in contradict b.1 refl)
two c (d ∷ ds) e = (let b = both_true (c == 13) (d == 10) e in let p : d ≡ 10 = eqb-true d 10 b.1 in (ds, cc, eqb-true c 13 b.0))

joined_crlf : (quote c : ℕ) (cs rest : List ℕ) → cs ≡ 10 ∷ rest → c ≡ 13 → StringCharacterAt quote (92 ∷ c ∷ cs) (part [] (drop 1 cs))
joined_crlf quote c cs rest p q = rw (p, q) joined_two

joined_at : (quote c : ℕ) (cs : List ℕ) → is_line_end c ≡ true → StringCharacterAt quote (92 ∷ c ∷ cs) (part [] (after_line_end c cs))
unfolding after_line_end
joined_at quote c cs on = elim (decided ((c == 13) && starts (λ d. d == 10) cs)) [
  | inl crlf ↦ (let t = two c cs crlf in rw crlf (joined_crlf quote c cs t.0 t.1 t.2))
  | inr other ↦ rw other (joined on other)
]

null_is : (quote c : ℕ) (cs : List ℕ) (p : Part) → null_escape c cs ≡ Some p → StringCharacterAt quote (92 ∷ c ∷ cs) p
unfolding null_escape
null_is quote c cs p e =
    let g = guard_of ((c == 48) && not (starts is_digit cs)) (Some (part (0 ∷ []) cs)) p e in
    let b = both_true (c == 48) (not (starts is_digit cs)) g.0 in let q : c ≡ 48 = eqb-true c 48 b.0 in
    subst (λ (x : ℕ). StringCharacterAt quote (92 ∷ x ∷ cs) p) (sym q) (subst (StringCharacterAt quote (92 ∷ 48 ∷ cs)) (some_is _ _ g.1) (null (not_true _ b.1)))

hex_is : (quote : ℕ) (cs : List ℕ) (p : Part) → hex_escape cs ≡ Some p → StringCharacterAt quote (92 ∷ 120 ∷ cs) p
unfolding hex_escape
hex_is quote (a ∷ b ∷ rest) p e =
    let g = guard_of (is_hex_digit a && is_hex_digit b) (Some (part (two_digits a b ∷ []) rest)) p e in let o = both_true _ _ g.0 in
    subst (StringCharacterAt quote (92 ∷ 120 ∷ a ∷ b ∷ rest)) (some_is _ _ g.1) (hex o.0 o.1)
hex_is quote _ p e = absurd cc

unicode_escape_is : (quote : ℕ) (cs : List ℕ) (p : Part) → unicode_escape cs ≡ Some p → StringCharacterAt quote (92 ∷ 117 ∷ cs) p
unfolding unicode_escape
unicode_escape_is quote cs p e = let b = bind_ok (r.unicode cs) (λ u. Some (part (u.value ∷ []) u.rest)) p e in
    subst (StringCharacterAt quote (92 ∷ 117 ∷ cs)) (some_is _ _ b.2) (spec.unicode (unicode_is cs b.0 b.1))

letter_is : (quote c : ℕ) (cs : List ℕ) (p : Part) → is_line_end c ≡ false → is_digit c ≡ false
    → cond (c == 120) (hex_escape cs) (cond (c == 117) (unicode_escape cs) (Some (part (escaped c ∷ []) cs))) ≡ Some p → StringCharacterAt quote (92 ∷ c ∷ cs) p
letter_is quote c cs p l d e = elim (chosen (c == 120) (hex_escape cs) (cond (c == 117) (unicode_escape cs) (Some (part (escaped c ∷ []) cs))) (Some p) e) [
  | inl h ↦ (let q : c ≡ 120 = eqb-true c 120 h.0 in subst (λ (x : ℕ). StringCharacterAt quote (92 ∷ x ∷ cs) p) (sym q) (hex_is quote cs p h.1))
  | inr h ↦ elim (chosen (c == 117) (unicode_escape cs) (Some (part (escaped c ∷ []) cs)) (Some p) h.1) [
    | inl g ↦ (let q : c ≡ 117 = eqb-true c 117 g.0 in subst (λ (x : ℕ). StringCharacterAt quote (92 ∷ x ∷ cs) p) (sym q) (unicode_escape_is quote cs p g.1))
    | inr g ↦ subst (StringCharacterAt quote (92 ∷ c ∷ cs)) (some_is _ _ g.1) (simple (record { in_line_is = l; digit = d; hex = h.0; unicode = g.0 }))
  ]
]

escape_is : (quote : ℕ) (cs : List ℕ) (p : Part) → r.escape cs ≡ Some p → StringCharacterAt quote (92 ∷ cs) p
unfolding r.escape
escape_is quote [] p e = absurd cc
escape_is quote (c ∷ cs) p e = elim (chosen (is_line_end c) (Some (part [] (after_line_end c cs))) (cond (is_digit c) (null_escape c cs) (cond (c == 120) (hex_escape cs) (cond (c == 117) (unicode_escape cs) (Some (part (escaped c ∷ []) cs))))) (Some p) e) [
  | inl h ↦ subst (StringCharacterAt quote (92 ∷ c ∷ cs)) (some_is _ _ h.1) (joined_at quote c cs h.0)
  | inr h ↦ elim (chosen (is_digit c) (null_escape c cs) (cond (c == 120) (hex_escape cs) (cond (c == 117) (unicode_escape cs) (Some (part (escaped c ∷ []) cs)))) (Some p) h.1) [
    | inl g ↦ null_is quote c cs p g.1
    | inr g ↦ letter_is quote c cs p h.0 g.0 g.1
  ]
]

string_character_is : (quote c : ℕ) (cs : List ℕ) (p : Part) → (c == quote) ≡ false → string_character (c ∷ cs) ≡ Some p → StringCharacterAt quote (c ∷ cs) p
unfolding string_character
string_character_is quote c cs p other e = elim (chosen (is_line_end c) None (cond (c == 92) (r.escape cs) (Some (part (c ∷ []) cs))) (Some p) e) [
  | inl h ↦ absurd cc
  | inr h ↦ elim (chosen (c == 92) (r.escape cs) (Some (part (c ∷ []) cs)) (Some p) h.1) [
    | inl g ↦ (let q : c ≡ 92 = eqb-true c 92 g.0 in subst (λ (x : ℕ). StringCharacterAt quote (x ∷ cs) p) (sym q) (escape_is quote cs p g.1))
    | inr g ↦ subst (StringCharacterAt quote (c ∷ cs)) (some_is _ _ g.1) (plain h.0 other g.0)
  ]
]

pub record IsReadStringBody (quote : ℕ) (text value : List ℕ) (p : Part) : Type 0 where
  pub all : List ℕ
  pub is : IsStringBody quote text all p.rest
  pub value_is : p.value ≡ value ++ all

closed_body : (quote c : ℕ) (value cs : List ℕ) → c ≡ quote → IsReadStringBody quote (c ∷ cs) value (part value cs)
closed_body quote c value cs e = record { all = []; is = rw e close; value_is = sym (append-nil value) }

more_body : (quote : ℕ) (text value : List ℕ) (x p : Part) → StringCharacterAt quote text x → IsReadStringBody quote x.rest (value ++ x.value) p → IsReadStringBody quote text value p
more_body quote text value x p e b = record { all = x.value ++ b.all; is = more x.value b.all e b.is refl; value_is = b.value_is ∙ append_assoc value x.value b.all }

pub string_body_is : (n quote : ℕ) (value text : List ℕ) (p : Part) → string_body n quote value text ≡ Some p → IsReadStringBody quote text value p
unfolding string_body
string_body_is zero quote value text p e = absurd cc
string_body_is (suc n) quote value [] p e = absurd cc
string_body_is (suc n) quote value (c ∷ cs) p e = elim (chosen (c == quote) (Some (part value cs)) (string_character (c ∷ cs) >>= λ x. string_body n quote (value ++ x.value) x.rest) (Some p) e) [
  | inl h ↦ subst (IsReadStringBody quote (c ∷ cs) value) (some_is _ _ h.1) (closed_body quote c value cs (eqb-true c quote h.0))
  | inr h ↦ (let b = bind_ok (string_character (c ∷ cs)) (λ x. string_body n quote (value ++ x.value) x.rest) p h.1 in
      more_body quote (c ∷ cs) value b.0 p (string_character_is quote c cs b.0 h.0 b.1) (string_body_is n quote (value ++ b.0.value) b.0.rest p b.2))
]

-- what stands between the quotes is cut off
hex4_cut : (text rest : List ℕ) (u : ℕ) → IsHex4 text u rest → (f : List ℕ) × (text ≡ f ++ rest)
hex4_cut text rest u (digits a b c d p q s t e) = (a ∷ b ∷ c ∷ d ∷ [], refl)

unicode_cut : (text rest : List ℕ) (u : ℕ) → IsUnicode text u rest → (f : List ℕ) × (text ≡ f ++ rest)
unicode_cut text rest u (single i h l) = hex4_cut text rest u i
unicode_cut text rest u (pair middle high low i h j l e) = let x = hex4_cut text (92 ∷ 117 ∷ middle) high i in let y = hex4_cut middle rest low j in
    (x.0 ++ (92 ∷ 117 ∷ y.0), x.1 ∙ ap (λ (l : List ℕ). x.0 ++ (92 ∷ 117 ∷ l)) y.1 ∙ sym (append_assoc x.0 (92 ∷ 117 ∷ y.0) rest))

string_character_cut : (quote : ℕ) (text one middle : List ℕ) → IsStringCharacter quote text one middle → (f : List ℕ) × (text ≡ f ++ middle)
string_character_cut quote text one middle (plain {c} a b s) = (c ∷ [], refl)
string_character_cut quote text one middle (simple {c} s) = (92 ∷ c ∷ [], refl)
string_character_cut quote text one middle (null s) = (92 ∷ 48 ∷ [], refl)
string_character_cut quote text one middle (hex {a} {b} x y) = (92 ∷ 120 ∷ a ∷ b ∷ [], refl)
string_character_cut quote text one middle (spec.unicode {c} {text = after} {rest} i) = let x = unicode_cut after rest c i in (92 ∷ 117 ∷ x.0, ap (λ (l : List ℕ). 92 ∷ 117 ∷ l) x.1)
string_character_cut quote text one middle (joined {c} a b) = (92 ∷ c ∷ [], refl)
string_character_cut quote text one middle joined_two = (92 ∷ 13 ∷ 10 ∷ [], refl)

pub string_body_cut : (quote : ℕ) (text all rest : List ℕ) → IsStringBody quote text all rest → (f : List ℕ) × (text ≡ f ++ rest)
string_body_cut quote text all rest close = (quote ∷ [], refl)
string_body_cut quote text all rest (more {middle = middle} one others e b cut) = let x = string_character_cut quote text one middle e in let y = string_body_cut quote middle others rest b in
    (x.0 ++ y.0, x.1 ∙ ap (λ (l : List ℕ). x.0 ++ l) y.1 ∙ sym (append_assoc x.0 y.0 rest))

-- a string literal is read whole
pub string_reads : (n quote : ℕ) (inner value rest text : List ℕ) → is_quote quote ≡ true → text ≡ quote ∷ inner → IsStringBody quote inner value rest → length text ≤ n
    → string_at n text ≡ Some (record { kind = variant.Text; value = encode_utf8_all value; rest = rest })
unfolding string_at
string_reads n quote inner value rest text q cut b h = rw (cut, q, string_body_reads n quote [] inner value rest q b (omega (arith, ap length cut))) refl

pub record IsReadString (text : List ℕ) (f : Found) : Type 0 where
  pub quote : ℕ
  pub inner : List ℕ
  pub inside : List ℕ
  pub cut : text ≡ quote ∷ inner
  pub is_quote_is : is_quote quote ≡ true
  pub is : IsStringBody quote inner inside f.rest
  pub value_is : f.value ≡ encode_utf8_all inside
  pub kind : f.kind ≡ variant.Text

pub string_is : (n : ℕ) (text : List ℕ) (f : Found) → string_at n text ≡ Some f → IsReadString text f
unfolding string_at
string_is n [] f e = absurd cc
string_is n (c ∷ cs) f e =
    let g = guard_of (is_quote c) (string_body n c [] cs >>= λ b. Some (record { kind = variant.Text; value = encode_utf8_all b.value; rest = b.rest })) f e in
    let b = bind_ok (string_body n c [] cs) (λ b. Some (record { kind = variant.Text; value = encode_utf8_all b.value; rest = b.rest })) f g.1 in
    let i = string_body_is n c [] cs b.0 b.1 in
    subst (IsReadString (c ∷ cs)) (some_is _ _ b.2) (record { quote = c; inner = cs; inside = i.all; cut = refl; is_quote_is = g.0; is = i.is; value_is = ap encode_utf8_all i.value_is; kind = refl })
