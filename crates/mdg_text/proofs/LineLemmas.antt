-- Line ends among bytes, and among the characters that they spell.
use Rattle.std.proofs.Common.{◌≡◌, ℕ, ◌+◌, ◌/◌, ◌%◌, ◌≤◌, ◌<◌, Bool, true, false, cond, not, ◌&&◌, ◌||◌, ◌==◌, inl, inr, List, [], ◌∷◌, ◌++◌, length, drop, get_or, arith, refl, sym, ap, ◌∙◌, eqb-true, eq-eqb}
use Rattle.std.specs.Prelude.{nat_lt}
use Rattle.std.specs.Char.{encode_utf8}
use Rattle.std.specs.Str.{encode_utf8_all}
use Rattle.std.proofs.lemmas.Bool.{ltb-true, ltb-false}
use Rattle.std.proofs.lemmas.List.{drop_more, drop_all}
use Rattle.mdg_text.specs.Characters.{starts, is_line_end}
use Rattle.mdg_text.specs.Characters.{line_ends}
use Rattle.mdg_text.specs.Lines.{ends_line_at, byte_line_ends}
use Rattle.mdg_base.proofs.Decisions.{decided, both_true, either_true, contradict}

pub bytes_none : (bs : List ℕ) (i : ℕ) → length bs ≤ i → byte_line_ends (drop i bs) ≡ 0
unfolding byte_line_ends
bytes_none bs i h = rw (drop_all i bs h) refl

pub bytes_more : (bs : List ℕ) (i : ℕ) → i < length bs → byte_line_ends (drop i bs) ≡ cond (ends_line_at (get_or bs i 0) (drop (i + 1) bs)) 1 0 + byte_line_ends (drop (i + 1) bs)
unfolding byte_line_ends
bytes_more bs i h = rw (drop_more bs i 0 h) refl

pub ruleset byte_steps = (bytes_none, bytes_more)

differs : (a b : ℕ) → (a ≡ b → ⊥) → (a == b) ≡ false
differs a b f = elim (decided (a == b)) [ inl on ↦ absurd (f (eqb-true a b on)) | inr off ↦ off ]

-- a byte above CR that is not E2 begins no line end
quiet : (b : ℕ) (bs : List ℕ) → 13 < b → (b ≡ 226 → ⊥) → byte_line_ends (b ∷ bs) ≡ byte_line_ends bs
unfolding byte_line_ends
quiet b bs h ne = rw (differs b 10 (λ e. omega arith), differs b 13 (λ e. omega arith), differs b 226 ne) (omega arith)

no_end : (c : ℕ) → 13 < c → (c ≡ 8232 → ⊥) → (c ≡ 8233 → ⊥) → is_line_end c ≡ false
unfolding is_line_end
no_end c h p q = rw (differs c 10 (λ e. omega arith), differs c 13 (λ e. omega arith), differs c 8232 p, differs c 8233 q) refl

-- what a character adds to the line ends of what follows it
abbrev added : ℕ → List ℕ → ℕ
added c rest = cond (is_line_end c && not ((c == 13) && starts (λ d. d == 10) rest)) 1 0

added_none : (c : ℕ) (rest : List ℕ) → 13 < c → (c ≡ 8232 → ⊥) → (c ≡ 8233 → ⊥) → added c rest ≡ 0
added_none c rest h p q = rw (no_end c h p q) refl

one_byte : (c : ℕ) (rest : List ℕ) → c < 128 → byte_line_ends (c ∷ rest) ≡ added c rest + byte_line_ends rest
unfolding byte_line_ends is_line_end
one_byte c rest h = elim (decided (c == 10)) [
  | inl lf ↦ (let e : c ≡ 10 = eqb-true c 10 lf in rw e refl)
  | inr other ↦ elim (decided (c == 13)) [
    | inl cr ↦ (let e : c ≡ 13 = eqb-true c 13 cr in rw e (go (starts (λ d. d == 10) rest)))
    | inr none ↦ rw (other, none, differs c 226 (λ e. omega arith), differs c 8232 (λ e. omega arith), differs c 8233 (λ e. omega arith)) refl
  ]
] where
  go : (s : Bool) → cond (not s || false) 1 0 + byte_line_ends rest ≡ cond (not s) 1 0 + byte_line_ends rest
  go true = refl
  go false = refl

silent : (a n m : ℕ) → a ≡ 0 → n ≡ m → n ≡ a + m
silent a n m z e = omega arith

two_bytes : (c : ℕ) (rest : List ℕ) → 128 ≤ c → c < 2048 → byte_line_ends ((192 + c / 64) ∷ (128 + c % 64) ∷ rest) ≡ added c rest + byte_line_ends rest
two_bytes c rest l h =
    silent _ _ _ (added_none c rest (omega arith) (λ e. omega arith) (λ e. omega arith))
    (quiet (192 + c / 64) ((128 + c % 64) ∷ rest) (omega arith) (λ e. omega arith) ∙ quiet (128 + c % 64) rest (omega arith) (λ e. omega arith))

-- E2 begins a line end where the next two bytes say so
lead : (b d : ℕ) (rest : List ℕ) → byte_line_ends (226 ∷ b ∷ d ∷ rest) ≡ cond ((b == 128) && ((d == 168) || (d == 169))) 1 0 + byte_line_ends (b ∷ d ∷ rest)
unfolding byte_line_ends
lead b d rest = refl

loud : (b d : ℕ) (rest : List ℕ) → 13 < b → b < 226 → 13 < d → d < 226 → byte_line_ends (226 ∷ b ∷ d ∷ rest) ≡ cond ((b == 128) && ((d == 168) || (d == 169))) 1 0 + byte_line_ends rest
loud b d rest h k l m = lead b d rest ∙ ap (λ (n : ℕ). cond ((b == 128) && ((d == 168) || (d == 169))) 1 0 + n)
    (quiet b (d ∷ rest) h (λ e. omega arith) ∙ quiet d rest l (λ e. omega arith))

separator_bytes : (c : ℕ) → 8192 ≤ c → c < 12288 → is_line_end c ≡ ((128 + c / 64 % 64 == 128) && ((128 + c % 64 == 168) || (128 + c % 64 == 169)))
unfolding is_line_end
separator_bytes c l h = elim (decided (c == 8232)) [
  | inl ls ↦ (let e : c ≡ 8232 = eqb-true c 8232 ls in rw e refl)
  | inr other ↦ elim (decided (c == 8233)) [
    | inl ps ↦ (let e : c ≡ 8233 = eqb-true c 8233 ps in rw e refl)
    | inr none ↦ rw (differs c 10 (λ e. omega arith), differs c 13 (λ e. omega arith), other, none)
        (sym (neither c l h (λ e. contradict (eq-eqb c 8232 e) other) (λ e. contradict (eq-eqb c 8233 e) none)))
  ]
] where
  neither : (c : ℕ) → 8192 ≤ c → c < 12288 → (c ≡ 8232 → ⊥) → (c ≡ 8233 → ⊥) → ((128 + c / 64 % 64 == 128) && ((128 + c % 64 == 168) || (128 + c % 64 == 169))) ≡ false
  neither c l h p q = elim (decided ((128 + c / 64 % 64 == 128) && ((128 + c % 64 == 168) || (128 + c % 64 == 169)))) [
    | inl on ↦ (let b = both_true (128 + c / 64 % 64 == 128) ((128 + c % 64 == 168) || (128 + c % 64 == 169)) on in
        let e : 128 + c / 64 % 64 ≡ 128 = eqb-true (128 + c / 64 % 64) 128 b.0 in
        absurd (elim (either_true (128 + c % 64 == 168) (128 + c % 64 == 169) b.1) [
          | inl x ↦ (let f : 128 + c % 64 ≡ 168 = eqb-true (128 + c % 64) 168 x in p (omega arith))
          | inr x ↦ (let f : 128 + c % 64 ≡ 169 = eqb-true (128 + c % 64) 169 x in q (omega arith))
        ]))
    | inr off ↦ off
  ]

three_bytes : (c : ℕ) (rest : List ℕ) → 2048 ≤ c → c < 65536 → byte_line_ends ((224 + c / 4096) ∷ (128 + c / 64 % 64) ∷ (128 + c % 64) ∷ rest) ≡ added c rest + byte_line_ends rest
three_bytes c rest l h = elim (decided (c / 4096 == 2)) [
  | inl on ↦ (let e : c / 4096 ≡ 2 = eqb-true (c / 4096) 2 on in
      rw e (loud (128 + c / 64 % 64) (128 + c % 64) rest (omega arith) (omega arith) (omega arith) (omega arith)
      ∙ ap (λ (n : ℕ). n + byte_line_ends rest) (sym (as_end c rest (omega arith) (omega arith)))))
  | inr off ↦
      silent _ _ _ (added_none c rest (omega arith) (λ e. other c (omega arith) (omega arith) off) (λ e. other c (omega arith) (omega arith) off))
      (quiet (224 + c / 4096) _ (omega arith) (λ e. contradict (eq-eqb (c / 4096) 2 (omega arith)) off)
      ∙ (quiet (128 + c / 64 % 64) _ (omega arith) (λ e. omega arith) ∙ quiet (128 + c % 64) rest (omega arith) (λ e. omega arith)))
] where
  other : (c : ℕ) → 8192 ≤ c → c < 12288 → (c / 4096 == 2) ≡ false → ⊥
  other c l h off = contradict (eq-eqb (c / 4096) 2 (omega arith)) off

  as_end : (c : ℕ) (rest : List ℕ) → 8192 ≤ c → c < 12288 → added c rest ≡ cond {A = ℕ} ((128 + c / 64 % 64 == 128) && ((128 + c % 64 == 168) || (128 + c % 64 == 169))) 1 0
  as_end c rest l h = rw (differs c 13 (λ e. omega arith)) (bare (is_line_end c) ∙ ap (λ (b : Bool). cond {A = ℕ} b 1 0) (separator_bytes c l h)) where
    bare : (b : Bool) → cond {A = ℕ} (b && not false) 1 0 ≡ cond {A = ℕ} b 1 0
    bare true = refl
    bare false = refl

four_bytes : (c : ℕ) (rest : List ℕ) → 65536 ≤ c → byte_line_ends ((240 + c / 262144) ∷ (128 + c / 4096 % 64) ∷ (128 + c / 64 % 64) ∷ (128 + c % 64) ∷ rest) ≡ added c rest + byte_line_ends rest
four_bytes c rest l =
    silent _ _ _ (added_none c rest (omega arith) (λ e. omega arith) (λ e. omega arith))
    (quiet (240 + c / 262144) _ (omega arith) (λ e. omega arith)
    ∙ (quiet (128 + c / 4096 % 64) _ (omega arith) (λ e. omega arith) ∙ (quiet (128 + c / 64 % 64) _ (omega arith) (λ e. omega arith) ∙ quiet (128 + c % 64) rest (omega arith) (λ e. omega arith))))

-- a character adds as many line ends among the bytes
pub encoded : (c : ℕ) (rest : List ℕ) → byte_line_ends (encode_utf8 c ++ rest) ≡ added c rest + byte_line_ends rest
unfolding encode_utf8
encoded c rest = elim (decided (nat_lt c 128)) [
  | inl a ↦ (let h = ltb-true c 128 a in rw a (one_byte c rest h))
  | inr a ↦ (let l = ltb-false c 128 a in elim (decided (nat_lt c 2048)) [
    | inl b ↦ (let h = ltb-true c 2048 b in rw (a, b) (two_bytes c rest l h))
    | inr b ↦ (let k = ltb-false c 2048 b in elim (decided (nat_lt c 65536)) [
      | inl d ↦ (let h = ltb-true c 65536 d in rw (a, b, d) (three_bytes c rest k h))
      | inr d ↦ (let m = ltb-false c 65536 d in rw (a, b, d) (four_bytes c rest m))
    ])
  ])
]

-- a text begins with LF where its bytes do
first_byte : (c : ℕ) (rest : List ℕ) → starts (λ d. d == 10) (encode_utf8 c ++ rest) ≡ (c == 10)
unfolding encode_utf8
first_byte c rest = elim (decided (nat_lt c 128)) [
  | inl a ↦ rw a refl
  | inr a ↦ (let l = ltb-false c 128 a in elim (decided (nat_lt c 2048)) [
    | inl b ↦ rw (a, b, differs (192 + c / 64) 10 (λ e. omega arith), differs c 10 (λ e. omega arith)) refl
    | inr b ↦ elim (decided (nat_lt c 65536)) [
      | inl d ↦ rw (a, b, d, differs (224 + c / 4096) 10 (λ e. omega arith), differs c 10 (λ e. omega arith)) refl
      | inr d ↦ rw (a, b, d, differs (240 + c / 262144) 10 (λ e. omega arith), differs c 10 (λ e. omega arith)) refl
    ]
  ])
]

starts_same : (cs : List ℕ) → starts (λ d. d == 10) (encode_utf8_all cs) ≡ starts (λ d. d == 10) cs
starts_same [] = refl
starts_same (c ∷ cs) = first_byte c (encode_utf8_all cs)

-- the line ends of a text are those of its bytes
pub line_ends_encoded : (cs : List ℕ) → byte_line_ends (encode_utf8_all cs) ≡ line_ends cs
unfolding line_ends byte_line_ends
line_ends_encoded [] = refl
line_ends_encoded (c ∷ cs) = encoded c (encode_utf8_all cs) ∙ (rw (starts_same cs, line_ends_encoded cs) refl)
