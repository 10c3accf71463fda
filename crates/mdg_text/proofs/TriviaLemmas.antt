-- Trivia: what is skipped is the relation, both ways.
use Rattle.std.proofs.Common.{◌≡◌, ℕ, zero, suc, ◌≤◌, ◌<◌, Bool, true, false, cond, ◌&&◌, ◌||◌, ◌==◌, inl, inr, List, [], ◌∷◌, ◌++◌, length, arith, refl, sym, ap, ◌∙◌, subst, eqb-true, append_assoc, length-append, eq-eqb}
use Rattle.std.specs.Prelude.{Option, Some, None}
use Rattle.mdg_text.specs.Characters.{starts, is_space, is_line_end}
use Rattle.mdg_text.specs.Characters.{in_line}
use Rattle.mdg_text.specs.Trivia.{IsTriviaElement, space, line_end, to_line_end, to_close, IsTrivia, none, more, BeginsTrivia, starts_script, IsScriptLine, absent, present}
use Rattle.mdg_text.specs.Scanner.{skip, after_close, after_script, comment, skip_one, skip_trivia, or_else}
use Rattle.mdg_base.proofs.Decisions.{some_is, chosen, guard_of, both_true, either_true, decided}
use Rattle.mdg_text.proofs.ScannerLemmas.{skip-append, skipped, skip_stops}

-- no end of a comment stands before that at the end of the body
abbrev IsFirstClose : List ℕ → Type 0
IsFirstClose body = (a b : List ℕ) → body ++ (42 ∷ 47 ∷ []) ≡ a ++ (42 ∷ 47 ∷ b) → length body ≤ length a

not_here : (c d : ℕ) (ds : List ℕ) → IsFirstClose (c ∷ d ∷ ds) → ((c == 42) && (d == 47)) ≡ false
not_here c d ds f = elim (decided ((c == 42) && (d == 47))) [
  | inl on ↦ (let b = both_true (c == 42) (d == 47) on in let p : c ≡ 42 = eqb-true c 42 b.0 in let q : d ≡ 47 = eqb-true d 47 b.1 in
      let w : suc (suc (length ds)) ≤ 0 = f [] (ds ++ (42 ∷ 47 ∷ [])) cc in absurd (omega arith))
  | inr off ↦ off
]

later : (c : ℕ) (cs : List ℕ) → IsFirstClose (c ∷ cs) → IsFirstClose cs
later c cs f = λ a b e. (let w : suc (length cs) ≤ suc (length a) = f (c ∷ a) b (ap (λ (l : List ℕ). c ∷ l) e) in omega arith)

first_of_one : (c : ℕ) → ((c == 42) && (42 == 47)) ≡ false
first_of_one c = elim (decided (c == 42)) [ inl on ↦ rw on refl | inr off ↦ rw off refl ]

pub after_close-append : (body rest : List ℕ) → IsFirstClose body → after_close (body ++ (42 ∷ 47 ∷ rest)) ≡ Some rest
unfolding after_close
after_close-append [] rest f = refl
after_close-append (c ∷ []) rest f = rw (first_of_one c) refl
after_close-append (c ∷ d ∷ ds) rest f = rw (not_here c d ds f) (after_close-append (d ∷ ds) rest (later c (d ∷ ds) f))

first_here : (s t c d : ℕ) (ds body rest b : List ℕ) → d ∷ ds ≡ body ++ (s ∷ t ∷ rest) → c ∷ (body ++ (s ∷ t ∷ [])) ≡ s ∷ t ∷ b → (s ≡ t → ⊥) → (c ≡ s) × (d ≡ t)
first_here s t c d ds [] rest b e h ne = absurd (ne cc)
first_here s t c d ds (x ∷ xs) rest b e h ne = (cc, cc)

moved : (s t c x : ℕ) (body a b : List ℕ) → c ∷ (body ++ (s ∷ t ∷ [])) ≡ x ∷ (a ++ (s ∷ t ∷ b)) → body ++ (s ∷ t ∷ []) ≡ a ++ (s ∷ t ∷ b)
moved s t c x body a b e = cc

both_are : (c d : ℕ) → c ≡ 42 → d ≡ 47 → ((c == 42) && (d == 47)) ≡ true
both_are c d p q = rw (eq-eqb c 42 p, eq-eqb d 47 q) refl

opposed : (b : Bool) → b ≡ true → b ≡ false → ⊥
opposed b p q = cc

first_more : (c d : ℕ) (ds body rest : List ℕ) → d ∷ ds ≡ body ++ (42 ∷ 47 ∷ rest) → ((c == 42) && (d == 47)) ≡ false → IsFirstClose body → IsFirstClose (c ∷ body)
first_more c d ds body rest e off f [] b h =
    let r = first_here 42 47 c d ds body rest b e h (λ (z : 42 ≡ 47). absurd (omega arith)) in
    absurd (opposed _ (both_are c d r.0 r.1) off)
first_more c d ds body rest e off f (x ∷ a) b h = let w = f a b (moved 42 47 c x body a b h) in omega arith

pub record Closed (text rest : List ℕ) : Type 0 where
  pub body : List ℕ
  pub cut : text ≡ body ++ (42 ∷ 47 ∷ rest)
  pub first : IsFirstClose body

pub after_close_is : (text rest : List ℕ) → after_close text ≡ Some rest → Closed text rest
unfolding after_close
after_close_is [] rest e = absurd cc
after_close_is (c ∷ []) rest e = absurd cc
after_close_is (c ∷ d ∷ ds) rest e = elim (chosen ((c == 42) && (d == 47)) (Some ds) (after_close (d ∷ ds)) (Some rest) e) [
  | inl h ↦ (let b = both_true (c == 42) (d == 47) h.0 in let p : c ≡ 42 = eqb-true c 42 b.0 in let q : d ≡ 47 = eqb-true d 47 b.1 in let r = some_is ds rest h.1 in
      record { body = []; cut = cc; first = λ a b e. omega arith })
  | inr h ↦ (let s = after_close_is (d ∷ ds) rest h.1 in
      record { body = c ∷ s.body; cut = ap (λ (l : List ℕ). c ∷ l) s.cut; first = first_more c d ds s.body rest s.cut h.0 s.first })
]

pub record Begins (text rest : List ℕ) : Type 0 where
  pub prefix : List ℕ
  pub cut : text ≡ prefix ++ rest
  pub is_element : IsTriviaElement prefix rest

line_begins : (c d : ℕ) (ds rest : List ℕ) → c ≡ 47 → d ≡ 47 → skip in_line ds ≡ rest → Begins (c ∷ d ∷ ds) rest
line_begins c d ds rest p q r = let s = skipped in_line ds in
    record { prefix = 47 ∷ 47 ∷ s.prefix; cut = rw (p, q) (ap (λ (l : List ℕ). 47 ∷ 47 ∷ l) (s.cut ∙ ap (λ (l : List ℕ). s.prefix ++ l) r)); is_element = to_line_end s.each (rw (← r) (skip_stops in_line ds)) }

block_begins : (c d : ℕ) (ds rest : List ℕ) → c ≡ 47 → d ≡ 42 → Closed ds rest → Begins (c ∷ d ∷ ds) rest
block_begins c d ds rest p q s =
    record { prefix = 47 ∷ 42 ∷ (s.body ++ (42 ∷ 47 ∷ [])); cut = rw (p, q) (ap (λ (l : List ℕ). 47 ∷ 42 ∷ l) (s.cut ∙ sym (append_assoc s.body (42 ∷ 47 ∷ []) rest))); is_element = to_close s.body refl s.first }

comment_cases : (c : ℕ) (cs rest : List ℕ) → comment cs ≡ Some rest → c ≡ 47 → Begins (c ∷ cs) rest
unfolding comment
comment_cases c [] rest e is = absurd cc
comment_cases c (d ∷ ds) rest e is = elim (chosen (d == 47) (Some (skip in_line ds)) (cond (d == 42) (after_close ds) None) (Some rest) e) [
  | inl h ↦ line_begins c d ds rest is (eqb-true d 47 h.0) (some_is _ _ h.1)
  | inr h ↦ (let g = guard_of (d == 42) (after_close ds) rest h.1 in block_begins c d ds rest is (eqb-true d 42 g.0) (after_close_is ds rest g.1))
]

pub skip_one_is : (text rest : List ℕ) → skip_one text ≡ Some rest → Begins text rest
unfolding skip_one
skip_one_is [] rest e = absurd cc
skip_one_is (c ∷ cs) rest e = elim (chosen (is_space c || is_line_end c) (Some cs) (cond (c == 47) (comment cs) None) (Some rest) e) [
  | inl h ↦ (let r = some_is cs rest h.1 in elim (either_true (is_space c) (is_line_end c) h.0) [
    | inl a ↦ record { prefix = c ∷ []; cut = cc; is_element = space a }
    | inr a ↦ record { prefix = c ∷ []; cut = cc; is_element = line_end a }
  ])
  | inr h ↦ (let g = guard_of (c == 47) (comment cs) rest h.1 in comment_cases c cs rest g.1 (eqb-true c 47 g.0))
]

pub skip_one-append : (prefix rest : List ℕ) → IsTriviaElement prefix rest → skip_one (prefix ++ rest) ≡ Some rest
unfolding skip_one comment is_space is_line_end Rattle.mdg_text.specs.Characters.is_separator Rattle.mdg_text.specs.Characters.within
skip_one-append prefix rest (space {c} a) = rw a refl
skip_one-append prefix rest (line_end {c} a) = elim (decided (is_space c)) [ inl on ↦ rw on refl | inr off ↦ rw (off, a) refl ]
skip_one-append prefix rest (to_line_end {body} each stops) = ap Some (skip-append in_line body rest each stops)
skip_one-append prefix rest (to_close body cut first) =
    rw (cut, append_assoc) (after_close-append body rest first)

pub trivia_grows : (prefix rest : List ℕ) → IsTriviaElement prefix rest → 0 < length prefix
trivia_grows prefix rest (space a) = omega arith
trivia_grows prefix rest (line_end a) = omega arith
trivia_grows prefix rest (to_line_end each stops) = omega arith
trivia_grows prefix rest (to_close body cut first) = rw cut (omega arith)

pub no_trivia : (text : List ℕ) → (BeginsTrivia text → ⊥) → skip_one text ≡ None
no_trivia text f = go (skip_one text) refl where
  go : (o : Option (List ℕ)) → skip_one text ≡ o → skip_one text ≡ None
  go None e = e
  go (Some r) e = let b = skip_one_is text r e in absurd (f (b.prefix, r, b.is_element, b.cut))

pub none_begins : (text : List ℕ) → skip_one text ≡ None → BeginsTrivia text → ⊥
none_begins text e b = let p = skip_one-append b.0 b.1 b.2 in let q : skip_one text ≡ Some b.1 = rw b.3 p in cc

-- all of it is skipped
pub skip_trivia-append : (n : ℕ) (trivia rest : List ℕ) → IsTrivia trivia rest → (BeginsTrivia rest → ⊥) → length (trivia ++ rest) ≤ n → skip_trivia n (trivia ++ rest) ≡ rest
unfolding skip_trivia
skip_trivia-append zero trivia rest none f h = refl
skip_trivia-append (suc n) trivia rest none f h = rw (no_trivia rest f) refl
skip_trivia-append zero trivia rest (more p others is_element g cut) f h =
    let w = trivia_grows p (others ++ rest) is_element in absurd (omega (arith, length-append trivia rest, ap length cut, length-append p others))
skip_trivia-append (suc n) trivia rest (more p others is_element g cut) f h =
    let w = trivia_grows p (others ++ rest) is_element in
    rw (cut, append_assoc, skip_one-append p (others ++ rest) is_element) (skip_trivia-append n others rest g f (omega (arith, length-append trivia rest, ap length cut, length-append p others, length-append others rest)))

pub record Gone (text rest : List ℕ) : Type 0 where
  pub trivia : List ℕ
  pub cut : text ≡ trivia ++ rest
  pub skipped : IsTrivia trivia rest
  pub ends : BeginsTrivia rest → ⊥

longer_trivia : (text r rest : List ℕ) → Begins text r → Gone r rest → Gone text rest
longer_trivia text r rest b g = record {
  trivia = b.prefix ++ g.trivia;
  cut = b.cut ∙ (ap (λ (l : List ℕ). b.prefix ++ l) g.cut ∙ sym (append_assoc b.prefix g.trivia rest));
  skipped = more b.prefix g.trivia (subst (IsTriviaElement b.prefix) g.cut b.is_element) g.skipped refl;
  ends = g.ends;
}

nothing : skip_one [] ≡ None
unfolding skip_one
nothing = refl

pub gone : (n : ℕ) (text : List ℕ) → length text ≤ n → Gone text (skip_trivia n text)
unfolding skip_trivia
gone zero [] h = record { trivia = []; cut = refl; skipped = none; ends = none_begins [] nothing }
gone zero (c ∷ cs) h = absurd (omega arith)
gone (suc n) text h = go (gone n) (skip_one text) refl where
  go : ((r : List ℕ) → length r ≤ n → Gone r (skip_trivia n r)) → (o : Option (List ℕ)) → skip_one text ≡ o → Gone text (or_else o (skip_trivia n) text)
  go again None e = record { trivia = []; cut = refl; skipped = none; ends = none_begins text e }
  go again (Some r) e = let b = skip_one_is text r e in let w = trivia_grows b.prefix r b.is_element in
      longer_trivia text r (skip_trivia n r) b (again r (omega (arith, ap length b.cut, length-append b.prefix r)))

-- the `#!` line at the start
no_script : (c : ℕ) (cs : List ℕ) → starts_script (c ∷ cs) ≡ false → after_script (c ∷ cs) ≡ c ∷ cs
unfolding after_script
no_script c cs e = rw e refl

pub after_script-append : (script rest : List ℕ) → IsScriptLine script rest → after_script (script ++ rest) ≡ rest
unfolding after_script
after_script-append script [] (absent e) = refl
after_script-append script (c ∷ cs) (absent e) = no_script c cs e
after_script-append script rest (present {body} each stops) = skip-append in_line body rest each stops

pub record HasScript (text : List ℕ) : Type 0 where
  pub script : List ℕ
  pub cut : text ≡ script ++ after_script text
  pub is_script : IsScriptLine script (after_script text)

script_cut : (c : ℕ) (cs : List ℕ) → ((c == 35) && starts (λ d. d == 33) cs) ≡ true → (ds : List ℕ) × (c ≡ 35) × (cs ≡ 33 ∷ ds)
script_cut c [] e = absurd (let b = both_true (c == 35) false e in opposed false b.1 refl)
script_cut c (d ∷ ds) e = let b = both_true (c == 35) (d == 33) e in let p : d ≡ 33 = eqb-true d 33 b.1 in (ds, eqb-true c 35 b.0, ap (λ (x : ℕ). x ∷ ds) p)

script_line : (ds : List ℕ) → HasScript (35 ∷ 33 ∷ ds)
unfolding after_script
script_line ds = let s = skipped in_line ds in record { script = 35 ∷ 33 ∷ s.prefix; cut = ap (λ (l : List ℕ). 35 ∷ 33 ∷ l) s.cut; is_script = present s.each (skip_stops in_line ds) }

plain_start : (c : ℕ) (cs : List ℕ) → starts_script (c ∷ cs) ≡ false → HasScript (c ∷ cs)
plain_start c cs e = let n = no_script c cs e in record { script = []; cut = sym n; is_script = rw n (absent e) }

pub has_script : (text : List ℕ) → HasScript text
unfolding after_script
has_script [] = record { script = []; cut = refl; is_script = absent refl }
has_script (c ∷ cs) = elim (decided ((c == 35) && starts (λ d. d == 33) cs)) [
  | inl on ↦ (let t = script_cut c cs on in rw (t.1, t.2) (script_line t.0))
  | inr off ↦ plain_start c cs off
]
