-- The tokens that are read of a text are the relation, both ways.
use Rattle.std.proofs.Common.{◌≡◌, ℕ, zero, suc, ◌+◌, ◌≤◌, ◌<◌, Bool, true, ◌&&◌, inl, inr, List, [], ◌∷◌, ◌++◌, length, arith, refl, sym, ap, ◌∙◌, subst, append_assoc, length-append, append-nil}
use Rattle.std.specs.Prelude.{Option, Some, None, Result, Ok, Err}
use Rattle.std.specs.List.{list_any}
use Rattle.mdg_text.specs.declared.token.TokenKind.{TokenKind}
use Rattle.mdg_text.specs.declared.token.Token.{Token}
use Rattle.mdg_text.specs.Characters.{is_line_end}
use Rattle.mdg_text.specs.Characters.{width, line_ends}
use Rattle.mdg_text.specs.Trivia.{IsTrivia, BeginsTrivia}
use Rattle.mdg_text.specs.Number.{IsInteger, IsMantissa, IsExponent, unsigned, signed, IsNumericLiteral, scaled}
use Rattle.mdg_text.specs.Lexeme.{name, reserved_word, number, string_literal, punctuator, Spells, IsToken, BeginsToken}
use Rattle.mdg_text.specs.Lex.{IsFirst, LexesAfter, last, next, StuckAfter, here, later, HasAfter, no_more, one_more}
use Rattle.mdg_text.specs.Number as spec
use Rattle.mdg_text.specs.Scanner.{Found, before as prefix_of, skip_trivia, token_at}
use Rattle.mdg_text.specs.Lexer.{Stop, bad, full, reached, passed, token_of, decide, lex}
use Rattle.mdg_text.proofs.ScannerLemmas.{before_is}
use Rattle.mdg_text.proofs.TriviaLemmas.{Gone, gone, skip_trivia-append, trivia_grows}
use Rattle.mdg_text.proofs.TokenLemmas.{token_is, token_whole, no_token, token_spells, found, short_punctuators}
use Rattle.mdg_text.proofs.StringLemmas.{string_body_cut}

-- what the first token makes of the scanner's parts
pub record Starts (n : ℕ) (has_token : Bool) (before text : List ℕ) (token : Token) (consumed rest : List ℕ) : Type 0 where
  pub head : ℕ
  pub tail : List ℕ
  pub from_trivia : skip_trivia n text ≡ head ∷ tail
  pub reads : token_at n (head ∷ tail) ≡ Some (found token.kind token.text rest)
  pub same : token_of has_token before text (head ∷ tail) (found token.kind token.text rest) ≡ token
  pub passed_is : passed before text (head ∷ tail) (found token.kind token.text rest) ≡ consumed
  pub shorter : length rest < length text

pub six : (a b : Token) → a.kind ≡ b.kind → a.text ≡ b.text → a.from ≡ b.from → a.to ≡ b.to → a.line ≡ b.line → a.line_before ≡ b.line_before → a ≡ b
six a b p q r s t u = ap (λ (x : TokenKind). record { kind = x; text = a.text; from = a.from; to = a.to; line = a.line; line_before = a.line_before }) p
    ∙ (ap (λ (x : List ℕ). record { kind = b.kind; text = x; from = a.from; to = a.to; line = a.line; line_before = a.line_before }) q
    ∙ (ap (λ (x : ℕ). record { kind = b.kind; text = b.text; from = x; to = a.to; line = a.line; line_before = a.line_before }) r
    ∙ (ap (λ (x : ℕ). record { kind = b.kind; text = b.text; from = b.from; to = x; line = a.line; line_before = a.line_before }) s
    ∙ (ap (λ (x : ℕ). record { kind = b.kind; text = b.text; from = b.from; to = b.to; line = x; line_before = a.line_before }) t
    ∙ ap (λ (x : Bool). record { kind = b.kind; text = b.text; from = b.from; to = b.to; line = b.line; line_before = x }) u))))

no_integer : (a : List ℕ) → IsInteger a → a ≡ [] → ⊥
no_integer a (inl z) e = absurd cc
no_integer [] (inr z) e = z.0
no_integer (c ∷ cs) (inr z) e = absurd cc

no_mantissa : (plain : Bool) (prefix : List ℕ) → IsMantissa plain prefix → prefix ≡ [] → ⊥
no_mantissa plain prefix (spec.integer i) e = no_integer prefix i e
no_mantissa plain prefix (spec.point a b i each cut) e = omega (arith, ap length (sym cut ∙ e), length-append a (46 ∷ b))
no_mantissa plain prefix (spec.fraction d) e = absurd cc

exponent_grows : (prefix : List ℕ) → IsExponent prefix → 0 < length prefix
exponent_grows prefix (unsigned m d) = omega arith
exponent_grows prefix (signed m s d) = omega arith

no_empty : (plain : Bool) (prefix : List ℕ) → IsNumericLiteral plain prefix → prefix ≡ [] → ⊥
no_empty plain prefix (spec.decimal m) e = no_mantissa plain prefix m e
no_empty plain prefix (scaled p m e i x cut) z = let w = exponent_grows e x in omega (arith, ap length (sym cut ∙ z), length-append m e)
no_empty plain prefix (spec.hexadecimal m d) e = absurd cc

pub filled : (prefix rest : List ℕ) (kind : TokenKind) (value : List ℕ) → Spells prefix rest kind value → (c : ℕ) × (cs : List ℕ) × (prefix ≡ c ∷ cs)
filled [] rest kind value (name i z) = absurd i
filled [] rest kind value (reserved_word i z) = absurd i
filled [] rest kind value (number i z) = absurd (no_empty _ _ i refl)
filled [] rest kind value (string_literal quote inner inside q cut b) = let c = string_body_cut quote inner inside rest b in absurd (omega (arith, ap length cut, ap length c.1, length-append c.0 rest))
filled [] rest kind value (punctuator c) = let m = short_punctuators [] c in absurd (omega (arith, m.0))
filled (c ∷ cs) rest kind value s = (c, cs, refl)

starts_with : (n : ℕ) (has_token : Bool) (before text : List ℕ) (token : Token) (consumed rest : List ℕ) → length text ≤ n → IsFirst has_token before text token consumed rest → Starts n has_token before text token consumed rest
unfolding token_of
starts_with n has_token before text token consumed rest h f =
    let x = filled f.prefix rest token.kind token.text f.is_token.spells in
    let cut : f.prefix ++ rest ≡ x.0 ∷ (x.1 ++ rest) = ap (λ (l : List ℕ). l ++ rest) x.2 in
    let g : skip_trivia n text ≡ f.prefix ++ rest = ap (skip_trivia n) f.cut ∙ skip_trivia-append n f.trivia (f.prefix ++ rest) f.skipped f.ends (omega (arith, ap length f.cut)) in
    let size : length (f.prefix ++ rest) ≤ n = omega (arith, ap length f.cut, length-append f.trivia (f.prefix ++ rest)) in
    let t = token_whole n (f.prefix ++ rest) f.prefix rest token.kind token.text size f.is_token in
    let trivia : prefix_of text (x.0 ∷ (x.1 ++ rest)) ≡ f.trivia = before_is text f.trivia (x.0 ∷ (x.1 ++ rest)) (f.cut ∙ ap (λ (l : List ℕ). f.trivia ++ l) cut) in
    let prefix : prefix_of (x.0 ∷ (x.1 ++ rest)) rest ≡ f.prefix = before_is (x.0 ∷ (x.1 ++ rest)) f.prefix rest (sym cut) in
    let all : passed before text (x.0 ∷ (x.1 ++ rest)) (found token.kind token.text rest) ≡ consumed = rw (trivia, prefix) (sym f.consumed_is) in
    record {
      head = x.0;
      tail = x.1 ++ rest;
      from_trivia = g ∙ cut;
      reads = sym (ap (token_at n) cut) ∙ t;
      same = six _ token refl refl (ap (λ (l : List ℕ). width (before ++ l)) trivia ∙ sym f.from_is) (ap width all ∙ sym f.to_is) (ap (λ (l : List ℕ). line_ends (before ++ l) + 1) trivia ∙ sym f.line_is)
          (ap (λ (l : List ℕ). has_token && list_any is_line_end l) trivia ∙ sym f.line_before_is);
      passed_is = all;
      shorter = omega (arith, ap length f.cut, length-append f.trivia (f.prefix ++ rest), length-append f.prefix rest, ap length x.2);
    }

on_first : (n : ℕ) (has_token : Bool) (before text : List ℕ) (token : Token) (consumed rest : List ℕ) → Starts n has_token before text token consumed rest
    → (made : List Token) (at : ℕ) (more : Found → Result (List Token) Stop) → decide (skip_trivia n text) (token_at n (skip_trivia n text)) made at more ≡ more (found token.kind token.text rest)
on_first n has_token before text token consumed rest s made at more = rw (s.from_trivia, s.reads) refl

empty_trivia : BeginsTrivia [] → ⊥
empty_trivia b = let w = trivia_grows b.0 b.1 b.2 in omega (arith, ap length b.3, length-append b.0 b.1)

nothing_left : (n : ℕ) (text : List ℕ) → length text ≤ n → IsTrivia text [] → skip_trivia n text ≡ []
nothing_left n text h g = ap (skip_trivia n) (sym (append-nil text)) ∙ skip_trivia-append n text [] g empty_trivia (omega (arith, length-append text []))

abbrev Go : Type 0
Go = List Token → Bool → List ℕ → List ℕ → Result (List Token) Stop

step : (n : ℕ) (has_token : Bool) (before text : List ℕ) (token : Token) (consumed rest : List ℕ) → Starts n has_token before text token consumed rest
    → (made : List Token) (at : ℕ) (more : Go)
    → decide (skip_trivia n text) (token_at n (skip_trivia n text)) made at
    (λ f. more (made ++ token_of has_token before text (skip_trivia n text) f ∷ []) true (passed before text (skip_trivia n text) f) f.rest)
    ≡ more (made ++ token ∷ []) true consumed rest
step n has_token before text token consumed rest s made at more = rw (s.from_trivia, s.reads) (rw (s.same, s.passed_is) refl)

pub lex_reads : (m n : ℕ) (made : List Token) (has_token : Bool) (before text : List ℕ) (ts : List Token) → length text ≤ n → length ts ≤ m → LexesAfter has_token before text ts
    → lex m n made has_token before text ≡ Ok (made ++ ts)
unfolding lex
lex_reads zero n made has_token before text [] h k (last g) = rw (nothing_left n text h g, append-nil) refl
lex_reads (suc m) n made has_token before text [] h k (last g) = rw (nothing_left n text h g, append-nil) refl
lex_reads zero n made has_token before text (t ∷ ts) h k (next consumed rest f l) = absurd (omega arith)
lex_reads (suc m) n made has_token before text (t ∷ ts) h k (next consumed rest f l) =
    let s = starts_with n has_token before text t consumed rest h f in
    let w = s.shorter in
    step n has_token before text t consumed rest s made _ (lex m n)
    ∙ (lex_reads m n (made ++ t ∷ []) true consumed rest ts (omega arith) (omega arith) l ∙ ap Ok (append_assoc made (t ∷ []) ts))

stuck_here : (n : ℕ) (before text trivia rest : List ℕ) (made : List Token) (offset : ℕ) (more : Found → Result (List Token) Stop) → length text ≤ n
    → text ≡ trivia ++ rest → IsTrivia trivia rest → (BeginsTrivia rest → ⊥) → (rest ≡ [] → ⊥) → (BeginsToken rest → ⊥)
    → offset ≡ width (before ++ trivia)
    → decide (skip_trivia n text) (token_at n (skip_trivia n text)) made (width (reached before text (skip_trivia n text))) more ≡ Err (bad offset)
stuck_here n before text trivia [] made offset more h cut g f ne none is = absurd (ne refl)
stuck_here n before text trivia (c ∷ cs) made offset more h cut g f ne none is =
    let a : skip_trivia n text ≡ c ∷ cs = ap (skip_trivia n) cut ∙ skip_trivia-append n trivia (c ∷ cs) g f (omega (arith, ap length cut)) in
    let t : token_at n (c ∷ cs) ≡ None = go (token_at n (c ∷ cs)) refl in
    rw (a, t, before_is text trivia (c ∷ cs) cut, is) refl where
      go : (o : Option Found) → token_at n (c ∷ cs) ≡ o → token_at n (c ∷ cs) ≡ None
      go None e = e
      go (Some x) e =
          let s = token_is n (c ∷ cs) x (omega (arith, ap length cut, length-append trivia (c ∷ cs))) e in
          absurd (none (s.0, x.rest, x.kind, x.value, s.1))

pub lex_stuck : (m n : ℕ) (made : List Token) (has_token : Bool) (before text : List ℕ) (k offset : ℕ) → length text ≤ n → k ≤ m → StuckAfter has_token before text k offset
    → lex m n made has_token before text ≡ Err (bad offset)
unfolding lex
lex_stuck zero n made has_token before text zero offset h l (here trivia rest cut g f ne nothing is) = stuck_here n before text trivia rest made offset _ h cut g f ne nothing is
lex_stuck (suc m) n made has_token before text zero offset h l (here trivia rest cut g f ne nothing is) = stuck_here n before text trivia rest made offset _ h cut g f ne nothing is
lex_stuck zero n made has_token before text (suc k) offset h l (later consumed rest t f s) = absurd (omega arith)
lex_stuck (suc m) n made has_token before text (suc k) offset h l (later consumed rest t f s) =
    let x = starts_with n has_token before text t consumed rest h f in
    let w = x.shorter in
    step n has_token before text t consumed rest x made _ (lex m n) ∙ lex_stuck m n (made ++ t ∷ []) true consumed rest k offset (omega arith) (omega arith) s

pub lex_full : (m n : ℕ) (made : List Token) (has_token : Bool) (before text : List ℕ) → length text ≤ n → HasAfter has_token before text (suc m) → lex m n made has_token before text ≡ Err full
unfolding lex
lex_full zero n made has_token before text h (one_more consumed rest t f s) =
    let x = starts_with n has_token before text t consumed rest h f in on_first n has_token before text t consumed rest x made _ _
lex_full (suc m) n made has_token before text h (one_more consumed rest t f s) =
    let x = starts_with n has_token before text t consumed rest h f in
    let w = x.shorter in
    step n has_token before text t consumed rest x made _ (lex m n) ∙ lex_full m n (made ++ t ∷ []) true consumed rest (omega arith) s

-- and what is answered is so
first_is : (n : ℕ) (has_token : Bool) (before text rest : List ℕ) (f : Found) → length text ≤ n → Gone text rest → token_at n rest ≡ Some f
    → IsFirst has_token before text (token_of has_token before text rest f) (passed before text rest f) f.rest
unfolding token_of
first_is n has_token before text rest f h g e =
    let t = token_is n rest f (omega (arith, ap length g.cut, length-append g.trivia rest)) e in
    let c = t.1.cut in
    let trivia = before_is text g.trivia rest g.cut in
    let prefix = before_is rest t.0 f.rest c in
    record {
      trivia = g.trivia;
      prefix = t.0;
      cut = g.cut ∙ ap (λ (l : List ℕ). g.trivia ++ l) c;
      skipped = subst (IsTrivia g.trivia) c g.skipped;
      ends = subst (λ (l : List ℕ). BeginsTrivia l → ⊥) c g.ends;
      is_token = subst (λ (l : List ℕ). IsToken l t.0 f.rest f.kind f.value) c t.1;
      consumed_is = ap (λ (l : List ℕ). (before ++ l) ++ prefix_of rest f.rest) trivia ∙ ap (λ (l : List ℕ). (before ++ g.trivia) ++ l) prefix;
      from_is = ap (λ (l : List ℕ). width (before ++ l)) trivia;
      to_is = refl;
      line_is = ap (λ (l : List ℕ). line_ends (before ++ l) + 1) trivia;
      line_before_is = ap (λ (l : List ℕ). has_token && list_any is_line_end l) trivia;
    }

-- what the answer says
abbrev pub Tells : ℕ → List Token → Bool → List ℕ → List ℕ → Result (List Token) Stop → Type 0
Tells m made has_token before text (Ok r) = (ts : List Token) × (r ≡ made ++ ts) × (length ts ≤ m) × LexesAfter has_token before text ts
Tells m made has_token before text (Err (bad offset)) = (k : ℕ) × (k ≤ m) × StuckAfter has_token before text k offset
Tells m made has_token before text (Err full) = HasAfter has_token before text (suc m)

at_end : (m : ℕ) (made : List Token) (has_token : Bool) (before text : List ℕ) → Gone text [] → Tells m made has_token before text (Ok made)
at_end m made has_token before text g = ([], sym (append-nil made), omega arith, last (subst (λ (l : List ℕ). IsTrivia l []) (sym (append-nil g.trivia) ∙ sym g.cut) g.skipped))

at_bad : (m n : ℕ) (made : List Token) (has_token : Bool) (before text : List ℕ) (c : ℕ) (cs : List ℕ) → length text ≤ n → Gone text (c ∷ cs) → token_at n (c ∷ cs) ≡ None
    → Tells m made has_token before text (Err (bad (width (reached before text (c ∷ cs)))))
at_bad m n made has_token before text c cs h g e = (
  0,
  omega arith,
  here g.trivia (c ∷ cs) g.cut g.skipped g.ends (λ z. absurd cc)
      (no_token n (c ∷ cs) (omega (arith, ap length g.cut, length-append g.trivia (c ∷ cs))) e)
      (ap (λ (l : List ℕ). width (before ++ l)) (before_is text g.trivia (c ∷ cs) g.cut)),
)

again : (m : ℕ) (made : List Token) (has_token : Bool) (before text : List ℕ) (t : Token) (consumed rest : List ℕ) → IsFirst has_token before text t consumed rest
    → (r : Result (List Token) Stop) → Tells m (made ++ t ∷ []) true consumed rest r → Tells (suc m) made has_token before text r
again m made has_token before text t consumed rest f (Ok r) x = (t ∷ x.0, x.1 ∙ append_assoc made (t ∷ []) x.0, (let l = x.2 in omega arith), next consumed rest f x.3)
again m made has_token before text t consumed rest f (Err (bad offset)) x = (suc x.0, (let l = x.1 in omega arith), later consumed rest t f x.2)
again m made has_token before text t consumed rest f (Err full) x = one_more consumed rest t f x

shorter_rest : (n : ℕ) (text rest : List ℕ) (f : Found) → Gone text rest → token_at n rest ≡ Some f → length f.rest < length text
shorter_rest n text rest f g e =
    let s = token_spells n rest f e in
    let x = filled s.prefix f.rest f.kind f.value s.spells in
    omega (arith, ap length g.cut, length-append g.trivia rest, ap length s.cut, length-append s.prefix f.rest, ap length x.2)

pub tells : (m n : ℕ) (made : List Token) (has_token : Bool) (before text : List ℕ) → length text ≤ n → Tells m made has_token before text (lex m n made has_token before text)
unfolding lex
tells zero n made has_token before text h = go (skip_trivia n text) (gone n text h) (token_at n (skip_trivia n text)) refl where
  go : (rest : List ℕ) → Gone text rest → (o : Option Found) → token_at n rest ≡ o → Tells zero made has_token before text (decide rest o made (width (reached before text rest)) (λ f. Err full))
  go [] g o e = at_end zero made has_token before text g
  go (c ∷ cs) g None e = at_bad zero n made has_token before text c cs h g e
  go (c ∷ cs) g (Some f) e = one_more (passed before text (c ∷ cs) f) f.rest (token_of has_token before text (c ∷ cs) f) (first_is n has_token before text (c ∷ cs) f h g e) no_more
tells (suc m) n made has_token before text h = go (tells m n) (skip_trivia n text) (gone n text h) (token_at n (skip_trivia n text)) refl where
  go : ((made : List Token) (has_token : Bool) (before text : List ℕ) → length text ≤ n → Tells m made has_token before text (lex m n made has_token before text))
      → (rest : List ℕ) → Gone text rest → (o : Option Found) → token_at n rest ≡ o
      → Tells (suc m) made has_token before text (decide rest o made (width (reached before text rest)) (λ f. lex m n (made ++ token_of has_token before text rest f ∷ []) true (passed before text rest f) f.rest))
  go more [] g o e = at_end (suc m) made has_token before text g
  go more (c ∷ cs) g None e = at_bad (suc m) n made has_token before text c cs h g e
  go more (c ∷ cs) g (Some f) e =
      let w = shorter_rest n text (c ∷ cs) f g e in
      again m made has_token before text (token_of has_token before text (c ∷ cs) f) (passed before text (c ∷ cs) f) f.rest (first_is n has_token before text (c ∷ cs) f h g e) _
      (more (made ++ token_of has_token before text (c ∷ cs) f ∷ []) true (passed before text (c ∷ cs) f) f.rest (omega arith))
