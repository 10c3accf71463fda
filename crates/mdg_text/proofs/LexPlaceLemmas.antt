-- The loop over the tokens, at places of the text.
use Rattle.std.proofs.Common.{◌≡◌, ℕ, zero, suc, ◌+◌, ◌-◌, ◌≤◌, ◌<◌, Bool, true, false, ◌&&◌, List, [], ◌∷◌, ◌++◌, length, take, drop, arith, refl, sym, ap, ◌∙◌, length-append, length-drop}
use Rattle.std.specs.Prelude.{Option, Some, None, Result, Ok, Err}
use Rattle.std.specs.List.{list_any}
use Rattle.std.proofs.Math.Seq.{take-add}
use Rattle.mdg_text.specs.declared.token.Token.{Token}
use Rattle.mdg_text.specs.Characters.{is_line_end}
use Rattle.mdg_text.specs.Characters.{width, line_ends}
use Rattle.mdg_text.specs.Scanner.{Found, before as prefix, after_script, skip_trivia, token_at}
use Rattle.mdg_text.specs.Lexer.{Stop, bad, full, reached, passed, token_of, decide, lex, lex_text}
use Rattle.mdg_text.proofs.TriviaLemmas.{gone}
use Rattle.mdg_text.proofs.TokenLemmas.{token_spells}
use Rattle.mdg_text.proofs.LexLemmas.{filled, six}
use Rattle.mdg_text.proofs.PlaceLemmas.{spelled_between}

pub trivia_order : (text : List ℕ) (at start : ℕ) → at ≤ length text → start ≤ length text → skip_trivia (length text) (drop at text) ≡ drop start text → at ≤ start
trivia_order text at start h k e =
    let g = gone (length text) (drop at text) (omega (arith, length-drop at text)) in
    omega (arith, ap length g.cut, length-append g.trivia (skip_trivia (length text) (drop at text)), ap length e, length-drop at text, length-drop start text)

pub token_order : (n : ℕ) (text : List ℕ) (start next : ℕ) (f : Found) → start ≤ length text → next ≤ length text → token_at n (drop start text) ≡ Some f → f.rest ≡ drop next text → start < next
token_order n text start next f h k e r =
    let s = token_spells n (drop start text) f e in
    let x = filled s.prefix f.rest f.kind f.value s.spells in
    omega (arith, ap length s.cut, length-append s.prefix f.rest, ap length x.2, ap length r, length-drop start text, length-drop next text)

-- what is before a place, by an earlier one
pub before_later : (text : List ℕ) (at start : ℕ) → at ≤ start → start ≤ length text → take at text ++ prefix (drop at text) (drop start text) ≡ take start text
before_later text at start h k =
    ap (λ (l : List ℕ). take at text ++ l) (spelled_between text at start h k) ∙ (sym (take-add at (start - at) text) ∙ ap (λ (n : ℕ). take n text) (omega arith))

pub passed_at : (text : List ℕ) (at start next : ℕ) (f : Found) → at ≤ start → start ≤ next → next ≤ length text → f.rest ≡ drop next text
    → passed (take at text) (drop at text) (drop start text) f ≡ take next text
passed_at text at start next f h k l r =
    ap (λ (x : List ℕ). reached (take at text) (drop at text) (drop start text) ++ prefix (drop start text) x) r
    ∙ (ap (λ (x : List ℕ). x ++ prefix (drop start text) (drop next text)) (before_later text at start h (omega arith)) ∙ before_later text start next k l)

-- it begins after the script line
pub lex_begins : (m at : ℕ) (text : List ℕ) → at ≤ length text → after_script text ≡ drop at text → lex_text m text ≡ lex m (length text) [] false (take at text) (drop at text)
unfolding lex_text
lex_begins m at text h e =
    ap (λ (l : List ℕ). lex m (length text) [] false (prefix text l) l) e
    ∙ ap (λ (l : List ℕ). lex m (length text) [] false l (drop at text)) (before_later text 0 at (omega arith) h)

pub lex_done : (m n : ℕ) (made : List Token) (has_token : Bool) (before text : List ℕ) → skip_trivia n text ≡ [] → lex m n made has_token before text ≡ Ok made
unfolding lex
lex_done zero n made has_token before text e = rw e refl
lex_done (suc m) n made has_token before text e = rw e refl

on_none : (rest : List ℕ) (o : Option Found) (made : List Token) (at : ℕ) (more : Found → Result (List Token) Stop) → 0 < length rest → o ≡ None → decide rest o made at more ≡ Err (bad at)
on_none [] o made at more h e = absurd (omega arith)
on_none (c ∷ cs) o made at more h e = rw e refl

on_some : (rest : List ℕ) (o : Option Found) (f : Found) (made : List Token) (at : ℕ) (more : Found → Result (List Token) Stop) → 0 < length rest → o ≡ Some f → decide rest o made at more ≡ more f
on_some [] o f made at more h e = absurd (omega arith)
on_some (c ∷ cs) o f made at more h e = rw e refl

lex_none : (m n : ℕ) (made : List Token) (has_token : Bool) (before text rest : List ℕ) → skip_trivia n text ≡ rest → 0 < length rest → token_at n rest ≡ None
    → lex m n made has_token before text ≡ Err (bad (width (reached before text rest)))
unfolding lex
lex_none zero n made has_token before text rest e h t = rw e (on_none rest _ made _ _ h t)
lex_none (suc m) n made has_token before text rest e h t = rw e (on_none rest _ made _ _ h t)

pub lex_bad : (m n : ℕ) (made : List Token) (has_token : Bool) (text : List ℕ) (at start offset : ℕ) → at ≤ start → start < length text → skip_trivia n (drop at text) ≡ drop start text
    → token_at n (drop start text) ≡ None → offset ≡ width (take start text) → lex m n made has_token (take at text) (drop at text) ≡ Err (bad offset)
lex_bad m n made has_token text at start offset h k e t o =
    lex_none m n made has_token (take at text) (drop at text) (drop start text) e (omega (arith, length-drop start text)) t
    ∙ ap (λ (w : ℕ). Err (bad w)) (ap width (before_later text at start h (omega arith)) ∙ sym o)

pub lex_over : (m n : ℕ) (made : List Token) (has_token : Bool) (before text rest : List ℕ) (f : Found) → m ≡ 0 → skip_trivia n text ≡ rest → 0 < length rest → token_at n rest ≡ Some f
    → lex m n made has_token before text ≡ Err full
unfolding lex
lex_over zero n made has_token before text rest f z e h t = rw e (on_some rest _ f made _ _ h t)
lex_over (suc m) n made has_token before text rest f z e h t = absurd (omega arith)

lex_more : (m n : ℕ) (made : List Token) (has_token : Bool) (before text rest : List ℕ) (f : Found) → 0 < m → skip_trivia n text ≡ rest → 0 < length rest → token_at n rest ≡ Some f
    → lex m n made has_token before text ≡ lex (m - 1) n (made ++ token_of has_token before text rest f ∷ []) true (passed before text rest f) f.rest
unfolding lex
lex_more zero n made has_token before text rest f z e h t = absurd (omega arith)
lex_more (suc m) n made has_token before text rest f z e h t = less m (suc m - 1) (omega arith) (rw e (on_some rest _ f made _ _ h t)) where
  less : (k j : ℕ) → k ≡ j → {w : Result (List Token) Stop} → w ≡ lex k n (made ++ token_of has_token before text rest f ∷ []) true (passed before text rest f) f.rest
      → w ≡ lex j n (made ++ token_of has_token before text rest f ∷ []) true (passed before text rest f) f.rest
  less k j e p = rw (← e) p

-- its token, by places
pub record IsTokenAt (has_token : Bool) (text : List ℕ) (at start next : ℕ) (f : Found) (token : Token) : Type 0 where
  pub kind : token.kind ≡ f.kind
  pub value : token.text ≡ f.value
  pub from : token.from ≡ width (take start text)
  pub to : token.to ≡ width (take next text)
  pub line : token.line ≡ line_ends (take start text) + 1
  pub line_before : token.line_before ≡ (has_token && list_any is_line_end (prefix (drop at text) (drop start text)))

token_is : (has_token : Bool) (text : List ℕ) (at start next : ℕ) (f : Found) (token : Token) → at ≤ start → start ≤ next → next ≤ length text → f.rest ≡ drop next text → IsTokenAt has_token text at start next f token
    → token ≡ token_of has_token (take at text) (drop at text) (drop start text) f
unfolding token_of
token_is has_token text at start next f token h k l r i =
    let b = before_later text at start h (omega arith) in
    six token (token_of has_token (take at text) (drop at text) (drop start text) f) i.kind i.value (i.from ∙ ap width (sym b)) (i.to ∙ ap width (sym (passed_at text at start next f h k l r)))
    (i.line ∙ ap (λ (x : List ℕ). line_ends x + 1) (sym b)) i.line_before

pub lex_turn : (limit n count more : ℕ) (answer : Result (List Token) Stop) (made new : List Token) (has_token : Bool) (token : Token) (text : List ℕ) (at start next : ℕ) (f : Found)
    → count < limit → more ≡ count + 1 → answer ≡ lex (limit - count) n made has_token (take at text) (drop at text)
    → at ≤ start → start < next → next ≤ length text
    → skip_trivia n (drop at text) ≡ drop start text → token_at n (drop start text) ≡ Some f → f.rest ≡ drop next text
    → IsTokenAt has_token text at start next f token → new ≡ made ++ token ∷ []
    → answer ≡ lex (limit - more) n new true (take next text) (drop next text)
lex_turn limit n count more answer made new has_token token text at start next f below hc same h k l e t r i hn =
    let z : limit - count - 1 ≡ limit - more = omega arith in
    let p = passed_at text at start next f h (omega arith) l r in
    let x = token_is has_token text at start next f token h (omega arith) l r i in
    let all : new ≡ made ++ token_of has_token (take at text) (drop at text) (drop start text) f ∷ [] = hn ∙ ap (λ (t : Token). made ++ t ∷ []) x in
    rw (all, ← z, ← p, ← r) (same ∙ lex_more (limit - count) n made has_token (take at text) (drop at text) (drop start text) f (omega arith) e (omega (arith, length-drop start text)) t)

pub lex_begun : (m at : ℕ) (text : List ℕ) (made : List Token) → made ≡ [] → at ≤ length text → after_script text ≡ drop at text
    → lex_text m text ≡ lex (m - length made) (length text) made false (take at text) (drop at text)
lex_begun m at text made e h r = rw e (lex_begins m at text h r ∙ ap (λ (k : ℕ). lex k (length text) [] false (take at text) (drop at text)) (omega arith))
