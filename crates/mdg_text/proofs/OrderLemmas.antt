-- The tokens of a text stand one after another.
use Rattle.std.proofs.Common.{◌≡◌, ℕ, ◌+◌, ◌≤◌, ◌<◌, Bool, true, false, List, [], ◌∷◌, ◌++◌, sym, ap, arith}
use Rattle.std.proofs.lemmas.Str.{len_utf8_bounds}
use Rattle.mdg_text.specs.declared.token.Token.{Token}
use Rattle.mdg_text.specs.Characters.{width}
use Rattle.mdg_text.specs.Lex.{IsFirst, LexesAfter, last, next}
use Rattle.mdg_text.specs.TokenOrder.{StandFrom, StandInOrder}
use Rattle.mdg_text.proofs.CursorLemmas.{width-append, width_more, width_part}
use Rattle.mdg_text.proofs.LexLemmas.{filled}

-- characters take bytes
some_width : (c : ℕ) (cs : List ℕ) → 0 < width (c ∷ cs)
some_width c cs = omega (arith, width_more (c ∷ cs) 0 (omega arith), width_part (c ∷ cs) (0 + 1), (len_utf8_bounds c).0)

-- a first token begins at or after what stands before it, and takes bytes
first_stands : (has_token : Bool) (before text : List ℕ) (token : Token) (consumed rest : List ℕ) → IsFirst has_token before text token consumed rest
    → (width before ≤ token.from) × (token.from < token.to) × (token.to ≡ width consumed)
first_stands has_token before text token consumed rest f =
    let x = filled f.prefix rest token.kind token.text f.is_token.spells in
    let some : 0 < width (x.0 ∷ x.1) = some_width x.0 x.1 in
    let all : width consumed ≡ width ((before ++ f.trivia) ++ f.prefix) = ap width f.consumed_is in
    let more : width f.prefix ≡ width (x.0 ∷ x.1) = ap width x.2 in
    (omega (arith, f.from_is, width-append before f.trivia), omega (arith, f.from_is, f.to_is, all, more, some, width-append (before ++ f.trivia) f.prefix), f.to_is)

from_here : (n m : ℕ) (tokens : List Token) → n ≡ m → StandFrom n tokens → StandFrom m tokens
from_here n m tokens e s = rw (sym e) s

lexes_stand : (has_token : Bool) (before text : List ℕ) (tokens : List Token) → LexesAfter has_token before text tokens → StandFrom (width before) tokens
lexes_stand has_token before text [] (last trivia) = tt
lexes_stand has_token before text (token ∷ tokens) (next consumed rest f more) =
    let s = first_stands has_token before text token consumed rest f in
    (s.0, s.1, from_here (width consumed) token.to tokens (sym s.2) (lexes_stand true consumed rest tokens more))

-- from the start of the text on, whatever line for a script it has
below : (n m : ℕ) (tokens : List Token) → n ≤ m → StandFrom m tokens → StandFrom n tokens
below n m [] h s = tt
below n m (token ∷ tokens) h s = (omega (arith, s.0), s.1, s.2)

pub stand_in_order : StandInOrder
stand_in_order text tokens is = below 0 (width is.script) tokens (omega arith) (lexes_stand false is.script is.rest tokens is.lexes)
