-- Serves only the proofs: the loop over the tokens of a text, at most as many as there is room for, and what the code answers of it.
use Rattle.std.specs.Prelude.{ℕ, zero, suc, ◌≡◌, ◌+◌, Bool, true, false, ◌&&◌, List, [], ◌∷◌, ◌++◌, length, Option, Some, None, Result, Ok, Err}
use Rattle.std.specs.List.{list_any}
use Rattle.mdg_text.specs.declared.token.Token.{Token}
use Rattle.mdg_text.specs.declared.token.TextFault.{TextFault}
use Rattle.mdg_text.specs.declared.token.TextFault.TheVariants.{NoMemory, NotUtf8, BadToken, TooManyTokens}
use Rattle.mdg_text.specs.Characters.{is_line_end, width, line_ends}
use Rattle.mdg_text.specs.Scanner.{Found, before as prefix, after_script, skip_trivia, token_at}

-- why the loop ends before the text does: no token begins at the offset, or there is no room
pub data Stop : Type 0 where
  bad : ℕ → Stop
  full : Stop

-- what stands before the token, and before what follows the token
abbrev pub reached : List ℕ → List ℕ → List ℕ → List ℕ
reached before text rest = before ++ prefix text rest

abbrev pub passed : List ℕ → List ℕ → List ℕ → Found → List ℕ
passed before text rest f = reached before text rest ++ prefix rest f.rest

unfoldable pub token_of : Bool → List ℕ → List ℕ → List ℕ → Found → Token
token_of has_token before text rest f = record {
  kind = f.kind;
  text = f.value;
  from = width (reached before text rest);
  to = width (passed before text rest f);
  line = line_ends (reached before text rest) + 1;
  line_before = has_token && list_any is_line_end (prefix text rest);
}

abbrev pub decide : List ℕ → Option Found → List Token → ℕ → (Found → Result (List Token) Stop) → Result (List Token) Stop
decide [] found made at more = Ok made
decide (c ∷ cs) None made at more = Err (bad at)
decide (c ∷ cs) (Some f) made at more = more f

unfoldable pub lex : ℕ → ℕ → List Token → Bool → List ℕ → List ℕ → Result (List Token) Stop
lex zero n made has_token before text =
    decide (skip_trivia n text) (token_at n (skip_trivia n text)) made (width (reached before text (skip_trivia n text))) (λ f. Err full)
lex (suc m) n made has_token before text =
    decide (skip_trivia n text) (token_at n (skip_trivia n text)) made (width (reached before text (skip_trivia n text)))
    (λ f. lex m n (made ++ token_of has_token before text (skip_trivia n text) f ∷ []) true (passed before text (skip_trivia n text) f) f.rest)

-- the same over a whole text
unfoldable pub lex_text : ℕ → List ℕ → Result (List Token) Stop
lex_text m text = lex m (length text) [] false (prefix text (after_script text)) (after_script text)

-- What is answered, unless memory is refused: `full` with the number of the token that finds no room.
abbrev pub Answers : ℕ → Result (List Token) Stop → Result (List Token) TextFault → Type 0
Answers over lexed (Ok tokens) = lexed ≡ Ok tokens
Answers over lexed (Err NoMemory) = Unit {0}
Answers over lexed (Err (NotUtf8 offset)) = ⊥
Answers over lexed (Err (BadToken offset)) = lexed ≡ Err (bad offset)
Answers over lexed (Err (TooManyTokens count)) = (lexed ≡ Err full) × (count ≡ over)
