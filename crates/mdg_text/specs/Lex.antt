-- The tokens of a text, section 7 of ECMA-262 5.1. A text is the list of its characters.
use Rattle.std.specs.Prelude.{ℕ, suc, ◌≡◌, ◌+◌, Bool, true, false, ◌&&◌, List, [], ◌∷◌, ◌++◌}
use Rattle.std.specs.List.{list_any}
use Rattle.mdg_text.specs.declared.token.Token.{Token}
use Rattle.mdg_text.specs.Characters.{is_line_end, width, line_ends}
use Rattle.mdg_text.specs.Trivia.{IsTrivia, BeginsTrivia, IsScriptLine}
use Rattle.mdg_text.specs.Lexeme.{IsToken, BeginsToken}

-- The first token of a text that stands after `before`, in which a token stands or none: trivia, and then the token.
-- `consumed` is all up to the end of the token, and the rest follows.
pub record IsFirst (has_token : Bool) (before text : List ℕ) (token : Token) (consumed rest : List ℕ) : Type 0 where
  pub trivia : List ℕ
  pub prefix : List ℕ
  pub cut : text ≡ trivia ++ (prefix ++ rest)
  pub skipped : IsTrivia trivia (prefix ++ rest)
  pub ends : BeginsTrivia (prefix ++ rest) → ⊥
  pub is_token : IsToken (prefix ++ rest) prefix rest token.kind token.text
  pub consumed_is : consumed ≡ (before ++ trivia) ++ prefix
  pub from_is : token.from ≡ width (before ++ trivia)
  pub to_is : token.to ≡ width consumed
  pub line_is : token.line ≡ line_ends (before ++ trivia) + 1
  pub line_before_is : token.line_before ≡ (has_token && list_any is_line_end trivia)

-- A text that stands after `before` has these tokens: none and trivia, or a first one and those of the rest.
pub data LexesAfter : Bool → List ℕ → List ℕ → List Token → Type 0 where
  last : {has_token : Bool} {before text : List ℕ} → IsTrivia text [] → LexesAfter has_token before text []
  next : (consumed rest : List ℕ) {has_token : Bool} {before text : List ℕ} {token : Token} {tokens : List Token} → IsFirst has_token before text token consumed rest
      → LexesAfter true consumed rest tokens → LexesAfter has_token before text (token ∷ tokens)

-- After so many tokens, neither a token, a closed comment, white space nor a line end begins at the offset, and the text does not end there.
pub data StuckAfter : Bool → List ℕ → List ℕ → ℕ → ℕ → Type 0 where
  here : (trivia rest : List ℕ) {has_token : Bool} {before text : List ℕ} {offset : ℕ} → text ≡ trivia ++ rest → IsTrivia trivia rest → (BeginsTrivia rest → ⊥) → (rest ≡ [] → ⊥)
      → (BeginsToken rest → ⊥) → offset ≡ width (before ++ trivia) → StuckAfter has_token before text 0 offset
  later : (consumed rest : List ℕ) (token : Token) {has_token : Bool} {before text : List ℕ} {count offset : ℕ} → IsFirst has_token before text token consumed rest
      → StuckAfter true consumed rest count offset → StuckAfter has_token before text (suc count) offset

-- so many tokens stand there, and maybe more
pub data HasAfter : Bool → List ℕ → List ℕ → ℕ → Type 0 where
  no_more : {has_token : Bool} {before text : List ℕ} → HasAfter has_token before text 0
  one_more : (consumed rest : List ℕ) (token : Token) {has_token : Bool} {before text : List ℕ} {count : ℕ} → IsFirst has_token before text token consumed rest
      → HasAfter true consumed rest count → HasAfter has_token before text (suc count)

-- The text has these tokens, and no others (`law_tokens`).
pub record Lexes (text : List ℕ) (tokens : List Token) : Type 0 where
  pub script : List ℕ
  pub rest : List ℕ
  pub cut : text ≡ script ++ rest
  pub is_script : IsScriptLine script rest
  pub lexes : LexesAfter false script rest tokens

-- After so many tokens of the text none begins at the offset, and the text does not end there.
pub record Stuck (text : List ℕ) (count offset : ℕ) : Type 0 where
  pub script : List ℕ
  pub rest : List ℕ
  pub cut : text ≡ script ++ rest
  pub is_script : IsScriptLine script rest
  pub stuck : StuckAfter false script rest count offset

-- The text begins with so many tokens.
pub record Has (text : List ℕ) (count : ℕ) : Type 0 where
  pub script : List ℕ
  pub rest : List ℕ
  pub cut : text ≡ script ++ rest
  pub is_script : IsScriptLine script rest
  pub has : HasAfter false script rest count
