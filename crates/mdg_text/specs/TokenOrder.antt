-- Tokens stand one after another.
use Rattle.std.specs.Prelude.{ℕ, ◌≤◌, ◌<◌, List, [], ◌∷◌}
use Rattle.mdg_text.specs.declared.token.Token.{Token}
use Rattle.mdg_text.specs.Lex.{Lexes}

-- each begins at or after the offset at which the one before it ended, and ends after its own first byte
abbrev pub StandFrom : ℕ → List Token → Type 0
StandFrom offset [] = Unit {0}
StandFrom offset (token ∷ rest) = (offset ≤ token.from) × (token.from < token.to) × StandFrom token.to rest

-- the tokens of a text do
abbrev pub StandInOrder : Type 0
StandInOrder = (text : List ℕ) (tokens : List Token) → Lexes text tokens → StandFrom 0 tokens
