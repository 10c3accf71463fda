-- What each answer says of the bytes.
use Rattle.std.specs.Prelude.{ℕ, ◌≡◌, ◌≤◌, ◌+◌, List, length, Result, Ok, Err, IfOk, All}
use Rattle.std.specs.Str.{IsUtf8, chars}
use Rattle.std.specs.Str.Lossy.{utf8_valid_len}
use Rattle.mdg_text.specs.declared.token.Token.{Token}
use Rattle.mdg_text.specs.declared.token.TextFault.{TextFault}
use Rattle.mdg_text.specs.declared.token.TextFault.TheVariants.{NoMemory, NotUtf8, BadToken, TooManyTokens}
use Rattle.mdg_text.specs.Lex.{Lexes, Stuck, Has}
use Rattle.mdg_text.specs.Lines.{line_at}
use Rattle.mdg_base.specs.Memory.{IsUnlessMemory}

-- the most tokens of a file
abbrev pub token_limit : ℕ
token_limit = 400000

-- of the characters
abbrev pub HasCauseIn : List ℕ → Result (List Token) TextFault → Type 0
HasCauseIn text (Ok tokens) = Lexes text tokens × (length tokens ≤ token_limit)
HasCauseIn text (Err NoMemory) = Unit {0}
HasCauseIn text (Err (NotUtf8 offset)) = ⊥
HasCauseIn text (Err (BadToken offset)) = (count : ℕ) × (count ≤ token_limit) × Stuck text count offset
HasCauseIn text (Err (TooManyTokens count)) = Has text (token_limit + 1) × (count ≡ token_limit + 1)

-- of the bytes
abbrev pub HasCause : List ℕ → Result (List Token) TextFault → Type 0
HasCause bytes (Ok tokens) = IsUtf8 bytes × HasCauseIn (chars bytes) (Ok tokens)
HasCause bytes (Err NoMemory) = IsUtf8 bytes
HasCause bytes (Err (NotUtf8 offset)) = ¬ (IsUtf8 bytes) × (offset ≡ utf8_valid_len bytes)
HasCause bytes (Err (BadToken offset)) = IsUtf8 bytes × HasCauseIn (chars bytes) (Err (BadToken offset))
HasCause bytes (Err (TooManyTokens count)) = IsUtf8 bytes × HasCauseIn (chars bytes) (Err (TooManyTokens count))

-- a list of tokens is answered,
abbrev pub AnswersList : List ℕ → Result (List Token) TextFault → Type 0
AnswersList text result = (tokens : List Token) → Lexes text tokens → length tokens ≤ token_limit → IsUnlessMemory NoMemory result (Ok tokens)

-- an offset at which no token begins is,
abbrev pub AnswersStuck : List ℕ → Result (List Token) TextFault → Type 0
AnswersStuck text result = (count offset : ℕ) → Stuck text count offset → count ≤ token_limit → IsUnlessMemory NoMemory result (Err (BadToken offset))

-- and so is a token that is too many
abbrev pub AnswersMany : List ℕ → Result (List Token) TextFault → Type 0
AnswersMany text result = Has text (token_limit + 1) → IsUnlessMemory NoMemory result (Err (TooManyTokens (token_limit + 1)))

-- a text has at most one list of tokens
abbrev pub HasOneList : Type 0
HasOneList = (text : List ℕ) (tokens others : List Token) → Lexes text tokens → Lexes text others → tokens ≡ others

-- never a list and an offset at which no token begins
abbrev pub IsNeverBoth : Type 0
IsNeverBoth = (text : List ℕ) (tokens : List Token) (count offset : ℕ) → Lexes text tokens → Stuck text count offset → ⊥

-- and at most one such offset
abbrev pub HasOneStop : Type 0
HasOneStop = (text : List ℕ) (count offset count' offset' : ℕ) → Stuck text count offset → Stuck text count' offset' → offset ≡ offset'

-- bytes have at most one answer but the refusal of memory,
abbrev pub HasOneAnswer : Type 0
HasOneAnswer = (bytes : List ℕ) (a b : Result (List Token) TextFault) → (a ≡ Err NoMemory → ⊥) → (b ≡ Err NoMemory → ⊥) → HasCause bytes a → HasCause bytes b → a ≡ b

-- and at least one
abbrev pub HasSomeAnswer : Type 0
HasSomeAnswer = (bytes : List ℕ) → (answer : Result (List Token) TextFault) × (answer ≡ Err NoMemory → ⊥) × HasCause bytes answer

-- each token's line is that of its offset
abbrev pub HasLines : List ℕ → Result (List Token) TextFault → Type 0
HasLines bytes result = IfOk result (λ tokens. All (λ token. token.line ≡ line_at bytes token.from) tokens)
