-- Bytes have one answer but for the refusal of memory: at most one, and at least one.
use Rattle.std.proofs.Common.{◌≡◌, ℕ, inl, inr, List, refl, sym, ap, ◌∙◌, arith}
use Rattle.std.specs.Prelude.{Result, Ok, Err}
use Rattle.std.specs.Str.{IsUtf8, chars}
use Rattle.std.specs.Str.Lossy.{utf8_valid_len}
use Rattle.std.specs.Str.{is_utf8}
use Rattle.std.proofs.lemmas.Str.{IsUtf8-from_is_utf8, is_utf8-from_IsUtf8}
use Rattle.mdg_text.specs.declared.token.Token.{Token}
use Rattle.mdg_text.specs.declared.token.TextFault.{TextFault}
use Rattle.mdg_text.specs.declared.token.TextFault.TheVariants.{NoMemory, NotUtf8, BadToken, TooManyTokens}
use Rattle.mdg_text.specs.Causes.{HasCauseIn, HasCause, HasOneAnswer, HasSomeAnswer}
use Rattle.mdg_text.specs.Lexer.{Stop, bad, full, lex_text, Answers}
use Rattle.mdg_base.proofs.Decisions.{decided, contradict}
use Rattle.mdg_text.proofs.TextLemmas.{text_reads, text_stuck, text_full, cause_of, cause_of_bytes}

abbrev Refused : Result (List Token) TextFault → Type 0
Refused r = r ≡ Err NoMemory

-- at most one
shown : (cs : List ℕ) (r : Result (List Token) TextFault) → (Refused r → ⊥) → HasCauseIn cs r → Answers 400001 (lex_text 400000 cs) r
shown cs (Ok ts) is cause = text_reads 400000 cs ts cause.1 cause.0
shown cs (Err NoMemory) is cause = absurd (is refl)
shown cs (Err (NotUtf8 o)) is cause = absurd cause
shown cs (Err (BadToken o)) is cause = text_stuck 400000 cs cause.0 o cause.1 cause.2
shown cs (Err (TooManyTokens n)) is cause = (text_full 400000 400001 cs (omega arith) cause.0, cause.1)

same_answers : (w : Result (List Token) Stop) (a b : Result (List Token) TextFault) → (Refused a → ⊥) → (Refused b → ⊥) → Answers 400001 w a → Answers 400001 w b → a ≡ b
same_answers w (Err NoMemory) b i j p q = absurd (i refl)
same_answers w (Err (NotUtf8 o)) b i j p q = absurd p
same_answers w (Ok ts) (Ok us) i j p q = cc
same_answers w (Ok ts) (Err NoMemory) i j p q = absurd (j refl)
same_answers w (Ok ts) (Err (NotUtf8 o)) i j p q = absurd q
same_answers w (Ok ts) (Err (BadToken o)) i j p q = cc
same_answers w (Ok ts) (Err (TooManyTokens n)) i j p q = let e = q.0 in cc
same_answers w (Err (BadToken o)) (Ok us) i j p q = cc
same_answers w (Err (BadToken o)) (Err NoMemory) i j p q = absurd (j refl)
same_answers w (Err (BadToken o)) (Err (NotUtf8 o')) i j p q = absurd q
same_answers w (Err (BadToken o)) (Err (BadToken o')) i j p q = cc
same_answers w (Err (BadToken o)) (Err (TooManyTokens n)) i j p q = let e = q.0 in cc
same_answers w (Err (TooManyTokens n)) (Ok us) i j p q = let e = p.0 in cc
same_answers w (Err (TooManyTokens n)) (Err NoMemory) i j p q = absurd (j refl)
same_answers w (Err (TooManyTokens n)) (Err (NotUtf8 o')) i j p q = absurd q
same_answers w (Err (TooManyTokens n)) (Err (BadToken o')) i j p q = let e = p.0 in cc
same_answers w (Err (TooManyTokens n)) (Err (TooManyTokens n')) i j p q = let e : n ≡ n' = p.1 ∙ sym q.1 in ap (λ (x : ℕ). Err (TooManyTokens x)) e

-- what is said of the characters of bytes that are UTF-8
within : (bytes : List ℕ) (r : Result (List Token) TextFault) → (Refused r → ⊥) → IsUtf8 bytes → HasCause bytes r → HasCauseIn (chars bytes) r
within bytes (Ok ts) is utf8 cause = cause.1
within bytes (Err NoMemory) is utf8 cause = absurd (is refl)
within bytes (Err (NotUtf8 o)) is utf8 cause = absurd (cause.0 utf8)
within bytes (Err (BadToken o)) is utf8 cause = cause.1
within bytes (Err (TooManyTokens n)) is utf8 cause = cause.1

both : (bytes : List ℕ) (a b : Result (List Token) TextFault) → (Refused a → ⊥) → (Refused b → ⊥) → IsUtf8 bytes → HasCause bytes a → HasCause bytes b → a ≡ b
both bytes a b i j utf8 p q = same_answers (lex_text 400000 (chars bytes)) a b i j (shown (chars bytes) a i (within bytes a i utf8 p)) (shown (chars bytes) b j (within bytes b j utf8 q))

pub one_answer : HasOneAnswer
one_answer bytes (Ok ts) b i j p q = both bytes (Ok ts) b i j p.0 p q
one_answer bytes (Err NoMemory) b i j p q = absurd (i refl)
one_answer bytes (Err (BadToken o)) b i j p q = both bytes (Err (BadToken o)) b i j p.0 p q
one_answer bytes (Err (TooManyTokens n)) b i j p q = both bytes (Err (TooManyTokens n)) b i j p.0 p q
one_answer bytes (Err (NotUtf8 o)) (Ok us) i j p q = absurd (p.0 q.0)
one_answer bytes (Err (NotUtf8 o)) (Err NoMemory) i j p q = absurd (j refl)
one_answer bytes (Err (NotUtf8 o)) (Err (NotUtf8 o')) i j p q = ap (λ (x : ℕ). Err (NotUtf8 x)) (p.1 ∙ sym q.1)
one_answer bytes (Err (NotUtf8 o)) (Err (BadToken o')) i j p q = absurd (p.0 q.0)
one_answer bytes (Err (NotUtf8 o)) (Err (TooManyTokens n)) i j p q = absurd (p.0 q.0)

-- at least one
answer_of : Result (List Token) Stop → Result (List Token) TextFault
answer_of (Ok ts) = Ok ts
answer_of (Err (bad o)) = Err (BadToken o)
answer_of (Err full) = Err (TooManyTokens 400001)

answer_answers : (w : Result (List Token) Stop) → Answers 400001 w (answer_of w)
unfolding answer_of
answer_answers (Ok ts) = refl
answer_answers (Err (bad o)) = refl
answer_answers (Err full) = (refl, refl)

not_refused : (w : Result (List Token) Stop) → Refused (answer_of w) → ⊥
unfolding answer_of
not_refused (Ok ts) e = absurd cc
not_refused (Err (bad o)) e = absurd cc
not_refused (Err full) e = absurd cc

no_utf8 : (o : ℕ) → Refused (Err (NotUtf8 o)) → ⊥
no_utf8 o e = absurd cc

of_lexed : (bytes : List ℕ) (w : Result (List Token) Stop) → IsUtf8 bytes → Answers 400001 (lex_text 400000 (chars bytes)) (answer_of w) → (answer : Result (List Token) TextFault) × (answer ≡ Err NoMemory → ⊥) × HasCause bytes answer
of_lexed bytes w utf8 a = (answer_of w, not_refused w, cause_of_bytes bytes (answer_of w) utf8 (cause_of (chars bytes) (answer_of w) a))

pub some_answer : HasSomeAnswer
some_answer bytes = elim (decided (is_utf8 bytes)) [
  | inl on ↦ of_lexed bytes (lex_text 400000 (chars bytes)) (IsUtf8-from_is_utf8 bytes on) (answer_answers (lex_text 400000 (chars bytes)))
  | inr off ↦ (Err (NotUtf8 (utf8_valid_len bytes)), no_utf8 (utf8_valid_len bytes), ((λ utf8. contradict (is_utf8-from_IsUtf8 bytes utf8) off), refl))
]
