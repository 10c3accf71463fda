-- From the loop over the tokens to the relation over a whole text.
use Rattle.std.proofs.Common.{◌≡◌, ℕ, Bool, true, false, ◌+◌, ◌≤◌, List, [], ◌∷◌, ◌++◌, length, take, append_assoc, arith, refl, sym, ap, ◌∙◌, subst, length-append, inl, inr}
use Rattle.std.specs.Prelude.{Result, Ok, Err, All}
use Rattle.std.proofs.lemmas.List.{take_at}
use Rattle.std.proofs.lemmas.List.Elements.{All-nil, All-cons}
use Rattle.mdg_text.specs.Lines.{byte_line_ends, line_at}
use Rattle.mdg_text.proofs.LineLemmas.{line_ends_encoded}
use Rattle.std.specs.Char.{len_utf8, encode_utf8}
use Rattle.std.specs.Str.{IsUtf8, chars, encode_utf8_all}
use Rattle.std.proofs.lemmas.Str.{encodes-append, encodes-chars, length-encode, length-le-encodes}
use Rattle.std.proofs.lemmas.List.Sums.{sum_by-cons}
use Rattle.mdg_text.specs.declared.token.Token.{Token}
use Rattle.mdg_text.specs.declared.token.TextFault.{TextFault}
use Rattle.mdg_text.specs.declared.token.TextFault.TheVariants.{NoMemory, NotUtf8, BadToken, TooManyTokens}
use Rattle.mdg_text.specs.Characters.{width}
use Rattle.mdg_text.specs.Trivia.{IsScriptLine}
use Rattle.mdg_text.specs.Lex.{IsFirst, LexesAfter, last, next, HasAfter, Lexes, Stuck, Has}
use Rattle.mdg_text.specs.Scanner.{before as prefix, after_script}
use Rattle.mdg_text.specs.Lexer.{Stop, bad, full, lex, lex_text}
use Rattle.mdg_text.specs.Lexer.{Answers}
use Rattle.mdg_base.specs.Memory.{IsUnlessMemory}
use Rattle.mdg_text.specs.Causes.{HasCauseIn, HasCause, HasLines, AnswersList, AnswersStuck, AnswersMany, HasOneList, IsNeverBoth, HasOneStop}
use Rattle.mdg_text.proofs.ScannerLemmas.{before_is}
use Rattle.mdg_text.proofs.TriviaLemmas.{HasScript, has_script, after_script-append}
use Rattle.mdg_text.proofs.LexLemmas.{Tells, tells, lex_reads, lex_stuck, lex_full}

pub width_encodes : (cs : List ℕ) → length (encode_utf8_all cs) ≡ width cs
unfolding width
width_encodes [] = refl
width_encodes (c ∷ cs) =
    let e : encode_utf8_all (c ∷ cs) ≡ encode_utf8 c ++ encode_utf8_all cs = refl in
    let w : width (c ∷ cs) ≡ len_utf8 c + width cs = sum_by-cons len_utf8 c cs in
    omega (arith, ap length e, length-append (encode_utf8 c) (encode_utf8_all cs), width_encodes cs, length-encode c)

pub width_whole : (bs cs : List ℕ) → IsUtf8 bs → cs ≡ chars bs → width cs ≡ length bs
width_whole bs cs u e = ap width e ∙ (sym (width_encodes (chars bs)) ∙ ap length (encodes-chars bs u))

pub small_length : (bs cs : List ℕ) → IsUtf8 bs → cs ≡ chars bs → length cs ≤ length bs
small_length bs cs u e = omega (arith, length-le-encodes (chars bs), ap length (encodes-chars bs u), ap length e)

-- where the script line ends is where it is read to end
record IsRead (text script rest : List ℕ) : Type 0 where
  pub rest_is : after_script text ≡ rest
  pub script_is : prefix text rest ≡ script
  pub inside : length rest ≤ length text

script_read : (text script rest : List ℕ) → text ≡ script ++ rest → IsScriptLine script rest → IsRead text script rest
script_read text script rest cut i = record {
  rest_is = ap after_script cut ∙ after_script-append script rest i;
  script_is = before_is text script rest cut;
  inside = omega (arith, ap length cut, length-append script rest);
}

at_script : (m : ℕ) (text script rest : List ℕ) → IsRead text script rest → lex_text m text ≡ lex m (length text) [] false script rest
unfolding lex_text
at_script m text script rest i = ap (λ (l : List ℕ). lex m (length text) [] false (prefix text l) l) i.rest_is ∙ ap (λ (l : List ℕ). lex m (length text) [] false l rest) i.script_is

pub text_reads : (m : ℕ) (text : List ℕ) (ts : List Token) → length ts ≤ m → Lexes text ts → lex_text m text ≡ Ok ts
text_reads m text ts h l = let i = script_read text l.script l.rest l.cut l.is_script in
    at_script m text l.script l.rest i ∙ lex_reads m (length text) [] false l.script l.rest ts i.inside h l.lexes

pub text_stuck : (m : ℕ) (text : List ℕ) (k offset : ℕ) → k ≤ m → Stuck text k offset → lex_text m text ≡ Err (bad offset)
text_stuck m text k offset h s = let i = script_read text s.script s.rest s.cut s.is_script in
    at_script m text s.script s.rest i ∙ lex_stuck m (length text) [] false s.script s.rest k offset i.inside h s.stuck

pub text_full : (m n : ℕ) (text : List ℕ) → n ≡ m + 1 → Has text n → lex_text m text ≡ Err full
text_full m n text e s = let i = script_read text s.script s.rest s.cut s.is_script in
    at_script m text s.script s.rest i ∙ lex_full m (length text) [] false s.script s.rest i.inside (subst (HasAfter false s.script s.rest) (e ∙ omega arith) s.has)

told : (text : List ℕ) (over : ℕ) (h : HasScript text) (walk : Result (List Token) Stop) (r : Result (List Token) TextFault) → over ≡ 400001
    → Tells 400000 [] false h.script (after_script text) walk → Answers over walk r → HasCauseIn text r
told text over h walk (Ok v) o t a = let x = subst (Tells 400000 [] false h.script (after_script text)) a t in
    (record { script = h.script; rest = after_script text; cut = h.cut; is_script = h.is_script; lexes = subst (LexesAfter false h.script (after_script text)) (sym x.1) x.3 }, (let n = x.2 in omega (arith, ap length x.1)))
told text over h walk (Err NoMemory) o t a = tt
told text over h walk (Err (NotUtf8 n)) o t a = a
told text over h walk (Err (BadToken n)) o t a = let x = subst (Tells 400000 [] false h.script (after_script text)) a t in
    (x.0, x.1, record { script = h.script; rest = after_script text; cut = h.cut; is_script = h.is_script; stuck = x.2 })
told text over h walk (Err (TooManyTokens n)) o t a = let x = subst (Tells 400000 [] false h.script (after_script text)) a.0 t in
    (record { script = h.script; rest = after_script text; cut = h.cut; is_script = h.is_script; has = subst (HasAfter false h.script (after_script text)) (omega arith) x }, a.1 ∙ o)

-- what is answered has its cause in the text
pub cause_of : (text : List ℕ) (r : Result (List Token) TextFault) → Answers 400001 (lex_text 400000 text) r → HasCauseIn text r
cause_of text r a =
    let h = has_script text in
    let i = script_read text h.script (after_script text) h.cut h.is_script in
    told text 400001 h (lex 400000 (length text) [] false h.script (after_script text)) r refl (tells 400000 (length text) [] false h.script (after_script text) i.inside)
    (subst (λ (w : Result (List Token) Stop). Answers 400001 w r) (at_script 400000 text h.script (after_script text) i) a)

-- and what has a cause is answered
same_ok : (a b : List Token) (w : Result (List Token) Stop) → w ≡ Ok a → w ≡ Ok b → b ≡ a
same_ok a b w p q = cc

no_err : (a : List Token) (s : Stop) (w : Result (List Token) Stop) → w ≡ Ok a → w ≡ Err s → ⊥
no_err a s w p q = cc

same_bad : (a b : ℕ) (w : Result (List Token) Stop) → w ≡ Err (bad a) → w ≡ Err (bad b) → b ≡ a
same_bad a b w p q = cc

not_full : (a : ℕ) (w : Result (List Token) Stop) → w ≡ Err (bad a) → w ≡ Err full → ⊥
not_full a w p q = cc

pub answered_ok : (over : ℕ) (ts : List Token) (w : Result (List Token) Stop) (r : Result (List Token) TextFault) → w ≡ Ok ts → Answers over w r → IsUnlessMemory NoMemory r (Ok ts)
answered_ok over ts w (Ok v) e a = inl (ap Ok (same_ok ts v w e a))
answered_ok over ts w (Err NoMemory) e a = inr refl
answered_ok over ts w (Err (NotUtf8 o)) e a = absurd a
answered_ok over ts w (Err (BadToken o)) e a = absurd (no_err ts (bad o) w e a)
answered_ok over ts w (Err (TooManyTokens n)) e a = absurd (no_err ts full w e a.0)

pub answered_bad : (over offset : ℕ) (w : Result (List Token) Stop) (r : Result (List Token) TextFault) → w ≡ Err (bad offset) → Answers over w r → IsUnlessMemory NoMemory r (Err (BadToken offset))
answered_bad over offset w (Ok v) e a = absurd (no_err v (bad offset) w a e)
answered_bad over offset w (Err NoMemory) e a = inr refl
answered_bad over offset w (Err (NotUtf8 o)) e a = absurd a
answered_bad over offset w (Err (BadToken o)) e a = inl (ap (λ (x : ℕ). Err (BadToken x)) (same_bad offset o w e a))
answered_bad over offset w (Err (TooManyTokens n)) e a = absurd (not_full offset w e a.0)

pub answered_full : (over : ℕ) (w : Result (List Token) Stop) (r : Result (List Token) TextFault) → w ≡ Err full → Answers over w r → IsUnlessMemory NoMemory r (Err (TooManyTokens over))
answered_full over w (Ok v) e a = absurd (no_err v full w a e)
answered_full over w (Err NoMemory) e a = inr refl
answered_full over w (Err (NotUtf8 o)) e a = absurd a
answered_full over w (Err (BadToken o)) e a = absurd (not_full o w a e)
answered_full over w (Err (TooManyTokens n)) e a = inl (ap (λ (x : ℕ). Err (TooManyTokens x)) a.1)

pub only_list : (text : List ℕ) (r : Result (List Token) TextFault) → Answers 400001 (lex_text 400000 text) r → AnswersList text r
only_list text r a ts l h = answered_ok 400001 ts (lex_text 400000 text) r (text_reads 400000 text ts h l) a

pub only_stuck : (text : List ℕ) (r : Result (List Token) TextFault) → Answers 400001 (lex_text 400000 text) r → AnswersStuck text r
only_stuck text r a k offset s h = answered_bad 400001 offset (lex_text 400000 text) r (text_stuck 400000 text k offset h s) a

pub only_many : (text : List ℕ) (r : Result (List Token) TextFault) → Answers 400001 (lex_text 400000 text) r → AnswersMany text r
only_many text r a h = answered_full 400001 (lex_text 400000 text) r (text_full 400000 400001 text (omega arith) h) a

-- a text has at most one list, and never a list and a stuck offset
pub one_list : HasOneList
one_list text ts us l m =
    same_ok us ts (lex_text (length ts + length us) text) (text_reads (length ts + length us) text us (omega arith) m) (text_reads (length ts + length us) text ts (omega arith) l)

pub never_both : IsNeverBoth
never_both text ts k offset l s =
    no_err ts (bad offset) (lex_text (length ts + k) text) (text_reads (length ts + k) text ts (omega arith) l) (text_stuck (length ts + k) text k offset (omega arith) s)

pub one_stop : HasOneStop
one_stop text k offset k' offset' s t =
    same_bad offset' offset (lex_text (k + k') text) (text_stuck (k + k') text k' offset' (omega arith) t) (text_stuck (k + k') text k offset (omega arith) s)

-- and of bytes that are a text
pub cause_of_bytes : (bs : List ℕ) (r : Result (List Token) TextFault) → IsUtf8 bs → HasCauseIn (chars bs) r → HasCause bs r
cause_of_bytes bs (Ok ts) u a = (u, a)
cause_of_bytes bs (Err NoMemory) u a = u
cause_of_bytes bs (Err (NotUtf8 o)) u a = absurd a
cause_of_bytes bs (Err (BadToken o)) u a = (u, a)
cause_of_bytes bs (Err (TooManyTokens n)) u a = (u, a)

-- the line of a token is the line of its offset among the bytes
take_bytes : (p q : List ℕ) → take (width p) (encode_utf8_all (p ++ q)) ≡ encode_utf8_all p
take_bytes p q = ap (take (width p)) (encodes-append p q) ∙ take_at (encode_utf8_all p) (encode_utf8_all q) (width p) (width_encodes p)

line_first : (has_token : Bool) (before text : List ℕ) (token : Token) (consumed rest : List ℕ) → IsFirst has_token before text token consumed rest → token.line ≡ line_at (encode_utf8_all (before ++ text)) token.from
line_first has_token before text token consumed rest f =
    let cut : before ++ text ≡ (before ++ f.trivia) ++ (f.prefix ++ rest) = ap (λ (l : List ℕ). before ++ l) f.cut ∙ sym (append_assoc before f.trivia (f.prefix ++ rest)) in
    let part : take token.from (encode_utf8_all (before ++ text)) ≡ encode_utf8_all (before ++ f.trivia) =
    ap (λ (n : ℕ). take n (encode_utf8_all (before ++ text))) f.from_is ∙ (ap (λ (l : List ℕ). take (width (before ++ f.trivia)) (encode_utf8_all l)) cut ∙ take_bytes (before ++ f.trivia) (f.prefix ++ rest)) in
    f.line_is ∙ ap (λ (n : ℕ). n + 1) (sym (line_ends_encoded (before ++ f.trivia)) ∙ ap byte_line_ends (sym part))

same_whole : (has_token : Bool) (before text : List ℕ) (token : Token) (consumed rest : List ℕ) → IsFirst has_token before text token consumed rest → before ++ text ≡ consumed ++ rest
same_whole has_token before text token consumed rest f =
    ap (λ (l : List ℕ). before ++ l) f.cut ∙ (sym (append_assoc before f.trivia (f.prefix ++ rest)) ∙ (sym (append_assoc (before ++ f.trivia) f.prefix rest) ∙ ap (λ (l : List ℕ). l ++ rest) (sym f.consumed_is)))

lines_after : (has_token : Bool) (before text whole : List ℕ) (ts : List Token) → encode_utf8_all (before ++ text) ≡ whole → LexesAfter has_token before text ts → All (λ t. t.line ≡ line_at whole t.from) ts
lines_after has_token before text whole [] e (last g) = All-nil (λ t. t.line ≡ line_at whole t.from)
lines_after has_token before text whole (t ∷ ts) e (next consumed rest f l) =
    All-cons (λ t. t.line ≡ line_at whole t.from) t ts (line_first has_token before text t consumed rest f ∙ ap (λ (b : List ℕ). line_at b t.from) e)
    (lines_after true consumed rest whole ts (ap encode_utf8_all (sym (same_whole has_token before text t consumed rest f)) ∙ e) l)

pub lines_of : (bs : List ℕ) (r : Result (List Token) TextFault) → HasCause bs r → HasLines bs r
lines_of bs (Ok ts) a = let l = a.1.0 in lines_after false l.script l.rest bs ts (ap encode_utf8_all (sym l.cut) ∙ encodes-chars bs a.0) l.lexes
lines_of bs (Err e) a = tt
