use Rattle.std.proofs.Common.{List, ℕ, subst}
use Rattle.std.specs.Str.{chars}
use Rattle.mdg_text.specs.Causes.{HasCauseIn, AnswersList, AnswersStuck, AnswersMany}
use Rattle.mdg_text.proofs.TextLemmas.{cause_of_bytes, lines_of}
use Rattle.mdg_text.proofs.lex.tokens.Goals as goal

pub returns-in-Ok-clause-cause : goal.returns-in-Ok-clause-cause
returns-in-Ok-clause-cause c =
    cause_of_bytes c.args.bytes.now c.tokens_of_text.result c.in-Ok.ensures.cases.1
    (subst (λ (b : List ℕ). HasCauseIn (chars b) c.tokens_of_text.result) c.in-Ok.ensures.cases.0 c.tokens_of_text.ensures.cause)

pub returns-in-Ok-clause-lines : goal.returns-in-Ok-clause-lines
returns-in-Ok-clause-lines c = lines_of c.args.bytes.now c.tokens_of_text.result (returns-in-Ok-clause-cause c)

pub returns-in-Ok-clause-list : goal.returns-in-Ok-clause-list
returns-in-Ok-clause-list c =
    λ u. subst (λ (b : List ℕ). AnswersList (chars b) c.tokens_of_text.result) c.in-Ok.ensures.cases.0 c.tokens_of_text.ensures.list

pub returns-in-Ok-clause-stuck : goal.returns-in-Ok-clause-stuck
returns-in-Ok-clause-stuck c =
    λ u. subst (λ (b : List ℕ). AnswersStuck (chars b) c.tokens_of_text.result) c.in-Ok.ensures.cases.0 c.tokens_of_text.ensures.stuck

pub returns-in-Ok-clause-many : goal.returns-in-Ok-clause-many
returns-in-Ok-clause-many c =
    λ u. subst (λ (b : List ℕ). AnswersMany (chars b) c.tokens_of_text.result) c.in-Ok.ensures.cases.0 c.tokens_of_text.ensures.many
