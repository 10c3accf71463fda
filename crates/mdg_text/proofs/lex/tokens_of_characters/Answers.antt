use Rattle.std.proofs.Common.{arith, subst, List, ℕ}
use Rattle.mdg_text.specs.Causes.{HasCauseIn, AnswersList, AnswersStuck, AnswersMany}
use Rattle.mdg_text.proofs.TextLemmas.{width_whole, small_length, cause_of, only_list, only_stuck, only_many}
use Rattle.mdg_text.proofs.lex.tokens_of_characters.Goals as goal

pub lex-requires-clause-short : goal.lex-requires-clause-short
lex-requires-clause-short c = let n = small_length c.args.text.now c.args.all.now c.utf8.text c.requires.same in omega arith

pub lex-requires-clause-small : goal.lex-requires-clause-small
lex-requires-clause-small c = let n = width_whole c.args.text.now c.args.all.now c.utf8.text c.requires.same in omega arith

pub returns-clause-cause : goal.returns-clause-cause
returns-clause-cause c =
    subst (λ (l : List ℕ). HasCauseIn l c.lex.result) c.requires.same (cause_of c.args.all.now c.lex.result c.lex.ensures)

pub returns-clause-list : goal.returns-clause-list
returns-clause-list c =
    subst (λ (l : List ℕ). AnswersList l c.lex.result) c.requires.same (only_list c.args.all.now c.lex.result c.lex.ensures)

pub returns-clause-stuck : goal.returns-clause-stuck
returns-clause-stuck c =
    subst (λ (l : List ℕ). AnswersStuck l c.lex.result) c.requires.same (only_stuck c.args.all.now c.lex.result c.lex.ensures)

pub returns-clause-many : goal.returns-clause-many
returns-clause-many c =
    subst (λ (l : List ℕ). AnswersMany l c.lex.result) c.requires.same (only_many c.args.all.now c.lex.result c.lex.ensures)
