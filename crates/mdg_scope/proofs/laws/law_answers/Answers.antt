use Rattle.mdg_scope.proofs.AnswerLemmas.{one_answer, some_answer}
use Rattle.mdg_scope.proofs.laws.law_answers.Goals as goal

pub returns-clause-at_most_one : goal.returns-clause-at_most_one
returns-clause-at_most_one c = one_answer

pub returns-clause-at_least_one : goal.returns-clause-at_least_one
returns-clause-at_least_one c = some_answer
