use Rattle.mdg_scan.proofs.AnswerLemmas.{one_answer, one_reply}
use Rattle.mdg_scan.proofs.command.law_one_answer.Goals as goal

pub returns-clause-answer : goal.returns-clause-answer
returns-clause-answer c = one_answer

pub returns-clause-reply : goal.returns-clause-reply
returns-clause-reply c = one_reply
