use Rattle.mdg_profile.proofs.Answer.{one_answer}
use Rattle.mdg_profile.proofs.read.law_read_profile.Goals as goal

pub returns : goal.returns
returns c = one_answer
