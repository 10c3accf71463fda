use Rattle.mdg_profile.proofs.Answer.{answered}
use Rattle.mdg_profile.proofs.DistinctRead.{read_distinct}
use Rattle.mdg_profile.proofs.read.read_profile.Goals as goal

pub returns-clause-answers : goal.returns-clause-answers
returns-clause-answers c = answered c.args.bytes.now c.profile_of.result c.profile_of.ensures

pub returns-clause-distinct : goal.returns-clause-distinct
returns-clause-distinct c = read_distinct c.args.bytes.now c.profile_of.result c.profile_of.ensures
