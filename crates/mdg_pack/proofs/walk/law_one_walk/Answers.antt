use Rattle.mdg_pack.proofs.GatherLemmas.{one_outcome}
use Rattle.mdg_pack.proofs.SomeWalk.{some_outcome}
use Rattle.mdg_pack.proofs.walk.law_one_walk.Goals as goal

pub returns-clause-at_most_one : goal.returns-clause-at_most_one
returns-clause-at_most_one c = one_outcome

pub returns-clause-at_least_one : goal.returns-clause-at_least_one
returns-clause-at_least_one c = some_outcome
