use Rattle.mdg_code.proofs.SearchLemmas.{members_of_bases}
use Rattle.mdg_code.proofs.laws.law_one_member.Goals as goal

pub returns : goal.returns
returns c = λ code valid. members_of_bases code.shared valid.distinct_members
