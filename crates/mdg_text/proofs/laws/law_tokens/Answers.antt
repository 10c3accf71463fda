use Rattle.mdg_text.proofs.TextLemmas.{one_list, never_both, one_stop}
use Rattle.mdg_text.proofs.laws.law_tokens.Goals as goal

pub returns-clause-one_list : goal.returns-clause-one_list
returns-clause-one_list c = one_list

pub returns-clause-never_both : goal.returns-clause-never_both
returns-clause-never_both c = never_both

pub returns-clause-one_stop : goal.returns-clause-one_stop
returns-clause-one_stop c = one_stop
