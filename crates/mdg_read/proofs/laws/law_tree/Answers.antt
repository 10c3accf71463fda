use Rattle.mdg_read.proofs.AnswerLemmas.{one_tree, never_both, one_due}
use Rattle.mdg_read.proofs.laws.law_tree.Goals as goal

pub returns-clause-one_tree : goal.returns-clause-one_tree
returns-clause-one_tree c = one_tree

pub returns-clause-never_both : goal.returns-clause-never_both
returns-clause-never_both c = never_both

pub returns-clause-one_due_item : goal.returns-clause-one_due_item
returns-clause-one_due_item c = one_due
