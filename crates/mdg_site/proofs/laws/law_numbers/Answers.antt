use Rattle.mdg_site.proofs.NumberLemmas.{node_lt, row_lt}
use Rattle.mdg_site.proofs.OneToOne.{node_same, row_same}
use Rattle.mdg_site.proofs.TakenLemmas.{node_taken, row_taken}
use Rattle.mdg_site.proofs.laws.law_numbers.Goals as goal

pub returns-clause-nodes : goal.returns-clause-nodes
returns-clause-nodes c l = record { one_node = node_same l; below_count = node_lt l; each_taken = node_taken l }

pub returns-clause-rows : goal.returns-clause-rows
returns-clause-rows c l = record { one_row = row_same l; below_count = row_lt l; each_taken = row_taken l }
