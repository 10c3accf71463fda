use Rattle.mdg_scope.proofs.OrderLemmas.{keeps_order}
use Rattle.mdg_scope.proofs.laws.law_order.Goals as goal

pub returns : goal.returns
returns c = keeps_order
