use Rattle.mdg_text.proofs.OrderLemmas.{stand_in_order}
use Rattle.mdg_text.proofs.laws.law_order.Goals as goal

pub returns : goal.returns
returns c = stand_in_order
