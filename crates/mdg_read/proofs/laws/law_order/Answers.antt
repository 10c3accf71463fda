use Rattle.mdg_read.proofs.OffsetLemmas.{ascend, file_ascends}
use Rattle.mdg_read.proofs.laws.law_order.Goals as goal

pub returns : goal.returns
returns c = λ ts tree stand f. file_ascends ts tree (ascend 0 ts stand) f
