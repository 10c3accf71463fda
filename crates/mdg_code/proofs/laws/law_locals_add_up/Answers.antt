use Rattle.mdg_code.proofs.LocalLemmas.{add_up}
use Rattle.mdg_code.proofs.laws.law_locals_add_up.Goals as goal

pub returns : goal.returns
returns c = add_up
