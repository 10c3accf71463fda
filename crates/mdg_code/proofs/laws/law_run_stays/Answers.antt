use Rattle.mdg_code.proofs.FunctionLemmas.{runs_stay}
use Rattle.mdg_code.proofs.laws.law_run_stays.Goals as goal

pub returns : goal.returns
returns c = runs_stay
