use Rattle.mdg_code.proofs.FunctionLemmas.{calls_come_back}
use Rattle.mdg_code.proofs.laws.law_call_comes_back.Goals as goal

pub returns : goal.returns
returns c = calls_come_back
