use Rattle.mdg_text.proofs.CursorLemmas.{starting}
use Rattle.mdg_text.proofs.cursor.start.Goals as goal

pub returns-clause-is : goal.returns-clause-is
returns-clause-is c = starting
