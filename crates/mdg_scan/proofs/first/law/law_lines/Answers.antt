use Rattle.mdg_scan.proofs.LinesLaw.{AreLines-from, lines_of-AreLines}
use Rattle.mdg_scan.proofs.first.law.law_lines.Goals as goal

pub returns : goal.returns
returns c = λ bytes lines. (λ is. AreLines-from bytes lines is, λ are. lines_of-AreLines are)
