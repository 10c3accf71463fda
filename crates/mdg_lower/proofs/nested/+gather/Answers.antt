use Rattle.std.proofs.Common.{arith}
use Rattle.mdg_lower.proofs.NestedEquations.{stmt_lists-For}
use Rattle.mdg_lower.proofs.NestedLemmas.{grows_by_four}
use Rattle.mdg_lower.proofs.nested.+gather.Goals as goal

pub statement-returns-in_ok-optional-in-For-2 : goal.statement-returns-in_ok-optional-in-For-2
statement-returns-in_ok-optional-in-For-2 t c = grind (arith, stmt_lists-For, grows_by_four)
