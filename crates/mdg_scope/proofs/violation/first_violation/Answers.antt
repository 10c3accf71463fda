use Rattle.std.proofs.Common.{subst}
use Rattle.std.proofs.lemmas.List.{take_all}
use Rattle.mdg_scope.specs.Violations.{FirstOf}
use Rattle.mdg_scope.proofs.violation.first_violation.Goals as goal

pub returns : goal.returns
returns c = subst (λ l. FirstOf c.args.path.now c.args.scopes.now l c.loop-occurrence.best) (take_all c.loop-occurrence.occurrence-index c.args.occurrences.now c.loop-occurrence-test.false) c.loop-occurrence.invariant
