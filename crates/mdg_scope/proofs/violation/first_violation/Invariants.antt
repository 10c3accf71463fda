use Rattle.std.proofs.Common.{take}
use Rattle.mdg_scope.specs.Violations.{FirstOf}
use Rattle.mdg_scope.proofs.violation.first_violation.Given as goal

abbrev pub invariant-loop-occurrence : goal.invariant-loop-occurrence
invariant-loop-occurrence l = FirstOf l.path l.scopes (take l.occurrence-index l.occurrences) l.best
