use Rattle.std.proofs.Common.{◌≡◌, ◌++◌, drop}
use Rattle.mdg_scope.specs.Functions.{required}
use Rattle.mdg_scope.proofs.required.required_by.Given as goal

abbrev pub invariant-loop-occurrence : goal.invariant-loop-occurrence
invariant-loop-occurrence l = required l.path l.scopes l.occurrences ≡ l.made ++ required l.path l.scopes (drop l.occurrence-index l.occurrences)
