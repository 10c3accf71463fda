use Rattle.std.proofs.Common.{◌≡◌, [], drop}
use Rattle.mdg_scope.specs.Functions.{filtered_from}
use Rattle.mdg_scope.proofs.function.filtered.Given as goal

abbrev pub invariant-loop-occurrence : goal.invariant-loop-occurrence
invariant-loop-occurrence l = filtered_from l.which l.scopes [] l.occurrences ≡ filtered_from l.which l.scopes l.table (drop l.occurrence-index l.occurrences)
