use Rattle.std.proofs.Common.{◌≡◌, [], drop}
use Rattle.mdg_scope.specs.Resolution.{named_from}
use Rattle.mdg_scope.proofs.resolution.named.Given as goal

abbrev pub invariant-loop-occurrence : goal.invariant-loop-occurrence
invariant-loop-occurrence l = named_from l.which [] l.occurrences ≡ named_from l.which l.table (drop l.occurrence-index l.occurrences)
