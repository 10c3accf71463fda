use Rattle.std.proofs.Common.{◌≡◌, ◌++◌, drop}
use Rattle.mdg_scope.specs.Resolution.{parents}
use Rattle.mdg_scope.proofs.resolution.parents.Given as goal

abbrev pub invariant-loop-occurrence : goal.invariant-loop-occurrence
invariant-loop-occurrence l = parents l.occurrences ≡ l.made ++ parents (drop l.occurrence-index l.occurrences)
