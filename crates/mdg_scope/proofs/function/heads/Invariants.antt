use Rattle.std.proofs.Common.{◌≡◌, ◌++◌, ◌∷◌, drop}
use Rattle.mdg_scope.specs.Functions.{body, heads}
use Rattle.mdg_scope.proofs.function.heads.Given as goal

abbrev pub invariant-loop-occurrence : goal.invariant-loop-occurrence
invariant-loop-occurrence l = body l.fn.at ∷ heads l.scopes l.uses l.occurrences ≡ l.made.items ++ heads l.scopes l.uses (drop l.occurrence-index l.occurrences)
