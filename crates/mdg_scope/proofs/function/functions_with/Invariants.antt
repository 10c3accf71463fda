use Rattle.std.proofs.Common.{◌≡◌, ◌∷◌, map, drop}
use Rattle.mdg_scope.specs.Functions.{with_names, body, heads}
use Rattle.mdg_scope.proofs.NameLemmas.{put_all}
use Rattle.mdg_scope.proofs.function.functions_with.Given as goal

abbrev pub invariant-loop-one : goal.invariant-loop-one
invariant-loop-one l = with_names l.scopes l.uses l.uses.names 0 (body l.fn.at ∷ heads l.scopes l.uses l.occurrences) ≡ put_all l.scopes l.uses (map (λ k. (k.0, k.1.now)) (drop l.one-index l.names)) l.made.items
