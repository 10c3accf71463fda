use Rattle.std.proofs.Common.{◌≡◌, [], drop}
use Rattle.std.specs.Prelude.{map}
use Rattle.mdg_lower.specs.Offsets.{add_offsets}
use Rattle.mdg_lower.proofs.environment.keywords_of.Given as goal

abbrev pub invariant-loop-function : goal.invariant-loop-function
invariant-loop-function l = add_offsets [] (map (λ f. f.offset) l.functions) ≡ add_offsets l.table (map (λ f. f.offset) (drop l.function-index l.functions))
