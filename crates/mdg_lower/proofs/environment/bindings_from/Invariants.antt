use Rattle.std.proofs.Common.{◌≡◌, ◌++◌, drop}
use Rattle.mdg_lower.specs.Environment as environment
use Rattle.mdg_lower.proofs.environment.bindings_from.Given as goal

abbrev pub invariant-loop-function : goal.invariant-loop-function
invariant-loop-function l = environment.bindings_from l.cell l.functions ≡ l.made ++ environment.bindings_from l.next (drop l.function-index l.functions)
