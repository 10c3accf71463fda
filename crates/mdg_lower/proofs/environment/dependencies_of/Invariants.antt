use Rattle.std.proofs.Common.{◌≡◌, ◌++◌, drop}
use Rattle.std.specs.Prelude.{map}
use Rattle.mdg_lower.specs.Environment as environment
use Rattle.mdg_lower.proofs.environment.dependencies_of.Given as goal

abbrev pub invariant-loop-one : goal.invariant-loop-one
invariant-loop-one l = map (environment.dependency_of l.modules) l.required ≡ l.made ++ map (environment.dependency_of l.modules) (drop l.one-index l.required)
