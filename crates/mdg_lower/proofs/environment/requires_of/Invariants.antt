use Rattle.std.proofs.Common.{◌≡◌, [], drop}
use Rattle.std.specs.Prelude.{map}
use Rattle.mdg_lower.specs.Offsets.{add_offsets}
use Rattle.mdg_lower.proofs.environment.requires_of.Given as goal

abbrev pub invariant-loop-one : goal.invariant-loop-one
invariant-loop-one l = add_offsets [] (map (λ r. r.offset) l.required) ≡ add_offsets l.table (map (λ r. r.offset) (drop l.one-index l.required))
