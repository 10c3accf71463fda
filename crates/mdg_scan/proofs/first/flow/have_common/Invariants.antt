use Rattle.std.proofs.Common.{ℕ, ◌<◌, get_or}
use Rattle.std.specs.Prelude.{Contains}
use Rattle.mdg_scan.specs.declared.first.fact.Fact.{Fact}
use Rattle.mdg_scan.proofs.first.flow.have_common.Given as goal

abbrev pub invariant-loop-fact : goal.invariant-loop-fact
invariant-loop-fact l = (k : ℕ) (d : Fact) → k < l.fact-index → Contains l.facts (record { row = l.other; node = (get_or l.fact-items k d).node }) → ⊥
