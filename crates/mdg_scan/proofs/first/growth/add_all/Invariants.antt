use Rattle.std.proofs.Common.{ℕ, ◌<◌, get_or}
use Rattle.std.specs.Prelude.{Contains}
use Rattle.mdg_scan.specs.declared.first.fact.Fact.{Fact}
use Rattle.mdg_scan.specs.Parts.{Adds}
use Rattle.mdg_scan.proofs.first.growth.add_all.Given as goal

abbrev pub invariant-loop-fact : goal.invariant-loop-fact
invariant-loop-fact l = record {
  adds : Adds l.fn.facts l.more l.facts;
  all : (k : ℕ) → k < l.fact-index → (d : Fact) → Contains l.facts (get_or l.more k d);
}
