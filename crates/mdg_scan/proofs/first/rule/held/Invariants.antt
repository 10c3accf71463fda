use Rattle.std.proofs.Common.{take}
use Rattle.std.specs.Prelude.{Contains}
use Rattle.mdg_scan.specs.Parts.{IsFieldOf}
use Rattle.mdg_scan.specs.Steps.{Lists}
use Rattle.mdg_scan.proofs.RuleLemmas.{SomeOf}
use Rattle.mdg_scan.proofs.first.rule.held.Given as goal

abbrev pub invariant-loop-fact : goal.invariant-loop-fact
invariant-loop-fact l = Lists (SomeOf (λ g f. Contains l.facts f × IsFieldOf g.node f) (take l.fact-index l.fact-items)) l.held.items
