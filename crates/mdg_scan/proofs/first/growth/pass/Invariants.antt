use Rattle.std.proofs.Common.{ℕ, ◌<◌, get_or}
use Rattle.std.specs.Prelude.{Contains}
use Rattle.mdg_scan.specs.declared.first.fact.Fact.{Fact}
use Rattle.mdg_scan.specs.declared.first.rule.Rule.{Rule}
use Rattle.mdg_scan.specs.Graph.{Led}
use Rattle.mdg_scan.specs.Rules.{RuleGives}
use Rattle.mdg_scan.proofs.first.growth.pass.Given as goal

abbrev pub invariant-loop-rule : goal.invariant-loop-rule
invariant-loop-rule l = record {
  led : Led l.rules l.fn.facts l.facts;
  all : (k : ℕ) → k < l.rule-index → (d : Rule) (f : Fact) → RuleGives (get_or l.rules k d) l.fn.facts f → Contains l.facts f;
}
