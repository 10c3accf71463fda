use Rattle.std.proofs.Common.{List, subst}
use Rattle.std.proofs.lemmas.Result.{IfOk-weaker}
use Rattle.mdg_scan.specs.Steps.{ConcludesSome, Lists}
use Rattle.mdg_scan.specs.declared.first.fact.Fact.{Fact}
use Rattle.mdg_scan.proofs.RuleLemmas.{Lists-RuleGives}
use Rattle.mdg_scan.proofs.first.rule.given.Goals as goal

pub returns : goal.returns
returns c =
    IfOk-weaker c.conclusions.result _ _
    (λ v lists. Lists-RuleGives c.args.rule c.args.facts.now c.in_ok-premises.premises.items v.items c.in_ok-premises.ensures
    (subst (λ (xs : List Fact). Lists (ConcludesSome c.args.rule xs) v.items) c.as_slice.ensures.value lists))
    c.conclusions.ensures
