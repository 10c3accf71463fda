use Rattle.std.proofs.Common.{List, [], ◌∷◌, ap, sym, subst, ◌∙◌, take, ◌+◌}
use Rattle.mdg_scan.specs.Steps.{Concludes, ConcludesSome, Lists}
use Rattle.mdg_scan.specs.declared.first.fact.Fact.{Fact}
use Rattle.mdg_scan.proofs.RuleLemmas.{Lists-more, Lists-same, Lists-some, Lists-end}
use Rattle.mdg_scan.proofs.first.rule.conclusions.Goals as goal
use Rattle.mdg_scan.proofs.first.rule.conclusions.Goals.{in-Some+in_ok-push, in_default}

pub loop-premise-preserved : goal.loop-premise-preserved
loop-premise-preserved c =
    let P : List Fact → Type 0 = λ given. Lists (ConcludesSome c.args.rule (take (c.loop-premise.premise-index + 1) c.args.premises.now)) given in
    elim c.match-conclusion.branch [
      | in-Some+in_ok-push w ↦ subst P (sym (ap (λ v. v.items) w.given-is ∙ w.in_ok-push.ensures.items))
          (Lists-more (Concludes c.args.rule) c.args.premises.now c.loop-premise.given.items (w.in-Some.fact ∷ []) c.loop-premise.premise-index _ c.loop-premise-test.true c.loop-premise.invariant
          (Lists-some _ c.conclusion.result w.in-Some.fact w.in-Some.is c.conclusion.ensures.only c.conclusion.ensures.all))
      | in_default w ↦ subst P (sym (ap (λ v. v.items) w.given-is))
          (Lists-same (Concludes c.args.rule) c.args.premises.now c.loop-premise.given.items c.loop-premise.premise-index _ c.loop-premise-test.true c.loop-premise.invariant
          (λ f concludes. w.in_default.not-Some f (c.conclusion.ensures.all f concludes)))
    ]

pub returns : goal.returns
returns c = Lists-end (Concludes c.args.rule) c.args.premises.now c.loop-premise.given.items c.loop-premise.premise-index c.loop-premise-test.false c.loop-premise.invariant
