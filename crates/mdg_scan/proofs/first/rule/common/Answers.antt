use Rattle.std.proofs.Common.{ap, sym, ◌∙◌, true≢false}
use Rattle.mdg_scan.specs.Rules.{In}
use Rattle.mdg_scan.specs.declared.first.fact.Fact.{Fact}
use Rattle.mdg_scan.proofs.PartLemmas.{IsPart-next, IsPart-skip, IsPart-end}
use Rattle.mdg_scan.proofs.first.rule.common.Goals as goal
use Rattle.mdg_scan.proofs.first.rule.common.Goals.{then-has+in_ok-push, else-has}

pub loop-fact-preserved : goal.loop-fact-preserved
loop-fact-preserved c =
    let P : Fact → Type 0 = λ f. In c.args.facts.now c.args.row f.node in
    elim c.if-has.branch [
      | then-has+in_ok-push w ↦ IsPart-next P c.args.part.now c.loop-fact.common.items c.if-has.common.items c.loop-fact.fact-index _ c.loop-fact-test.true c.loop-fact.invariant (c.has.ensures.0 w.if-has.true) (ap (λ v. v.items) w.common-is ∙ w.in_ok-push.ensures.items)
      | else-has w ↦ IsPart-skip P c.args.part.now c.loop-fact.common.items c.if-has.common.items c.loop-fact.fact-index _ c.loop-fact-test.true c.loop-fact.invariant (λ stands. true≢false (sym (c.has.ensures.1 stands) ∙ w.if-has.false)) (ap (λ v. v.items) w.common-is)
    ]

pub returns : goal.returns
returns c = IsPart-end (λ f. In c.args.facts.now c.args.row f.node) c.args.part.now c.loop-fact.common.items c.loop-fact.fact-index c.loop-fact-test.false c.loop-fact.invariant
