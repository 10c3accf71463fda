use Rattle.std.proofs.Common.{ap, sym, ◌∙◌, true≢false}
use Rattle.mdg_scan.specs.Rules.{IsOpen}
use Rattle.mdg_scan.specs.declared.first.fact.Fact.{Fact}
use Rattle.mdg_scan.proofs.PartLemmas.{IsPart-next, IsPart-skip, IsPart-end}
use Rattle.mdg_scan.proofs.first.rule.open_facts.Goals as goal
use Rattle.mdg_scan.proofs.first.rule.open_facts.Goals.{then-is_open+in_ok-push, else-is_open}

pub loop-fact-preserved : goal.loop-fact-preserved
loop-fact-preserved c =
    let P : Fact → Type 0 = λ f. IsOpen f.row in
    elim c.if-is_open.branch [
      | then-is_open+in_ok-push w ↦ IsPart-next P c.args.facts.now c.loop-fact.found.items c.if-is_open.found.items c.loop-fact.fact-index _ c.loop-fact-test.true c.loop-fact.invariant (c.is_open.ensures.0 w.if-is_open.true) (ap (λ v. v.items) w.found-is ∙ w.in_ok-push.ensures.items)
      | else-is_open w ↦ IsPart-skip P c.args.facts.now c.loop-fact.found.items c.if-is_open.found.items c.loop-fact.fact-index _ c.loop-fact-test.true c.loop-fact.invariant (λ yes. true≢false (sym (c.is_open.ensures.1 yes) ∙ w.if-is_open.false)) (ap (λ v. v.items) w.found-is)
    ]

pub returns : goal.returns
returns c = IsPart-end (λ f. IsOpen f.row) c.args.facts.now c.loop-fact.found.items c.loop-fact.fact-index c.loop-fact-test.false c.loop-fact.invariant
