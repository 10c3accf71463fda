use Rattle.std.proofs.Common.{List, [], sym, subst, take, ◌+◌}
use Rattle.std.specs.Prelude.{Contains}
use Rattle.mdg_scan.specs.Parts.{IsFieldOf}
use Rattle.mdg_scan.specs.Steps.{Lists}
use Rattle.mdg_scan.specs.declared.first.fact.Fact.{Fact}
use Rattle.mdg_scan.proofs.RuleLemmas.{SomeOf, Lists-none, Lists-more, Lists-end, Lists-IsHeld}
use Rattle.mdg_scan.proofs.first.rule.held.Goals as goal

pub loop-fact-init : goal.loop-fact-init
loop-fact-init c =
    let Q : Fact → Fact → Type 0 = λ g f. Contains c.args.facts.now f × IsFieldOf g.node f in
    let P : List Fact → Type 0 = λ held. Lists (SomeOf Q []) held in
    subst P (sym c.new-held.ensures.items) (Lists-none Q)

pub loop-fact-preserved : goal.loop-fact-preserved
loop-fact-preserved c =
    let Q : Fact → Fact → Type 0 = λ g f. Contains c.args.facts.now f × IsFieldOf g.node f in
    let P : List Fact → Type 0 = λ held. Lists (SomeOf Q (take (c.loop-fact.fact-index + 1) c.row-fact-items.result.now)) held in
    subst P (sym c.in_ok-extend_from_slice.ensures.items)
    (Lists-more Q c.row-fact-items.result.now c.loop-fact.held.items c.fields.result.now c.loop-fact.fact-index _ c.loop-fact-test.true c.loop-fact.invariant c.fields.ensures)

pub returns : goal.returns
returns c =
    let Q : Fact → Fact → Type 0 = λ g f. Contains c.args.facts.now f × IsFieldOf g.node f in
    Lists-IsHeld c.args.from c.args.facts.now c.row-fact-items.result.now c.loop-fact.held.items c.row-fact-items.ensures
    (Lists-end Q c.row-fact-items.result.now c.loop-fact.held.items c.loop-fact.fact-index c.loop-fact-test.false c.loop-fact.invariant)
