use Rattle.std.proofs.Common.{◌≡◌, List, sym, subst, ◌∙◌, arith}
use Rattle.mdg_scan.specs.Parts.{Adds, none}
use Rattle.mdg_scan.specs.declared.first.fact.Fact.{Fact}
use Rattle.mdg_scan.proofs.GrowthLemmas.{Adds-next, Contains-added, Within-added, there-next, there-kept, there-end}
use Rattle.mdg_scan.proofs.first.growth.add_all.Goals as goal
use Rattle.mdg_scan.proofs.first.growth.add_all.Goals.{then-not-has+in_ok-facts, else-not-has}

pub loop-fact-init : goal.loop-fact-init
loop-fact-init c = record { adds = none; all = λ k below. absurd (omega arith) }

pub loop-fact-preserved : goal.loop-fact-preserved
loop-fact-preserved c =
    elim c.if-not-has.branch [
      | then-not-has+in_ok-facts w ↦
          let pushed = w.facts-is ∙ w.in_ok-facts.ensures in record {
            adds = Adds-next c.args.facts c.args.more.now c.loop-fact.facts c.if-not-has.facts c.loop-fact.fact-index _ c.loop-fact-test.true c.loop-fact.invariant.adds pushed;
            all = there-next c.args.more.now c.loop-fact.facts c.if-not-has.facts c.loop-fact.fact-index _ c.loop-fact-test.true (Within-added c.loop-fact.facts c.if-not-has.facts _ pushed) c.loop-fact.invariant.all (Contains-added c.loop-fact.facts c.if-not-has.facts _ pushed);
          }
      | else-not-has w ↦
          let kept : c.loop-fact.facts ≡ c.if-not-has.facts = sym w.facts-is in record {
            adds = subst (λ (facts : List Fact). Adds c.args.facts c.args.more.now facts) kept c.loop-fact.invariant.adds;
            all = there-kept c.args.more.now c.loop-fact.facts c.if-not-has.facts c.loop-fact.fact-index _ c.loop-fact-test.true kept c.loop-fact.invariant.all (c.has.ensures.0 w.if-not-has.false);
          }
    ]

pub returns-clause-all : goal.returns-clause-all
returns-clause-all c = there-end c.args.more.now c.loop-fact.facts c.loop-fact.fact-index c.loop-fact-test.false c.loop-fact.invariant.all
