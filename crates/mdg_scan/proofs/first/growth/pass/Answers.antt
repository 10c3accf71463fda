use Rattle.std.proofs.Common.{arith}
use Rattle.mdg_scan.specs.Graph.{same}
use Rattle.mdg_scan.proofs.GrowthLemmas.{Adds-within, GivenBy-at, Led-Adds, Led-trans, Led-within, given-next}
use Rattle.mdg_scan.proofs.first.growth.pass.Goals as goal

pub loop-rule-init : goal.loop-rule-init
loop-rule-init c = record { led = same; all = λ k below. absurd (omega arith) }

pub loop-rule-preserved : goal.loop-rule-preserved
loop-rule-preserved c = record {
  led = Led-trans c.loop-rule.invariant.led (Led-Adds (GivenBy-at c.args.rules.now c.loop-rule.facts c.in_ok-more.more.items c.as_slice.result.now c.loop-rule.rule-index _ c.loop-rule-test.true c.as_slice.ensures.value c.in_ok-more.ensures) c.in_ok-facts.ensures.adds);
  all = given-next c.args.rules.now c.args.facts c.loop-rule.facts c.in_ok-more.more.items c.as_slice.result.now c.in_ok-facts.facts c.loop-rule.rule-index _ c.loop-rule-test.true (Led-within c.loop-rule.invariant.led) (Adds-within c.in_ok-facts.ensures.adds) c.as_slice.ensures.value c.in_ok-more.ensures c.in_ok-facts.ensures.all c.loop-rule.invariant.all;
}
