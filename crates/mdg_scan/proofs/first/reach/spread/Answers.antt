use Rattle.std.proofs.Common.{arith, below_more}
use Rattle.mdg_scan.specs.Reaching.{same}
use Rattle.mdg_scan.proofs.SpreadLemmas.{Spreads-trans, Follows-at, Follows-each, Follows-kept, Follows-earlier}
use Rattle.mdg_scan.proofs.first.reach.spread.Goals as goal

pub loop-edge-init : goal.loop-edge-init
loop-edge-init c = (same, λ k below. absurd (omega arith))

pub returns-in_err-follow-clause-spreads : goal.returns-in_err-follow-clause-spreads
returns-in_err-follow-clause-spreads c = Spreads-trans c.loop-edge.invariant.0 c.follow.ensures.spreads

pub loop-edge-preserved : goal.loop-edge-preserved
loop-edge-preserved c =
    let spreads = c.follow.ensures.spreads in (
      Spreads-trans c.loop-edge.invariant.0 spreads,
      below_more _ _ (λ k below d. Follows-kept _ _ spreads (c.loop-edge.invariant.1 k below d))
          (λ d. Follows-at c.args.edges.now _ _ _ d c.loop-edge.edge-index c.loop-edge-test.true (Follows-earlier _ _ c.loop-edge.invariant.0 c.in_ok-follow.ensures.follows)),
    )

pub returns-clause-follows : goal.returns-clause-follows
returns-clause-follows c = Follows-each c.args.edges.now _ _ (λ k below. c.loop-edge.invariant.1 k (omega arith))
