use Rattle.mdg_lower.proofs.BodyLoops.{more_body, ended_body}
use Rattle.mdg_lower.proofs.statement.+statement.Goals as goal

pub body-loop-one-preserved : goal.body-loop-one-preserved
body-loop-one-preserved t c =
    more_body c.args.scope.now c.args.all.now _ _ _ c.loop-one.one-index c.one-item.result c.loop-one-test.true c.one-item.is c.in_ok-statement.ensures c.loop-one.invariant

pub body-returns : goal.body-returns
body-returns t c = ended_body _ _ _ _ _ c.loop-one-test.false c.loop-one.invariant
