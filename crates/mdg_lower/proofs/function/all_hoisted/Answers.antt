use Rattle.mdg_lower.proofs.BodyLoops.{more_hoisted, ended_hoisted}
use Rattle.mdg_lower.proofs.function.all_hoisted.Goals as goal

pub loop-one-preserved : goal.loop-one-preserved
loop-one-preserved c =
    more_hoisted c.args.scope.now c.args.all.now _ _ _ c.loop-one.one-index c.one-item.result c.loop-one-test.true c.one-item.is c.in_ok-hoisted.ensures c.loop-one.invariant

pub returns : goal.returns
returns c = ended_hoisted _ _ _ _ _ c.loop-one-test.false c.loop-one.invariant
