use Rattle.mdg_lower.proofs.BodyLoops.{more_declarations, ended_declarations}
use Rattle.mdg_lower.proofs.statement.leaf.declarations.Goals as goal

pub loop-one-preserved : goal.loop-one-preserved
loop-one-preserved c =
    more_declarations c.args.scope.now c.args.at c.args.all.now _ _ _ c.loop-one.one-index c.one-item.result c.loop-one-test.true c.one-item.is c.in_ok-declaration.ensures c.loop-one.invariant

pub returns : goal.returns
returns c = ended_declarations _ _ _ _ _ _ c.loop-one-test.false c.loop-one.invariant
