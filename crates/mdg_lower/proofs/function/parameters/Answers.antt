use Rattle.std.proofs.Common.{arith}
use Rattle.mdg_lower.proofs.ParameterLoop.{more_parameters, ended_parameters}
use Rattle.mdg_lower.proofs.function.parameters.Goals as goal

pub loop-one-preserved : goal.loop-one-preserved
loop-one-preserved c =
    let more = more_parameters c.args.scope.now c.args.at c.args.all.now _ _ _ c.loop-one.one-index c.loop-one.number c.one-item.result c.as_str.result.now c.loop-one-test.true c.one-item.is c.as_str.ensures c.in_ok-parameter.ensures c.loop-one.invariant in
    grind (arith, more)

pub returns : goal.returns
returns c = ended_parameters _ _ _ _ _ _ _ c.loop-one-test.false c.loop-one.invariant
