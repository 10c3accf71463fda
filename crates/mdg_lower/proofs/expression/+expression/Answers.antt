use Rattle.std.proofs.Common.{arith}
use Rattle.mdg_lower.proofs.ListLoops.{more_arguments, more_temps, ended_arguments, ended_temps, more_comma, ended_comma, more_elements, ended_elements, more_properties, ended_properties}
use Rattle.mdg_lower.proofs.expression.+expression.Goals as goal

pub operand::arguments-loop-one-preserved : goal.operand::arguments-loop-one-preserved
operand::arguments-loop-one-preserved t c =
    let more = more_arguments c.args.scope.now c.args.all.now _ _ _ c.loop-one.one-index c.loop-one.next c.one-item.result c.loop-one-test.true c.one-item.is c.in_ok-value.ensures c.loop-one.invariant.emits in
    let made = more_temps c.args.scope.now c.args.all.now _ _ c.loop-one.one-index c.loop-one.next c.one-item.result c.loop-one-test.true c.loop-one.invariant.temps in
    grind (arith, more, made)

pub operand::arguments-returns-clause-emits : goal.operand::arguments-returns-clause-emits
operand::arguments-returns-clause-emits t c = ended_arguments _ _ _ _ _ _ _ c.loop-one-test.false c.loop-one.invariant.emits

pub operand::arguments-returns-clause-temps : goal.operand::arguments-returns-clause-temps
operand::arguments-returns-clause-temps t c = ended_temps _ _ _ _ _ _ c.loop-one-test.false c.loop-one.invariant.temps

pub list::comma-loop-one-preserved : goal.list::comma-loop-one-preserved
list::comma-loop-one-preserved t c =
    more_comma c.args.scope.now c.args.all.now c.args.dest _ _ _ c.loop-one.one-index c.one-item.result c.loop-one-test.true c.one-item.is c.in_ok-value.ensures c.loop-one.invariant

pub list::comma-returns : goal.list::comma-returns
list::comma-returns t c = ended_comma _ _ _ _ _ _ c.loop-one-test.false c.loop-one.invariant

pub list::elements-loop-one-preserved : goal.list::elements-loop-one-preserved
list::elements-loop-one-preserved t c =
    let more = more_elements c.args.scope.now c.args.at c.args.all.now c.args.dest _ _ _ c.loop-one.one-index c.loop-one.number c.one-item.result c.loop-one-test.true c.one-item.is c.in_ok-element.ensures c.loop-one.invariant in
    grind (arith, more)

pub list::elements-returns : goal.list::elements-returns
list::elements-returns t c = ended_elements _ _ _ _ _ _ _ _ c.loop-one-test.false c.loop-one.invariant

pub list::properties-loop-one-preserved : goal.list::properties-loop-one-preserved
list::properties-loop-one-preserved t c =
    more_properties c.args.scope.now c.args.at c.args.all.now c.args.dest _ _ _ c.loop-one.one-index c.one-item.result c.loop-one-test.true c.one-item.is c.in_ok-property.ensures c.loop-one.invariant

pub list::properties-returns : goal.list::properties-returns
list::properties-returns t c = ended_properties _ _ _ _ _ _ _ c.loop-one-test.false c.loop-one.invariant
