use Rattle.std.proofs.Common.{arith, sym, ap}
use Rattle.mdg_tree.specs.Height.{height, stmt_height, property_height, declaration_height}
use Rattle.mdg_tree.proofs.Heights.{highest_more, stmt_height-For}
use Rattle.mdg_tree.proofs.measure.+height.Goals as goal

pub of_all-loop-one-preserved : goal.of_all-loop-one-preserved
of_all-loop-one-preserved t c =
    let more = highest_more height c.args.all.now c.loop-one.one-index c.one-item.result c.loop-one-test.true in
    let same = ap height (sym c.one-item.is) in
    omega (arith, c.loop-one.invariant, c.of_expr.ensures)

pub of_properties-loop-one-preserved : goal.of_properties-loop-one-preserved
of_properties-loop-one-preserved t c =
    let more = highest_more property_height c.args.all.now c.loop-one.one-index c.one-item.result c.loop-one-test.true in
    let same = ap property_height (sym c.one-item.is) in
    omega (arith, c.loop-one.invariant, c.of_property.ensures)

pub of_body-loop-one-preserved : goal.of_body-loop-one-preserved
of_body-loop-one-preserved t c =
    let more = highest_more stmt_height c.args.body.now c.loop-one.one-index c.one-item.result c.loop-one-test.true in
    let same = ap stmt_height (sym c.one-item.is) in
    omega (arith, c.loop-one.invariant, c.of_stmt.ensures)

pub of_declarations-loop-one-preserved : goal.of_declarations-loop-one-preserved
of_declarations-loop-one-preserved t c =
    let more = highest_more declaration_height c.args.all.now c.loop-one.one-index c.one-item.result c.loop-one-test.true in
    let same = ap declaration_height (sym c.one-item.is) in
    omega (arith, c.loop-one.invariant, c.of_declaration.ensures)

pub of_stmt-returns-in-For : goal.of_stmt-returns-in-For
of_stmt-returns-in-For t c =
    let row = stmt_height-For c.in-For.field-0 c.in-For.init c.in-For.test c.in-For.update c.in-For.body in
    let same = ap stmt_height (sym c.in-For.is) in
    let inner = ap stmt_height c.get-in-For.ensures in
    omega (arith, c.of_optional.ensures, c.of_optional-in-For.ensures, c.max-tests.ensures, c.of_init.ensures, c.max-head.ensures, c.of_stmt-in-For.ensures, c.max-in-For.ensures, c.above-in-For.ensures)
