use Rattle.std.proofs.Common.{sym, ◌∙◌}
use Rattle.mdg_lower.proofs.PropertyLemmas.{property_found, property_passed}
use Rattle.mdg_lower.proofs.assigned.+assigned.Goals as goal

pub any_property_assigns-returns-then-assigns : goal.any_property_assigns-returns-then-assigns
any_property_assigns-returns-then-assigns t c =
    sym (c.loop-one.invariant ∙ property_found c.args.all.now c.loop-one.one-index c.one-item.result c.args.name.now c.loop-one-test.true c.one-item.is (sym c.assigns.ensures ∙ c.if-assigns.true))

pub any_property_assigns-loop-one-preserved : goal.any_property_assigns-loop-one-preserved
any_property_assigns-loop-one-preserved t c =
    c.loop-one.invariant ∙ property_passed c.args.all.now c.loop-one.one-index c.one-item.result c.args.name.now c.loop-one-test.true c.one-item.is (sym c.assigns.ensures ∙ c.if-assigns.false)
