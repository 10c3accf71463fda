use Rattle.std.proofs.Common.{◌<◌, length, subst, ◌∙◌}
use Rattle.mdg_lower.specs.Tables.{lower_bound}
use Rattle.mdg_lower.specs.TableUpdates.{Updates}
use Rattle.mdg_lower.proofs.TableLemmas.{none_lowered, first_and_rest}
use Rattle.mdg_lower.proofs.tables.lower_bound.Goals as goal

pub returns-in-empty : goal.returns-in-empty
returns-in-empty c = none_lowered c.args.scope.now c.args.bound.now c.args.bound.now.functions _ _ (subst (λ l. length l < 1) c.as_slice.ensures c.in-empty.len_below)

pub returns-in_ok-lower_functions-in-len1-up : goal.returns-in_ok-lower_functions-in-len1-up
returns-in_ok-lower_functions-in-len1-up c =
    subst (λ l. Updates (lower_bound c.args.scope.now c.args.bound.now l) c.args.lines.now.items c.args.tables.now c.lower_functions.new.lines.items c.lower_functions.new.tables)
    (first_and_rest c.as_slice.result.now c.body-item.result c.in-len1-up.len_at_least c.body-item.is ∙ c.as_slice.ensures)
    c.in_ok-lower_functions-in-len1-up.ensures
