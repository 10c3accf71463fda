use Rattle.std.proofs.Common.{◌≡◌, ◌==◌, true, map, codes, length, arith, sym, ◌∙◌}
use Rattle.std.proofs.lemmas.Result.{err_from_is_err_and}
use Rattle.mdg_profile.proofs.Numbers.{arguments_fault, arguments_empty}
use Rattle.serde_json.specs.Find.{get}
use Rattle.serde_json.specs.View.{view}
use Rattle.mdg_profile.proofs.form.arguments_of.Goals as goal

pub returns-in_err-numbers : goal.returns-in_err-numbers
returns-in_err-numbers c =
    let p = err_from_is_err_and c.from_residual.result c.from_residual.ensures.1 in
    rw (p.1, p.2) (arguments_fault (get (codes "arguments") (view c.args.value.now)) (map view c.in-Some.list.now) (sym c.in-Some.ensures) c.in_err-numbers.field-0.0 c.in_err-numbers.ensures)

pub returns-then-is_empty : goal.returns-then-is_empty
returns-then-is_empty c =
    let empty : (length c.as_slice.result.now == 0) ≡ true = sym c.is_empty.ensures ∙ c.if-is_empty.true in
    let none : length c.as_slice.result.now ≡ 0 = grind (arith, empty) in
    arguments_empty (get (codes "arguments") (view c.args.value.now)) (map view c.in-Some.list.now) c.in_ok-numbers.numbers (sym c.in-Some.ensures) c.in_ok-numbers.ensures (rw c.as_slice.ensures at none)
