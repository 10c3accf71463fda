use Rattle.std.proofs.Common.{◌≡◌, ◌*◌, ◌+◌, ◌≤◌, ◌<◌, ◌^◌, List, get_or, take, subst, arith, length}
use Rattle.std.specs.List.{sum_by}
use Rattle.mdg_code.specs.declared.code.FunctionRow.{FunctionRow}
use Rattle.mdg_code.specs.Locals.{row_locals_before, sites_before}
use Rattle.mdg_code.proofs.LocalLemmas.{fits_more, small_more, total_more}
use Rattle.mdg_code.proofs.locals.locals_before.Goals as goal

pub overflow_add-total : goal.overflow_add-total
overflow_add-total c =
    let functions : List FunctionRow = c.args.code.now.functions in
    let row : FunctionRow = c.row-item.result in
    let within : c.loop-row.row-index < length functions = subst (λ (xs : List FunctionRow). c.loop-row.row-index < length xs) c.as_slice-row-items.ensures c.loop-row-test.true in
    let is : row ≡ get_or functions c.loop-row.row-index row = subst (λ (xs : List FunctionRow). row ≡ get_or xs c.loop-row.row-index row) c.as_slice-row-items.ensures c.row-item.is in
    let small : c.loop-row.total + row_locals_before c.args.site.0 row ≤ sum_by (sites_before c.args.site.0) (take (c.loop-row.row-index + 1) functions) * 4294967295 =
    small_more c.args.site.0 functions (length c.args.code.now.lines) c.loop-row.row-index c.loop-row.total row c.requires.valid.functions_follow
    within is c.row_locals_before-total.ensures.small c.loop-row.invariant.small in
    let fits : c.loop-row.total + row_locals_before c.args.site.0 row < 2 ^ 64 =
    fits_more c.args.site.0 functions (length c.args.code.now.lines) (c.loop-row.row-index + 1) (c.loop-row.total + row_locals_before c.args.site.0 row)
    c.requires.valid.functions_follow c.requires.valid.counted.0 small in
    omega (arith, fits, c.row_locals_before-total.ensures.is)

pub loop-row-preserved : goal.loop-row-preserved
loop-row-preserved c =
    let functions : List FunctionRow = c.args.code.now.functions in
    let row : FunctionRow = c.row-item.result in
    let within : c.loop-row.row-index < length functions = subst (λ (xs : List FunctionRow). c.loop-row.row-index < length xs) c.as_slice-row-items.ensures c.loop-row-test.true in
    let is : row ≡ get_or functions c.loop-row.row-index row = subst (λ (xs : List FunctionRow). row ≡ get_or xs c.loop-row.row-index row) c.as_slice-row-items.ensures c.row-item.is in
    let small : c.loop-row.total + row_locals_before c.args.site.0 row ≤ sum_by (sites_before c.args.site.0) (take (c.loop-row.row-index + 1) functions) * 4294967295 =
    small_more c.args.site.0 functions (length c.args.code.now.lines) c.loop-row.row-index c.loop-row.total row c.requires.valid.functions_follow
    within is c.row_locals_before-total.ensures.small c.loop-row.invariant.small in
    let more : sum_by (row_locals_before c.args.site.0) (take (c.loop-row.row-index + 1) functions)
    ≡ sum_by (row_locals_before c.args.site.0) (take c.loop-row.row-index functions) + row_locals_before c.args.site.0 row =
    total_more c.args.site.0 functions c.loop-row.row-index row within is in
    record {
      so_far = omega (arith, more, c.loop-row.invariant.so_far, c.row_locals_before-total.ensures.is);
      small = omega (arith, small, c.row_locals_before-total.ensures.is);
    }
