use Rattle.std.proofs.Common.{◌≡◌, ◌*◌, ◌≤◌, take}
use Rattle.std.specs.List.{sum_by}
use Rattle.mdg_code.specs.Locals.{row_locals_before, sites_before}
use Rattle.mdg_code.proofs.locals.locals_before.Given as goal

abbrev pub invariant-loop-row : goal.invariant-loop-row
invariant-loop-row l = record {
  so_far : l.total ≡ sum_by (row_locals_before l.site.0) (take l.row-index l.code.functions);
  small : l.total ≤ sum_by (sites_before l.site.0) (take l.row-index l.code.functions) * 4294967295;
}
