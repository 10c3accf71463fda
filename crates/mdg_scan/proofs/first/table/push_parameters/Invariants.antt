use Rattle.std.proofs.Common.{◌≡◌, ◌++◌}
use Rattle.mdg_scan.specs.Table.{parameter_rules}
use Rattle.mdg_scan.proofs.first.table.push_parameters.Given as goal

abbrev pub invariant-loop-parameter : goal.invariant-loop-parameter
invariant-loop-parameter l = l.rules ≡ l.fn.rules ++ parameter_rules l.function l.row.entry l.parameter
