use Rattle.std.proofs.Common.{◌≡◌, ◌++◌, drop}
use Rattle.mdg_scan.specs.Table.{function_rules}
use Rattle.mdg_scan.proofs.first.table.push_functions.Given as goal

abbrev pub invariant-loop-function : goal.invariant-loop-function
invariant-loop-function l = l.rules ++ function_rules l.function (drop l.function l.fn.functions) ≡ l.fn.rules ++ function_rules 0 l.fn.functions
