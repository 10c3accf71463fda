use Rattle.std.proofs.Common.{◌≡◌, ◌++◌, take, map}
use Rattle.mdg_scan.specs.Table.{operand}
use Rattle.mdg_scan.proofs.first.table.push_operands.Given as goal

abbrev pub invariant-loop-local : goal.invariant-loop-local
invariant-loop-local l = l.rules ≡ l.fn.rules ++ map (operand l.site) (take l.local-index l.of)
