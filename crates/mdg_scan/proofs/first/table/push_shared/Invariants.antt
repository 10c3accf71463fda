use Rattle.std.proofs.Common.{◌≡◌, ◌++◌, drop}
use Rattle.mdg_scan.specs.Table.{shared_rules}
use Rattle.mdg_scan.proofs.first.table.push_shared.Given as goal

abbrev pub invariant-loop-shared : goal.invariant-loop-shared
invariant-loop-shared l = l.rules ++ shared_rules l.shared (drop l.shared l.fn.shared) ≡ l.fn.rules ++ shared_rules 0 l.fn.shared
