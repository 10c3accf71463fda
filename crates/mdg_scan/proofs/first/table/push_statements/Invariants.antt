use Rattle.std.proofs.Common.{◌≡◌, ◌++◌, drop}
use Rattle.mdg_scan.specs.Table.{statement_rules}
use Rattle.mdg_scan.proofs.first.table.push_statements.Given as goal

abbrev pub invariant-loop-site : goal.invariant-loop-site
invariant-loop-site l = l.rules ++ statement_rules l.site (drop l.site l.fn.lines) ≡ l.fn.rules ++ statement_rules 0 l.fn.lines
