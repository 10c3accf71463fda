use Rattle.std.proofs.Common.{◌-◌, ◌^◌, [], length}
use Rattle.mdg_scan.specs.Graph.{Led}
use Rattle.mdg_scan.specs.Table.{rules_of}
use Rattle.mdg_scan.proofs.first.growth.grow.Given as goal

abbrev pub invariant-loop-rules : goal.invariant-loop-rules
invariant-loop-rules l = Led (rules_of l.code) [] l.facts

abbrev pub decreases-loop-rules : goal.decreases-loop-rules
decreases-loop-rules l = 2 ^ 64 - length l.facts
