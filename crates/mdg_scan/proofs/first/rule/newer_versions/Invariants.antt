use Rattle.std.proofs.Common.{take}
use Rattle.mdg_scan.specs.Steps.{IsNewer, Lists}
use Rattle.mdg_scan.proofs.first.rule.newer_versions.Given as goal

abbrev pub invariant-loop-fact : goal.invariant-loop-fact
invariant-loop-fact l = Lists (IsNewer (take l.fact-index l.of) l.facts) l.newer.items
