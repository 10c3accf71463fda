use Rattle.std.proofs.Common.{take}
use Rattle.mdg_scan.specs.Parts.{IsPart}
use Rattle.mdg_scan.specs.Rules.{In}
use Rattle.mdg_scan.proofs.first.rule.common.Given as goal

abbrev pub invariant-loop-fact : goal.invariant-loop-fact
invariant-loop-fact l = IsPart (λ f. In l.facts l.row f.node) (take l.fact-index l.part) l.common.items
