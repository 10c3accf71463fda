use Rattle.std.proofs.Common.{take}
use Rattle.mdg_scan.specs.Parts.{IsPart}
use Rattle.mdg_scan.specs.Rules.{IsOpen}
use Rattle.mdg_scan.proofs.first.rule.open_facts.Given as goal

abbrev pub invariant-loop-fact : goal.invariant-loop-fact
invariant-loop-fact l = IsPart (λ f. IsOpen f.row) (take l.fact-index l.facts) l.found.items
