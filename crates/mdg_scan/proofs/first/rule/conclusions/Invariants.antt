use Rattle.std.proofs.Common.{take}
use Rattle.mdg_scan.specs.Steps.{ConcludesSome, Lists}
use Rattle.mdg_scan.proofs.first.rule.conclusions.Given as goal

abbrev pub invariant-loop-premise : goal.invariant-loop-premise
invariant-loop-premise l = Lists (ConcludesSome l.rule (take l.premise-index l.premises)) l.given.items
