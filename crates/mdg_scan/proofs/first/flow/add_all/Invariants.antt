use Rattle.std.specs.Prelude.{Contains}
use Rattle.mdg_scan.specs.declared.first.code.Line.{Line}
use Rattle.mdg_scan.specs.Finding.{Adds, Before}
use Rattle.mdg_scan.specs.Flows.{IsStatementFlow}
use Rattle.mdg_scan.proofs.first.flow.add_all.Given as goal

abbrev pub invariant-loop-at : goal.invariant-loop-at
invariant-loop-at l = Adds (Before (λ s (line : Line). IsStatementFlow (Contains l.facts) (record { 0 = s }) line.statement l.shared) l.lines l.at) l.fn.flows.items l.flows.items
