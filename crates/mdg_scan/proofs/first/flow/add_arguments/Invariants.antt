use Rattle.std.specs.Prelude.{Contains}
use Rattle.mdg_scan.specs.Finding.{Adds, Before}
use Rattle.mdg_scan.specs.Flows.{IsListedFlow}
use Rattle.mdg_scan.proofs.first.flow.add_arguments.Given as goal

abbrev pub invariant-loop-argument : goal.invariant-loop-argument
invariant-loop-argument l = Adds (Before (λ _ argument. IsListedFlow (Contains l.facts) l.call l.sink l.arguments argument) l.listed l.argument-index) l.fn.flows.items l.flows.items
