use Rattle.std.specs.Prelude.{Contains}
use Rattle.mdg_scan.specs.declared.first.code.SharedRow.{SharedRow}
use Rattle.mdg_scan.specs.Finding.{Adds, Before}
use Rattle.mdg_scan.specs.Flows.{IsSinkFlow}
use Rattle.mdg_scan.proofs.first.flow.add_call.Given as goal

abbrev pub invariant-loop-at : goal.invariant-loop-at
invariant-loop-at l = Adds (Before (λ b (s : SharedRow). IsSinkFlow (Contains l.facts) l.call l.callee l.arguments (record { 0 = b }) s.kind) l.shared l.at) l.fn.flows.items l.flows.items
