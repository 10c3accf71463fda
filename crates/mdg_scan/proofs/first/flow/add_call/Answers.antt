use Rattle.std.proofs.Common.{refl}
use Rattle.std.specs.Prelude.{Contains}
use Rattle.std.proofs.lemmas.Option.{slice_get_read}
use Rattle.mdg_scan.specs.declared.first.code.SharedRow.{SharedRow}
use Rattle.mdg_scan.specs.Flows.{IsSinkFlow}
use Rattle.mdg_scan.proofs.Gathered.{Before-none, Before-more, Before-all}
use Rattle.mdg_scan.proofs.first.flow.add_call.Goals as goal

pub loop-at-init : goal.loop-at-init
loop-at-init c = Before-none (λ b (s : SharedRow). IsSinkFlow (Contains c.args.facts.now) c.args.call c.args.callee c.args.arguments.now (record { 0 = b }) s.kind) c.args.shared.now _ _ refl

pub loop-at-preserved : goal.loop-at-preserved
loop-at-preserved c = Before-more (λ b (s : SharedRow). IsSinkFlow (Contains c.args.facts.now) c.args.call c.args.callee c.args.arguments.now (record { 0 = b }) s.kind) c.args.shared.now c.loop-at.at c.index-shared-at.result _ _ _
    (slice_get_read _ _ _ c.index-shared-at.result refl c.loop-at-test.true c.index-shared-at.is) c.loop-at.invariant c.in_ok-add_sink.ensures

pub returns : goal.returns
returns c = Before-all (λ b (s : SharedRow). IsSinkFlow (Contains c.args.facts.now) c.args.call c.args.callee c.args.arguments.now (record { 0 = b }) s.kind) c.args.shared.now c.loop-at.at _ _ c.loop-at-test.false c.loop-at.invariant
