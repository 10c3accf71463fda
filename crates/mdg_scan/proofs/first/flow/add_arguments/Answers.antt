use Rattle.std.proofs.Common.{refl, arith}
use Rattle.std.specs.Prelude.{Contains}
use Rattle.std.proofs.lemmas.Option.{slice_get-get_or}
use Rattle.mdg_scan.specs.Flows.{IsListedFlow}
use Rattle.mdg_scan.proofs.Gathered.{Before-none, Before-more, Before-all}
use Rattle.mdg_scan.proofs.first.flow.add_arguments.Goals as goal

pub loop-argument-init : goal.loop-argument-init
loop-argument-init c = Before-none (λ _ argument. IsListedFlow (Contains c.args.facts.now) c.args.call c.args.sink c.args.arguments.now argument) c.args.listed.now _ _ refl

pub loop-argument-preserved : goal.loop-argument-preserved
loop-argument-preserved c = Before-more (λ _ argument. IsListedFlow (Contains c.args.facts.now) c.args.call c.args.sink c.args.arguments.now argument) c.args.listed.now c.loop-argument.argument-index _ _ _ _
    (slice_get-get_or _ _ _ c.loop-argument-test.true) c.loop-argument.invariant c.in_ok-add_listed.ensures

pub returns : goal.returns
returns c = Before-all (λ _ argument. IsListedFlow (Contains c.args.facts.now) c.args.call c.args.sink c.args.arguments.now argument) c.args.listed.now c.loop-argument.argument-index _ _ (omega (arith, c.loop-argument-test.false)) c.loop-argument.invariant
