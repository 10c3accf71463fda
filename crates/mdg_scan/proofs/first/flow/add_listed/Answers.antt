use Rattle.std.proofs.Common.{refl}
use Rattle.std.specs.Prelude.{Contains}
use Rattle.std.proofs.lemmas.Option.{slice_get_past, slice_get_read}
use Rattle.std.proofs.lemmas.Result.{on_ok_weaker}
use Rattle.mdg_scan.proofs.FlowLemmas.{listed_some, listed_none}
use Rattle.mdg_scan.proofs.first.flow.add_listed.Goals as goal

pub returns-in-Some : goal.returns-in-Some
returns-in-Some c = on_ok_weaker c.add_argument.result
    (λ adds. listed_some (Contains c.args.facts.now) c.args.call c.args.sink c.args.arguments.now c.args.argument c.in-Some.local.now _ _
    (slice_get_read c.args.arguments.now _ c.args.argument c.in-Some.local.now refl c.in-Some.ensures.lookup.3.0 c.in-Some.ensures.lookup.1) adds) c.add_argument.ensures

pub returns-in-None : goal.returns-in-None
returns-in-None c = listed_none (Contains c.args.facts.now) c.args.call c.args.sink c.args.arguments.now c.args.argument _ _
    (slice_get_past c.args.arguments.now c.args.argument c.in-None.ensures.lookup.3) refl
