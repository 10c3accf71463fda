use Rattle.std.proofs.Common.{refl, sym, ◌∙◌, ◌≡◌, true, false, arith}
use Rattle.std.specs.Prelude.{Contains}
use Rattle.std.proofs.lemmas.Result.{on_ok_weaker}
use Rattle.mdg_scan.proofs.FlowLemmas.{sink_some, sink_apart}
use Rattle.mdg_scan.proofs.first.flow.add_sink.Goals as goal

pub returns-in_default : goal.returns-in_default
returns-in_default c = sink_apart (Contains c.args.facts.now) c.args.call c.args.callee c.args.arguments.now c.args.sink c.args.kind.now _ _ (λ listed is common. c.in_default.not-Sink listed is) refl

pub returns-then-not-have_common : goal.returns-then-not-have_common
returns-then-not-have_common c = sink_apart (Contains c.args.facts.now) c.args.call c.args.callee c.args.arguments.now c.args.sink c.args.kind.now _ _ (λ listed is common. let no : true ≡ false = sym (c.have_common.ensures.1 common) ∙ c.if-not-have_common.true in grind arith) refl

pub returns : goal.returns
returns c = on_ok_weaker c.add_arguments.result
    (λ adds. sink_some (Contains c.args.facts.now) c.args.call c.args.callee c.args.arguments.now c.args.sink c.args.kind.now c.in-Sink.listed _ _ c.in-Sink.is (c.have_common.ensures.0 c.if-not-have_common.false) adds) (rw c.as_slice.ensures at c.add_arguments.ensures)
