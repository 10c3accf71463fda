use Rattle.std.proofs.Common.{refl}
use Rattle.std.specs.Prelude.{Contains}
use Rattle.std.proofs.lemmas.Option.{slice_get_read}
use Rattle.mdg_scan.specs.declared.first.code.Line.{Line}
use Rattle.mdg_scan.specs.Flows.{IsStatementFlow}
use Rattle.mdg_scan.proofs.Gathered.{Before-none, Before-more, Before-all}
use Rattle.mdg_scan.proofs.first.flow.add_all.Goals as goal

pub loop-at-init : goal.loop-at-init
loop-at-init c = Before-none (λ s (line : Line). IsStatementFlow (Contains c.args.facts.now) (record { 0 = s }) line.statement c.args.shared.now) c.args.lines.now _ _ refl

pub loop-at-preserved : goal.loop-at-preserved
loop-at-preserved c = Before-more (λ s (line : Line). IsStatementFlow (Contains c.args.facts.now) (record { 0 = s }) line.statement c.args.shared.now) c.args.lines.now c.loop-at.at c.index-lines-at.result _ _ _
    (slice_get_read _ _ _ c.index-lines-at.result refl c.loop-at-test.true c.index-lines-at.is) c.loop-at.invariant c.in_ok-add_statement.ensures

pub returns : goal.returns
returns c = Before-all (λ s (line : Line). IsStatementFlow (Contains c.args.facts.now) (record { 0 = s }) line.statement c.args.shared.now) c.args.lines.now c.loop-at.at _ _ c.loop-at-test.false c.loop-at.invariant
