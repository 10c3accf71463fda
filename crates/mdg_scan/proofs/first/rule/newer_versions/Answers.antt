use Rattle.std.proofs.Common.{◌≡◌, List, sym, subst}
use Rattle.mdg_scan.specs.Rules.{In}
use Rattle.mdg_scan.specs.Steps.{IsNewer, Lists}
use Rattle.mdg_scan.specs.declared.first.fact.Fact.{Fact}
use Rattle.mdg_scan.specs.declared.first.fact.Row.TheVariants as row
use Rattle.mdg_scan.proofs.RuleLemmas.{Lists-more, Lists-end, Lists-moved}
use Rattle.std.proofs.Common.{take, ◌+◌}
use Rattle.mdg_scan.proofs.first.rule.newer_versions.Goals as goal

pub loop-fact-preserved : goal.loop-fact-preserved
loop-fact-preserved c =
    let Q : Fact → Fact → Type 0 = λ h g. In c.args.facts.now (row.Newer h.node) g.node × (g.row ≡ h.row) in
    let P : List Fact → Type 0 = λ newer. Lists (IsNewer (take (c.loop-fact.fact-index + 1) c.args.of.now) c.args.facts.now) newer in
    subst P (sym c.in_ok-push_moved.ensures)
    (Lists-more Q c.args.of.now c.loop-fact.newer.items _ c.loop-fact.fact-index _ c.loop-fact-test.true c.loop-fact.invariant
    (Lists-moved c.args.facts.now c.row.result.now _ _ c.row.ensures))

pub returns : goal.returns
returns c = Lists-end (λ h g. In c.args.facts.now (row.Newer h.node) g.node × (g.row ≡ h.row)) c.args.of.now c.loop-fact.newer.items c.loop-fact.fact-index c.loop-fact-test.false c.loop-fact.invariant
