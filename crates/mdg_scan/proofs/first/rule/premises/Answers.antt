use Rattle.std.proofs.Common.{List, sym, subst, inl, inr}
use Rattle.std.proofs.lemmas.Result.{IfOk-weaker}
use Rattle.mdg_scan.specs.Parts.{IsPart}
use Rattle.mdg_scan.specs.Rules.{IsOpen}
use Rattle.mdg_scan.specs.declared.first.fact.Fact.{Fact}
use Rattle.mdg_scan.proofs.RuleLemmas.{Lists-common, Lists-IsNewer}
use Rattle.mdg_scan.proofs.first.rule.premises.Goals as goal

pub returns-in_ok-from_slice-in-Carry : goal.returns-in_ok-from_slice-in-Carry
returns-in_ok-from_slice-in-Carry c = rw (c.in-Carry.is, c.in_ok-from_slice-in-Carry.ensures.items) c.locals.ensures

pub returns-in-Alias : goal.returns-in-Alias
returns-in-Alias c = rw c.in-Alias.is (IfOk-weaker c.common.result _ _ (λ v. Lists-common _ _ c.args.facts.now c.locals-in-Alias.result.now v.items c.locals-in-Alias.ensures) c.common.ensures)

pub returns-in-Meet : goal.returns-in-Meet
returns-in-Meet c = rw c.in-Meet.is (IfOk-weaker c.common-in-Meet.result _ _ (λ v. Lists-common _ _ c.args.facts.now c.row.result.now v.items c.row.ensures) c.common-in-Meet.ensures)

pub returns-in_ok-open-in-Versions : goal.returns-in_ok-open-in-Versions
returns-in_ok-open-in-Versions c =
    let P : Fact → Type 0 = λ f. IsOpen f.row in
    let part : IsPart P c.args.facts.now c.as_slice-in-Versions.result.now =
    subst (λ (xs : List Fact). IsPart P c.args.facts.now xs) (sym c.as_slice-in-Versions.ensures.value)
    (subst (λ (xs : List Fact). IsPart P xs c.in_ok-open-in-Versions.open.items) c.as_slice.ensures c.in_ok-open-in-Versions.ensures) in
    rw c.in-Versions.is (IfOk-weaker c.newer_versions.result _ _ (λ v. Lists-IsNewer P c.args.facts.now c.as_slice-in-Versions.result.now v.items part) c.newer_versions.ensures)

pub returns-in-VersionsAt : goal.returns-in-VersionsAt
returns-in-VersionsAt c = rw c.in-VersionsAt.is (IfOk-weaker c.newer_versions-in-VersionsAt.result _ _ (λ v. Lists-IsNewer _ c.args.facts.now c.locals-in-VersionsAt.result.now v.items c.locals-in-VersionsAt.ensures) c.newer_versions-in-VersionsAt.ensures)

pub returns-in-Fields : goal.returns-in-Fields
returns-in-Fields c =
    elim c.in-Fields.is [
      | inl w ↦ rw w.1 c.held.ensures
      | inr others ↦ elim others [
        | inl w ↦ rw w.2 c.held.ensures
        | inr w ↦ rw w.2 c.held.ensures
      ]
    ]

pub returns-in_ok-from_slice-in-Into : goal.returns-in_ok-from_slice-in-Into
returns-in_ok-from_slice-in-Into c =
    elim c.in-Into.is [
      | inl w ↦ rw (w.1, c.in_ok-from_slice-in-Into.ensures.items) c.row-in-Into.ensures
      | inr others ↦ elim others [
        | inl w ↦ rw (w.1, c.in_ok-from_slice-in-Into.ensures.items) c.row-in-Into.ensures
        | inr others ↦ elim others [
          | inl w ↦ rw (w.1, c.in_ok-from_slice-in-Into.ensures.items) c.row-in-Into.ensures
          | inr w ↦ rw (w.1, c.in_ok-from_slice-in-Into.ensures.items) c.row-in-Into.ensures
        ]
      ]
    ]
