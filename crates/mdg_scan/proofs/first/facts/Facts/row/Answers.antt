use Rattle.std.proofs.Common.{◌≡◌, List, sym, subst}
use Rattle.mdg_scan.specs.Parts.{IsPart}
use Rattle.mdg_scan.specs.declared.first.fact.Fact.{Fact}
use Rattle.mdg_scan.proofs.first.facts.Facts.row.Goals as goal

pub returns : goal.returns
returns c =
    let P : List Fact → List Fact → Type 0 = IsPart (λ f. f.row ≡ c.args.row) in
    subst (λ (facts : List Fact). P facts c.shelf.result.now) c.self.view_is
    (subst (λ (part : List Fact). P c.self.inside.list.items part) (sym c.shelf.ensures) (c.self.invariant.0 c.args.row))
