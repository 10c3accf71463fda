use Rattle.std.proofs.Common.{◌≡◌, List, sym, subst}
use Rattle.mdg_scan.specs.Parts.{IsPart, IsLocalAt, first_row}
use Rattle.mdg_scan.specs.declared.first.fact.Fact.{Fact}
use Rattle.mdg_scan.specs.declared.first.fact.Row.TheVariants as row
use Rattle.mdg_scan.proofs.PartLemmas.{IsPart-same, IsLocalAt-group}
use Rattle.mdg_scan.proofs.first.facts.Facts.locals.Goals as goal

pub returns : goal.returns
returns c =
    let at = row.Loc c.args.site (record { 0 = 0 }) in
    let part : IsPart (λ f. first_row f.row ≡ at) c.args.self.now c.shelf.result.now =
    subst (λ (facts : List Fact). IsPart (λ f. first_row f.row ≡ at) facts c.shelf.result.now) c.self.view_is
    (subst (λ (part : List Fact). IsPart (λ f. first_row f.row ≡ at) c.self.inside.list.items part) (sym c.shelf.ensures) (c.self.invariant.1 at)) in
    IsPart-same (λ f. first_row f.row ≡ at) (IsLocalAt c.args.site) c.args.self.now c.shelf.result.now (IsLocalAt-group c.args.site) part
