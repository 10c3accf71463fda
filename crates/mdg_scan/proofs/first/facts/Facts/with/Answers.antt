use Rattle.std.proofs.Common.{◌≡◌, List, [], ◌∷◌, ◌++◌, sym, subst}
use Rattle.mdg_scan.specs.Parts.{IsFiled, first_row, filed, on_shelf, row_cmp}
use Rattle.mdg_scan.specs.declared.first.fact.Fact.{Fact}
use Rattle.mdg_scan.specs.declared.first.fact.Row.{Row}
use Rattle.mdg_scan.proofs.PartLemmas.{IsFiled-filed}
use Rattle.mdg_scan.proofs.first.facts.Facts.with.Goals as goal

pub invariant_of-result : goal.invariant_of-result
invariant_of-result c =
    let listed : c.push.new.self.items ≡ c.self.inside.list.items ++ c.args.fact ∷ [] = c.in_ok-push.ensures.items in
    let grouped : (r : Row) → on_shelf row_cmp c.file-2.new.shelves r ≡ filed row_cmp c.self.inside.groups (first_row c.args.fact.row) c.args.fact r =
    let P : Row → Type 0 = λ at. (r : Row) → on_shelf row_cmp c.file-2.new.shelves r ≡ filed row_cmp c.self.inside.groups at c.args.fact r in
    subst P c.first_row.ensures c.in_ok-file-2.ensures in (
      let P : List Fact → Type 0 = λ facts. IsFiled (λ g. g.row) facts c.file.new.shelves in
          subst P (sym listed) (IsFiled-filed (λ g. g.row) c.self.inside.list.items c.args.fact c.self.inside.rows c.file.new.shelves c.self.invariant.0 c.in_ok-file.ensures),
      let P : List Fact → Type 0 = λ facts. IsFiled (λ g. first_row g.row) facts c.file-2.new.shelves in
          subst P (sym listed) (IsFiled-filed (λ g. first_row g.row) c.self.inside.list.items c.args.fact c.self.inside.groups c.file-2.new.shelves c.self.invariant.1 grouped),
    )
