use Rattle.std.proofs.Common.{◌≡◌, subst, sym, ◌∙◌, ap, IfSome, ◌+◌, ◌<◌, ◌^◌}
use Rattle.std.specs.Prelude.{ℕ, Option}
use Rattle.mdg_site.specs.Rows.{place, start, kind}
use Rattle.mdg_site.proofs.NumberLemmas.{row_fits}
use Rattle.mdg_site.proofs.tables.Tables.row_of.Goals as goal

pub shift-requires : goal.shift-requires
shift-requires c =
    let l = c.args.self.now in
    let begins = c.start_of.ensures.is ∙ ap (start l) c.kind_of.ensures.is in
    record { fits = subst (λ (o : Option ℕ). IfSome o (λ x. c.start_of.result + x < 2 ^ 32)) (sym c.place.ensures) (subst (λ (k : ℕ). IfSome (place l c.args.row) (λ x. k + x < 2 ^ 32)) (sym begins) (row_fits l c.args.row c.start_of.ensures.small)) }
