use Rattle.std.proofs.Common.{◌≡◌, subst, sym, ◌∙◌, ap, IfSome, ◌+◌, ◌*◌, ◌<◌, ◌≤◌, ◌^◌}
use Rattle.std.specs.Prelude.{ℕ, Option}
use Rattle.mdg_site.specs.Laid.{Laid}
use Rattle.mdg_site.specs.Nodes.{object_number}
use Rattle.mdg_site.specs.Rows.{column_count, row_count}
use Rattle.mdg_site.specs.Tables.{IsSmall}
use Rattle.mdg_site.proofs.NumberLemmas.{grid_fits, rows_few}
use Rattle.mdg_site.proofs.tables.Tables.field_slot.Goals as goal

pub grid-requires : goal.grid-requires
grid-requires c =
    let l = c.args.self.now in
    let small = subst (λ (z : Laid). IsSmall z) c.self.view_is c.self.invariant.small in
    let wide : c.from.result + 1 ≡ column_count l = ap (λ (z : ℕ). z + 1) (c.from.ensures ∙ c.self.invariant.names_are) ∙ ap column_count c.self.view_is in
    record { fits = subst (λ (o : Option ℕ). IfSome o (λ i. i * (c.from.result + 1) + (c.from.result + 1) < 2 ^ 32)) (sym c.object_of.ensures) (subst (λ (k : ℕ). IfSome (object_number l c.args.node) (λ i. i * k + k < 2 ^ 32)) (sym wide) (grid_fits l c.args.node (rows_few l small))) }
