use Rattle.std.proofs.Common.{◌≡◌, ◌∙◌, ap, refl}
use Rattle.std.specs.Prelude.{ℕ, Bool}
use Rattle.mdg_base.specs.declared.number.Site.{Site}
use Rattle.mdg_site.specs.Laid.{site}
use Rattle.mdg_site.specs.Nodes.{object_number, object_size_at, early_count}
use Rattle.mdg_site.specs.Shapes.{shape_at}
use Rattle.mdg_site.specs.Tables.{pair_name}
use Rattle.mdg_site.specs.declared.shape.Shape.{Shape}
use Rattle.mdg_site.proofs.AtLemmas.{pair_is}
use Rattle.mdg_site.proofs.tables.Tables.late_object_at.Goals as goal

pub returns : goal.returns
returns c =
    let l = c.args.self.now in
    let shape : Shape = shape_at l c.place_of-site.result.0 in
    let at : Site = site c.place_of-site.result.0 in
    let is = c.pair_name.ensures ∙ ap (λ (z : Shape). pair_name z.fields at c.place_of-site.result.1) c.shape_at.ensures in
    pair_is (object_size_at l) shape.fields shape.outside at (object_number l) (early_count l) refl refl refl c.place_of-site.result.1 c.args.number c.pair_name.result is (c.place_of-site.ensures _ _ c.object_starts.ensures.is)
