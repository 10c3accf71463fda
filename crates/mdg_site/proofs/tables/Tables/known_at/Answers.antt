use Rattle.std.proofs.Common.{◌≡◌, ◌∙◌, ap}
use Rattle.mdg_site.specs.Blocks.{slot_at}
use Rattle.mdg_site.specs.Rows.{known_size_at}
use Rattle.mdg_site.specs.Shapes.{shape_at}
use Rattle.mdg_site.proofs.TakenLemmas.{known_one, slot_within}
use Rattle.mdg_site.proofs.tables.Tables.known_at.Goals as goal

pub returns : goal.returns
returns c =
    let l = c.args.self.now in
    let stands = c.place_of-site.ensures _ _ c.known_starts.ensures.is in
    ap (slot_at (known_size_at l) c.place_of-site.result.0) (known_one (shape_at l c.place_of-site.result.0).known c.place_of-site.result.1 (slot_within (known_size_at l) c.place_of-site.result.0 c.place_of-site.result.1 c.args.number stands)) ∙ stands
