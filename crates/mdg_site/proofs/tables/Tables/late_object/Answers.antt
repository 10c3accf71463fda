use Rattle.std.proofs.Common.{◌≡◌, subst, sym, IfSome, ◌+◌, ◌<◌, ◌^◌}
use Rattle.std.specs.Prelude.{ℕ, Option}
use Rattle.mdg_site.specs.Blocks.{slot_at}
use Rattle.mdg_site.specs.Nodes.{object_size_at}
use Rattle.mdg_site.proofs.NumberLemmas.{object_slot_fits}
use Rattle.mdg_site.proofs.tables.Tables.late_object.Goals as goal

pub shift-requires : goal.shift-requires
shift-requires c =
    let l = c.args.self.now in
    record { fits = subst (λ (o : Option ℕ). IfSome o (λ x. c.early_count.result + x < 2 ^ 32)) (sym c.object_slot.ensures) (subst (λ (k : ℕ). IfSome (slot_at (object_size_at l) c.args.site.0 c.args.x) (λ x. k + x < 2 ^ 32)) (sym c.early_count.ensures.is) (object_slot_fits l c.args.site.0 c.args.x c.early_count.ensures.small)) }
