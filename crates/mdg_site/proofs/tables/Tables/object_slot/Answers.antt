use Rattle.mdg_site.proofs.tables.Tables.object_slot.Goals as goal

pub returns : goal.returns
returns c = c.slot_at.ensures _ _ c.object_starts.ensures.is
