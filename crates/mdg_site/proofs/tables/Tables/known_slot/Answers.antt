use Rattle.mdg_site.proofs.tables.Tables.known_slot.Goals as goal

pub returns : goal.returns
returns c = c.slot_at.ensures _ _ c.known_starts.ensures.is
