use Rattle.mdg_site.proofs.tables.Tables.local_slot.Goals as goal

pub returns : goal.returns
returns c = c.slot.ensures _ _ c.local_starts.ensures.is
