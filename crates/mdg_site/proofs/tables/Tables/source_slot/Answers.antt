use Rattle.mdg_site.proofs.tables.Tables.source_slot.Goals as goal

pub returns : goal.returns
returns c = c.slot.ensures _ _ c.source_starts.ensures.is
