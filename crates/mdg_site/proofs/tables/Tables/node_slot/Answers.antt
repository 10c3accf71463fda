use Rattle.mdg_site.proofs.tables.Tables.node_slot.Goals as goal

pub returns : goal.returns
returns c = c.slot_at.ensures _ _ c.node_starts.ensures.is
