use Rattle.mdg_site.proofs.tables.Tables.source_at.Goals as goal

pub returns-clause-node : goal.returns-clause-node
returns-clause-node c = c.place_of-function.ensures _ _ c.source_starts.ensures.is

pub returns-clause-object : goal.returns-clause-object
returns-clause-object c = c.place_of-function.ensures _ _ c.source_starts.ensures.is
