use Rattle.mdg_profile.proofs.DistinctTable.{built_distinct}
use Rattle.mdg_profile.proofs.built.default_profile.Goals as goal

pub returns-clause-distinct : goal.returns-clause-distinct
returns-clause-distinct c = built_distinct c.table.result c.table.ensures
