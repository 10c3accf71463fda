use Rattle.mdg_site.proofs.NumberLemmas.{rows_few}
use Rattle.mdg_site.proofs.tables.Tables.start_of.Goals as goal

pub returns-clause-small : goal.returns-clause-small
returns-clause-small c = rows_few c.args.self.now c.kind_starts.ensures.small
