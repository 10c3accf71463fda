use Rattle.std.proofs.Common.{length}
use Rattle.mdg_code.proofs.SearchLemmas.{column_found, column_is, column_missed}
use Rattle.mdg_code.proofs.column.column_of.Goals as goal

pub returns-in-Some-clause-of_name : goal.returns-in-Some-clause-of_name
returns-in-Some-clause-of_name c = column_is c.args.code.now.columns c.args.name.now c.in-Some.place
    (column_found c.args.code.now.columns c.as_slice-columns.result.now c.args.name.now c.in-Some.place c.as_slice-columns.ensures c.in-Some.ensures)

pub returns-in-None-clause-value : goal.returns-in-None-clause-value
returns-in-None-clause-value c = column_missed c.args.code.now.columns c.as_slice-columns.result.now c.args.name.now c.as_slice-columns.ensures c.in-None.ensures

pub returns-in-None-clause-of_name : goal.returns-in-None-clause-of_name
returns-in-None-clause-of_name c = column_is c.args.code.now.columns c.args.name.now (length c.as_slice-columns.result.now)
    (column_missed c.args.code.now.columns c.as_slice-columns.result.now c.args.name.now c.as_slice-columns.ensures c.in-None.ensures)
