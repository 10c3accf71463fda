use Rattle.mdg_code.proofs.SearchLemmas.{columns_of_names}
use Rattle.mdg_code.proofs.laws.law_one_column.Goals as goal

pub returns : goal.returns
returns c = λ code valid. columns_of_names code.columns valid.distinct_columns
