use Rattle.mdg_lower.proofs.TableLemmas.{file_lowered}
use Rattle.mdg_lower.proofs.tables.lower_file.Goals as goal

pub returns : goal.returns
returns c =
    file_lowered c.args.modules.now c.args.profile.now.entries c.args.bound.now c.in_ok-scope.scope _ _ _ _ _ c.in_ok-scope.ensures c.in_ok-begin_file.ensures c.in_ok-lower_bound.ensures
