use Rattle.mdg_lower.proofs.TableLemmas.{more_files, ended_files}
use Rattle.mdg_lower.proofs.tables.lower_files.Goals as goal

pub loop-bound-preserved : goal.loop-bound-preserved
loop-bound-preserved c =
    more_files c.args.modules.now c.args.profile.now.entries c.args.files.now c.loop-bound.bound-index c.bound-item.result _ _ _ _ _ c.loop-bound-test.true c.bound-item.is c.in_ok-lower_file.ensures c.loop-bound.invariant

pub returns : goal.returns
returns c = ended_files c.args.modules.now c.args.profile.now.entries c.args.files.now c.loop-bound.bound-index _ _ _ _ c.loop-bound-test.false c.loop-bound.invariant
