use Rattle.std.proofs.Common.{sym}
use Rattle.mdg_pack.specs.Effects.{folder_view}
use Rattle.mdg_pack.proofs.ProbeLemmas.{probe_known}
use Rattle.mdg_pack.proofs.module_resolution.probe.Goals as goal

pub returns-in-Some-clause-answers : goal.returns-in-Some-clause-answers
returns-in-Some-clause-answers g c =
    probe_known (folder_view (g.F.Folder.held c.args.folder.now) (g.F.Folder.reads c.args.folder.now) (g.F.Folder.faults c.args.folder.now)) c.args.table.now c.args.path.now c.in-Some.file c.requires.sound c.requires.saw (rw c.as_slice.ensures at (sym c.in-Some.ensures))
