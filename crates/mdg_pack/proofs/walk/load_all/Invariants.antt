use Rattle.std.proofs.Common.{◌-◌, length}
use Rattle.mdg_pack.specs.WalkAnswers.{LoadsOn}
use Rattle.mdg_pack.specs.Effects.{folder_view}
use Rattle.mdg_pack.proofs.walk.load_all.Given as goal

abbrev pub invariant-loop-alloc : goal.invariant-loop-alloc
invariant-loop-alloc g l =
    LoadsOn l.profile (folder_view (g.F.Folder.held l.fn.folder) (g.F.Folder.reads l.fn.folder) (g.F.Folder.faults l.fn.folder))
    (folder_view (g.F.Folder.held l.folder) (g.F.Folder.reads l.folder) (g.F.Folder.faults l.folder)) l.fn.table l.table l.done

abbrev pub decreases-loop-alloc : goal.decreases-loop-alloc
decreases-loop-alloc g l = 256 - length l.done
