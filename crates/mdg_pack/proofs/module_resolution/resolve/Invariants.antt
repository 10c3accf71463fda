use Rattle.std.proofs.Common.{drop}
use Rattle.mdg_pack.specs.ModuleResolution.{resolved, resolved_among, last_candidate}
use Rattle.mdg_pack.specs.Effects.{Carries, folder_view}
use Rattle.mdg_pack.proofs.module_resolution.resolve.Given as goal

abbrev pub invariant-loop-path : goal.invariant-loop-path
invariant-loop-path g l =
    Carries (λ given. resolved given l.candidates l.fn.table) (folder_view (g.F.Folder.held l.fn.folder) (g.F.Folder.reads l.fn.folder) (g.F.Folder.faults l.fn.folder)) l.fn.table
    (λ given. resolved_among given (last_candidate l.candidates) (drop l.path-index l.candidates) l.table) (folder_view (g.F.Folder.held l.folder) (g.F.Folder.reads l.folder) (g.F.Folder.faults l.folder)) l.table
