use Rattle.std.proofs.Common.{[], drop}
use Rattle.mdg_pack.specs.RequireGoals.{resolved_requires}
use Rattle.mdg_pack.specs.Effects.{Carries, folder_view}
use Rattle.mdg_base.specs.Segments.{folder_of}
use Rattle.mdg_pack.proofs.require_goals.resolve_requires.Given as goal

abbrev pub invariant-loop-require : goal.invariant-loop-require
invariant-loop-require g l =
    Carries (λ given. resolved_requires given (folder_of l.path) [] l.required l.fn.table) (folder_view (g.F.Folder.held l.fn.folder) (g.F.Folder.reads l.fn.folder) (g.F.Folder.faults l.fn.folder)) l.fn.table
    (λ given. resolved_requires given (folder_of l.path) l.done (drop l.require-index l.required) l.table) (folder_view (g.F.Folder.held l.folder) (g.F.Folder.reads l.folder) (g.F.Folder.faults l.folder)) l.table
