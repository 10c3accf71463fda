-- The goals of the requires of a file.
use Rattle.std.specs.Prelude.{ℕ, List, [], ◌∷◌, ◌++◌}
use Rattle.mdg_pack.specs.Candidates.{candidates_from}
use Rattle.mdg_pack.specs.ModuleResolution.{Progress, goes, then_with, resolved}
use Rattle.mdg_base.specs.Segments.{folder_of}
use Rattle.mdg_pack.specs.Paths.{FilePath}
use Rattle.mdg_pack.specs.Reads.{Given}
use Rattle.mdg_pack.specs.declared.module_table.ModuleTable.{ModuleTable}
use Rattle.mdg_scope.specs.declared.bound.Bound.{Bound}
use Rattle.mdg_scope.specs.declared.bound.Require.{Require}
use Rattle.mdg_scope.specs.declared.bound.Goal.{Goal}
use Rattle.mdg_scope.specs.declared.bound.Goal.TheVariants.{Bare, Path as ToFind, File}

-- the number as a goal
abbrev pub file_goal : ℕ → Goal
file_goal number = File (record { 0 = number })

-- A relative require has the file that its candidates name; any other has its goal already.
abbrev pub resolved_goal : Given → List FilePath → Require → Goal → ModuleTable → Progress Goal
resolved_goal given folder require Bare table = goes Bare table
resolved_goal given folder require ToFind table =
    then_with (resolved given (candidates_from folder require.text) table)
    (λ number after. goes (file_goal number) after)
resolved_goal given folder require (File file) table = goes (File file) table

abbrev pub with_goal : Require → Goal → Require
with_goal require goal = record require { goal = goal }

-- The requires of a file of this folder, resolved in order, after those that are resolved already.
unfoldable pub resolved_requires : Given → List FilePath → List Require → List Require → ModuleTable
    → Progress (List Require)
resolved_requires given folder done [] table = goes done table
resolved_requires given folder done (require ∷ others) table =
    then_with (resolved_goal given folder require require.goal table)
    (λ goal after. resolved_requires given folder (done ++ with_goal require goal ∷ []) others after)

-- the requires of a file
abbrev pub resolved_requires_of : Given → Bound → ModuleTable → Progress (List Require)
resolved_requires_of given bound table = resolved_requires given (folder_of bound.path) [] bound.required table
