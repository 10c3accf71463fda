-- Which files fit together, so that their code is valid.
use Rattle.std.specs.Prelude.{◌≡◌, ◌+◌, ◌<◌, List, All, IfSome, length}
use Rattle.mdg_profile.specs.Distinct.{HasDistinctEntries}
use Rattle.mdg_profile.specs.declared.entry.Profile.{Profile}
use Rattle.mdg_scope.specs.declared.bound.Bound.{Bound}
use Rattle.mdg_scope.specs.declared.bound.Require.{Require}
use Rattle.mdg_scope.specs.Bindings.{Binds}
use Rattle.mdg_lower.specs.Nested.{functions_in}

-- The file's table of functions has a row for its body and one for each of its functions, each in one of them.
pub record FileFits (b : Bound) : Type 0 where
  pub functions_counted : length b.functions ≡ 1 + length (functions_in b.tree.items)
  pub parents_there : All (λ f. IfSome f.parent (λ parent. parent < length b.functions)) b.functions

pub record Fits (files : List Bound) (profile : Profile) : Type 0 where
  pub has_file : 0 < length files
  pub files_fit : All FileFits files
  pub entries_distinct : HasDistinctEntries profile

-- The file is what its path and its tree bind under the profile, but for what its requires ask for.
pub record IsBoundFile (profile : Profile) (b : Bound) : Type 0 where
  pub required : List Require
  pub binds : Binds b.path b.tree profile (record { path = b.path; tree = b.tree; functions = b.functions; required = required })

-- There is a file, each is what it binds, and no two entries of the profile have the same home, name and member.
pub record AreBound (files : List Bound) (profile : Profile) : Type 0 where
  pub has_file : 0 < length files
  pub files_bound : All (IsBoundFile profile) files
  pub entries_distinct : HasDistinctEntries profile
