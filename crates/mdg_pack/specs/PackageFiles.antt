-- What a package is, whatever its folder tells.
use Rattle.std.specs.Prelude.{◌≡◌, ℕ, ◌<◌, length, Some, slice_get, Ok}
use Rattle.std.specs.List.{AllZip}
use Rattle.mdg_pack.specs.RequireGoals.{file_goal, with_goal}
use Rattle.mdg_pack.specs.Walk.{with_required}
use Rattle.mdg_pack.specs.declared.walk.Package.{Package}
use Rattle.mdg_profile.specs.declared.entry.Profile.{Profile}
use Rattle.mdg_scope.specs.Bindings as bindings
use Rattle.mdg_scope.specs.declared.bound.Bound.{Bound}
use Rattle.mdg_scope.specs.declared.bound.Require.{Require}
use Rattle.mdg_scope.specs.declared.bound.Goal.{Goal}
use Rattle.mdg_scope.specs.declared.bound.Goal.TheVariants.{Bare, Path as ToFind, File}

-- a path as a goal becomes a file among so many, and another goal stays
abbrev pub IsGoalFor : ℕ → Goal → Goal → Type 0
IsGoalFor count Bare goal = goal ≡ Bare
IsGoalFor count ToFind goal = (number : ℕ) × (number < count) × (goal ≡ file_goal number)
IsGoalFor count (File file) goal = goal ≡ File file

-- the require as it was, but for its goal
pub record IsResolved (count : ℕ) (require resolved : Require) : Type 0 where
  pub goal : IsGoalFor count require.goal resolved.goal
  pub same : resolved ≡ with_goal require resolved.goal

-- The file is what the bindings of its path and its tree are, but each goal that was a path is a file among so many.
pub record IsPacked (profile : Profile) (count : ℕ) (file : Bound) : Type 0 where
  pub bound : Bound
  pub binds : bindings.IsAnswer file.path file.tree profile (Ok bound)
  pub required : AllZip (IsResolved count) bound.required file.required
  pub same : file ≡ with_required bound file.required

-- There is an entry, and each file's goals are files of the package.
pub record IsPackage (profile : Profile) (whole : Package) : Type 0 where
  pub entry : 0 < length whole.files
  pub files : (number : ℕ) (file : Bound)
      → slice_get whole.files number ≡ Some file → IsPacked profile (length whole.files) file
