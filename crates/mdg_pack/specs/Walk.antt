-- The walk of a package.
use Rattle.std.specs.Prelude.{◌≡◌, ℕ, Option, List, [], ◌∷◌, ◌++◌, length, Some, None, slice_get, Result, Ok, Err}
use Rattle.mdg_pack.specs.ModuleResolution.{goes, ends, resolved}
use Rattle.mdg_pack.specs.ModuleTable.{empty_table, paths}
use Rattle.mdg_pack.specs.RequireGoals.{resolved_requires_of}
use Rattle.mdg_pack.specs.Load.{LoadsFile}
use Rattle.mdg_pack.specs.Manifest.{Enters, manifest}
use Rattle.mdg_pack.specs.Paths.{FilePath}
use Rattle.mdg_pack.specs.Reads.{gives, fails, Given, later, reads_of}
use Rattle.mdg_pack.specs.declared.fault.PackFault.{PackFault}
use Rattle.mdg_pack.specs.declared.fault.PackFault.TheVariants as fault
use Rattle.mdg_pack.specs.declared.module_table.SourceFile.{SourceFile}
use Rattle.mdg_pack.specs.declared.module_table.ModuleTable.{ModuleTable}
use Rattle.mdg_pack.specs.declared.walk.Package.{Package}
use Rattle.mdg_port.specs.Held.{Held}
use Rattle.mdg_port.specs.declared.folder.Fetched.{Fetched}
use Rattle.mdg_profile.specs.declared.entry.Profile.{Profile}
use Rattle.mdg_scope.specs.declared.bound.Bound.{Bound}
use Rattle.mdg_scope.specs.declared.bound.Require.{Require}

-- The paths that a walk asks, in order, and the package, the first refusal or the failed read.
pub record Outcome : Type 0 where
  pub asked : List FilePath
  pub result : Result Package PackFault

abbrev pub refused : List FilePath → PackFault → Outcome
refused asked refusal = record { asked = asked; result = Err refusal }

abbrev pub packed : List FilePath → List Bound → Outcome
packed asked files = record { asked = asked; result = Ok (record { files = files }) }

-- the file with the goals of its requires
abbrev pub with_required : Bound → List Require → Bound
with_required bound required = record bound { required = required }

-- The files that are not done, from a table on: the next one is tested, and then its requires are resolved, which may
-- add files; and so on, until no file is left.
pub data Walks (given : Given) (profile : Profile) : ModuleTable → List Bound → Outcome → Type 0 where
  -- No file is left.
  finished : {table : ModuleTable} {done : List Bound}
      → slice_get table.files (length done) ≡ None
      → Walks given profile table done (packed (paths table) done)
  -- The next file is refused, before a path is asked for it.
  unread : (file : SourceFile) {table : ModuleTable} {done : List Bound} {refusal : PackFault}
      → slice_get table.files (length done) ≡ Some file
      → LoadsFile profile file (Err refusal)
      → Walks given profile table done (refused (paths table) refusal)
  -- The next file is well-formed, and one of its requires is refused.
  stopped : (file : SourceFile) (bound : Bound) {table : ModuleTable} {done : List Bound}
      {asked : List FilePath} {refusal : PackFault}
      → slice_get table.files (length done) ≡ Some file
      → LoadsFile profile file (Ok bound)
      → resolved_requires_of given bound table ≡ ends asked refusal
      → Walks given profile table done (refused asked refusal)
  -- The next file and its requires are done, and the walk goes on.
  further : (file : SourceFile) (bound : Bound) (required : List Require) (after : ModuleTable)
      {table : ModuleTable} {done : List Bound} {outcome : Outcome}
      → slice_get table.files (length done) ≡ Some file
      → LoadsFile profile file (Ok bound)
      → resolved_requires_of given bound table ≡ goes required after
      → Walks given profile after (done ++ with_required bound required ∷ []) outcome
      → Walks given profile table done outcome

-- From the entry on. The entry is file 0.
pub data Starts (given : Given) (profile : Profile) (entry : List FilePath) : Outcome → Type 0 where
  -- No candidate is a file, or a read of one is refused.
  no_entry : {asked : List FilePath} {refusal : PackFault}
      → resolved given entry empty_table ≡ ends asked refusal
      → Starts given profile entry (refused asked refusal)
  -- One of them is a file.
  entered : (number : ℕ) (table : ModuleTable) {outcome : Outcome}
      → resolved given entry empty_table ≡ goes number table
      → Walks given profile table [] outcome
      → Starts given profile entry outcome

-- `package.json` was asked before the others
abbrev pub after_manifest : Outcome → Outcome
after_manifest outcome = record { asked = manifest ∷ outcome.asked; result = outcome.result }

-- The walk where reads give this: the first one is that of `package.json`.
pub data WalkBy (given : Given) (profile : Profile) : Outcome → Type 0 where
  -- The read of the manifest fails.
  failed_manifest : given 0 manifest ≡ fails
      → WalkBy given profile (refused (manifest ∷ []) (fault.FolderFailed manifest))
  -- The manifest is refused.
  no_manifest : (read : Fetched) {refusal : PackFault}
      → given 0 manifest ≡ gives read
      → Enters read (Err refusal)
      → WalkBy given profile (refused (manifest ∷ []) refusal)
  -- The manifest, or that there is none, gives candidates for the entry.
  manifested : (read : Fetched) (entry : List FilePath) {outcome : Outcome}
      → given 0 manifest ≡ gives read
      → Enters read (Ok entry)
      → Starts (later given) profile entry outcome
      → WalkBy given profile (after_manifest outcome)

-- The walk of a package in a folder that holds this, in which the read with this number fails, or none does. There is
-- exactly one outcome.
abbrev pub Walk : Held → Profile → Option ℕ → Outcome → Type 0
Walk held profile failing outcome = WalkBy (reads_of held failing) profile outcome
