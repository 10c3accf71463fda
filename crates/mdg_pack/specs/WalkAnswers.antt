-- Serves the proofs alone: what the private calls of the walk answer.
use Rattle.std.specs.Prelude.{◌≡◌, ◌⊎◌, ℕ, List, [], length, Option, Some, None, IfSome, slice_get, Result, Ok, Err}
use Rattle.mdg_pack.specs.Answers.{failing_of, TellsLast}
use Rattle.mdg_pack.specs.RequireGoals.{resolved_requires_of}
use Rattle.mdg_pack.specs.Load.{LoadsFile}
use Rattle.mdg_pack.specs.Manifest.{Enters}
use Rattle.mdg_pack.specs.Effects.{FolderView, Agrees, IsSound, Saw, GivesTold, IsCounted, Did, Refuses, RoseAt, Stays, UnlessMemory, TellsLastOf, failing_at}
use Rattle.mdg_pack.specs.Paths.{FilePath}
use Rattle.mdg_pack.specs.Reads.{Given, AreShort, reads_of}
use Rattle.mdg_pack.specs.Walk.{Outcome, Walks, Starts, WalkBy, with_required}
use Rattle.mdg_pack.specs.declared.fault.PackFault.{PackFault}
use Rattle.mdg_pack.specs.declared.fault.PackFault.TheVariants as fault
use Rattle.mdg_pack.specs.declared.module_table.SourceFile.{SourceFile}
use Rattle.mdg_pack.specs.declared.module_table.ModuleTable.{ModuleTable}
use Rattle.mdg_pack.specs.declared.walk.Package.{Package}
use Rattle.mdg_port.specs.declared.folder.Fetched.{Fetched}
use Rattle.mdg_profile.specs.declared.entry.Profile.{Profile}
use Rattle.mdg_scope.specs.declared.bound.Bound.{Bound}
use Rattle.mdg_scope.specs.declared.bound.Require.{Require}

-- the file was loaded, and its requires were resolved
pub record LoadedNext (profile : Profile) (number : ℕ) (before after : FolderView) (old new : ModuleTable) (made : Bound) : Type 0 where
  pub file : SourceFile
  pub at : slice_get old.files number ≡ Some file
  pub bound : Bound
  pub loads : LoadsFile profile file (Ok bound)
  pub required : List Require
  pub did : Did (λ given. resolved_requires_of given bound old) before after old new required
  pub made_is : made ≡ with_required bound required

-- the file was refused before a path was asked
pub record Unread (profile : Profile) (number : ℕ) (before after : FolderView) (old : ModuleTable) (refusal : PackFault) : Type 0 where
  pub file : SourceFile
  pub at : slice_get old.files number ≡ Some file
  pub loads : LoadsFile profile file (Err refusal)
  pub same : after ≡ before

-- the file was read, and one of its requires was refused
pub record Stopped (profile : Profile) (number : ℕ) (before after : FolderView) (old : ModuleTable) (refusal : PackFault) : Type 0 where
  pub file : SourceFile
  pub at : slice_get old.files number ≡ Some file
  pub bound : Bound
  pub loads : LoadsFile profile file (Ok bound)
  pub rose : RoseAt refusal before.faults after.faults
  pub refuses : Refuses (λ given. resolved_requires_of given bound old) before after old refusal

abbrev pub LoadNextAnswer : Profile → ℕ → FolderView → FolderView → ModuleTable → ModuleTable → Result Bound PackFault → Type 0
LoadNextAnswer profile number before after old new (Ok made) = LoadedNext profile number before after old new made
LoadNextAnswer profile number before after old new (Err refusal) = (refusal ≡ fault.NoMemory) ⊎ (Unread profile number before after old refusal ⊎ Stopped profile number before after old refusal)

-- what a walk gives, by what was asked
abbrev pub outcome_of : List FilePath → Result Package PackFault → Outcome
outcome_of asked result = record { asked = asked; result = result }

-- the number of the read that failed, counted from that of the manifest, where a read failed
abbrev pub failing_in : Result Package PackFault → List FilePath → Option ℕ
failing_in (Ok whole) asked = None
failing_in (Err refusal) asked = failing_at refusal asked

abbrev pub TellsLastIn : Result Package PackFault → List FilePath → Type 0
TellsLastIn (Ok whole) asked = Unit {0}
TellsLastIn (Err refusal) asked = TellsLastOf refusal asked

-- The files on from a table have this outcome, for reads that give what the table has of them.
pub record LoadedAll (profile : Profile) (before after : FolderView) (old : ModuleTable) (result : Result Package PackFault) : Type 0 where
  pub given : Given
  pub short : AreShort given
  pub asked : List FilePath
  pub told : GivesTold before.told (failing_in result asked) given
  pub agrees : Agrees given old
  pub walks : Walks given profile old [] (outcome_of asked result)
  pub last : TellsLastIn result asked
  pub counted : IsCounted before after (length old.probes) (length asked)

abbrev pub LoadAllAnswer : Profile → FolderView → FolderView → ModuleTable → Result (List Bound) PackFault → Type 0
LoadAllAnswer profile before after old (Ok files) = LoadedAll profile before after old (Ok (record { files = files }))
LoadAllAnswer profile before after old (Err refusal) =
    UnlessMemory refusal (RoseAt refusal before.faults after.faults × LoadedAll profile before after old (Err refusal))

-- An outcome of what is left of the walk is one of the whole.
pub record LoadsOn (profile : Profile) (before now : FolderView) (old table : ModuleTable) (done : List Bound) : Type 0 where
  pub stays : Stays before now
  pub sound : IsSound table
  pub saw : Saw before.told table
  pub keeps : (given : Given) → Agrees given table → Agrees given old
  pub back : (given : Given) (outcome : Outcome) → Agrees given table → Walks given profile table done outcome → Walks given profile old [] outcome
  pub counted : IsCounted before now (length old.probes) (length table.probes)

-- The package from its entry on has this outcome, for reads that give what the folder holds, where that is told.
pub record LoadedFromEntry (profile : Profile) (entry : List FilePath) (before after : FolderView) (result : Result Package PackFault) : Type 0 where
  pub given : Given
  pub short : AreShort given
  pub asked : List FilePath
  pub told : GivesTold before.told (failing_in result asked) given
  pub starts : Starts given profile entry (outcome_of asked result)
  pub last : TellsLastIn result asked
  pub counted : IsCounted before after 0 (length asked)

abbrev pub LoadFromEntryAnswer : Profile → List FilePath → FolderView → FolderView → Result (List Bound) PackFault → Type 0
LoadFromEntryAnswer profile entry before after (Ok files) = LoadedFromEntry profile entry before after (Ok (record { files = files }))
LoadFromEntryAnswer profile entry before after (Err refusal) =
    UnlessMemory refusal (RoseAt refusal before.faults after.faults × LoadedFromEntry profile entry before after (Err refusal))

-- the candidates for the entry or their refusal, unless memory was refused
abbrev pub EntryAnswer : Fetched → Result (List FilePath) PackFault → Type 0
EntryAnswer read (Ok entry) = Enters read (Ok entry)
EntryAnswer read (Err refusal) = (refusal ≡ fault.NoMemory) ⊎ Enters read (Err refusal)

-- by which candidates the walk went on, and what came of that
pub record RefusedWithManifest (profile : Profile) (read : Fetched) (before after : FolderView) (refusal : PackFault) : Type 0 where
  pub entry : List FilePath
  pub enters : Enters read (Ok entry)
  pub rose : RoseAt refusal before.faults after.faults
  pub loaded_from_entry : LoadedFromEntry profile entry before after (Err refusal)

pub record LoadedWithManifest (profile : Profile) (read : Fetched) (before after : FolderView) (whole : Package) : Type 0 where
  pub entry : List FilePath
  pub enters : Enters read (Ok entry)
  pub loaded_from_entry : LoadedFromEntry profile entry before after (Ok whole)

abbrev pub LoadWithManifestAnswer : Profile → Fetched → FolderView → FolderView → Result Package PackFault → Type 0
LoadWithManifestAnswer profile read before after (Ok whole) = LoadedWithManifest profile read before after whole
LoadWithManifestAnswer profile read before after (Err refusal) = (refusal ≡ fault.NoMemory) ⊎ ((Enters read (Err refusal) × (after ≡ before)) ⊎ RefusedWithManifest profile read before after refusal)

-- The walk has this outcome, for reads that give what the folder holds, where that is told.
pub record Gathered (profile : Profile) (before after : FolderView) (result : Result Package PackFault) : Type 0 where
  pub given : Given
  pub short : AreShort given
  pub asked : List FilePath
  pub told : IfSome before.told (λ held. given ≡ reads_of held (failing_of result asked))
  pub walk : WalkBy given profile (outcome_of asked result)
  pub last : TellsLast result asked
  pub counted : IsCounted before after 0 (length asked)

abbrev pub GatherAnswer : Profile → FolderView → FolderView → Result Package PackFault → Type 0
GatherAnswer profile before after (Ok whole) = Gathered profile before after (Ok whole)
GatherAnswer profile before after (Err refusal) =
    UnlessMemory refusal (RoseAt refusal before.faults after.faults × Gathered profile before after (Err refusal))
