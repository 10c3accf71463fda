-- Serves the proofs alone: what a private call of the walk did, by what the folder tells before and after it.
use Rattle.std.specs.Prelude.{◌≡◌, ℕ, ◌+◌, ◌-◌, ◌^◌, ◌<◌, ◌≤◌, List, [], ◌∷◌, ◌++◌, length, Option, Some, None, IfSome, slice_get, Result, Ok, Err}
use Rattle.mdg_pack.specs.ModuleResolution.{Progress, goes, ends, most_files}
use Rattle.mdg_pack.specs.ModuleTable.{with_file}
use Rattle.mdg_pack.specs.Paths.{FilePath}
use Rattle.mdg_pack.specs.Reads.{Given, gives, later, reads_of, most_bytes, AreShort}
use Rattle.mdg_pack.specs.declared.fault.PackFault.{PackFault}
use Rattle.mdg_pack.specs.declared.fault.PackFault.TheVariants as fault
use Rattle.mdg_pack.specs.declared.module_table.Probe.{Probe}
use Rattle.mdg_pack.specs.declared.module_table.SourceFile.{SourceFile}
use Rattle.mdg_pack.specs.declared.module_table.ModuleTable.{ModuleTable}
use Rattle.mdg_port.specs.Causes.{Rose}
use Rattle.mdg_port.specs.Held.{Held}
use Rattle.mdg_port.specs.declared.folder.Fetched.{Fetched}
use Rattle.mdg_port.specs.declared.folder.Fetched.TheVariants.{Absent, Bytes}

-- what a folder tells
pub record FolderView : Type 0 where
  pub told : Option Held
  pub reads : ℕ
  pub faults : ℕ

abbrev pub folder_view : Option Held → ℕ → ℕ → FolderView
folder_view told reads faults = record { told = told; reads = reads; faults = faults }

-- what the file with this number gave
abbrev pub bytes_of : Option SourceFile → Fetched
bytes_of None = Absent
bytes_of (Some file) = Bytes file.bytes

abbrev pub gave : ModuleTable → Option ℕ → Fetched
gave table None = Absent
gave table (Some number) = bytes_of (slice_get table.files number)

-- these reads give what the table has of them
pub record Agrees (given : Given) (table : ModuleTable) : Type 0 where
  pub at : (number : ℕ) (one : Probe) → slice_get table.probes number ≡ Some one → given number one.path ≡ gives (gave table one.file)

-- numbers are those of files, and the limits are kept
pub record IsSound (table : ModuleTable) : Type 0 where
  pub few : length table.files ≤ most_files
  pub numbers : (place : ℕ) (one : Probe) (number : ℕ) → slice_get table.probes place ≡ Some one → one.file ≡ Some number → number < length table.files
  pub short : (number : ℕ) (file : SourceFile) → slice_get table.files number ≡ Some file → length file.bytes ≤ most_bytes

-- the table has what the folder holds, where that is told
abbrev pub Saw : Option Held → ModuleTable → Type 0
Saw told table = IfSome told (λ held. Agrees (later (reads_of held None)) table)

-- These reads after that of the manifest give what the folder holds, where that is told, but for the one that fails.
abbrev pub GivesTold : Option Held → Option ℕ → Given → Type 0
GivesTold told failing given = IfSome told (λ held. given ≡ later (reads_of held failing))

-- so many paths more were read, where that is told
abbrev pub IsCounted : FolderView → FolderView → ℕ → ℕ → Type 0
IsCounted before after old new = IfSome before.told (λ held. after.reads < 2 ^ 64 - 1 → (before.reads ≤ after.reads) × (after.reads + old ≡ before.reads + new))

-- The number of the read that failed, counted from that of the manifest, where a read failed: it is the last of these.
abbrev pub failing_at : PackFault → List FilePath → Option ℕ
failing_at (fault.FolderFailed path) asked = Some (length asked)
failing_at refusal asked = None

-- the path of a failed read is the last of these
abbrev pub TellsLastOf : PackFault → List FilePath → Type 0
TellsLastOf (fault.FolderFailed path) asked = (earlier : List FilePath) × (asked ≡ earlier ++ path ∷ [])
TellsLastOf refusal asked = Unit {0}

-- The call made this progress: its value, and the table as it is now.
pub record Did {A : Type 0} (run : Given → Progress A) (before after : FolderView) (old new : ModuleTable) (value : A) : Type 0 where
  pub sound : IsSound new
  pub saw : Saw before.told new
  pub is : (given : Given) → Agrees given new → run given ≡ goes value new
  pub keeps : (given : Given) → Agrees given new → Agrees given old
  pub longer : length old.files ≤ length new.files
  pub counted : IsCounted before after (length old.probes) (length new.probes)

-- The call was refused after these paths were asked, for what the reads gave.
pub record Refuses {A : Type 0} (run : Given → Progress A) (before after : FolderView) (old : ModuleTable) (refusal : PackFault) : Type 0 where
  pub given : Given
  pub short : AreShort given
  pub asked : List FilePath
  pub told : GivesTold before.told (failing_at refusal asked) given
  pub agrees : Agrees given old
  pub is : run given ≡ ends asked refusal
  pub last : TellsLastOf refusal asked
  pub counted : IsCounted before after (length old.probes) (length asked)

-- the folder failed only where its count of faults rose
abbrev pub RoseAt : PackFault → ℕ → ℕ → Type 0
RoseAt (fault.FolderFailed path) before after = Rose before after
RoseAt refusal before after = Unit {0}

-- a refusal of memory says nothing
abbrev pub UnlessMemory : PackFault → Type 0 → Type 0
UnlessMemory fault.NoMemory Cause = Unit {0}
UnlessMemory refusal Cause = Cause

abbrev pub RefusesUnlessMemory : {A : Type 0} → (Given → Progress A) → FolderView → FolderView → ModuleTable → PackFault → Type 0
RefusesUnlessMemory run before after old refusal = UnlessMemory refusal (RoseAt refusal before.faults after.faults × Refuses run before after old refusal)

abbrev pub Answers : {A : Type 0} → (Given → Progress A) → FolderView → FolderView → ModuleTable → ModuleTable → Result A PackFault → Type 0
Answers run before after old new (Ok value) = Did run before after old new value
Answers run before after old new (Err refusal) = RefusesUnlessMemory run before after old refusal

-- the folder holds what it held, and its count of faults didn't fall
pub record Stays (before after : FolderView) : Type 0 where
  pub held : after.told ≡ before.told
  pub faults : before.faults ≤ after.faults

-- What is left of a call does what the whole call does from where it began.
pub record Carries {A : Type 0} (whole : Given → Progress A) (before : FolderView) (old : ModuleTable) (rest : Given → Progress A) (now : FolderView) (table : ModuleTable) : Type 0 where
  pub stays : Stays before now
  pub sound : IsSound table
  pub saw : Saw before.told table
  pub goes_on : (after : FolderView) (new : ModuleTable) (result : Result A PackFault) → Stays now after → Answers rest now after table new result → Answers whole before after old new result

-- A new file takes the next number, and there is room for it; or there is none.
abbrev pub IsRegistered : ModuleTable → ModuleTable → FilePath → List ℕ → Result (Option ℕ) PackFault → Type 0
IsRegistered old new path bytes (Ok None) = ⊥
IsRegistered old new path bytes (Ok (Some number)) = (length old.files < most_files) × (number ≡ length old.files) × (new ≡ with_file old path bytes)
IsRegistered old new path bytes (Err fault.NoMemory) = Unit {0}
IsRegistered old new path bytes (Err refusal) = (most_files ≤ length old.files) × (refusal ≡ fault.TooManyFiles 257)
