-- How a file is found: its candidates in order, each read at most once.
use Rattle.std.specs.Prelude.{ℕ, ◌-◌, nat_lt, if◌then◌else◌, List, [], ◌∷◌, ◌++◌, length, Option, Some, None, slice_index_or}
use Rattle.mdg_pack.specs.ModuleTable.{paths, lookup, with_absent, with_file}
use Rattle.mdg_pack.specs.Paths.{FilePath}
use Rattle.mdg_pack.specs.Reads.{Reading, gives, fails, Given}
use Rattle.mdg_pack.specs.declared.fault.PackFault.{PackFault}
use Rattle.mdg_pack.specs.declared.fault.PackFault.TheVariants as fault
use Rattle.mdg_pack.specs.declared.module_table.ModuleTable.{ModuleTable}
use Rattle.mdg_port.specs.declared.folder.Fetched.TheVariants.{Absent, TooLong, Bytes}

-- The walk goes on with a value, or it ends: the paths that were asked, and the refusal.
pub data Progress (A : Type 0) : Type 0 where
  goes : A → ModuleTable → Progress A
  ends : List FilePath → PackFault → Progress A

abbrev pub then_with : {A B : Type 0} → Progress A → (A → ModuleTable → Progress B) → Progress B
then_with (goes value table) next = next value table
then_with (ends asked refusal) next = ends asked refusal

-- the most files of a package
abbrev pub most_files : ℕ
most_files = 256

-- a new file at a path: it takes the next number
abbrev pub registered : ModuleTable → FilePath → List ℕ → Progress (Option ℕ)
registered table path bytes =
    if nat_lt (length table.files) most_files then goes (Some (length table.files)) (with_file table path bytes)
    else ends (paths table ++ path ∷ []) (fault.TooManyFiles 257)

-- a path that is read
abbrev pub after_reading : Reading → ModuleTable → FilePath → Progress (Option ℕ)
after_reading (gives Absent) table path = goes None (with_absent table path)
after_reading (gives TooLong) table path = ends (paths table ++ path ∷ []) (fault.TooLong path)
after_reading (gives (Bytes bytes)) table path = registered table path bytes
after_reading fails table path = ends (paths table ++ path ∷ []) (fault.FolderFailed path)

-- what an earlier read of the path gave, and else what the next read gives
abbrev pub probed_by : Option (Option ℕ) → Given → ModuleTable → FilePath → Progress (Option ℕ)
probed_by (Some file) given table path = goes file table
probed_by None given table path = after_reading (given (length table.probes) path) table path

-- the file at a path, where there is one
unfoldable pub probed : Given → ModuleTable → FilePath → Progress (Option ℕ)
probed given table path = probed_by (lookup table path) given table path

-- the file that was found, or what comes after
abbrev pub resolved_or : (ModuleTable → Progress ℕ) → Option ℕ → ModuleTable → Progress ℕ
resolved_or next (Some file) table = goes file table
resolved_or next None table = next table

-- The first of the candidates at which there is a file. Where there is none, the refusal names the last of them.
unfoldable pub resolved_among : Given → FilePath → List FilePath → ModuleTable → Progress ℕ
resolved_among given last [] table = ends (paths table) (fault.NoFile last)
resolved_among given last (path ∷ others) table =
    then_with (probed given table path) (resolved_or (resolved_among given last others))

-- the last of candidates; that there is one, the calls require
abbrev pub last_candidate : List FilePath → FilePath
last_candidate candidates = slice_index_or candidates (length candidates - 1) []

-- the file that the candidates name
unfoldable pub resolved : Given → List FilePath → ModuleTable → Progress ℕ
resolved given candidates table = resolved_among given (last_candidate candidates) candidates table
