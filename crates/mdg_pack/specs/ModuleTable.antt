-- The paths that a walk has asked, and the files that it has found.
use Rattle.std.specs.Prelude.{ℕ, if◌then◌else◌, List, [], ◌∷◌, ◌++◌, length, map, Option, Some, None}
use Rattle.std.specs.Str.{bytes_eq}
use Rattle.mdg_pack.specs.Paths.{FilePath}
use Rattle.mdg_pack.specs.declared.module_table.Probe.{Probe}
use Rattle.mdg_pack.specs.declared.module_table.ModuleTable.{ModuleTable}

-- nothing was asked
abbrev pub empty_table : ModuleTable
empty_table = record { probes = []; files = [] }

abbrev pub paths_of : List Probe → List FilePath
paths_of probes = map (λ one. one.path) probes

-- the paths that were asked, in order
abbrev pub paths : ModuleTable → List FilePath
paths table = paths_of table.probes

-- what was found at a path, where it was asked: the file's number, or that it is absent
abbrev pub lookup_in : List Probe → FilePath → Option (Option ℕ)
lookup_in [] path = None
lookup_in (one ∷ probes) path = if bytes_eq path one.path then Some one.file else lookup_in probes path

abbrev pub lookup : ModuleTable → FilePath → Option (Option ℕ)
lookup table path = lookup_in table.probes path

-- the path was asked and is absent
abbrev pub with_absent : ModuleTable → FilePath → ModuleTable
with_absent table path = record {
  probes = table.probes ++ (record { path = path; file = None }) ∷ [];
  files = table.files;
}

-- the path was asked and is the next file
abbrev pub with_file : ModuleTable → FilePath → List ℕ → ModuleTable
with_file table path bytes = record {
  probes = table.probes ++ (record { path = path; file = Some (length table.files) }) ∷ [];
  files = table.files ++ (record { path = path; bytes = bytes }) ∷ [];
}
