-- Where a package begins.
use Rattle.std.specs.Prelude.{Option, slice_get}
use Rattle.std.specs.Option.{option_map}
use Rattle.mdg_base.specs.declared.number.CellId.{CellId}
use Rattle.mdg_code.specs.declared.code.Code.{Code}

-- the cell of the entry's module object. The entry is file 0.
abbrev pub entry_module : Code → Option CellId
entry_module code = option_map (λ file. file.module) (slice_get code.files 0)
