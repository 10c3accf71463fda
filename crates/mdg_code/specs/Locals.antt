-- How many locals there are.
use Rattle.std.specs.Prelude.{ℕ, ◌+◌, ◌-◌, ◌*◌, min, Option, slice_get, sum_by}
use Rattle.std.specs.Option.{option_and_then, option_map}
use Rattle.mdg_base.specs.declared.number.FunId.{FunId}
use Rattle.mdg_code.specs.declared.code.Code.{Code}
use Rattle.mdg_code.specs.declared.code.FunctionRow.{FunctionRow}
use Rattle.mdg_code.specs.Sites.{function_at}

abbrev pub locals_of : Code → FunId → Option ℕ
locals_of code function = option_map (λ row. row.locals) (slice_get code.functions function.0)

-- how many locals there are at the site: those of its function
abbrev pub locals_at : Code → ℕ → Option ℕ
locals_at code site = option_and_then (locals_of code) (function_at code site)

-- how many sites of the function stand before the site
abbrev pub sites_before : ℕ → FunctionRow → ℕ
sites_before site row = min site (row.end.0 + 1) - row.entry.0

-- how many locals there are at the sites of the function that stand before the site
abbrev pub row_locals_before : ℕ → FunctionRow → ℕ
row_locals_before site row = sites_before site row * row.locals

-- how many locals there are at all sites before the site, each counted once for each site, function by function
abbrev pub locals_before : Code → ℕ → ℕ
locals_before code site = sum_by (row_locals_before site) code.functions
