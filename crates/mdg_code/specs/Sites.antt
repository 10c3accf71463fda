-- What stands at a site, and in which function.
use Rattle.std.specs.Prelude.{◌≡◌, ℕ, Option, Some, slice_get}
use Rattle.std.specs.Option.{option_map}
use Rattle.mdg_base.specs.declared.number.FunId.{FunId}
use Rattle.mdg_code.specs.declared.code.Code.{Code}
use Rattle.mdg_code.specs.declared.code.Line.{Line}
use Rattle.mdg_code.specs.declared.statement.Statement.{Statement}

-- the line at the site, where there is one
abbrev pub line_at : Code → ℕ → Option Line
line_at code site = slice_get code.lines site

abbrev pub statement_at : Code → ℕ → Option Statement
statement_at code site = option_map (λ line. line.statement) (line_at code site)

-- the function in which the site lies
abbrev pub function_at : Code → ℕ → Option FunId
function_at code site = option_map (λ line. line.function) (line_at code site)

-- both sites are sites of one function
abbrev pub AreInOneFunction : Code → ℕ → ℕ → Type 0
AreInOneFunction code site other = (function : FunId) × (function_at code site ≡ Some function)
    × (function_at code other ≡ Some function)
