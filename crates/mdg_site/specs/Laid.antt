-- What a layout tells, and what stands at a site of its code.
use Rattle.std.specs.Prelude.{ℕ, Bool, false, List, length, Option, Some, None, slice_get}
use Rattle.mdg_base.specs.declared.number.Site.{Site}
use Rattle.mdg_base.specs.declared.number.Local.{Local}
use Rattle.mdg_base.specs.declared.number.FunId.{FunId}
use Rattle.mdg_base.specs.declared.number.SharedId.{SharedId}
use Rattle.mdg_base.specs.declared.number.Column.{Column}
use Rattle.mdg_code.specs.declared.code.Code.{Code}
use Rattle.mdg_code.specs.declared.code.FunctionRow.{FunctionRow}
use Rattle.mdg_code.specs.declared.statement.Statement.{Statement}
use Rattle.mdg_code.specs.declared.statement.Statement.TheVariants.{Land}
use Rattle.mdg_code.specs.Locals as L
use Rattle.mdg_code.specs.Sites as S

pub record Laid : Type 0 where
  pub code : Code
  -- whether callers keep what they get
  pub keeps : Bool

-- the layout of this code whose callers keep nothing
abbrev pub laid : Code → Laid
laid code = record { code = code; keeps = false }

abbrev pub site : ℕ → Site
site n = record { 0 = n }

abbrev pub local : ℕ → Local
local n = record { 0 = n }

abbrev pub column : ℕ → Column
column n = record { 0 = n }

abbrev pub shared_id : ℕ → SharedId
shared_id n = record { 0 = n }

abbrev pub function_id : ℕ → FunId
function_id n = record { 0 = n }

abbrev pub site_count : Laid → ℕ
site_count l = length l.code.lines

abbrev pub land_if_none : Option Statement → Statement
land_if_none None = Land
land_if_none (Some statement) = statement

-- the statement at the site. Where there is none it is taken for a land, which has no node and no rule of its own.
abbrev pub statement_at : Laid → ℕ → Statement
statement_at l s = land_if_none (S.statement_at l.code s)

abbrev pub zero_if_none : Option ℕ → ℕ
zero_if_none None = 0
zero_if_none (Some n) = n

-- how many locals there are at the site, and none where there is no such site
abbrev pub locals_at : Laid → ℕ → ℕ
locals_at l s = zero_if_none (L.locals_at l.code s)

abbrev pub parameters_of : Option FunctionRow → ℕ
parameters_of None = 0
parameters_of (Some row) = length row.parameters

-- how many parameters the function has, and none where there is no such function
abbrev pub parameters_in : Laid → ℕ → ℕ
parameters_in l f = parameters_of (slice_get l.code.functions f)
