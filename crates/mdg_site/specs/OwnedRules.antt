-- The rules of the rows that a site owns, case by case.
use Rattle.std.specs.Prelude.{ℕ, ◌&&◌, length}
use Rattle.mdg_base.specs.declared.number.Local.{Local}
use Rattle.mdg_base.specs.declared.node_name.NodeName.TheVariants.{Src}
use Rattle.mdg_code.specs.Entry.{entry_module}
use Rattle.mdg_site.specs.declared.row.Row.{Row}
use Rattle.mdg_site.specs.declared.row.Row.TheVariants.{Loc, Cell, Field, Newer, Known, Exp, IsFunction}
use Rattle.mdg_site.specs.CodeTests.{column_of, entry_in, exports_name, is_owner, outlives}
use Rattle.mdg_site.specs.Laid.{Laid, function_id, local, locals_at, parameters_in, site}
use Rattle.mdg_site.specs.OutsideRules.{is_active_call}
use Rattle.mdg_site.specs.Rule.{Rule, puts, flow, each, upto, rows, under, both, for_some, meeting, static}
use Rattle.mdg_site.specs.StatementRules.{fields_into, here}

-- version: the newer versions of what is in the row are in it too
abbrev pub version : Row → Rule
version row = each row (λ m. flow (Newer m) row)

-- version: a row that outlives a statement, by its number a row of the site
abbrev pub version_owned : Laid → ℕ → Rule
version_owned l s = rows (λ row. under (static (outlives row && is_owner l s row)) (version row))

-- version: a local at a land, where a call or a load may have changed its object
abbrev pub version_land : Laid → ℕ → Rule
version_land l s = upto (locals_at l s) (λ x. version (here s (local x)))

-- version: what an active call knows
abbrev pub version_known : Laid → ℕ → Local → Rule
version_known l s callee = under (is_active_call l s callee) (version (Known (site s)))

-- exports: what the property `exports` of the entry's module object holds
abbrev pub exports_entry : Laid → Rule
exports_entry l = for_some (entry_module l.code) (λ v. each (Cell v) (λ n. flow (Field n (column_of l exports_name)) Exp))

-- exports: and what can be reached from there
abbrev pub exports_fields : Laid → Rule
exports_fields l = each Exp (fields_into l Exp)

-- exports: the outer caller calls an exported function with values of its own
abbrev pub exports_source : Laid → ℕ → Rule
exports_source l f = under (meeting Exp (IsFunction (function_id f)))
    (upto (parameters_in l f) (λ i. puts (Loc (site (entry_in l f)) (local i)) (Src (function_id f) i)))

abbrev pub exports_sources : Laid → Rule
exports_sources l = upto (length l.code.functions) (exports_source l)

-- all of them belong to the site of the row `Exp`
abbrev pub exports : Laid → ℕ → Rule
exports l s = under (static (is_owner l s Exp)) (both (exports_entry l) (both (exports_fields l) (exports_sources l)))
