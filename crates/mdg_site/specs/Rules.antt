-- All rules of a site, and what they give.
use Rattle.std.specs.Prelude.{ℕ, ◌<◌, List, Option}
use Rattle.mdg_base.specs.declared.number.Column.{Column}
use Rattle.mdg_base.specs.declared.number.Local.{Local}
use Rattle.mdg_base.specs.declared.node_name.NodeName.{NodeName}
use Rattle.mdg_code.specs.declared.statement.Statement.{Statement}
use Rattle.mdg_code.specs.declared.statement.Statement.TheVariants as S
use Rattle.mdg_site.specs.declared.row.Row.{Row}
use Rattle.mdg_site.specs.BaseRules.{base}
use Rattle.mdg_site.specs.Facts.{FactSet, In, Less}
use Rattle.mdg_site.specs.Laid.{Laid, site_count, statement_at}
use Rattle.mdg_site.specs.OutsideRules.{call_answer, outside_effect}
use Rattle.mdg_site.specs.OwnedRules.{exports, version_known, version_land, version_owned}
use Rattle.mdg_site.specs.Rule.{Rule, nothing, both, gives}
use Rattle.mdg_site.specs.StatementRules as R

abbrev pub carry : Laid → Statement → ℕ → Rule
carry l statement s = both (R.carry_next l statement s) (R.carry_other l statement s)

abbrev pub operator : Laid → ℕ → Local → List Local → Rule
operator l s into of = both (R.operator_operand s of) (both (R.operator_fields l s) (both (R.operator_depends s) (R.operator_result s into)))

abbrev pub lookup : Laid → ℕ → Local → Local → List ℕ → Column → Rule
lookup l s into of name q = both (R.lookup_result s into) (both (R.lookup_depends s of) (both (R.lookup_field s into of q)
    (both (R.lookup_vague l s into of name) (both (R.lookup_keeps_own l s of name q) (both (R.lookup_keeps_outside l s of name q)
    (R.lookup_built_in s into name))))))

abbrev pub computed_lookup : Laid → ℕ → Local → Local → Local → Rule
computed_lookup l s into of key = both (R.computed_lookup_result s into) (both (R.computed_lookup_outside s into)
    (both (R.computed_lookup_depends s of) (both (R.computed_lookup_key s key) (both (R.computed_lookup_field l s into of)
    (both (R.computed_lookup_keeps_own l s of) (R.computed_lookup_keeps_outside l s of))))))

abbrev pub write : Laid → ℕ → Local → Column → Local → Rule
write l s of q value = both (R.write_newer s of) (both (R.write_object s of) (both (R.write_keeps l s of q)
    (both (R.write_alias l s of) (R.write_value s value q))))

abbrev pub computed_write : Laid → ℕ → Local → Local → Local → Rule
computed_write l s of key value = both (R.computed_write_newer s of) (both (R.computed_write_object s of)
    (both (R.computed_write_keeps l s of) (both (R.computed_write_alias l s of) (both (R.computed_write_value l s value)
    (R.computed_write_key s key)))))

-- a call of a function of the package, and of outside code
abbrev pub any_call : Laid → ℕ → Local → Local → Option Local → List Local → Rule
any_call l s into callee receiver arguments = both (R.call l s into callee arguments)
    (both (call_answer l s into callee receiver arguments) (both (outside_effect l s callee) (version_known l s callee)))

-- the rules of the statement, but for the locals that it leaves alone
abbrev pub statement_rule : Laid → ℕ → Statement → Rule
statement_rule l s (S.Literal into text) = nothing
statement_rule l s (S.Copy into of) = R.copy_value s into of
statement_rule l s (S.Op into of) = operator l s into of
statement_rule l s (S.Object into) = R.allocation_result s into
statement_rule l s (S.Function into f) = both (R.allocation_result s into) (R.allocation_function s f)
statement_rule l s (S.Own into) = R.own_result l s into
statement_rule l s (S.Shared into b) = R.shared_result s into b
statement_rule l s (S.Get into of name q) = lookup l s into of name q
statement_rule l s (S.GetAt into of key) = computed_lookup l s into of key
statement_rule l s (S.Set of name q value) = write l s of q value
statement_rule l s (S.SetAt of key value) = computed_write l s of key value
statement_rule l s (S.Cell into v) = R.cell_read s into v
statement_rule l s (S.SetCell v value) = R.cell_set s v value
statement_rule l s (S.Branch left right) = nothing
statement_rule l s (S.Call into callee receiver arguments) = any_call l s into callee receiver arguments
statement_rule l s S.Land = version_land l s
statement_rule l s (S.Return value) = R.return_value l s value
statement_rule l s (S.Load file) = nothing
statement_rule l s (S.Throw value) = nothing

-- the rules of the rows that the site owns by their numbers
abbrev pub owned_rule : Laid → ℕ → Rule
owned_rule l s = both (version_owned l s) (exports l s)

-- all rules of a site with this statement
abbrev pub rule_of : Laid → ℕ → Statement → Rule
rule_of l s statement = both (carry l statement s) (both (statement_rule l s statement) (both (owned_rule l s) (base l s)))

abbrev pub rule_at : Laid → ℕ → Rule
rule_at l s = rule_of l s (statement_at l s)

-- a rule of the site gives the fact
abbrev pub GivesAt : Laid → ℕ → FactSet → Row → NodeName → Type 0
GivesAt l s F row node = gives (rule_at l s) F row node

-- a rule gives the fact
abbrev pub Gives : Laid → FactSet → Row → NodeName → Type 0
Gives l F row node = (s : ℕ) × (s < site_count l) × GivesAt l s F row node
