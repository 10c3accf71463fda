-- The table of rules: a line for each kind of statement, and the rules of the whole file. t follows s.
use Rattle.std.specs.Prelude.{ℕ, ◌+◌, ◌==◌, if◌then◌else◌, zero, suc, List, [], ◌∷◌, ◌++◌, map, Option, Some, None}
use Rattle.mdg_base.specs.declared.node_name.NodeName.{NodeName}
use Rattle.mdg_base.specs.declared.node_name.NodeName.TheVariants as name
use Rattle.mdg_base.specs.declared.number.Column.{Column}
use Rattle.mdg_base.specs.declared.number.FunId.{FunId}
use Rattle.mdg_base.specs.declared.number.Local.{Local}
use Rattle.mdg_base.specs.declared.number.Site.{Site}
use Rattle.mdg_scan.specs.declared.first.code.Code.{Code}
use Rattle.mdg_scan.specs.declared.first.code.FunctionRow.{FunctionRow}
use Rattle.mdg_scan.specs.declared.first.code.SharedRow.{SharedRow}
use Rattle.mdg_scan.specs.declared.first.code.Line.{Line}
use Rattle.mdg_scan.specs.declared.first.code.Statement.{Statement}
use Rattle.mdg_scan.specs.declared.first.code.Statement.TheVariants as statement
use Rattle.mdg_scan.specs.declared.first.fact.Row.{Row}
use Rattle.mdg_scan.specs.declared.first.fact.Row.TheVariants as row
use Rattle.mdg_scan.specs.declared.first.rule.Rule.{Rule}
use Rattle.mdg_scan.specs.declared.first.rule.Rule.TheVariants as rule
use Rattle.mdg_scan.specs.Rules.{in_row}

abbrev pub site : ℕ → Site
site s = record { 0 = s }

-- the node of the statement
abbrev pub node : ℕ → NodeName
node s = name.Site (site s)

-- the local before the statement
abbrev pub loc : ℕ → Local → Row
loc s x = row.Loc (site s) x

-- what goes into the operator at the statement
abbrev pub known : ℕ → Row
known s = row.Known (site s)

-- the property `exports`, and the one for every other name
abbrev pub exports : Column
exports = record { 0 = 0 }

abbrev pub other : Column
other = record { 0 = 1 }

-- the locals are carried on, but for one that is assigned or written
abbrev pub carry : ℕ → Option Local → Rule
carry s except = rule.Carry (site s) (site (s + 1)) except

-- the statement makes a node, and the local is it afterwards
abbrev pub makes : ℕ → Local → Rule
makes s x = rule.Holds (in_row (loc (s + 1) x) (node s))

abbrev pub operand : ℕ → Local → Rule
operand s y = rule.Into (loc s y) (known s)

-- a write replaces what the property held, but not where the property stands for many names
abbrev pub replaced : Column → Option Column
replaced q = if q.0 == other.0 then None else Some q

abbrev pub operator_rules : ℕ → Local → List Local → List Rule
operator_rules s x of =
    carry s (Some x)
    ∷ makes s x
    ∷ (map (operand s) of
    ++ rule.Fields (known s) (known s)
    ∷ rule.MarkDep (known s) (node s)
    ∷ [])

abbrev pub write_rules : ℕ → Local → Column → Local → List Rule
write_rules s y q z =
    carry s (Some y)
    ∷ rule.MarkNewer (loc s y) (node s)
    ∷ rule.Given (loc s y) (in_row (loc (s + 1) y) (node s))
    ∷ rule.TakeOver (loc s y) (node s) (replaced q)
    ∷ rule.Alias (site s) y (site (s + 1)) (node s)
    ∷ rule.Into (loc (s + 1) z) (row.Field (node s) q)
    ∷ []

abbrev pub rules_at : ℕ → Statement → List Rule
rules_at s (statement.Literal x text) = carry s (Some x) ∷ []
rules_at s (statement.Copy x y) = carry s (Some x) ∷ rule.Into (loc s y) (loc (s + 1) x) ∷ []
rules_at s (statement.Op x of) = operator_rules s x of
rules_at s (statement.Object x) = carry s (Some x) ∷ makes s x ∷ []
rules_at s (statement.Function x f) = carry s (Some x) ∷ makes s x ∷ rule.Holds (in_row (row.IsFunction f) (node s)) ∷ []
rules_at s (statement.Shared x b) = carry s (Some x) ∷ rule.Into (row.IsShared b) (loc (s + 1) x) ∷ []
rules_at s (statement.Set y q z) = write_rules s y q z
rules_at s (statement.SetCell v x) = carry s None ∷ rule.Into (loc s x) (row.Cell v) ∷ []
rules_at s (statement.Call x y arguments) = carry s (Some x) ∷ []
rules_at s statement.Land = carry s None ∷ rule.VersionsAt (site s) ∷ []
rules_at s (statement.Return x) = []

-- the statements are numbered from this one
abbrev pub statement_rules : ℕ → List Line → List Rule
statement_rules s [] = []
statement_rules s (line ∷ lines) = rules_at s line.statement ++ statement_rules (s + 1) lines

-- each shared thing is its own object; they are numbered from this one
abbrev pub shared_rules : ℕ → List SharedRow → List Rule
shared_rules b [] = []
shared_rules b (_ ∷ rest) =
    rule.Holds (in_row (row.IsShared (record { 0 = b })) (name.Shared (record { 0 = b }))) ∷ shared_rules (b + 1) rest

-- the outer caller may call an exported function, with anything for each of its parameters
abbrev pub parameter_rule : FunId → Site → ℕ → Rule
parameter_rule f entry i = rule.Meet row.Exp (row.IsFunction f) (in_row (row.Loc entry (record { 0 = i })) (name.Src f i))

-- for the first so many parameters
abbrev pub parameter_rules : FunId → Site → ℕ → List Rule
parameter_rules f entry zero = []
parameter_rules f entry (suc i) = parameter_rules f entry i ++ parameter_rule f entry i ∷ []

-- the functions are numbered from this one
abbrev pub function_rules : ℕ → List FunctionRow → List Rule
function_rules f [] = []
function_rules f (function ∷ rest) =
    parameter_rules (record { 0 = f }) function.entry function.parameters ++ function_rules (f + 1) rest

-- what the outer caller reaches: what the module exports, and what that holds
abbrev pub export_rules : List FunctionRow → List Rule
export_rules functions =
    rule.Property (row.Cell (record { 0 = 0 })) exports row.Exp
    ∷ rule.Fields row.Exp row.Exp
    ∷ function_rules 0 functions

abbrev pub rules_of : Code → List Rule
rules_of code =
    shared_rules 0 code.shared
    ++ (statement_rules 0 code.lines
    ++ (export_rules code.functions
    ++ rule.Versions
    ∷ []))
