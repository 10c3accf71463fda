-- What a rule gives from facts.
use Rattle.std.specs.Prelude.{◌≡◌, ◌≢◌, ⊤, List, Contains, Some}
use Rattle.mdg_base.specs.declared.node_name.NodeName.{NodeName}
use Rattle.mdg_base.specs.declared.number.Column.{Column}
use Rattle.mdg_base.specs.declared.number.Local.{Local}
use Rattle.mdg_scan.specs.declared.first.fact.Fact.{Fact}
use Rattle.mdg_scan.specs.declared.first.fact.Row.{Row}
use Rattle.mdg_scan.specs.declared.first.fact.Row.TheVariants as row
use Rattle.mdg_scan.specs.declared.first.rule.Rule.{Rule}
use Rattle.mdg_scan.specs.declared.first.rule.Rule.TheVariants as rule

-- the node stands in the row
abbrev pub in_row : Row → NodeName → Fact
in_row r n = record { row = r; node = n }

-- it does by these facts
abbrev pub In : List Fact → Row → NodeName → Type 0
In facts r n = Contains facts (in_row r n)

-- a row that outlives a statement: newer versions of its nodes are followed wherever it is read
abbrev pub IsOpen : Row → Type 0
IsOpen (row.Loc s x) = ⊥
IsOpen (row.Cell v) = ⊤
IsOpen (row.Field n q) = ⊤
IsOpen (row.Newer n) = ⊥
IsOpen (row.Dep n) = ⊥
IsOpen (row.Known s) = ⊥
IsOpen row.Exp = ⊤
IsOpen (row.IsFunction f) = ⊤
IsOpen (row.IsShared b) = ⊤

-- the rule gives the fact, each premise being among the facts
abbrev pub RuleGives : Rule → List Fact → Fact → Type 0
RuleGives (rule.Holds fact) facts f = f ≡ fact
RuleGives (rule.Carry from to except) facts f =
    (x : Local) × (n : NodeName) × In facts (row.Loc from x) n × (except ≢ Some x) × (f ≡ in_row (row.Loc to x) n)
RuleGives (rule.Into from to) facts f = (n : NodeName) × In facts from n × (f ≡ in_row to n)
RuleGives (rule.Given from fact) facts f = (n : NodeName) × In facts from n × (f ≡ fact)
RuleGives (rule.MarkNewer from newer) facts f = (n : NodeName) × In facts from n × (f ≡ in_row (row.Newer n) newer)
RuleGives (rule.MarkDep from computed) facts f = (n : NodeName) × In facts from n × (f ≡ in_row (row.Dep n) computed)
RuleGives (rule.Fields from to) facts f =
    (n : NodeName) × (q : Column) × (m : NodeName) × In facts from n × In facts (row.Field n q) m × (f ≡ in_row to m)
RuleGives (rule.Property from q to) facts f =
    (n : NodeName) × (m : NodeName) × In facts from n × In facts (row.Field n q) m × (f ≡ in_row to m)
RuleGives (rule.TakeOver from into replaced) facts f =
    (n : NodeName) × (q : Column) × (m : NodeName) × In facts from n × In facts (row.Field n q) m × (replaced ≢ Some q) × (f ≡ in_row (row.Field into q) m)
RuleGives (rule.Alias from object to newer) facts f =
    (x : Local) × (n : NodeName) × In facts (row.Loc from x) n × (x ≢ object) × In facts (row.Loc from object) n × (f ≡ in_row (row.Loc to x) newer)
RuleGives (rule.Meet one other fact) facts f = (n : NodeName) × In facts one n × In facts other n × (f ≡ fact)
RuleGives rule.Versions facts f =
    (r : Row) × (n : NodeName) × (m : NodeName) × IsOpen r × In facts r n × In facts (row.Newer n) m × (f ≡ in_row r m)
RuleGives (rule.VersionsAt site) facts f =
    (x : Local) × (n : NodeName) × (m : NodeName) × In facts (row.Loc site x) n × In facts (row.Newer n) m × (f ≡ in_row (row.Loc site x) m)
