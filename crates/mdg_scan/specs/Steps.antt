-- The two steps in which a rule is asked: the facts that it starts from, and what it concludes from each of them.
-- It serves the proof of the growth alone.
use Rattle.std.specs.Prelude.{◌≡◌, ◌≢◌, ◌↔◌, List, Contains, Some}
use Rattle.mdg_base.specs.declared.node_name.NodeName.{NodeName}
use Rattle.mdg_base.specs.declared.number.Column.{Column}
use Rattle.mdg_base.specs.declared.number.Local.{Local}
use Rattle.mdg_base.specs.declared.number.Site.{Site}
use Rattle.mdg_scan.specs.declared.first.fact.Fact.{Fact}
use Rattle.mdg_scan.specs.declared.first.fact.Row.{Row}
use Rattle.mdg_scan.specs.declared.first.fact.Row.TheVariants as row
use Rattle.mdg_scan.specs.declared.first.rule.Rule.{Rule}
use Rattle.mdg_scan.specs.declared.first.rule.Rule.TheVariants as rule
use Rattle.mdg_scan.specs.Parts.{IsLocalAt, IsFieldOf}
use Rattle.mdg_scan.specs.Rules.{in_row, In, IsOpen}

-- the list has exactly the facts of which this holds
abbrev pub Lists : (Fact → Type 0) → List Fact → Type 0
Lists P facts = (f : Fact) → Contains facts f ↔ P f

-- a fact of one of the nodes' properties
abbrev pub IsHeld : Row → List Fact → Fact → Type 0
IsHeld from facts g = (n : NodeName) × In facts from n × Contains facts g × IsFieldOf n g

-- a newer version of a node of these facts, in the row of that node
abbrev pub IsNewer : List Fact → List Fact → Fact → Type 0
IsNewer of facts g = (h : Fact) × Contains of h × (In facts (row.Newer h.node) g.node × (g.row ≡ h.row))

-- the rule may start from this fact
abbrev pub IsPremise : Rule → List Fact → Fact → Type 0
IsPremise (rule.Holds fact) facts g = g ≡ fact
IsPremise (rule.Carry from to except) facts g = Contains facts g × IsLocalAt from g
IsPremise (rule.Into from to) facts g = Contains facts g × (g.row ≡ from)
IsPremise (rule.Given from fact) facts g = Contains facts g × (g.row ≡ from)
IsPremise (rule.MarkNewer from newer) facts g = Contains facts g × (g.row ≡ from)
IsPremise (rule.MarkDep from computed) facts g = Contains facts g × (g.row ≡ from)
IsPremise (rule.Fields from to) facts g = IsHeld from facts g
IsPremise (rule.Property from q to) facts g = IsHeld from facts g
IsPremise (rule.TakeOver from into replaced) facts g = IsHeld from facts g
IsPremise (rule.Alias from object to newer) facts g = (Contains facts g × IsLocalAt from g) × In facts (row.Loc from object) g.node
IsPremise (rule.Meet one other fact) facts g = (Contains facts g × (g.row ≡ other)) × In facts one g.node
IsPremise rule.Versions facts g = (h : Fact) × (Contains facts h × IsOpen h.row) × (In facts (row.Newer h.node) g.node × (g.row ≡ h.row))
IsPremise (rule.VersionsAt site) facts g = (h : Fact) × (Contains facts h × IsLocalAt site h) × (In facts (row.Newer h.node) g.node × (g.row ≡ h.row))

-- the rule concludes the fact from this one
abbrev pub Concludes : Rule → Fact → Fact → Type 0
Concludes (rule.Holds fact) g f = f ≡ g
Concludes (rule.Carry from to except) g f = (s : Site) × (x : Local) × (g.row ≡ row.Loc s x) × (except ≢ Some x) × (f ≡ in_row (row.Loc to x) g.node)
Concludes (rule.Into from to) g f = f ≡ in_row to g.node
Concludes (rule.Given from fact) g f = f ≡ fact
Concludes (rule.MarkNewer from newer) g f = f ≡ in_row (row.Newer g.node) newer
Concludes (rule.MarkDep from computed) g f = f ≡ in_row (row.Dep g.node) computed
Concludes (rule.Fields from to) g f = f ≡ in_row to g.node
Concludes (rule.Property from q to) g f = (n : NodeName) × (g.row ≡ row.Field n q) × (f ≡ in_row to g.node)
Concludes (rule.TakeOver from into replaced) g f = (n : NodeName) × (q : Column) × (g.row ≡ row.Field n q) × (replaced ≢ Some q) × (f ≡ in_row (row.Field into q) g.node)
Concludes (rule.Alias from object to newer) g f = (s : Site) × (x : Local) × (g.row ≡ row.Loc s x) × (x ≢ object) × (f ≡ in_row (row.Loc to x) newer)
Concludes (rule.Meet one other fact) g f = f ≡ fact
Concludes rule.Versions g f = f ≡ g
Concludes (rule.VersionsAt site) g f = f ≡ g

-- the rule concludes the fact from one of these
abbrev pub ConcludesSome : Rule → List Fact → Fact → Type 0
ConcludesSome rule premises f = (g : Fact) × Contains premises g × Concludes rule g f
