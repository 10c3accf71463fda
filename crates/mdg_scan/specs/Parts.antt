-- Parts of a set of facts, and the shelves on which they are kept. It serves the proof of the growth alone.
use Rattle.std.specs.Prelude.{◌≡◌, List, [], ◌∷◌, ◌++◌, ◌↔◌, Contains, Vec, if◌then◌else◌}
use Rattle.std.specs.Ordering.{eq_by_cmp}
use Rattle.std.specs.declared.cmp.Ordering.{Ordering}
use Rattle.std.specs.BTreeMap.{BTreeMap, get}
use Rattle.std.specs.Option.{option_map_or}
use Rattle.std.specs.declared.alloc.Global.{Global}
use Rattle.mdg_base.specs.declared.node_name.NodeName.{NodeName}
use Rattle.mdg_base.specs.declared.number.Column.{Column}
use Rattle.mdg_base.specs.declared.number.Local.{Local}
use Rattle.mdg_base.specs.declared.number.Site.{Site}
use Rattle.mdg_scan.specs.contracts.first.fact.RowOrd.TheImpl as row_order
use Rattle.mdg_scan.specs.declared.first.fact.Fact.{Fact}
use Rattle.mdg_scan.specs.declared.first.fact.Row.{Row}
use Rattle.mdg_scan.specs.declared.first.fact.Row.TheVariants as row

-- all facts of the one list are in the other
abbrev pub Within : List Fact → List Fact → Type 0
Within old new = (f : Fact) → Contains old f → Contains new f

-- those of the facts of which this holds, and no others
abbrev pub IsPart : (Fact → Type 0) → List Fact → List Fact → Type 0
IsPart P facts part = (f : Fact) → Contains part f ↔ (Contains facts f × P f)

-- a fact of some local before the statement
abbrev pub IsLocalAt : Site → Fact → Type 0
IsLocalAt s f = (x : Local) × (f.row ≡ row.Loc s x)

-- a fact of some property of the node
abbrev pub IsFieldOf : NodeName → Fact → Type 0
IsFieldOf n f = (q : Column) × (f.row ≡ row.Field n q)

-- the first row of the group: the locals before one statement, or the properties of one node
abbrev pub first_row : Row → Row
first_row (row.Loc s x) = row.Loc s (record { 0 = 0 })
first_row (row.Cell v) = row.Cell v
first_row (row.Field n q) = row.Field n (record { 0 = 0 })
first_row (row.Newer n) = row.Newer n
first_row (row.Dep n) = row.Dep n
first_row (row.Known s) = row.Known s
first_row row.Exp = row.Exp
first_row (row.IsFunction f) = row.IsFunction f
first_row (row.IsShared b) = row.IsShared b

-- lists of facts under keys
abbrev pub Shelves : Type 0 → Type 0
Shelves K = BTreeMap K (Vec Fact Global)

-- what is on the shelf for the key
abbrev pub on_shelf : {K : Type 0} → (K → K → Ordering) → Shelves K → K → List Fact
on_shelf cmp shelves k = option_map_or (λ v. v.items) (get cmp shelves k) []

-- what is on the shelf for a key, with one more fact on one of the shelves
abbrev pub filed : {K : Type 0} → (K → K → Ordering) → Shelves K → K → Fact → K → List Fact
filed cmp shelves at f k = if eq_by_cmp cmp at k then on_shelf cmp shelves at ++ f ∷ [] else on_shelf cmp shelves k

-- the order of rows
abbrev pub row_cmp : Row → Row → Ordering
row_cmp = (row_order.ghosts).cmp

-- each fact is on the shelf for its key
abbrev pub IsFiled : (Fact → Row) → List Fact → Shelves Row → Type 0
IsFiled key facts shelves = (r : Row) → IsPart (λ f. key f ≡ r) facts (on_shelf row_cmp shelves r)

-- some facts, and then some of those to be added
pub data Adds (old wanted : List Fact) : List Fact → Type 0 where
  none : Adds old wanted old
  one : (facts : List Fact) (f : Fact) → Adds old wanted facts → Contains wanted f → Adds old wanted (facts ++ f ∷ [])
