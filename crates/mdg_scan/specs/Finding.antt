-- How lists of what was found grow. It serves the proof of the flows alone.
use Rattle.std.specs.Prelude.{◌≡◌, ◌⊎◌, ◌↔◌, ℕ, ◌<◌, List, Contains, slice_get, Option, Some, None}
use Rattle.std.specs.List.{filter_map}
use Rattle.mdg_base.specs.declared.node_name.NodeName.{NodeName}
use Rattle.mdg_base.specs.declared.node_name.NodeName.TheVariants.{Src, Shared, Site, Ext, Caller}
use Rattle.mdg_base.specs.declared.number.SharedId.{SharedId}
use Rattle.mdg_base.specs.declared.number.Site.{Site as SiteId}
use Rattle.mdg_scan.specs.declared.first.fact.Fact.{Fact}
use Rattle.mdg_scan.specs.declared.first.fact.Row.{Row}
use Rattle.mdg_scan.specs.declared.first.fact.Row.TheVariants as row
use Rattle.mdg_scan.specs.declared.first.flow.Flow.{Flow}
use Rattle.mdg_scan.specs.declared.first.reach.Edge.{Edge}

-- what this holds of was added, and nothing else
unfoldable pub Adds : {X : Type 0} → (X → Type 0) → List X → List X → Type 0
Adds {X} P old new = (x : X) → Contains new x ↔ (Contains old x ⊎ P x)

-- what some item before the place, with its number, gives
abbrev pub Before : {X Y : Type 0} → (ℕ → Y → X → Type 0) → List Y → ℕ → X → Type 0
Before {X} {Y} P ys end x = (k : ℕ) × (y : Y) × (k < end) × (slice_get ys k ≡ Some y) × P k y x

-- what some item, with its number, gives
abbrev pub Somewhere : {X Y : Type 0} → (ℕ → Y → X → Type 0) → List Y → X → Type 0
Somewhere {X} {Y} P ys x = (k : ℕ) × (y : Y) × (slice_get ys k ≡ Some y) × P k y x

-- the edge from the node whose property this is
abbrev pub property_edge_of : Row → NodeName → Option Edge
property_edge_of (row.Loc s x) m = None
property_edge_of (row.Cell v) m = None
property_edge_of (row.Field n q) m = Some (record { from = n; to = m })
property_edge_of (row.Newer n) m = None
property_edge_of (row.Dep n) m = None
property_edge_of (row.Known s) m = None
property_edge_of row.Exp m = None
property_edge_of (row.IsFunction f) m = None
property_edge_of (row.IsShared b) m = None

abbrev pub property_edge : Fact → Option Edge
property_edge fact = property_edge_of fact.row fact.node

-- the edge of a path, turned: from the version or the computed node back
abbrev pub turned_edge_of : Row → NodeName → Option Edge
turned_edge_of (row.Loc s x) m = None
turned_edge_of (row.Cell v) m = None
turned_edge_of (row.Field n q) m = None
turned_edge_of (row.Newer n) m = Some (record { from = m; to = n })
turned_edge_of (row.Dep n) m = Some (record { from = m; to = n })
turned_edge_of (row.Known s) m = None
turned_edge_of row.Exp m = None
turned_edge_of (row.IsFunction f) m = None
turned_edge_of (row.IsShared b) m = None

abbrev pub turned_edge : Fact → Option Edge
turned_edge fact = turned_edge_of fact.row fact.node

-- these edges are those of the facts
pub record HasEdges (facts : List Fact) (property turned : List Edge) : Type 0 where
  pub properties : property ≡ filter_map property_edge facts
  pub paths : turned ≡ filter_map turned_edge facts

-- the flow into this argument of this call from the node, if the node is a parameter's
abbrev pub flow_from : SiteId → SharedId → ℕ → NodeName → Option Flow
flow_from call sink argument (Src function parameter) =
    Some (record { call = call; sink = sink; argument = argument; function = function; parameter = parameter })
flow_from call sink argument (Shared b) = None
flow_from call sink argument (Site s) = None
flow_from call sink argument (Ext s) = None
flow_from call sink argument Caller = None
