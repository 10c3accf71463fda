-- Walks along edges between nodes.
use Rattle.std.specs.Prelude.{List, Contains}
use Rattle.mdg_base.specs.declared.node_name.NodeName.{NodeName}
use Rattle.mdg_scan.specs.declared.first.reach.Edge.{Edge}

-- a walk of no edge or more
pub data Walk (IsEdge : NodeName → NodeName → Type 0) (start : NodeName) : NodeName → Type 0 where
  here : Walk IsEdge start start
  along : {n m : NodeName} → Walk IsEdge start n → IsEdge n m → Walk IsEdge start m

-- one of the listed edges leads from the one node to the other
abbrev pub Leads : List Edge → NodeName → NodeName → Type 0
Leads edges n m = Contains edges (record { from = n; to = m })

-- a walk leads there from one of these nodes
abbrev pub IsReached : (NodeName → NodeName → Type 0) → List NodeName → NodeName → Type 0
IsReached IsEdge starts n = (start : NodeName) × Contains starts start × Walk IsEdge start n
