-- How a search along edges goes on. It serves the proof of the flows alone.
use Rattle.std.specs.Prelude.{List, [], ◌∷◌, ◌++◌, Contains}
use Rattle.mdg_base.specs.declared.node_name.NodeName.{NodeName}
use Rattle.mdg_scan.specs.declared.first.reach.Edge.{Edge}
use Rattle.mdg_scan.specs.Walks.{Leads}

-- the later nodes are the earlier ones, and then nodes to which an edge leads from one before
pub data Spreads (edges : List Edge) (old : List NodeName) : List NodeName → Type 0 where
  same : Spreads edges old old
  more : (found : List NodeName) (n m : NodeName) → Spreads edges old found → Contains found n → Leads edges n m → Spreads edges old (found ++ m ∷ [])

-- what an edge leads to from one of the earlier nodes is among the later ones
abbrev pub Follows : List NodeName → List NodeName → Edge → Type 0
Follows old new edge = Contains old edge.from → Contains new edge.to
