-- Derivations, and the least set of facts that is closed under the rules.
use Rattle.std.specs.Prelude.{◌≡◌, ℕ, ◌==◌, ◌&&◌, ◌||◌, ◌↔◌, Bool, false, List, [], ◌∷◌, Some}
use Rattle.mdg_base.specs.declared.node_name.NodeName.{NodeName}
use Rattle.mdg_site.specs.declared.row.Row.{Row}
use Rattle.mdg_site.specs.Facts.{FactSet, Has, In, NumberSet, Same, Within, named}
use Rattle.mdg_site.specs.Laid.{Laid}
use Rattle.mdg_site.specs.Nodes.{IsNode, node_number}
use Rattle.mdg_site.specs.Rows.{IsRow, row_number}
use Rattle.mdg_site.specs.Rules.{Gives, GivesAt}

-- no facts
abbrev pub none : NumberSet
none r n = false

-- the facts of F and those of a list
abbrev pub along : NumberSet → List (ℕ × ℕ) → NumberSet
along F [] r n = F r n
along F (f ∷ fs) r n = (r == f.0 && n == f.1) || along F fs r n

-- a rule gives the fact of the row and the node that have these numbers
pub record GivesNumbers (l : Laid) (F : NumberSet) (r n : ℕ) : Type 0 where
  pub row : Row
  pub node : NodeName
  pub row_is : row_number l row ≡ Some r
  pub node_is : node_number l node ≡ Some n
  pub given : Gives l (named l F) row node

-- a derivation from F on, the newest fact first: each fact is given by F and the facts before it
abbrev pub DerivesFrom : Laid → NumberSet → List (ℕ × ℕ) → Type 0
DerivesFrom l F [] = Unit {0}
DerivesFrom l F (f ∷ fs) = GivesNumbers l (along F fs) f.0 f.1 × DerivesFrom l F fs

-- G is F and then facts that the rules give, each from those before it
pub record Extends (l : Laid) (F G : NumberSet) : Type 0 where
  pub steps : List (ℕ × ℕ)
  pub derived : DerivesFrom l F steps
  pub exact : Same (along F steps) G

-- the facts are exactly those of some derivation from nothing
abbrev pub Grown : Laid → NumberSet → Type 0
Grown l F = Extends l none F

-- the fact is one of the graph: it stands in some derivation from nothing
pub record InGraph (l : Laid) (r n : ℕ) : Type 0 where
  pub steps : List (ℕ × ℕ)
  pub derived : DerivesFrom l none steps
  pub stands : Has (along none steps) r n

-- the facts are exactly those of the graph
abbrev pub IsGraph : Laid → NumberSet → Type 0
IsGraph l F = (r n : ℕ) → Has F r n ↔ InGraph l r n

-- each of the facts is one of the graph
abbrev pub IsWithinGraph : Laid → NumberSet → Type 0
IsWithinGraph l F = (r n : ℕ) → Has F r n → InGraph l r n

-- each fact that the rules give is there, where its row and its node are
abbrev pub IsClosed : Laid → FactSet → Type 0
IsClosed l F = (row : Row) (node : NodeName) → Gives l F row node → IsRow l row → IsNode l node → In F row node

-- the same of the rules of one site
abbrev pub IsClosedAt : Laid → ℕ → FactSet → Type 0
IsClosedAt l s F = (row : Row) (node : NodeName) → GivesAt l s F row node → IsRow l row → IsNode l node → In F row node

-- the same of a set by number
abbrev pub IsClosedByNumber : Laid → NumberSet → Type 0
IsClosedByNumber l F = (r n : ℕ) → GivesNumbers l F r n → Has F r n
