-- Sets of facts, by name and by number.
use Rattle.std.specs.Prelude.{◌≡◌, ℕ, ◌==◌, ◌&&◌, Bool, false, IsTrue, Option, Some, None}
use Rattle.mdg_base.specs.declared.node_name.NodeName.{NodeName}
use Rattle.mdg_base.specs.BitSets.{is_member}
use Rattle.mdg_site.specs.declared.row.Row.{Row}
use Rattle.mdg_site.specs.Laid.{Laid}
use Rattle.mdg_site.specs.Nodes.{node_number}
use Rattle.mdg_site.specs.Rows.{row_number}

-- a set of facts: a test of a row and a node
abbrev pub FactSet : Type 0
FactSet = Row → NodeName → Bool

-- the node is in the row
abbrev pub In : FactSet → Row → NodeName → Type 0
In F row node = IsTrue (F row node)

-- both rows have a node
abbrev pub Meets : FactSet → Row → Row → Type 0
Meets F a b = (n : NodeName) × In F a n × In F b n

-- each fact of F is one of G
abbrev pub Less : FactSet → FactSet → Type 0
Less F G = (row : Row) (node : NodeName) → In F row node → In G row node

-- a set of facts by number: a test of a row's and a node's number
abbrev pub NumberSet : Type 0
NumberSet = ℕ → ℕ → Bool

abbrev pub Has : NumberSet → ℕ → ℕ → Type 0
Has F r n = IsTrue (F r n)

abbrev pub Within : NumberSet → NumberSet → Type 0
Within F G = (r n : ℕ) → Has F r n → Has G r n

abbrev pub Same : NumberSet → NumberSet → Type 0
Same F G = (r n : ℕ) → F r n ≡ G r n

abbrev pub at_numbers : NumberSet → Option ℕ → Option ℕ → Bool
at_numbers F (Some r) (Some n) = F r n
at_numbers F _ _ = false

-- facts by number, seen by name: what has no number is no fact
abbrev pub named : Laid → NumberSet → FactSet
named l F row node = at_numbers F (row_number l row) (node_number l node)

-- the bit of the word is 1
abbrev pub bit : ℕ → ℕ → Bool
bit word b = is_member word b
