-- What holds of all layouts.
use Rattle.std.specs.Prelude.{◌≡◌, ℕ, ◌%◌, ◌<◌, Some}
use Rattle.mdg_base.specs.declared.node_name.NodeName.{NodeName}
use Rattle.mdg_site.specs.declared.row.Row.{Row}
use Rattle.mdg_site.specs.Facts.{FactSet, Has, Less, NumberSet, Within, named}
use Rattle.mdg_site.specs.Graph.{GivesNumbers, IsClosed, IsGraph}
use Rattle.mdg_site.specs.Laid.{Laid}
use Rattle.mdg_site.specs.Nodes.{node_count, node_number}
use Rattle.mdg_site.specs.Rows.{row_count, row_number, word_count, word_index}
use Rattle.mdg_site.specs.Rule.{Rule, gives}
use Rattle.mdg_site.specs.Rules.{Gives, GivesAt}

pub record AreNodesNumbered (l : Laid) : Type 0 where
  -- no two nodes have one number
  pub one_node : (x y : NodeName) (n : ℕ) → node_number l x ≡ Some n → node_number l y ≡ Some n → x ≡ y
  -- each number is below the count
  pub below_count : (x : NodeName) (n : ℕ) → node_number l x ≡ Some n → n < node_count l
  -- and each number below the count is that of a node
  pub each_taken : (n : ℕ) → n < node_count l → (x : NodeName) × (node_number l x ≡ Some n)

pub record AreRowsNumbered (l : Laid) : Type 0 where
  -- no two rows have one number
  pub one_row : (x y : Row) (r : ℕ) → row_number l x ≡ Some r → row_number l y ≡ Some r → x ≡ y
  -- each number is below the count
  pub below_count : (x : Row) (r : ℕ) → row_number l x ≡ Some r → r < row_count l
  -- and each number below the count is that of a row
  pub each_taken : (r : ℕ) → r < row_count l → (x : Row) × (row_number l x ≡ Some r)

abbrev pub NodesHaveNumbers : Type 0
NodesHaveNumbers = (l : Laid) → AreNodesNumbered l

abbrev pub RowsHaveNumbers : Type 0
RowsHaveNumbers = (l : Laid) → AreRowsNumbered l

-- what a rule gives from some facts, it gives from more facts: no rule asks that a fact is absent
abbrev pub DoRulesGrow : Type 0
DoRulesGrow = (p : Rule) (F G : FactSet) → Less F G → (row : Row) (node : NodeName) → gives p F row node → gives p G row node

-- the same of all rules of a site
abbrev pub DoSitesGrow : Type 0
DoSitesGrow = (l : Laid) (s : ℕ) (F G : FactSet) → Less F G → (row : Row) (node : NodeName) → GivesAt l s F row node → GivesAt l s G row node

pub record IsGraphOf (l : Laid) (F : NumberSet) : Type 0 where
  -- each fact that the rules give from the graph is one of it
  pub closed : IsClosed l (named l F)
  -- and it has no other facts than each closed set has
  pub least : (G : NumberSet) → IsClosed l (named l G) → Within F G
  -- each of its facts is given by a rule from facts of it
  pub given : (r n : ℕ) → Has F r n → GivesNumbers l F r n

abbrev pub IsLeastGraph : Type 0
IsLeastGraph = (l : Laid) (F : NumberSet) → IsGraph l F → IsGraphOf l F

pub record HasOneBit (l : Laid) : Type 0 where
  -- the bit of a fact is one of the words of all rows
  pub within : (r n : ℕ) → r < row_count l → n < node_count l → word_index l r n < word_count l
  -- two facts with one bit of one word are one fact
  pub apart : (r s n m : ℕ) → n < node_count l → m < node_count l → word_index l r n ≡ word_index l s m
      → n % 64 ≡ m % 64 → (r ≡ s) × (n ≡ m)

abbrev pub FactsHaveBits : Type 0
FactsHaveBits = (l : Laid) → HasOneBit l
