-- The language of rules, and which facts a rule gives.
use Rattle.std.specs.Prelude.{◌≡◌, ℕ, ◌<◌, Bool, IsTrue, ◌⊎◌, Option, Some, None}
use Rattle.mdg_base.specs.declared.node_name.NodeName.{NodeName}
use Rattle.mdg_site.specs.declared.row.Row.{Row}
use Rattle.mdg_site.specs.Facts.{FactSet, In, Meets}

-- a condition. None asks that a fact is absent.
pub data Test : Type 0 where
  -- both rows have a node
  meeting : Row → Row → Test
  -- the node is in the row
  standing : Row → NodeName → Test
  -- what the code says
  static : Bool → Test
  either : Test → Test → Test
  also : Test → Test → Test
  -- for some number below the bound
  some : ℕ → (ℕ → Test) → Test

-- the condition holds of the facts
abbrev pub Met : Test → FactSet → Type 0
Met (meeting a b) F = Meets F a b
Met (standing a n) F = In F a n
Met (static b) F = IsTrue b
Met (either s t) F = Met s F ⊎ Met t F
Met (also s t) F = Met s F × Met t F
Met (some k f) F = (i : ℕ) × (i < k) × Met (f i) F

pub data Rule : Type 0 where
  nothing : Rule
  -- the node into the row
  puts : Row → NodeName → Rule
  -- each node of the first row into the second
  flow : Row → Row → Rule
  -- for each node of the row
  each : Row → (NodeName → Rule) → Rule
  -- for each number below the bound
  upto : ℕ → (ℕ → Rule) → Rule
  -- for each row
  rows : (Row → Rule) → Rule
  -- where the condition holds
  under : Test → Rule → Rule
  both : Rule → Rule → Rule

-- from these facts, the rule gives that the node is in the row
abbrev pub gives : Rule → FactSet → Row → NodeName → Type 0
gives nothing F row node = ⊥
gives (puts a n) F row node = (row ≡ a) × (node ≡ n)
gives (flow a b) F row node = (row ≡ b) × In F a node
gives (each a f) F row node = (n : NodeName) × In F a n × gives (f n) F row node
gives (upto k f) F row node = (i : ℕ) × (i < k) × gives (f i) F row node
gives (rows f) F row node = (r : Row) × gives (f r) F row node
gives (under t p) F row node = Met t F × gives p F row node
gives (both p q) F row node = gives p F row node ⊎ gives q F row node

-- where there is such a thing
abbrev pub for_some : {X : Type 0} → Option X → (X → Rule) → Rule
for_some None f = nothing
for_some (Some x) f = f x
