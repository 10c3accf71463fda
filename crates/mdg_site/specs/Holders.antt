-- What a holder of facts tells, and what its calls may do.
use Rattle.std.specs.Prelude.{◌≡◌, ℕ, ◌<◌, ◌≤◌, Bool, true, false, IsTrue, ◌⊎◌, ◌↔◌, Option, Some, None}
use Rattle.mdg_base.specs.declared.node_name.NodeName.{NodeName}
use Rattle.mdg_site.specs.declared.row.Row.{Row}
use Rattle.mdg_site.specs.Carries.{Carries, CarriesAt}
use Rattle.mdg_site.specs.Facts.{FactSet, Has, NumberSet, Within, named}
use Rattle.mdg_site.specs.Laid.{Laid}
use Rattle.mdg_site.specs.Nodes.{node_count, node_number}
use Rattle.mdg_site.specs.Rows.{row_count, row_number}
use Rattle.mdg_site.specs.Rules.{Gives, GivesAt}

pub record Holder : Type 0 where
  pub layout : Laid
  pub facts : NumberSet
  -- rises where the holder found a fact to be new
  pub news : ℕ
  -- it keeps what is added
  pub keeps : Bool
  -- the one site whose rules may add to it. Where there is none, those of each site may.
  pub site : Option ℕ

-- what was added is there: the holder keeps, or nothing was new
abbrev pub IsFirm : Holder → Type 0
IsFirm h = (h.keeps ≡ true) ⊎ (h.news ≡ 0)

-- the facts by name
abbrev pub known : Holder → FactSet
known h = named h.layout h.facts

abbrev pub GivesFor : Laid → Option ℕ → FactSet → Row → NodeName → Type 0
GivesFor l None F row node = Gives l F row node
GivesFor l (Some s) F row node = GivesAt l s F row node

abbrev pub CarriesFor : Laid → Option ℕ → NumberSet → Row → Row → Type 0
CarriesFor l None F source goal = Carries l F source goal
CarriesFor l (Some s) F source goal = CarriesAt l s F source goal

-- the rules that may add to the holder give the fact that has these numbers
pub record MayAdd (h : Holder) (r n : ℕ) : Type 0 where
  pub row : Row
  pub node : NodeName
  pub row_is : row_number h.layout row ≡ Some r
  pub node_is : node_number h.layout node ≡ Some n
  pub given : GivesFor h.layout h.site (named h.layout h.facts) row node

-- they carry the row that has the first number into the one that has the second
pub record MayJoin (h : Holder) (a b : ℕ) : Type 0 where
  pub source : Row
  pub goal : Row
  pub source_is : row_number h.layout source ≡ Some a
  pub goal_is : row_number h.layout goal ≡ Some b
  pub given : CarriesFor h.layout h.site h.facts source goal

-- the rules of the site s may add to the holder
abbrev pub Serves : Option ℕ → ℕ → Type 0
Serves None s = Unit {0}
Serves (Some t) s = t ≡ s

-- from one state of a holder to a later one
pub record Goes (old new : Holder) : Type 0 where
  pub layout : new.layout ≡ old.layout
  pub keeps : new.keeps ≡ old.keeps
  pub site : new.site ≡ old.site
  -- no fact is lost
  pub kept : Within old.facts new.facts
  pub later : old.news ≤ new.news
  -- a holder that keeps and found something new has a larger set
  pub larger : old.keeps ≡ true → old.news < new.news → (r : ℕ) × (n : ℕ) × (old.facts r n ≡ false) × Has new.facts r n

-- the same, and the answer tells whether something was new
pub record Answers (old new : Holder) (answer : Bool) : Type 0 where
  pub goes : Goes old new
  pub tells : IsTrue answer ↔ (old.news < new.news)

-- a look finds nothing new
pub record Looks (old new : Holder) : Type 0 where
  pub goes : Goes old new
  pub still : new.news ≡ old.news

-- each node of the first row as it was is in the second
abbrev pub Flowed : Holder → Holder → ℕ → ℕ → Type 0
Flowed old new a b = IsFirm new → (n : ℕ) → Has old.facts a n → Has new.facts b n

-- each fact names a row and a node of the layout
abbrev pub IsRanged : Holder → Type 0
IsRanged h = (r n : ℕ) → Has h.facts r n → (r < row_count h.layout) × (n < node_count h.layout)
