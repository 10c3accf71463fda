-- The least graph of a file's code.
use Rattle.std.specs.Prelude.{List, [], ◌∷◌, ◌++◌, Contains, ◌↔◌}
use Rattle.mdg_scan.specs.declared.first.code.Code.{Code}
use Rattle.mdg_scan.specs.declared.first.fact.Fact.{Fact}
use Rattle.mdg_scan.specs.declared.first.rule.Rule.{Rule}
use Rattle.mdg_scan.specs.Rules.{RuleGives}
use Rattle.mdg_scan.specs.Table.{rules_of}

-- one of the rules gives the fact from these facts
pub record GivenBy (rules : List Rule) (facts : List Fact) (f : Fact) : Type 0 where
  pub rule : Rule
  pub listed : Contains rules rule
  pub gives : RuleGives rule facts f

-- the later facts are the earlier ones and then facts that the rules give, each from those before it
pub data Led (rules : List Rule) (old : List Fact) : List Fact → Type 0 where
  same : Led rules old old
  more : (facts : List Fact) (f : Fact) → Led rules old facts → GivenBy rules facts f → Led rules old (facts ++ f ∷ [])

-- a rule of the code gives the fact from these facts
abbrev pub Gives : Code → List Fact → Fact → Type 0
Gives code = GivenBy (rules_of code)

-- each of the facts is given by those before it
abbrev pub IsDerivation : Code → List Fact → Type 0
IsDerivation code = Led (rules_of code) []

-- the fact stands in some derivation
abbrev pub InGraph : Code → Fact → Type 0
InGraph code f = (facts : List Fact) × IsDerivation code facts × Contains facts f

-- these are exactly the facts of the graph
abbrev pub IsGraph : Code → List Fact → Type 0
IsGraph code facts = (f : Fact) → Contains facts f ↔ InGraph code f
