-- Which rows the rules carry into which, as a join of the rows wants it.
use Rattle.std.specs.Prelude.{ℕ}
use Rattle.mdg_base.specs.declared.node_name.NodeName.{NodeName}
use Rattle.mdg_site.specs.declared.row.Row.{Row}
use Rattle.mdg_site.specs.Facts.{In, NumberSet, Within, named}
use Rattle.mdg_site.specs.Laid.{Laid}
use Rattle.mdg_site.specs.Rules.{Gives, GivesAt}

-- from each set that has the facts of F, the rules of the site give each node of the first row into the second
abbrev pub CarriesAt : Laid → ℕ → NumberSet → Row → Row → Type 0
CarriesAt l s F source goal = (G : NumberSet) → Within F G → (node : NodeName) → In (named l G) source node → GivesAt l s (named l G) goal node

-- the rules of any site do
abbrev pub Carries : Laid → NumberSet → Row → Row → Type 0
Carries l F source goal = (G : NumberSet) → Within F G → (node : NodeName) → In (named l G) source node → Gives l (named l G) goal node
