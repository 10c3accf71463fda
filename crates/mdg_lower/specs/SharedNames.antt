-- Serves only the proofs: what the code's sets of seen names hold, by home.
use Rattle.std.specs.Prelude.{ℕ, List, [], ◌∷◌, if◌then◌else◌}
use Rattle.mdg_base.specs.declared.profile_word.Home.{Home}
use Rattle.mdg_base.specs.declared.profile_word.Home.TheVariants as home
use Rattle.mdg_scope.specs.Names.{add_name}
use Rattle.mdg_lower.specs.declared.shared.names.SharedNames.{SharedNames}
use Rattle.mdg_lower.specs.declared.shared.names.SharedName.{SharedName}
use Rattle.mdg_lower.specs.SharedRows.{is_home}

-- the names of the home
abbrev pub names_at : Home → SharedNames → List (List ℕ)
names_at home.Global seen = seen.globals
names_at home.Module seen = seen.modules

-- them, and the name among those of the home
abbrev pub with_name : Home → SharedNames → List ℕ → SharedNames
with_name home.Global seen name = record { globals = add_name seen.globals name; modules = seen.modules }
with_name home.Module seen name = record { globals = seen.globals; modules = add_name seen.modules name }

-- the names of the bases with that home
abbrev pub names_of : Home → List SharedName → List (List ℕ)
names_of home [] = []
names_of home (base ∷ bases) = if is_home home base.home then base.name ∷ names_of home bases else names_of home bases

-- what was seen of these bases
abbrev pub seen_in : List SharedName → SharedNames
seen_in bases = record { globals = names_of home.Global bases; modules = names_of home.Module bases }
