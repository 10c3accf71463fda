-- Whether any property assigns a name, one property at a time.
use Rattle.std.proofs.Common.{◌≡◌, ℕ, ◌+◌, ◌<◌, ◌||◌, true, false, List, ◌∷◌, length, get_or, drop, sym, ap, ◌∙◌}
use Rattle.std.specs.Prelude.{map}
use Rattle.mdg_tree.specs.declared.tree.Property.{Property}
use Rattle.mdg_lower.specs.Lookup.{Name}
use Rattle.mdg_lower.specs.Operands.{any_property_assigns}
use Rattle.mdg_lower.specs.Trees.{property_part, assigns_of}
use Rattle.mdg_lower.proofs.FormEquations.{property-operand}
use Rattle.mdg_lower.proofs.Drops.{drop_at}

from_one : (all : List Property) (i : ℕ) (one : Property) (name : Name) → i < length all → one ≡ get_or all i one
    → any_property_assigns (map property_part (drop i all)) name ≡ (assigns_of one.value name || any_property_assigns (map property_part (drop (i + 1) all)) name)
from_one all i one name h is =
    ap (λ l. any_property_assigns (map property_part l) name) (drop_at all i one h)
    ∙ ap (λ w. any_property_assigns (map property_part (w ∷ drop (i + 1) all)) name) (sym is)
    ∙ ap (λ w. w.assigns name || any_property_assigns (map property_part (drop (i + 1) all)) name) (property-operand one)

pub property_found : (all : List Property) (i : ℕ) (one : Property) (name : Name) → i < length all → one ≡ get_or all i one
    → assigns_of one.value name ≡ true → any_property_assigns (map property_part (drop i all)) name ≡ true
property_found all i one name h is e = from_one all i one name h is ∙ ap (λ b. b || any_property_assigns (map property_part (drop (i + 1) all)) name) e

pub property_passed : (all : List Property) (i : ℕ) (one : Property) (name : Name) → i < length all → one ≡ get_or all i one
    → assigns_of one.value name ≡ false → any_property_assigns (map property_part (drop i all)) name ≡ any_property_assigns (map property_part (drop (i + 1) all)) name
property_passed all i one name h is e = from_one all i one name h is ∙ ap (λ b. b || any_property_assigns (map property_part (drop (i + 1) all)) name) e
