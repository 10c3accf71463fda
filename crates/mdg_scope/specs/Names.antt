-- Lists of names without repetition.
use Rattle.std.specs.Prelude.{ℕ, ◌==◌, Bool, ◌&&◌, List, [], ◌∷◌, ◌++◌, if◌then◌else◌, Option}
use Rattle.std.specs.List.{list_any, position}
use Rattle.std.specs.Str.{bytes_eq}

-- the name is among them
abbrev pub has_name : List (List ℕ) → List ℕ → Bool
has_name names name = list_any (bytes_eq name) names

-- the number of the name among them
abbrev pub place_of : List (List ℕ) → List ℕ → Option ℕ
place_of names name = position (bytes_eq name) names

-- them, and the name after them unless it is among them
abbrev pub add_name : List (List ℕ) → List ℕ → List (List ℕ)
add_name names name = if has_name names name then names else names ++ name ∷ []

-- a name in a function
abbrev pub ScopedName : Type 0
ScopedName = ℕ × List ℕ

abbrev pub same_named : ScopedName → ScopedName → Bool
same_named one other = (one.0 == other.0) && bytes_eq one.1 other.1

abbrev pub has_named : List ScopedName → ScopedName → Bool
has_named names one = list_any (same_named one) names

abbrev pub add_named : List ScopedName → ScopedName → List ScopedName
add_named names one = if has_named names one then names else names ++ one ∷ []
