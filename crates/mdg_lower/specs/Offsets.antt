-- Lists of offsets without repetition.
use Rattle.std.specs.Prelude.{ℕ, ◌==◌, Bool, List, [], ◌∷◌, ◌++◌, if◌then◌else◌, Option}
use Rattle.std.specs.List.{list_any, position}

abbrev pub has_offset : List ℕ → ℕ → Bool
has_offset offsets offset = list_any (λ other. offset == other) offsets

-- the number of the offset among them
abbrev pub place_of_offset : List ℕ → ℕ → Option ℕ
place_of_offset offsets offset = position (λ other. offset == other) offsets

-- them, and the offset after them unless it is among them
abbrev pub add_offset : List ℕ → ℕ → List ℕ
add_offset offsets offset = if has_offset offsets offset then offsets else offsets ++ offset ∷ []

-- them, and those of the other list that are not among them yet
abbrev pub add_offsets : List ℕ → List ℕ → List ℕ
add_offsets offsets [] = offsets
add_offsets offsets (one ∷ rest) = add_offsets (add_offset offsets one) rest
