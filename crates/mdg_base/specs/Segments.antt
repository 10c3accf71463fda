-- Paths from the folder of a package, as lists of segments.
use Rattle.std.specs.Prelude.{ℕ, ◌-◌, Bool, true, not, ◌==◌, ◌&&◌, ◌||◌, if◌then◌else◌, List, [], ◌∷◌, ◌++◌, length, take, codes}
use Rattle.std.specs.Str.{bytes_eq}

-- before the first segment
abbrev pub onto_first : ℕ → List (List ℕ) → List (List ℕ)
onto_first c [] = (c ∷ []) ∷ []
onto_first c (segment ∷ others) = (c ∷ segment) ∷ others

-- what stands between the slashes of a text, also where that is nothing
unfoldable pub segments : List ℕ → List (List ℕ)
segments [] = [] ∷ []
segments (c ∷ cs) = if c == 47 then [] ∷ segments cs else onto_first c (segments cs)

-- it names the folder where it stands
abbrev pub is_here : List ℕ → Bool
is_here segment = length segment == 0 || bytes_eq segment (codes ".")

-- it names the folder above
abbrev pub is_up : List ℕ → Bool
is_up segment = bytes_eq segment (codes "..")

abbrev pub all_but_last : List (List ℕ) → List (List ℕ)
all_but_last place = take (length place - 1) place

-- one segment on from a place; above the package's folder there is nothing
unfoldable pub entered : List (List ℕ) → List ℕ → List (List ℕ)
entered place segment =
    if is_here segment then place
    else (if is_up segment then all_but_last place else place ++ segment ∷ [])

-- along the segments in their order
unfoldable pub followed : List (List ℕ) → List (List ℕ) → List (List ℕ)
followed place [] = place
followed place (segment ∷ others) = followed (entered place segment) others

-- the package's folder
abbrev pub is_root : List (List ℕ) → Bool
is_root place = length place == 0

-- none of the segments leads out of the package's folder
unfoldable pub stays : List (List ℕ) → List (List ℕ) → Bool
stays place [] = true
stays place (segment ∷ others) = not (is_up segment && is_root place) && stays (entered place segment) others

-- the folder in which the file with this path stands
unfoldable pub folder_of : List ℕ → List (List ℕ)
folder_of path = all_but_last (followed [] (segments path))
