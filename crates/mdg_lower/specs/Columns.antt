-- Which property names have a column, and which column that is.
use Rattle.std.specs.Prelude.{ℕ, ◌==◌, nat_le, Bool, false, ◌&&◌, ◌||◌, not, List, [], ◌∷◌, ◌++◌, length, filter, Option, Some, None, if◌then◌else◌}
use Rattle.std.specs.Char.{is_ascii_digit}
use Rattle.std.specs.List.{list_all}
use Rattle.mdg_scope.specs.Names.{add_name, place_of}
use Rattle.mdg_lower.specs.declared.draft.Draft.{Draft}
use Rattle.mdg_lower.specs.declared.draft.Draft.TheVariants as d
use Rattle.mdg_lower.specs.declared.draft.DraftLine.{DraftLine}

abbrev pub are_digits : List ℕ → Bool
are_digits bytes = list_all is_ascii_digit bytes

-- a plain numeral: `0`, or a digit from 1 on and then at most 14 digits
abbrev pub is_plain : List ℕ → Bool
is_plain [] = false
is_plain (first ∷ rest) =
    if first == 48 then length rest == 0
    else is_ascii_digit first && (nat_le (length rest) 14 && are_digits rest)

-- a plain numeral up to 15: one digit, or `1` and then a digit up to 5
abbrev pub is_small : List ℕ → Bool
is_small [] = false
is_small (first ∷ []) = is_ascii_digit first
is_small (first ∷ second ∷ []) = (first == 49) && (is_ascii_digit second && nat_le second 53)
is_small (first ∷ second ∷ third ∷ rest) = false

-- The name has a column: it is no plain numeral above 15.
abbrev pub is_listed : List ℕ → Bool
is_listed name = not (is_plain name) || is_small name

-- the property name of a draft
abbrev pub name_in : Draft → List (List ℕ)
name_in (d.Complete statement) = []
name_in (d.Get into of name) = name ∷ []
name_in (d.Set of name value) = name ∷ []
name_in (d.Shared into home name) = []
name_in (d.Branch left right) = []

-- the property names of drafts
abbrev pub names_in : List DraftLine → List (List ℕ)
names_in [] = []
names_in (line ∷ lines) = name_in line.draft ++ names_in lines

-- them, and those of the other list that are not among them, each once
abbrev pub add_names : List (List ℕ) → List (List ℕ) → List (List ℕ)
add_names names [] = names
add_names names (one ∷ rest) = add_names (add_name names one) rest

-- the property names of drafts that have a column, each once, by their first draft
unfoldable pub columns_in : List DraftLine → List (List ℕ)
columns_in lines = add_names [] (filter is_listed (names_in lines))

abbrev pub column_by : List (List ℕ) → Option ℕ → ℕ
column_by columns None = length columns
column_by columns (Some column) = column

-- the column of the name, or the number after the last column where it has none
abbrev pub column_of : List (List ℕ) → List ℕ → ℕ
column_of columns name = column_by columns (place_of columns name)
