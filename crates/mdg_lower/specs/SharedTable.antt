-- Serves only the proofs: which numbers the code's table of globals and modules gives.
use Rattle.std.specs.Prelude.{◌≡◌, ℕ, List, Option, Some, None, if◌then◌else◌, position}
use Rattle.std.specs.Borrow.{Bor}
use Rattle.std.specs.Str.{bytes_eq}
use Rattle.indexmap.specs.IndexMap.{IndexMap, get_by}
use Rattle.mdg_base.specs.declared.number.SharedId.{SharedId}
use Rattle.mdg_base.specs.declared.profile_word.Home.{Home}
use Rattle.mdg_base.specs.declared.profile_word.Home.TheVariants as home
use Rattle.mdg_code.specs.declared.code.SharedRow.{SharedRow}
use Rattle.mdg_lower.specs.declared.shared.table.SharedTable.{SharedTable}
use Rattle.mdg_lower.specs.SharedRows.{is_row_of}

-- the number that a name has
abbrev pub number_at : {S : Type 0} → IndexMap (Bor (List ℕ)) SharedId S → List ℕ → Option SharedId
number_at numbers name = get_by (λ key. bytes_eq name key.now) numbers

-- the number, or 0 where there is none
abbrev pub or_zero : Option SharedId → SharedId
or_zero None = record { 0 = 0 }
or_zero (Some number) = number

-- the first, or else the second
abbrev pub else_number : Option SharedId → Option SharedId → Option SharedId
else_number None other = other
else_number (Some number) other = Some number

-- the number, where the name is the other
abbrev pub number_if : List ℕ → List ℕ → SharedId → Option SharedId
number_if asked name number = if bytes_eq asked name then Some number else None

-- the number that the table gives a global or a module
abbrev pub found : Home → SharedTable → List ℕ → Option SharedId
found home.Global table name = number_at table.globals name
found home.Module table name = number_at table.modules name

abbrev pub shared_at : Option ℕ → Option SharedId
shared_at None = None
shared_at (Some number) = Some (record { 0 = number })

-- the table gives each global and each module the number of its row, where it has one
abbrev pub IsTableOf : List SharedRow → SharedTable → Type 0
IsTableOf rows table =
    (home : Home) (name : Bor (List ℕ)) → found home table name.now ≡ shared_at
    (position (is_row_of home name.now) rows)
