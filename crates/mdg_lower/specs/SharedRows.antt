-- The rows of the globals and modules that drafts name, and of their members.
use Rattle.std.specs.Prelude.{ℕ, ◌+◌, Bool, true, false, ◌&&◌, List, [], ◌∷◌, ◌++◌, length, map, filter, find, Option, Some, None, is_some, is_none, if◌then◌else◌}
use Rattle.std.specs.List.{list_any, position}
use Rattle.std.specs.Str.{bytes_eq}
use Rattle.mdg_base.specs.declared.profile_word.Home.{Home}
use Rattle.mdg_base.specs.declared.profile_word.Home.TheVariants as home
use Rattle.mdg_base.specs.declared.profile_word.Kind.{Kind}
use Rattle.mdg_base.specs.declared.profile_word.Kind.TheVariants as kind
use Rattle.mdg_profile.specs.declared.entry.Entry.{Entry}
use Rattle.mdg_code.specs.declared.code.SharedRow.{SharedRow}
use Rattle.mdg_lower.specs.declared.draft.Draft.{Draft}
use Rattle.mdg_lower.specs.declared.draft.Draft.TheVariants as d
use Rattle.mdg_lower.specs.declared.draft.DraftLine.{DraftLine}
use Rattle.mdg_lower.specs.declared.shared.names.SharedName.{SharedName}

abbrev pub is_home : Home → Home → Bool
is_home home.Global home.Global = true
is_home home.Global home.Module = false
is_home home.Module home.Global = false
is_home home.Module home.Module = true

abbrev pub is_same : SharedName → SharedName → Bool
is_same one other = is_home one.home other.home && bytes_eq one.name other.name

-- them, and the base after them unless it is among them
abbrev pub add_shared_name : List SharedName → SharedName → List SharedName
add_shared_name bases base = if list_any (is_same base) bases then bases else bases ++ base ∷ []

-- them, and those of the other list that are not among them, each once
abbrev pub add_shared_names : List SharedName → List SharedName → List SharedName
add_shared_names bases [] = bases
add_shared_names bases (one ∷ rest) = add_shared_names (add_shared_name bases one) rest

-- the global or the module that a draft names
abbrev pub shared_name_in : Draft → List SharedName
shared_name_in (d.Complete statement) = []
shared_name_in (d.Get into of name) = []
shared_name_in (d.Set of name value) = []
shared_name_in (d.Shared into home name) = record { home = home; name = name } ∷ []
shared_name_in (d.Branch left right) = []

abbrev pub shared_names_of : List DraftLine → List SharedName
shared_names_of [] = []
shared_names_of (line ∷ lines) = shared_name_in line.draft ++ shared_names_of lines

-- the globals and modules that drafts name, each once, by their first draft
unfoldable pub shared_names_in : List DraftLine → List SharedName
shared_names_in lines = add_shared_names [] (shared_names_of lines)

-- the entry has the home and the name of the base
abbrev pub is_about : SharedName → Entry → Bool
is_about base entry = is_home base.home entry.home && bytes_eq base.name entry.name

-- the entry is that of the base itself
abbrev pub is_entry_of : SharedName → Entry → Bool
is_entry_of base entry = is_none entry.member && is_about base entry

-- the entry is that of a member of the base
abbrev pub is_member_of : SharedName → Entry → Bool
is_member_of base entry = is_some entry.member && is_about base entry

abbrev pub kind_by : Option Entry → Kind
kind_by None = kind.Active
kind_by (Some entry) = entry.kind

-- what a call of the base does; a name that the profile doesn't list may do anything
abbrev pub kind_of : List Entry → SharedName → Kind
kind_of entries base = kind_by (find (is_entry_of base) entries)

-- the row of a base, which has this number
abbrev pub base_row : List Entry → ℕ → SharedName → SharedRow
base_row entries number base = record {
  home = base.home;
  name = base.name;
  member = None;
  kind = kind_of entries base;
  base = record { 0 = number };
}

-- the row of a member of the base with this number
abbrev pub member_row : ℕ → Entry → SharedRow
member_row number entry = record {
  home = entry.home;
  name = entry.name;
  member = entry.member;
  kind = entry.kind;
  base = record { 0 = number };
}

-- the rows of the members of the base with this number, in the order of the entries
abbrev pub member_rows : ℕ → SharedName → List Entry → List SharedRow
member_rows number base entries = map (member_row number) (filter (is_member_of base) entries)

-- the row of the base with this number, and after it those of its members
abbrev pub base_rows : List Entry → ℕ → SharedName → List SharedRow
base_rows entries number base = base_row entries number base ∷ member_rows number base entries

-- the rows of bases and their members, numbered from this number on
abbrev pub rows_of : List Entry → ℕ → List SharedName → List SharedRow
rows_of entries number [] = []
rows_of entries number (base ∷ bases) =
    base_rows entries number base ++ rows_of entries (number + length (base_rows entries number base)) bases

-- the rows of the globals and modules that drafts name, each followed by its members
unfoldable pub shared_in : List Entry → List DraftLine → List SharedRow
shared_in entries lines = rows_of entries 0 (shared_names_in lines)

-- the row is that of the base itself
abbrev pub is_row_of : Home → List ℕ → SharedRow → Bool
is_row_of home name row = is_none row.member && (is_home home row.home && bytes_eq name row.name)

abbrev pub number_by : Option ℕ → ℕ
number_by None = 0
number_by (Some number) = number

-- the number of the row of the global or the module, or 0 where it has none
abbrev pub shared_number : List SharedRow → Home → List ℕ → ℕ
shared_number rows home name = number_by (position (is_row_of home name) rows)
