-- When the entries of a profile speak of distinct names.
use Rattle.std.specs.Prelude.{◌≡◌, List, AllPairs}
use Rattle.mdg_profile.specs.declared.entry.Entry.{Entry}
use Rattle.mdg_profile.specs.declared.entry.Profile.{Profile}

-- the entries speak of the same name
pub record SameName (one other : Entry) : Type 0 where
  pub home : one.home ≡ other.home
  pub name : one.name ≡ other.name
  pub member : one.member ≡ other.member

-- no entry speaks of the name that an earlier one speaks of
abbrev pub AreDistinct : List Entry → Type 0
AreDistinct entries = AllPairs (λ one other. ¬ SameName one other) entries

-- the profile has at most one entry of each home, name and member
abbrev pub HasDistinctEntries : Profile → Type 0
HasDistinctEntries profile = AreDistinct profile.entries
