-- What the calls of the reader of profiles answer.
use Rattle.std.specs.Prelude.{ℕ, ◌≡◌, List, codes, length, Option, Some, None, option_and_then, Result, Ok, Err, slice_get}
use Rattle.std.specs.List.{AllZip}
use Rattle.mdg_profile.specs.declared.entry.Entry.{Entry}
use Rattle.mdg_profile.specs.declared.refusal.ProfileRefusal.{ProfileRefusal}
use Rattle.mdg_profile.specs.declared.refusal.ProfileRefusal.TheVariants.{NotJson, NotProfile, BadMember, RepeatedName, NoMemory}
use Rattle.mdg_profile.specs.Distinct.{SameName}
use Rattle.mdg_profile.specs.Entries.{IsEntry}
use Rattle.mdg_profile.specs.Format.{IsJson, IsListing, BreaksAt, RepeatsAt, IsFirst}
use Rattle.mdg_profile.specs.Members.{natural}
use Rattle.serde_json.specs.Data.{Data}
use Rattle.serde_json.specs.Find.{get}
use Rattle.serde_json.specs.View.{view}
use Rattle.serde_json.specs.declared.value.Value.{Value}

-- the value of the bytes
abbrev pub ValueCause : List ℕ → Result Value ProfileRefusal → Type 0
ValueCause bytes (Ok value) = IsJson bytes (view value)
ValueCause bytes (Err NotJson) = (value : Data) → IsJson bytes value → ⊥
ValueCause bytes (Err NotProfile) = ⊥
ValueCause bytes (Err (BadMember index)) = ⊥
ValueCause bytes (Err (RepeatedName index)) = ⊥
ValueCause bytes (Err NoMemory) = Unit {0}

-- its member `version` is the number 1
abbrev pub HasVersion : Data → Type 0
HasVersion value = option_and_then natural (get (codes "version") value) ≡ Some 1

-- the values that it lists
abbrev pub ListingCause : Data → Option (List Data) → Type 0
ListingCause value None = (items : List Data) → IsListing value items → ⊥
ListingCause value (Some items) = IsListing value items

-- an entry of the list has the name
pub record IsListed (entries : List Entry) (entry : Entry) : Type 0 where
  pub index : ℕ
  pub other : Entry
  pub at : slice_get entries index ≡ Some other
  pub same : SameName other entry

-- the entries that the values are
abbrev pub EntriesCause : List Data → Result (List Entry) ProfileRefusal → Type 0
EntriesCause items (Ok entries) = AllZip IsEntry items entries × IsFirst items (length items)
EntriesCause items (Err NotJson) = ⊥
EntriesCause items (Err NotProfile) = ⊥
EntriesCause items (Err (BadMember index)) = BreaksAt items index × IsFirst items index
EntriesCause items (Err (RepeatedName index)) = RepeatsAt items index × IsFirst items index
EntriesCause items (Err NoMemory) = Unit {0}
