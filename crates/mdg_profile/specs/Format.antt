-- Which bytes are which profile, and why others are none.
use Rattle.std.specs.Prelude.{ℕ, ◌≡◌, ◌<◌, ◌⊎◌, true, List, [], ◌∷◌, codes, length, Some, option_and_then, Result, Ok, Err, slice_get}
use Rattle.std.specs.List.{AllZip}
use Rattle.std.specs.Str.{IsUtf8}
use Rattle.mdg_base.specs.Memory.{IsUnlessMemory}
use Rattle.mdg_profile.specs.declared.entry.Entry.{Entry}
use Rattle.mdg_profile.specs.declared.entry.Profile.{Profile}
use Rattle.mdg_profile.specs.declared.refusal.ProfileRefusal.{ProfileRefusal}
use Rattle.mdg_profile.specs.declared.refusal.ProfileRefusal.TheVariants.{NotJson, NotProfile, BadMember, RepeatedName, NoMemory}
use Rattle.mdg_profile.specs.Distinct.{SameName}
use Rattle.mdg_profile.specs.Entries.{IsEntry, BreaksForm}
use Rattle.mdg_profile.specs.Members.{has_only, natural}
use Rattle.serde_json.specs.Data.{Data}
use Rattle.serde_json.specs.Find.{get, as_array}
use Rattle.serde_json.specs.Read.{read}
use Rattle.serde_json.specs.View.{items_of}

-- the bytes are this value of JSON, nested at most 127 deep
pub record IsJson (bytes : List ℕ) (value : Data) : Type 0 where
  pub utf8 : IsUtf8 bytes
  pub read_as : read bytes ≡ Some value

-- the members that a profile may have
abbrev pub profile_names : List (List ℕ)
profile_names = codes "version" ∷ codes "entries" ∷ []

-- the value is a profile that lists these values
pub record IsListing (value : Data) (items : List Data) : Type 0 where
  pub only : has_only profile_names value ≡ true
  pub version : option_and_then natural (get (codes "version") value) ≡ Some 1
  pub entries : option_and_then as_array (get (codes "entries") value) ≡ Some (items_of items)

-- the bytes are a profile that lists these values
pub record Lists (bytes : List ℕ) (items : List Data) : Type 0 where
  pub value : Data
  pub json : IsJson bytes value
  pub listing : IsListing value items

-- the value at this index is this entry
pub record IsEntryAt (items : List Data) (index : ℕ) (entry : Entry) : Type 0 where
  pub value : Data
  pub at : slice_get items index ≡ Some value
  pub form : IsEntry value entry

-- the value at this index is no entry
pub record BreaksAt (items : List Data) (index : ℕ) : Type 0 where
  pub value : Data
  pub at : slice_get items index ≡ Some value
  pub broken : BreaksForm value

-- the value at this index is an entry whose name an earlier entry has
pub record RepeatsAt (items : List Data) (index : ℕ) : Type 0 where
  pub entry : Entry
  pub here : IsEntryAt items index entry
  pub before : ℕ
  pub earlier : before < index
  pub other : Entry
  pub there : IsEntryAt items before other
  pub same : SameName other entry

-- neither is so at any index before this one
abbrev pub IsFirst : List Data → ℕ → Type 0
IsFirst items index = (k : ℕ) → k < index → BreaksAt items k ⊎ RepeatsAt items k → ⊥

-- What each answer says of the bytes. No two answers say this of the same bytes, so each comes exactly where this holds, unless memory is refused.
abbrev pub IsAnswer : List ℕ → Result Profile ProfileRefusal → Type 0
IsAnswer bytes (Ok profile) = (items : List Data) × Lists bytes items × AllZip IsEntry items profile.entries × IsFirst items (length items)
IsAnswer bytes (Err NotJson) = (value : Data) → IsJson bytes value → ⊥
IsAnswer bytes (Err NotProfile) = (value : Data) × IsJson bytes value × ((items : List Data) → IsListing value items → ⊥)
IsAnswer bytes (Err (BadMember index)) = (items : List Data) × Lists bytes items × BreaksAt items index × IsFirst items index
IsAnswer bytes (Err (RepeatedName index)) = (items : List Data) × Lists bytes items × RepeatsAt items index × IsFirst items index
IsAnswer bytes (Err NoMemory) = ⊥

-- what an answer shows
abbrev pub HasCause : List ℕ → Result Profile ProfileRefusal → Type 0
HasCause bytes result = IsAnswer bytes result ⊎ (result ≡ Err NoMemory)

-- what is so is answered
abbrev pub Answers : List ℕ → Result Profile ProfileRefusal → Type 0
Answers bytes result = (answer : Result Profile ProfileRefusal) → IsAnswer bytes answer → IsUnlessMemory NoMemory result answer

-- bytes have at most one answer
abbrev pub HasOneAnswer : Type 0
HasOneAnswer = (bytes : List ℕ) (one other : Result Profile ProfileRefusal) → IsAnswer bytes one → IsAnswer bytes other → one ≡ other
