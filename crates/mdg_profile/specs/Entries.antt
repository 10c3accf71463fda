-- Which value of JSON is an entry of a profile.
use Rattle.std.specs.Prelude.{ℕ, ◌≡◌, ◌≢◌, ◌<◌, ◌≤◌, true, List, [], ◌∷◌, codes, length, map, Option, Some, None, option_and_then}
use Rattle.std.specs.List.{All, AllPairs}
use Rattle.mdg_base.specs.declared.profile_word.Home.{Home}
use Rattle.mdg_base.specs.declared.profile_word.Home.TheVariants.{Global, Module}
use Rattle.mdg_base.specs.declared.profile_word.Kind.{Kind}
use Rattle.mdg_base.specs.declared.profile_word.Kind.TheVariants.{Sink, Quiet, Active}
use Rattle.mdg_profile.specs.declared.entry.Entry.{Entry}
use Rattle.mdg_profile.specs.Members.{has_only, text_at, natural}
use Rattle.serde_json.specs.Data.{Data}
use Rattle.serde_json.specs.Find.{get, as_str, as_array}
use Rattle.serde_json.specs.View.{items_of}

abbrev pub home_word : Home → List ℕ
home_word Global = codes "global"
home_word Module = codes "module"

abbrev pub kind_word : Kind → List ℕ
kind_word (Sink arguments) = codes "sink"
kind_word Quiet = codes "quiet"
kind_word Active = codes "active"

-- the members that an entry may have
abbrev pub entry_names : List (List ℕ)
entry_names = codes "home" ∷ codes "name" ∷ codes "member" ∷ codes "kind" ∷ codes "arguments" ∷ []

-- a text that isn't empty
abbrev pub IsText : Option Data → List ℕ → Type 0
IsText found text = (option_and_then as_str found ≡ Some text) × (0 < length text)

-- such a text, or nothing
abbrev pub IsMember : Option Data → Option (List ℕ) → Type 0
IsMember found None = found ≡ None
IsMember found (Some text) = IsText found text

-- distinct numbers 0 to 255, at least one
pub record AreArguments (numbers : List ℕ) : Type 0 where
  pub some : 0 < length numbers
  pub small : All (λ n. n ≤ 255) numbers
  pub distinct : AllPairs (λ m n. m ≢ n) numbers

-- an array of these numbers
pub record IsArguments (found : Option Data) (numbers : List ℕ) : Type 0 where
  pub items : List Data
  pub listed : option_and_then as_array found ≡ Some (items_of items)
  pub read : map natural items ≡ map Some numbers
  pub fit : AreArguments numbers

-- a sink alone has arguments
abbrev pub HasArguments : Option Data → Kind → Type 0
HasArguments found (Sink numbers) = IsArguments found numbers
HasArguments found Quiet = found ≡ None
HasArguments found Active = found ≡ None

-- the value is the entry
pub record IsEntry (value : Data) (entry : Entry) : Type 0 where
  pub only : has_only entry_names value ≡ true
  pub home : text_at (codes "home") value ≡ Some (home_word entry.home)
  pub name : IsText (get (codes "name") value) entry.name
  pub member : IsMember (get (codes "member") value) entry.member
  pub kind : text_at (codes "kind") value ≡ Some (kind_word entry.kind)
  pub arguments : HasArguments (get (codes "arguments") value) entry.kind

-- it is none
abbrev pub BreaksForm : Data → Type 0
BreaksForm value = (entry : Entry) → IsEntry value entry → ⊥
