-- What a call that reads a part of an entry answers.
use Rattle.std.specs.Prelude.{ℕ, ◌≡◌, ◌≢◌, ◌≤◌, List, map, codes, Some, Result, Ok, Err}
use Rattle.std.specs.List.{All, AllPairs}
use Rattle.serde_json.specs.Data.{Data}
use Rattle.serde_json.specs.Find.{get}
use Rattle.mdg_base.specs.declared.profile_word.Kind.{Kind}
use Rattle.mdg_profile.specs.Entries.{HasArguments, kind_word}
use Rattle.mdg_profile.specs.Members.{natural, text_at}
use Rattle.mdg_profile.specs.declared.refusal.EntryFault.{EntryFault}
use Rattle.mdg_profile.specs.declared.refusal.EntryFault.TheVariants.{OutOfForm, NoMemory}

-- a part of this form, or there is none, or memory is refused
abbrev pub Finds : {T : Type 0} → Result T EntryFault → (T → Type 0) → Type 0
Finds (Ok part) IsPart = IsPart part
Finds {T} (Err OutOfForm) IsPart = (part : T) → IsPart part → ⊥
Finds (Err NoMemory) IsPart = Unit {0}

-- the values are distinct numbers 0 to 255
pub record AreNumbers (items : List Data) (numbers : List ℕ) : Type 0 where
  pub read : map natural items ≡ map Some numbers
  pub small : All (λ n. n ≤ 255) numbers
  pub distinct : AllPairs (λ m n. m ≢ n) numbers

-- what the call of an entry does
pub record IsKind (value : Data) (kind : Kind) : Type 0 where
  pub word : text_at (codes "kind") value ≡ Some (kind_word kind)
  pub arguments : HasArguments (get (codes "arguments") value) kind
