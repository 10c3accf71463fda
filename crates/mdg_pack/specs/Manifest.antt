-- What `package.json` says of the entry.
use Rattle.std.specs.Prelude.{◌≡◌, ℕ, Bool, not, ◌||◌, ◌==◌, length, if◌then◌else◌, List, [], ◌∷◌, ◌++◌, codes, Option, Some, None, Result, Ok, Err}
use Rattle.mdg_profile.specs.Format.{IsJson}
use Rattle.mdg_pack.specs.Candidates.{index, has_end, candidates_from}
use Rattle.mdg_base.specs.Segments.{segments, stays}
use Rattle.mdg_pack.specs.Paths.{FilePath}
use Rattle.mdg_pack.specs.declared.fault.PackFault.{PackFault}
use Rattle.mdg_pack.specs.declared.fault.PackFault.TheVariants as fault
use Rattle.mdg_port.specs.declared.folder.Fetched.{Fetched}
use Rattle.mdg_port.specs.declared.folder.Fetched.TheVariants.{Absent, TooLong, Bytes}
use Rattle.serde_json.specs.Data.{Data, null, boolean, number, string, array, object}
use Rattle.serde_json.specs.Find.{get_member}

abbrev pub manifest : FilePath
manifest = codes "package.json"

-- `index.js` alone
abbrev pub index_alone : List FilePath
index_alone = index ∷ []

-- no file of a package can be meant
unfoldable pub is_wrong_main : FilePath → Bool
is_wrong_main main = has_end (codes ".json") main || has_end (codes ".node") main || not (stays [] (segments main))

-- the candidates for the entry by the text of `main`; none where it is refused
unfoldable pub entry_of_text : FilePath → Option (List FilePath)
entry_of_text main =
    if length main == 0 then Some index_alone
    else (if is_wrong_main main then None else Some (candidates_from [] main ++ index_alone))

-- by its value
abbrev pub entry_of_main : Option Data → Option (List FilePath)
entry_of_main None = Some index_alone
entry_of_main (Some null) = None
entry_of_main (Some (boolean b)) = None
entry_of_main (Some (number n)) = None
entry_of_main (Some (string text)) = entry_of_text text
entry_of_main (Some (array items)) = None
entry_of_main (Some (object fields)) = None

-- by the value of the manifest
abbrev pub entry_of_value : Data → Option (List FilePath)
entry_of_value null = None
entry_of_value (boolean b) = None
entry_of_value (number n) = None
entry_of_value (string text) = None
entry_of_value (array items) = None
entry_of_value (object fields) = entry_of_main (get_member (codes "main") fields)

-- The bytes of a manifest give these candidates for the entry; of members of one name the last counts.
pub record HasEntry (bytes : List ℕ) (entry : List FilePath) : Type 0 where
  pub value : Data
  pub json : IsJson bytes value
  pub says : entry_of_value value ≡ Some entry

-- The candidates for the entry by what a read of `package.json` gave, or why there are none.
abbrev pub Enters : Fetched → Result (List FilePath) PackFault → Type 0
Enters Absent (Ok entry) = entry ≡ index_alone
Enters Absent (Err refusal) = ⊥
Enters TooLong (Ok entry) = ⊥
Enters TooLong (Err refusal) = refusal ≡ fault.TooLong manifest
Enters (Bytes bytes) (Ok entry) = HasEntry bytes entry
Enters (Bytes bytes) (Err refusal) =
    (refusal ≡ fault.BadManifest) × ((entry : List FilePath) → HasEntry bytes entry → ⊥)
