-- Serves the proofs alone: what the private calls that read the manifest answer.
use Rattle.std.specs.Prelude.{◌≡◌, ◌⊎◌, ℕ, List, Option, Some, None, Result, Ok, Err}
use Rattle.mdg_pack.specs.Manifest.{HasEntry}
use Rattle.mdg_pack.specs.Paths.{FilePath}
use Rattle.mdg_pack.specs.declared.fault.PackFault.{PackFault}
use Rattle.mdg_pack.specs.declared.fault.PackFault.TheVariants as fault
use Rattle.mdg_profile.specs.Format.{IsJson}
use Rattle.serde_json.specs.Data.{Data}
use Rattle.serde_json.specs.View.{view}
use Rattle.serde_json.specs.declared.value.Value.{Value}

-- these candidates, or that there are none
abbrev pub IsEntryOf : Option (List FilePath) → Result (List FilePath) PackFault → Type 0
IsEntryOf wanted (Ok entry) = wanted ≡ Some entry
IsEntryOf wanted (Err refusal) = (refusal ≡ fault.NoMemory) ⊎ ((refusal ≡ fault.BadManifest) × (wanted ≡ None))

abbrev pub ValueAnswer : List ℕ → Result Value PackFault → Type 0
ValueAnswer bytes (Ok value) = IsJson bytes (view value)
ValueAnswer bytes (Err refusal) = (refusal ≡ fault.NoMemory) ⊎ ((refusal ≡ fault.BadManifest) × ((value : Data) → IsJson bytes value → ⊥))

abbrev pub ManifestAnswer : List ℕ → Result (List FilePath) PackFault → Type 0
ManifestAnswer bytes (Ok entry) = HasEntry bytes entry
ManifestAnswer bytes (Err refusal) = (refusal ≡ fault.NoMemory) ⊎ ((refusal ≡ fault.BadManifest) × ((entry : List FilePath) → HasEntry bytes entry → ⊥))
