-- What the reads of a walk give, each by its number and its path.
use Rattle.std.specs.Prelude.{◌≡◌, ℕ, suc, ◌≤◌, nat_eq, if◌then◌else◌, List, length, Option, Some, None}
use Rattle.mdg_pack.specs.Paths.{FilePath}
use Rattle.mdg_port.specs.Held.{Held}
use Rattle.mdg_port.specs.Reads.{fetched}
use Rattle.mdg_port.specs.declared.folder.Fetched.{Fetched}
use Rattle.mdg_port.specs.declared.folder.Fetched.TheVariants.{Bytes}

-- A read gives what is at its path, or it fails.
pub data Reading : Type 0 where
  gives : Fetched → Reading
  fails : Reading

-- what the read with each number gives of each path; reads count from 0
abbrev pub Given : Type 0
Given = ℕ → FilePath → Reading

-- the reads after the first one, counted anew
abbrev pub later : Given → Given
later given number path = given (suc number) path

-- the most bytes of a file
abbrev pub most_bytes : ℕ
most_bytes = 1048576

-- no read gives more bytes than a file may have
abbrev pub AreShort : Given → Type 0
AreShort given = (number : ℕ) (path : FilePath) (bytes : List ℕ)
    → given number path ≡ gives (Bytes bytes) → length bytes ≤ most_bytes

-- The reads of a folder that holds this, in which the read with this number fails, or none does.
abbrev pub reads_of : Held → Option ℕ → Given
reads_of held None number path = gives (fetched held path most_bytes)
reads_of held (Some failing) number path = if nat_eq number failing then fails else gives (fetched held path most_bytes)
