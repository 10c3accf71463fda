-- What a read of a path gives.
use Rattle.std.specs.Prelude.{ℕ, ◌≤◌, nat_le, if◌then◌else◌, List, length, ⊤}
use Rattle.std.specs.declared.option.Option.{Option}
use Rattle.std.specs.declared.option.Option.TheVariants.{None, Some}
use Rattle.mdg_port.specs.Held.{Held, held_at}
use Rattle.mdg_port.specs.declared.folder.Fetched.{Fetched}
use Rattle.mdg_port.specs.declared.folder.Fetched.TheVariants.{Absent, TooLong, Bytes}

-- these bytes where they fit
abbrev pub fitting : List ℕ → ℕ → Fetched
fitting bytes limit = if nat_le (length bytes) limit then Bytes bytes else TooLong

abbrev pub fetched_of : Option (List ℕ) → ℕ → Fetched
fetched_of None limit = Absent
fetched_of (Some bytes) limit = fitting bytes limit

-- what is held at the path, where it fits
abbrev pub fetched : Held → List ℕ → ℕ → Fetched
fetched held path limit = fetched_of (held_at held path) limit

-- no more bytes than the limit
abbrev pub IsWithin : ℕ → Fetched → Type 0
IsWithin limit Absent = ⊤
IsWithin limit TooLong = ⊤
IsWithin limit (Bytes bytes) = length bytes ≤ limit
