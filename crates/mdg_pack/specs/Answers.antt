-- What the walk of a folder answers.
use Rattle.std.specs.Prelude.{◌≡◌, ℕ, ◌+◌, ◌-◌, ◌^◌, ◌<◌, List, [], ◌∷◌, ◌++◌, length, Option, Some, None, Result, Ok, Err}
use Rattle.mdg_pack.specs.Paths.{FilePath}
use Rattle.mdg_pack.specs.Reads.{Given, AreShort}
use Rattle.mdg_pack.specs.Walk.{Outcome, Walk, WalkBy}
use Rattle.mdg_pack.specs.declared.fault.PackFault.{PackFault}
use Rattle.mdg_pack.specs.declared.fault.PackFault.TheVariants as fault
use Rattle.mdg_pack.specs.declared.walk.Package.{Package}
use Rattle.mdg_port.specs.Held.{Held}
use Rattle.mdg_profile.specs.declared.entry.Profile.{Profile}

-- it isn't the refusal of memory
abbrev pub IsDecided : Result Package PackFault → Type 0
IsDecided (Ok files) = Unit {0}
IsDecided (Err fault.NoMemory) = ⊥
IsDecided (Err refusal) = Unit {0}

-- the number of the read that failed, which is the last one, where the answer is that one failed
abbrev pub failing_of : Result Package PackFault → List FilePath → Option ℕ
failing_of (Err (fault.FolderFailed path)) asked = Some (length asked - 1)
failing_of result asked = None

-- the path of a failed read is the last one that is asked
abbrev pub TellsLast : Result Package PackFault → List FilePath → Type 0
TellsLast (Err (fault.FolderFailed path)) asked = (earlier : List FilePath) × (asked ≡ earlier ++ path ∷ [])
TellsLast result asked = Unit {0}

-- The walk of what the folder holds has this result, where the last read fails if the result is that one failed. As
-- many reads were made as it asks paths.
pub record IsWalked (held : Held) (profile : Profile) (before after : ℕ) (result : Result Package PackFault) : Type 0 where
  pub asked : List FilePath
  pub walk : Walk held profile (failing_of result asked) (record { asked = asked; result = result })
  pub last : TellsLast result asked
  pub counted : after < 2 ^ 64 - 1 → after ≡ before + length asked

-- The walk has this result for something that reads of the paths may give.
pub record IsSomeWalk (profile : Profile) (result : Result Package PackFault) : Type 0 where
  pub given : Given
  pub short : AreShort given
  pub asked : List FilePath
  pub walk : WalkBy given profile (record { asked = asked; result = result })
  pub last : TellsLast result asked

-- a walk has at most one outcome, whichever read fails, if one does
abbrev pub HasOneOutcome : Type 0
HasOneOutcome = (held : Held) (profile : Profile) (failing : Option ℕ) (one other : Outcome)
    → Walk held profile failing one → Walk held profile failing other → one ≡ other

-- and at least one
abbrev pub HasSomeOutcome : Type 0
HasSomeOutcome = (held : Held) (profile : Profile) (failing : Option ℕ)
    → (outcome : Outcome) × Walk held profile failing outcome
