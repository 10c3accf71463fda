-- What the top call owes, by what the folder and the sink tell before and after it.
use Rattle.std.specs.Prelude.{◌≡◌, ℕ, ◌-◌, ◌^◌, ◌+◌, ◌<◌, ◌≤◌, List, length, slice_get, Contains, IfSome, ⊤, Some}
use Rattle.std.specs.List.{All}
use Rattle.std.specs.declared.option.Option.{Option}
use Rattle.std.specs.Io.KnownBytes.{Appends}
use Rattle.mdg_port.specs.Prefix.{AppendsProperPrefix}
use Rattle.mdg_port.specs.Causes.{Rose}
use Rattle.mdg_port.specs.Held.{Held}
use Rattle.mdg_port.specs.Reads.{IsWithin}
use Rattle.mdg_scan.specs.declared.status.Status.{Status}
use Rattle.mdg_scan.specs.declared.status.Status.TheVariants.{Clean, Findings, Refused, Usage, ReadFault, WriteFault, NoMemory}
use Rattle.mdg_scan.specs.declared.reply.Reply.{Reply}
use Rattle.mdg_scan.specs.Answer.{IsAnswer, IsReply, ReadResult, found, failed, asks, index_limit, read_fault}

-- ---- a folder that tells what it holds

-- it is the answer for what the folder holds, where it tells that
abbrev pub IsToldAnswer : List (List ℕ) → Option Held → Reply → Type 0
IsToldAnswer words told reply = IfSome told (λ held. IsAnswer words held reply)

-- the last of the reads between these two counts is that of the path: there is one, and there are not more than paths
pub record IsLastRead (paths : List (List ℕ)) (before now : ℕ) (path : List ℕ) : Type 0 where
  pub some : before < now
  pub few : now ≤ before + length paths
  pub last : slice_get paths (now - before - 1) ≡ Some path

-- one of the paths, and the one that was read last, as long as the count of reads isn't at its end
pub record IsFailedRead (paths : List (List ℕ)) (before now : ℕ) (path : List ℕ) : Type 0 where
  pub asked : Contains paths path
  pub last : now < 2 ^ 64 - 1 → IsLastRead paths before now path

-- the reply tells the path of the read that failed
pub record TellsFailedRead (paths : List (List ℕ)) (before now : ℕ) (reply : Reply) : Type 0 where
  pub path : List ℕ
  pub failed_read : IsFailedRead paths before now path
  pub is : reply ≡ read_fault path

-- each path that is to be read was read once
abbrev pub ReadAll : List (List ℕ) → Option Held → ℕ → ℕ → Type 0
ReadAll words told before now = IfSome told (λ held. now < 2 ^ 64 - 1 → now ≡ before + length (asks words held))

-- ---- any folder

-- what a read may give: what is within the limit, or nothing where the count of faults rose
abbrev pub MayGive : ℕ → ℕ → ReadResult → Type 0
MayGive before now (found fetched) = IsWithin index_limit fetched
MayGive before now failed = Rose before now

-- the reply by what some reads gave
pub record IsSomeReply (words : List (List ℕ)) (before now : ℕ) (reply : Reply) : Type 0 where
  -- what each of them gave
  pub given : List ReadResult
  pub may : All (MayGive before now) given
  pub is : IsReply words given reply

-- ---- what is written

-- the status is the reply's, and its text was appended
abbrev pub IsWritten : Reply → Status → Option (List ℕ) → Option (List ℕ) → Type 0
IsWritten reply status old new = (status ≡ reply.status) × Appends old new reply.text

-- a reply of which this holds was written whole
abbrev pub IsWrittenWhole : (Reply → Type 0) → Status → Option (List ℕ) → Option (List ℕ) → Type 0
IsWrittenWhole P status old new = (reply : Reply) × P reply × IsWritten reply status old new

-- of a reply of which this holds a proper prefix was written, and no more
abbrev pub IsWrittenInPart : (Reply → Type 0) → Option (List ℕ) → Option (List ℕ) → Type 0
IsWrittenInPart P old new = (reply : Reply) × P reply × AppendsProperPrefix old new reply.text

-- an answer whose text is the one that the folder's content gives
abbrev pub IsWhole : Status → Type 0
IsWhole Clean = ⊤
IsWhole Findings = ⊤
IsWhole Refused = ⊤
IsWhole Usage = ⊤
IsWhole ReadFault = ⊥
IsWhole WriteFault = ⊥
IsWhole NoMemory = ⊥
