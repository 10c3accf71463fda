-- What the program answers: a status and a text, by its words and by what the folder holds.
use Rattle.std.specs.Prelude.{◌≡◌, ℕ, if◌then◌else◌, ◌||◌, List, [], ◌∷◌, ◌++◌, codes, Option, Some, None}
use Rattle.std.specs.Fmt.{decimal}
use Rattle.mdg_port.specs.Held.{Held}
use Rattle.mdg_port.specs.Reads.{fetched}
use Rattle.mdg_port.specs.declared.folder.Fetched.{Fetched}
use Rattle.mdg_port.specs.declared.folder.Fetched.TheVariants.{Absent, TooLong, Bytes}
use Rattle.mdg_scan.specs.Flows.{AreFlows}
use Rattle.mdg_scan.specs.Form.{Reading, not_strict, no_tree, in_form, read_of}
use Rattle.mdg_scan.specs.Graph.{InGraph}
use Rattle.mdg_scan.specs.Lowered.{lowered}
use Rattle.mdg_scan.specs.Report.{line, report}
use Rattle.mdg_scan.specs.declared.command.Task.{Task}
use Rattle.mdg_scan.specs.declared.command.Task.TheVariants as task
use Rattle.mdg_scan.specs.declared.first.code.Code.{Code}
use Rattle.mdg_scan.specs.declared.first.flow.Flow.{Flow}
use Rattle.mdg_scan.specs.declared.reply.Reply.{Reply}
use Rattle.mdg_scan.specs.declared.status.Status.TheVariants.{Refused, Usage, ReadFault}
use Rattle.mdg_scan.specs.declared.command_line.Command.{Command}
use Rattle.mdg_scan.specs.declared.command_line.Command.TheVariants.{Scan, Replay, Sample}
use Rattle.mdg_scan.specs.CommandLine.{command_of, is_there}

-- what the command asks for, of what there is
abbrev pub task_of : Option Command → Task
task_of None = task.Usage
task_of (Some (Scan workers json profile)) = if json || is_there profile then task.NotBuilt else task.Scan
task_of (Some (Replay file)) = task.NotBuilt
task_of (Some (Sample n workers)) = task.NotBuilt

-- what the words ask for, of what there is
unfoldable pub task_by : List (List ℕ) → Task
task_by words = task_of (command_of words)

-- the one file that is read
abbrev pub index : List ℕ
index = codes "index.js"

-- the most bytes that it may have
abbrev pub index_limit : ℕ
index_limit = 4096

abbrev pub usage : List ℕ
usage =
    line (codes "usage: mdg scan [--workers N] [--json] [--profile FILE]")
    ++ line (codes "       mdg replay FILE")
    ++ line (codes "       mdg sample N [--workers N]")

abbrev pub usage_reply : Reply
usage_reply = record { status = Usage; text = usage }

abbrev pub refused : List ℕ → Reply
refused text = record { status = Refused; text = line (codes "refused " ++ text) }

abbrev pub read_fault : List ℕ → Reply
read_fault path = record { status = ReadFault; text = line (codes "read fault " ++ path) }

-- it reports exactly the flows in the least graph of the code
abbrev pub IsReport : Code → Reply → Type 0
IsReport code reply = (flows : List Flow) × AreFlows (InGraph code) code flows × (reply ≡ report code flows)

-- what is answered for what is read of the file
abbrev pub IsReadingAnswer : Reading → Reply → Type 0
IsReadingAnswer not_strict reply = reply ≡ refused (codes "NotStrict index.js")
IsReadingAnswer (no_tree number) reply = reply ≡ refused (codes "NoTree index.js:" ++ decimal number)
IsReadingAnswer (in_form form) reply = IsReport (lowered form) reply

-- what is answered for what the folder has at the file's path
abbrev pub IsFileAnswer : Fetched → Reply → Type 0
IsFileAnswer Absent reply = reply ≡ refused (codes "NoFile index.js")
IsFileAnswer TooLong reply = reply ≡ refused (codes "TooLong index.js")
IsFileAnswer (Bytes bytes) reply = IsReadingAnswer (read_of bytes) reply

-- what a read gave
pub data ReadResult : Type 0 where
  -- what stands at the path
  found : Fetched → ReadResult
  -- nothing: the read failed
  failed : ReadResult

-- the reply where the one file was read
abbrev pub IsReadReply : ReadResult → Reply → Type 0
IsReadReply (found fetched) reply = IsFileAnswer fetched reply
IsReadReply failed reply = reply ≡ read_fault index

-- the reply to a scan: it reads once
abbrev pub IsScanReply : List ReadResult → Reply → Type 0
IsScanReply [] reply = ⊥
IsScanReply (one ∷ []) reply = IsReadReply one reply
IsScanReply (one ∷ other ∷ more) reply = ⊥

-- the reply is this one, and nothing is read for it
abbrev pub IsUnreadReply : Reply → List ReadResult → Reply → Type 0
IsUnreadReply wanted [] reply = reply ≡ wanted
IsUnreadReply wanted (one ∷ more) reply = ⊥

-- the reply to a task, by what its reads gave
abbrev pub IsReplyWhere : Task → List ReadResult → Reply → Type 0
IsReplyWhere task.Scan given reply = IsScanReply given reply
IsReplyWhere task.NotBuilt given reply = IsUnreadReply (refused (codes "NotBuilt")) given reply
IsReplyWhere task.Usage given reply = IsUnreadReply usage_reply given reply

-- the reply to these words, by what the reads gave, in their order; there is never another one
abbrev pub IsReply : List (List ℕ) → List ReadResult → Reply → Type 0
IsReply words given reply = IsReplyWhere (task_by words) given reply

-- the paths that are read for a task
abbrev pub asked_for : Task → List (List ℕ)
asked_for task.Scan = index ∷ []
asked_for task.NotBuilt = []
asked_for task.Usage = []

-- the paths that are read for these words
abbrev pub asks : List (List ℕ) → Held → List (List ℕ)
asks words held = asked_for (task_by words)

-- what a folder that holds this gives for paths
abbrev pub told : Held → List (List ℕ) → List ReadResult
told held [] = []
told held (path ∷ paths) = found (fetched held path index_limit) ∷ told held paths

-- the answer to a task and a folder that holds this: the reply where each read gives what is held
abbrev pub IsAnswerWhere : Task → Held → Reply → Type 0
IsAnswerWhere task held reply = IsReplyWhere task (told held (asked_for task)) reply

-- the answer to these words and a folder that holds this; there is never another one
abbrev pub IsAnswer : List (List ℕ) → Held → Reply → Type 0
IsAnswer words held reply = IsAnswerWhere (task_by words) held reply
