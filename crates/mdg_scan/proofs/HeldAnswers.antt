-- Replies by what reads gave, and what is written of them.
use Rattle.std.proofs.Common.{◌≡◌, ◌≢◌, ◌⊎◌, inl, inr, ⊎_elim, ℕ, ◌<◌, ◌+◌, ◌-◌, ◌^◌, List, [], ◌∷◌, ap, sym, subst, refl, arith}
use Rattle.std.specs.Prelude.{codes, IfSome, slice_get}
use Rattle.std.specs.List.{All}
use Rattle.std.specs.declared.option.Option.{Option}
use Rattle.std.specs.declared.option.Option.TheVariants.{Some, None}
use Rattle.std.proofs.lemmas.List.Elements.{All-cons}
use Rattle.std.specs.Io.KnownBytes.{Appends}
use Rattle.mdg_port.specs.Prefix.{AppendsProperPrefix}
use Rattle.mdg_port.specs.Causes.{Rose, one_more}
use Rattle.mdg_port.specs.Held.{Held}
use Rattle.mdg_port.specs.Reads.{fetched, IsWithin}
use Rattle.mdg_port.specs.declared.folder.Fetched.{Fetched}
use Rattle.mdg_scan.specs.declared.command.Task.{Task}
use Rattle.mdg_scan.specs.declared.command.Task.TheVariants as task
use Rattle.mdg_scan.specs.declared.reply.Reply.{Reply}
use Rattle.mdg_scan.specs.declared.status.Status.{Status}
use Rattle.mdg_scan.specs.declared.status.Status.TheVariants.{Clean, Findings, Refused, Usage, ReadFault, WriteFault, NoMemory}
use Rattle.mdg_scan.specs.Answer.{IsAnswer, IsAnswerWhere, IsFileAnswer, IsReply, IsReplyWhere, ReadResult, found, failed, asked_for, asks, task_by, index, index_limit, read_fault, refused, usage_reply}
use Rattle.mdg_scan.specs.Scan.{IsFailedRead, IsLastRead, IsSomeReply, IsToldAnswer, IsWhole, IsWrittenInPart, IsWrittenWhole, MayGive, TellsFailedRead}

-- ---- the reply by what reads gave

reply_by : (words : List (List ℕ)) (given : List ReadResult) (reply : Reply) (asked : Task) → task_by words ≡ asked → IsReplyWhere asked given reply → IsReply words given reply
reply_by words given reply asked is replies = let P : Task → Type 0 = λ x. IsReplyWhere x given reply in subst P (sym is) replies

no_reads : (before now : ℕ) → All (MayGive before now) []
no_reads before now = λ k d there. absurd (omega (arith, there))

one_read : (before now : ℕ) (given : ReadResult) → MayGive before now given → All (MayGive before now) (given ∷ [])
one_read before now given may = All-cons (MayGive before now) given [] may (no_reads before now)

-- words out of form
pub IsSomeReply-usage : (words : List (List ℕ)) (before now : ℕ) (reply : Reply) → task_by words ≡ task.Usage → reply ≡ usage_reply → IsSomeReply words before now reply
IsSomeReply-usage words before now reply asked is = record { given = []; may = no_reads before now; is = reply_by words [] reply task.Usage asked is }

-- what is not built
pub IsSomeReply-not_built : (words : List (List ℕ)) (before now : ℕ) (reply : Reply) → task_by words ≡ task.NotBuilt → reply ≡ refused (codes "NotBuilt") → IsSomeReply words before now reply
IsSomeReply-not_built words before now reply asked is = record { given = []; may = no_reads before now; is = reply_by words [] reply task.NotBuilt asked is }

-- a file that was read
pub IsSomeReply-file : (words : List (List ℕ)) (before now : ℕ) (reply : Reply) (f : Fetched) → task_by words ≡ task.Scan → IsWithin 4096 f → IsFileAnswer f reply → IsSomeReply words before now reply
IsSomeReply-file words before now reply f asked within answers =
    record { given = found f ∷ []; may = one_read before now (found f) within; is = reply_by words (found f ∷ []) reply task.Scan asked answers }

-- a read that failed
pub IsSomeReply-fault : (words : List (List ℕ)) (before now : ℕ) (reply : Reply) → task_by words ≡ task.Scan → Rose before now → reply ≡ read_fault index → IsSomeReply words before now reply
IsSomeReply-fault words before now reply asked rose is =
    record { given = failed ∷ []; may = one_read before now failed rose; is = reply_by words (failed ∷ []) reply task.Scan asked is }

-- ---- a folder that tells what it holds

answer_by : (words : List (List ℕ)) (held : Held) (reply : Reply) (asked : Task) → task_by words ≡ asked → IsAnswerWhere asked held reply → IsAnswer words held reply
answer_by words held reply asked is answers = let P : Task → Type 0 = λ x. IsAnswerWhere x held reply in subst P (sym is) answers

file_by : (held : Held) (reply : Reply) (f : Fetched) → fetched held index index_limit ≡ f → IsFileAnswer f reply → IsFileAnswer (fetched held index index_limit) reply
file_by held reply f is answers = let P : Fetched → Type 0 = λ x. IsFileAnswer x reply in subst P (sym is) answers

pub IsToldAnswer-file : (words : List (List ℕ)) (told : Option Held) (reply : Reply) (f : Fetched) → task_by words ≡ task.Scan → IfSome told (λ held. f ≡ fetched held index 4096) → IsFileAnswer f reply → IsToldAnswer words told reply
IsToldAnswer-file words None reply f asked given answers = tt
IsToldAnswer-file words (Some held) reply f asked given answers = answer_by words held reply task.Scan asked (file_by held reply f (sym given) answers)

-- the read of the only path failed
last_read : (path : List ℕ) (before now : ℕ) → now ≡ one_more before → now < 2 ^ 64 - 1 → IsLastRead (path ∷ []) before now path
last_read path before now counted below =
    let one : now ≡ before + 1 = omega (arith, counted) in
    let zeroth : now - before - 1 ≡ 0 = omega arith in
    record { some = omega arith; few = omega arith; last = ap (slice_get (path ∷ [])) zeroth }

failed_alone : (path : List ℕ) (before now : ℕ) → now ≡ one_more before → IsFailedRead (path ∷ []) before now path
failed_alone path before now counted = record { asked = (0, omega arith, refl); last = last_read path before now counted }

tells_alone : (asked : Task) (before now : ℕ) (reply : Reply) → asked ≡ task.Scan → now ≡ one_more before → reply ≡ read_fault index → TellsFailedRead (asked_for asked) before now reply
tells_alone asked before now reply is counted tells =
    let P : Task → Type 0 = λ x. TellsFailedRead (asked_for x) before now reply in
    subst P (sym is) (record { path = index; failed_read = failed_alone index before now counted; is = tells })

pub TellsFailedRead-scan : (words : List (List ℕ)) (told : Option Held) (before now : ℕ) (reply : Reply) → task_by words ≡ task.Scan → IfSome told (λ held. now ≡ one_more before) → reply ≡ read_fault index
    → IfSome told (λ held. TellsFailedRead (asks words held) before now reply)
TellsFailedRead-scan words None before now reply asked counted is = tt
TellsFailedRead-scan words (Some held) before now reply asked counted is = tells_alone (task_by words) before now reply asked counted is

-- ---- what is written

pub IsWhole-no_fault : (status : Status) → IsWhole status → status ≢ ReadFault
IsWhole-no_fault status whole is = subst IsWhole is whole

pub written_whole : (P : Reply → Type 0) (reply : Reply) (old new : Option (List ℕ)) → P reply → Appends old new reply.text → IsWrittenWhole P reply.status old new
written_whole P reply old new is wrote = (reply, is, (refl, wrote))

pub written_where_told : (told : Option Held) (P : Held → Reply → Type 0) (reply : Reply) (old new : Option (List ℕ)) → IfSome told (λ held. P held reply) → Appends old new reply.text
    → IfSome told (λ held. IsWrittenWhole (P held) reply.status old new)
written_where_told None P reply old new is wrote = tt
written_where_told (Some held) P reply old new is wrote = (reply, is, (refl, wrote))

is_read_fault : (status : Status) → (status ≡ ReadFault) ⊎ (status ≢ ReadFault)
is_read_fault Clean = inr (λ same. cc)
is_read_fault Findings = inr (λ same. cc)
is_read_fault Refused = inr (λ same. cc)
is_read_fault Usage = inr (λ same. cc)
is_read_fault ReadFault = inl refl
is_read_fault WriteFault = inr (λ same. cc)
is_read_fault NoMemory = inr (λ same. cc)

-- of the answer, or of the reply that tells a failed read
abbrev pub IsBegun : List (List ℕ) → Option Held → Type 0 → ℕ → ℕ → Option (List ℕ) → Option (List ℕ) → Type 0
IsBegun words told rose before now old new = IfSome told (λ held.
    IsWrittenInPart (IsAnswer words held) old new ⊎ (rose × IsWrittenInPart (TellsFailedRead (asks words held) before now) old new))

begun_by : (words : List (List ℕ)) (told : Option Held) (rose : Type 0) (before now : ℕ) (reply : Reply) (old new : Option (List ℕ)) → IsToldAnswer words told reply → AppendsProperPrefix old new reply.text → IsBegun words told rose before now old new
begun_by words None rose before now reply old new is wrote = tt
begun_by words (Some held) rose before now reply old new is wrote = inl (reply, is, wrote)

fault_begun_by : (words : List (List ℕ)) (told : Option Held) (rose : Type 0) (before now : ℕ) (reply : Reply) (old new : Option (List ℕ)) → rose → IfSome told (λ held. TellsFailedRead (asks words held) before now reply) → AppendsProperPrefix old new reply.text → IsBegun words told rose before now old new
fault_begun_by words None rose before now reply old new did is wrote = tt
fault_begun_by words (Some held) rose before now reply old new did is wrote = inr (did, (reply, is, wrote))

pub told_prefix : (words : List (List ℕ)) (told : Option Held) (rose : Type 0) (before now : ℕ) (reply : Reply) (old new : Option (List ℕ))
    → (reply.status ≢ ReadFault → IsToldAnswer words told reply) → (reply.status ≡ ReadFault → rose) → (reply.status ≡ ReadFault → IfSome told (λ held. TellsFailedRead (asks words held) before now reply))
    → AppendsProperPrefix old new reply.text → IsBegun words told rose before now old new
told_prefix words told rose before now reply old new answered did failed_read wrote =
    ⊎_elim (λ is. fault_begun_by words told rose before now reply old new (did is) (failed_read is) wrote) (λ not. begun_by words told rose before now reply old new (answered not) wrote) (is_read_fault reply.status)
