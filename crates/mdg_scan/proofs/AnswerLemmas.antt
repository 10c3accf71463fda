-- What is answered.
use Rattle.std.proofs.Common.{◌≡◌, ◌≢◌, ◌⊎◌, inl, inr, ⊎_elim, List, [], ◌∷◌, ◌++◌, ℕ, suc, ◌+◌, ◌<◌, ◌≤◌, ◌^◌, length, refl, sym, ◌∙◌, ap, subst, arith, get_or, take}
use Rattle.std.specs.Prelude.{Contains, codes}
use mathlib.Core.List.{append_assoc}
use Rattle.std.proofs.lemmas.List.{append-nil, take_more}
use Rattle.mdg_port.specs.Held.{Held}
use Rattle.mdg_port.specs.declared.folder.Fetched.{Fetched}
use Rattle.mdg_port.specs.declared.folder.Fetched.TheVariants.{Absent, TooLong, Bytes}
use Rattle.mdg_scan.specs.declared.command.Task.{Task}
use Rattle.mdg_scan.specs.declared.command.Task.TheVariants as task
use Rattle.mdg_scan.specs.declared.first.code.Code.{Code}
use Rattle.mdg_scan.specs.declared.first.flow.Flow.{Flow}
use Rattle.mdg_scan.specs.declared.first.fact.Fact.{Fact}
use Rattle.mdg_scan.specs.declared.first.form.Form.{Form}
use Rattle.mdg_scan.specs.declared.first.form.FormFunction.{FormFunction}
use Rattle.mdg_scan.specs.declared.reply.Reply.{Reply}
use Rattle.mdg_scan.specs.declared.status.Status.{Status}
use Rattle.mdg_scan.specs.declared.status.Status.TheVariants.{Clean, Findings, Refused}
use Rattle.mdg_scan.specs.Answer.{IsReport, IsReadingAnswer, IsFileAnswer, IsReadReply, IsScanReply, IsUnreadReply, IsReplyWhere, IsReply, IsAnswer, ReadResult, found, failed, told, asked_for, task_by, refused, usage_reply}
use Rattle.mdg_scan.specs.CodeShape.{IsWellFormed}
use Rattle.mdg_scan.specs.Flows.{AreFlows}
use Rattle.mdg_scan.specs.Form.{Reading, not_strict, no_tree, in_form}
use Rattle.mdg_scan.specs.Graph.{InGraph, IsGraph}
use Rattle.mdg_scan.specs.Lowered.{lowered, body_lines, function_lines, function_rows, function_id, shared_rows}
use Rattle.mdg_scan.specs.Report.{report, flow_line, flow_lines}
use Rattle.mdg_scan.proofs.FlowSets.{AreFlows-same, same_flows}

-- ---- there is one answer

one_report : (code : Code) (one other : Reply) → IsReport code one → IsReport code other → one ≡ other
one_report code one other (xs, are_xs, one_is) (ys, are_ys, other_is) =
    let same : xs ≡ ys = same_flows xs ys are_xs.sorted are_ys.sorted (λ f. (λ there. (are_ys.all f).1 ((are_xs.all f).0 there), λ there. (are_xs.all f).1 ((are_ys.all f).0 there))) in
    one_is ∙ ap (report code) same ∙ sym other_is

one_reading : (reading : Reading) (one other : Reply) → IsReadingAnswer reading one → IsReadingAnswer reading other → one ≡ other
one_reading not_strict one other first last = first ∙ sym last
one_reading (no_tree number) one other first last = first ∙ sym last
one_reading (in_form form) one other first last = one_report (lowered form) one other first last

one_file : (f : Fetched) (one other : Reply) → IsFileAnswer f one → IsFileAnswer f other → one ≡ other
one_file Absent one other first last = first ∙ sym last
one_file TooLong one other first last = first ∙ sym last
one_file (Bytes bytes) one other first last = one_reading _ one other first last

one_read : (given : ReadResult) (one other : Reply) → IsReadReply given one → IsReadReply given other → one ≡ other
one_read (found f) one other first last = one_file f one other first last
one_read failed one other first last = first ∙ sym last

one_scan : (given : List ReadResult) (one other : Reply) → IsScanReply given one → IsScanReply given other → one ≡ other
one_scan [] one other first last = elim first [ ]
one_scan (r ∷ []) one other first last = one_read r one other first last
one_scan (r ∷ (_ ∷ _)) one other first last = elim first [ ]

one_unread : (wanted : Reply) (given : List ReadResult) (one other : Reply) → IsUnreadReply wanted given one → IsUnreadReply wanted given other → one ≡ other
one_unread wanted [] one other first last = first ∙ sym last
one_unread wanted (_ ∷ _) one other first last = elim first [ ]

one_where : (asked : Task) (given : List ReadResult) (one other : Reply) → IsReplyWhere asked given one → IsReplyWhere asked given other → one ≡ other
one_where task.Scan given one other first last = one_scan given one other first last
one_where task.NotBuilt given one other first last = one_unread (refused (codes "NotBuilt")) given one other first last
one_where task.Usage given one other first last = one_unread usage_reply given one other first last

pub one_reply : (words : List (List ℕ)) (given : List ReadResult) (one other : Reply) → IsReply words given one → IsReply words given other → one ≡ other
one_reply words given one other first last = one_where (task_by words) given one other first last

pub one_answer : (words : List (List ℕ)) (held : Held) (one other : Reply) → IsAnswer words held one → IsAnswer words held other → one ≡ other
one_answer words held one other first last = one_where (task_by words) (told held (asked_for (task_by words))) one other first last

-- ---- the flows of the grown facts are those of the graph

pub report_of_graph : (code : Code) (facts : List Fact) (flows : List Flow) (reply : Reply) → IsGraph code facts → AreFlows (Contains facts) code flows → reply ≡ report code flows → IsReport code reply
report_of_graph code facts flows reply graph are is = (flows, AreFlows-same (Contains facts) (InGraph code) graph code flows are, is)

-- ---- the lines of more flows

pub flow_lines-append : (code : Code) (xs ys : List Flow) → flow_lines code (xs ++ ys) ≡ flow_lines code xs ++ flow_lines code ys
flow_lines-append code [] ys = refl
flow_lines-append code (x ∷ xs) ys = ap (λ rest. flow_line code x ++ rest) (flow_lines-append code xs ys) ∙ sym (append_assoc (flow_line code x) (flow_lines code xs) (flow_lines code ys))

pub flow_lines-step : (code : Code) (flows : List Flow) (i : ℕ) (d : Flow) (start old new : List ℕ) → i < length flows → old ≡ start ++ flow_lines code (take i flows) → new ≡ old ++ flow_line code (get_or flows i d) → new ≡ start ++ flow_lines code (take (i + 1) flows)
flow_lines-step code flows i d start old new below before is =
    let one : flow_lines code (get_or flows i d ∷ []) ≡ flow_line code (get_or flows i d) = append-nil (flow_line code (get_or flows i d)) in
    let more : flow_lines code (take (i + 1) flows) ≡ flow_lines code (take i flows) ++ flow_line code (get_or flows i d) =
    ap (flow_lines code) (take_more flows i d below) ∙ flow_lines-append code (take i flows) (get_or flows i d ∷ []) ∙ ap (λ xs. flow_lines code (take i flows) ++ xs) one in
    is ∙ ap (λ xs. xs ++ flow_line code (get_or flows i d)) before ∙ append_assoc start (flow_lines code (take i flows)) (flow_line code (get_or flows i d)) ∙ ap (λ xs. start ++ xs) (sym more)

-- ---- how long the code is

length-function_rows : (k site : ℕ) (functions : List FormFunction) → length (function_rows k site functions) ≡ length functions
length-function_rows k site [] = refl
length-function_rows k site (function ∷ functions) = ap (λ n. suc n) (length-function_rows (k + 1) (site + length (function_lines (function_id k) function)) functions)

pub few_functions : (form : Form) (code : Code) → code ≡ lowered form → length form.functions ≤ 4096 → length code.functions ≤ 4097
few_functions form code is few =
    let P : Code → Type 0 = λ c. length c.functions ≤ 4097 in
    subst P (sym is) (omega (arith, length-function_rows 1 (length (body_lines form)) form.functions))

pub few_lines : (form : Form) (code : Code) → code ≡ lowered form → IsWellFormed code → length form.functions ≤ 4096 → length code.lines < 2 ^ 31
few_lines form code is shape few = omega (arith, shape.few, few_functions form code is few)

few_rows : (functions : List FormFunction) → length (shared_rows functions) ≤ 1
few_rows [] = omega arith
few_rows (function ∷ functions) = omega arith

pub few_shared : (form : Form) (code : Code) → code ≡ lowered form → length code.shared ≤ 1
few_shared form code is = let P : Code → Type 0 = λ c. length c.shared ≤ 1 in subst P (sym is) (few_rows form.functions)

-- ---- the statuses of an answer

status-report : (code : Code) (flows : List Flow) → ((report code flows).status ≡ Clean) ⊎ ((report code flows).status ≡ Findings)
status-report code [] = inl refl
status-report code (flow ∷ flows) = inr refl

-- an answer for a file is a report or a refusal
abbrev pub IsFileStatus : Status → Type 0
IsFileStatus status = (status ≡ Clean) ⊎ (status ≡ Findings) ⊎ (status ≡ Refused)

status_reading : (reading : Reading) (reply : Reply) → IsReadingAnswer reading reply → IsFileStatus reply.status
status_reading not_strict reply is = inr (inr (ap (λ (r : Reply). r.status) is))
status_reading (no_tree number) reply is = inr (inr (ap (λ (r : Reply). r.status) is))
status_reading (in_form form) reply (flows, are, is) =
    let same = ap (λ (r : Reply). r.status) is in
    ⊎_elim (λ clean. inl (same ∙ clean)) (λ found. inr (inl (same ∙ found))) (status-report (lowered form) flows)

pub status_file : (f : Fetched) (reply : Reply) → IsFileAnswer f reply → IsFileStatus reply.status
status_file Absent reply is = inr (inr (ap (λ (r : Reply). r.status) is))
status_file TooLong reply is = inr (inr (ap (λ (r : Reply). r.status) is))
status_file (Bytes bytes) reply is = status_reading _ reply is

pub status_apart : (status other : Status) → IsFileStatus status → (Clean ≡ other → ⊥) → (Findings ≡ other → ⊥) → (Refused ≡ other → ⊥) → status ≢ other
status_apart status other is a b c same = ⊎_elim (λ x. a (sym x ∙ same)) (λ y. ⊎_elim (λ z. b (sym z ∙ same)) (λ w. c (sym w ∙ same)) y) is
