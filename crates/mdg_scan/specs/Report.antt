-- What is written of the flows of a file.
use Rattle.std.specs.Prelude.{ℕ, List, [], ◌∷◌, ◌++◌, codes, length, slice_get}
use Rattle.std.specs.Fmt.{decimal}
use Rattle.std.specs.Option.{option_map_or}
use Rattle.mdg_scan.specs.declared.first.code.Code.{Code}
use Rattle.mdg_scan.specs.declared.first.code.Line.{Line}
use Rattle.mdg_scan.specs.declared.first.code.SharedRow.{SharedRow}
use Rattle.mdg_scan.specs.declared.first.flow.Flow.{Flow}
use Rattle.mdg_scan.specs.declared.reply.Reply.{Reply}
use Rattle.mdg_scan.specs.declared.status.Status.{Status}
use Rattle.mdg_scan.specs.declared.status.Status.TheVariants.{Clean, Findings}

-- a line of a text
abbrev pub line : List ℕ → List ℕ
line text = text ++ 10 ∷ []

-- the line of the file that the statement comes from
abbrev pub line_at : List Line → ℕ → ℕ
line_at lines site = option_map_or (λ (l : Line). l.line) (slice_get lines site) 0

-- the name of the shared thing
abbrev pub name_at : List SharedRow → ℕ → List ℕ
name_at shared b = option_map_or (λ (row : SharedRow). row.name) (slice_get shared b) []

-- where the call stands
unfoldable pub place : ℕ → List ℕ
place number = codes "index.js:" ++ decimal number

-- what it calls, and with which argument
unfoldable pub sink_argument : List ℕ → ℕ → List ℕ
sink_argument name argument = codes " " ++ (name ++ (codes " argument " ++ decimal argument))

unfoldable pub flow_line : Code → Flow → List ℕ
flow_line code flow =
    line (codes "flow " ++ (place (line_at code.lines flow.call.0) ++ sink_argument (name_at code.shared flow.sink.0) flow.argument))

abbrev pub flow_lines : Code → List Flow → List ℕ
flow_lines code [] = []
flow_lines code (flow ∷ flows) = flow_line code flow ++ flow_lines code flows

-- how many findings there are
abbrev pub count_line : List Flow → List ℕ
count_line flows = line (codes "findings " ++ decimal (length flows))

abbrev pub status_of : List Flow → Status
status_of [] = Clean
status_of (flow ∷ flows) = Findings

abbrev pub report : Code → List Flow → Reply
report code flows = record { status = status_of flows; text = flow_lines code flows ++ count_line flows }
