-- Flow findings: which parameter's data can reach which argument of a sink.
use Rattle.std.specs.Prelude.{◌≡◌, ◌⊎◌, ◌↔◌, ℕ, List, Contains, slice_get, Some}
use Rattle.std.specs.List.Sorted.{IsStrictlySortedBy}
use Rattle.mdg_base.specs.declared.node_name.NodeName.{NodeName}
use Rattle.mdg_base.specs.declared.node_name.NodeName.TheVariants.{Src}
use Rattle.mdg_base.specs.declared.number.Column.{Column}
use Rattle.mdg_base.specs.declared.number.Local.{Local}
use Rattle.mdg_base.specs.declared.number.SharedId.{SharedId}
use Rattle.mdg_base.specs.declared.number.Site.{Site}
use Rattle.mdg_base.specs.declared.profile_word.Kind.{Kind}
use Rattle.mdg_base.specs.declared.profile_word.Kind.TheVariants.{Sink}
use Rattle.mdg_scan.specs.contracts.first.flow.FlowOrd.TheImpl as flow_order
use Rattle.mdg_scan.specs.declared.first.code.Code.{Code}
use Rattle.mdg_scan.specs.declared.first.code.Line.{Line}
use Rattle.mdg_scan.specs.declared.first.code.SharedRow.{SharedRow}
use Rattle.mdg_scan.specs.declared.first.code.Statement.{Statement}
use Rattle.mdg_scan.specs.declared.first.code.Statement.TheVariants.{Call}
use Rattle.mdg_scan.specs.declared.first.fact.Fact.{Fact}
use Rattle.mdg_scan.specs.declared.first.fact.Row.{Row}
use Rattle.mdg_scan.specs.declared.first.fact.Row.TheVariants.{Loc, Field, Newer, Dep, IsShared}
use Rattle.mdg_scan.specs.declared.first.flow.Flow.{Flow}
use Rattle.mdg_scan.specs.Walks.{Walk}
-- Flow findings: which parameter's data can reach which argument of a sink.
use Rattle.std.specs.Prelude.{◌≡◌, ℕ, List, Contains, slice_get, Some}
use Rattle.mdg_base.specs.declared.node_name.NodeName.{NodeName}
use Rattle.mdg_base.specs.declared.node_name.NodeName.TheVariants.{Src}
use Rattle.mdg_base.specs.declared.number.Local.{Local}
use Rattle.mdg_base.specs.declared.number.Column.{Column}
use Rattle.mdg_base.specs.declared.profile_word.Kind.TheVariants.{Sink}
use Rattle.mdg_scan.specs.declared.first.code.Code.{Code}
use Rattle.mdg_scan.specs.declared.first.code.Line.{Line}
use Rattle.mdg_scan.specs.declared.first.code.SharedRow.{SharedRow}
use Rattle.mdg_scan.specs.declared.first.code.Statement.TheVariants.{Call}
use Rattle.mdg_scan.specs.declared.first.fact.Fact.{Fact}
use Rattle.mdg_scan.specs.declared.first.fact.Row.{Row}
use Rattle.mdg_scan.specs.declared.first.fact.Row.TheVariants.{Loc, Field, Newer, Dep, IsShared}
use Rattle.mdg_scan.specs.declared.first.flow.Flow.{Flow}
use Rattle.mdg_scan.specs.Walks.{Walk}

module _ (Holds : Fact → Type 0) where
  -- the node stands in the row
  abbrev pub Stands : Row → NodeName → Type 0
  Stands row node = Holds (record { row = row; node = node })

  -- the two rows have a common node
  abbrev pub HaveCommon : Row → Row → Type 0
  HaveCommon row other = (node : NodeName) × Stands row node × Stands other node

  -- a property of the one node holds the other
  abbrev pub IsPropertyEdge : NodeName → NodeName → Type 0
  IsPropertyEdge n m = (q : Column) × Stands (Field n q) m

  -- the other node is a newer version of the one, or depends on it
  abbrev pub IsPathEdge : NodeName → NodeName → Type 0
  IsPathEdge n m = Stands (Newer n) m ⊎ Stands (Dep n) m

  -- a path leads from the node to what a node of the row holds, itself or by properties of properties
  abbrev pub Reaches : NodeName → Row → Type 0
  Reaches origin row = (start : NodeName) × (held : NodeName) × Stands row start × Walk IsPropertyEdge start held × Walk IsPathEdge origin held

  -- a flow into this argument of the call, which is this local of the caller
  pub record IsArgumentFlow (call : Site) (sink : SharedId) (argument : ℕ) (local : Local) (flow : Flow) : Type 0 where
    pub at : flow.call ≡ call
    pub into : flow.sink ≡ sink
    pub number : flow.argument ≡ argument
    pub reaches : Reaches (Src flow.function flow.parameter) (Loc call local)

  -- a flow into the argument with this number, which the call has
  abbrev pub IsListedFlow : Site → SharedId → List Local → ℕ → Flow → Type 0
  IsListedFlow call sink arguments argument flow =
      (local : Local) × (slice_get arguments argument ≡ Some local) × IsArgumentFlow call sink argument local flow

  -- a flow into an argument that the shared thing lists as a sink, which the call may call
  abbrev pub IsSinkFlow : Site → Local → List Local → SharedId → Kind → Flow → Type 0
  IsSinkFlow call callee arguments sink kind flow =
      (listed : List ℕ) × (argument : ℕ) × (kind ≡ Sink listed) × HaveCommon (Loc call callee) (IsShared sink)
      × Contains listed argument × IsListedFlow call sink arguments argument flow

  -- a flow of the statement, which is a call, into one of the shared things
  abbrev pub IsStatementFlow : Site → Statement → List SharedRow → Flow → Type 0
  IsStatementFlow call statement shared flow =
      (result : Local) × (callee : Local) × (arguments : List Local) × (sink : ℕ) × (row : SharedRow)
      × (statement ≡ Call result callee arguments) × (slice_get shared sink ≡ Some row)
      × IsSinkFlow call callee arguments (record { 0 = sink }) row.kind flow

  -- a flow of the code
  abbrev pub IsFlow : Code → Flow → Type 0
  IsFlow code flow =
      (call : ℕ) × (line : Line) × (slice_get code.lines call ≡ Some line)
      × IsStatementFlow (record { 0 = call }) line.statement code.shared flow

  -- all flows of the code, each once, in the order of a report: by call, sink, argument, function and parameter
  pub record AreFlows (code : Code) (flows : List Flow) : Type 0 where
    pub sorted : IsStrictlySortedBy (flow_order.ghosts).cmp flows
    pub all : (flow : Flow) → Contains flows flow ↔ IsFlow code flow
