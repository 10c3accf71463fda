-- Flows by the edges of the facts.
use Rattle.std.proofs.Common.{◌≡◌, ◌↔◌, List, [], ◌++◌, ℕ, ◌<◌, length, get_or, map, sym, ◌∙◌, ap, subst, refl, inl, inr, ⊎_elim}
use Rattle.std.specs.Prelude.{Contains, slice_get, Some, None}
use Rattle.std.specs.List.{filter_map}
use Rattle.std.proofs.lemmas.List.{get_or_default}
use Rattle.std.proofs.lemmas.List.Elements.{Contains-get_or}
use Rattle.mdg_base.specs.declared.node_name.NodeName.{NodeName}
use Rattle.mdg_base.specs.declared.node_name.NodeName.TheVariants as name
use Rattle.mdg_base.specs.declared.number.Local.{Local}
use Rattle.mdg_base.specs.declared.number.SharedId.{SharedId}
use Rattle.mdg_base.specs.declared.number.Site.{Site}
use Rattle.mdg_base.specs.declared.profile_word.Kind.{Kind}
use Rattle.mdg_base.specs.declared.profile_word.Kind.TheVariants.{Sink}
use Rattle.mdg_scan.specs.contracts.first.flow.FlowOrd.TheImpl as flow_order
use Rattle.std.specs.List.Sorted.{IsStrictlySortedBy}
use Rattle.mdg_scan.specs.declared.first.code.Code.{Code}
use Rattle.mdg_scan.specs.declared.first.code.Line.{Line}
use Rattle.mdg_scan.specs.declared.first.code.SharedRow.{SharedRow}
use Rattle.mdg_scan.specs.declared.first.code.Statement.{Statement}
use Rattle.mdg_scan.specs.declared.first.code.Statement.TheVariants.{Call}
use Rattle.mdg_scan.specs.declared.first.fact.Fact.{Fact}
use Rattle.mdg_scan.specs.declared.first.fact.Row.{Row}
use Rattle.mdg_scan.specs.declared.first.fact.Row.TheVariants as row
use Rattle.mdg_scan.specs.declared.first.flow.Flow.{Flow}
use Rattle.mdg_scan.specs.declared.first.reach.Edge.{Edge}
use Rattle.mdg_scan.specs.Finding.{Adds, Somewhere, HasEdges, property_edge, property_edge_of, turned_edge, turned_edge_of, flow_from}
use Rattle.mdg_scan.specs.Flows.{IsPropertyEdge, IsPathEdge, Reaches, IsArgumentFlow, IsListedFlow, IsSinkFlow, IsStatementFlow, HaveCommon, AreFlows}
use Rattle.mdg_scan.specs.Parts.{IsPart}
use Rattle.mdg_scan.specs.Walks.{Walk, here, along, Leads, IsReached}
use Rattle.mdg_scan.proofs.Gathered.{filter_map-from, filter_map-to, map-from, map-to, some_is, Adds-as, Adds-items, Adds-nothing, Contains-from_get, get_from_Contains, Contains-none}

some_edge : (a b : Edge) → Some a ≡ Some b → a ≡ b
some_edge a b is = cc

abbrev from_to : NodeName → NodeName → Edge
from_to n m = record { from = n; to = m }

edge_ends : (n m k l : NodeName) → Some (from_to n m) ≡ Some (from_to k l) → (n ≡ k) × (m ≡ l)
edge_ends n m k l is =
    let same : from_to n m ≡ from_to k l = some_edge (from_to n m) (from_to k l) is in
    (ap (λ (e : Edge). e.from) same, ap (λ (e : Edge). e.to) same)

-- ---- edges

property_from : (facts : List Fact) (r : Row) (node n m : NodeName) → Contains facts (record { row = r; node = node }) → property_edge_of r node ≡ Some (from_to n m) → IsPropertyEdge (Contains facts) n m
property_from facts (row.Loc s x) node n m there is = absurd (let no : None ≡ Some (from_to n m) = is in cc)
property_from facts (row.Cell v) node n m there is = absurd (let no : None ≡ Some (from_to n m) = is in cc)
property_from facts (row.Field k q) node n m there is =
    let ends = edge_ends k node n m is in
    let P : NodeName → NodeName → Type 0 = λ a b. Contains facts (record { row = row.Field a q; node = b }) in
    (q, subst (λ a. P a m) ends.0 (subst (P k) ends.1 there))
property_from facts (row.Newer k) node n m there is = absurd (let no : None ≡ Some (from_to n m) = is in cc)
property_from facts (row.Dep k) node n m there is = absurd (let no : None ≡ Some (from_to n m) = is in cc)
property_from facts (row.Known s) node n m there is = absurd (let no : None ≡ Some (from_to n m) = is in cc)
property_from facts row.Exp node n m there is = absurd (let no : None ≡ Some (from_to n m) = is in cc)
property_from facts (row.IsFunction f) node n m there is = absurd (let no : None ≡ Some (from_to n m) = is in cc)
property_from facts (row.IsShared b) node n m there is = absurd (let no : None ≡ Some (from_to n m) = is in cc)

-- the property edges of the facts are those that the definition has
pub Leads-property : (facts : List Fact) (n m : NodeName) → Leads (filter_map property_edge facts) n m ↔ IsPropertyEdge (Contains facts) n m
Leads-property facts n m = (
  λ leads. let r = filter_map-from property_edge facts (from_to n m) leads in property_from facts r.0.row r.0.node n m r.1 r.2,
  λ edge. filter_map-to property_edge facts (record { row = row.Field n edge.0; node = m }) (from_to n m) edge.1 refl,
)

path_from : (facts : List Fact) (r : Row) (node n m : NodeName) → Contains facts (record { row = r; node = node }) → turned_edge_of r node ≡ Some (from_to m n) → IsPathEdge (Contains facts) n m
path_from facts (row.Loc s x) node n m there is = absurd (let no : None ≡ Some (from_to m n) = is in cc)
path_from facts (row.Cell v) node n m there is = absurd (let no : None ≡ Some (from_to m n) = is in cc)
path_from facts (row.Field k q) node n m there is = absurd (let no : None ≡ Some (from_to m n) = is in cc)
path_from facts (row.Newer k) node n m there is =
    let ends = edge_ends node k m n is in
    let P : NodeName → NodeName → Type 0 = λ a b. Contains facts (record { row = row.Newer a; node = b }) in
    inl (subst (λ a. P a m) ends.1 (subst (P k) ends.0 there))
path_from facts (row.Dep k) node n m there is =
    let ends = edge_ends node k m n is in
    let P : NodeName → NodeName → Type 0 = λ a b. Contains facts (record { row = row.Dep a; node = b }) in
    inr (subst (λ a. P a m) ends.1 (subst (P k) ends.0 there))
path_from facts (row.Known s) node n m there is = absurd (let no : None ≡ Some (from_to m n) = is in cc)
path_from facts row.Exp node n m there is = absurd (let no : None ≡ Some (from_to m n) = is in cc)
path_from facts (row.IsFunction f) node n m there is = absurd (let no : None ≡ Some (from_to m n) = is in cc)
path_from facts (row.IsShared b) node n m there is = absurd (let no : None ≡ Some (from_to m n) = is in cc)

pub Leads-turned : (facts : List Fact) (n m : NodeName) → Leads (filter_map turned_edge facts) m n ↔ IsPathEdge (Contains facts) n m
Leads-turned facts n m = (
  λ leads. let r = filter_map-from turned_edge facts (from_to m n) leads in path_from facts r.0.row r.0.node n m r.1 r.2,
  λ edge. ⊎_elim
      (λ newer. filter_map-to turned_edge facts (record { row = row.Newer n; node = m }) (from_to m n) newer refl)
      (λ computed. filter_map-to turned_edge facts (record { row = row.Dep n; node = m }) (from_to m n) computed refl) edge,
)

-- ---- walks

pub Walk-map : {E F : NodeName → NodeName → Type 0} → ((n m : NodeName) → E n m → F n m) → {a b : NodeName} → Walk E a b → Walk F a b
Walk-map each here = here
Walk-map each (along {n} {m} walk edge) = along (Walk-map each walk) (each n m edge)

-- an edge before a walk
pub Walk-before : {E : NodeName → NodeName → Type 0} (a : NodeName) {b c : NodeName} → E a b → Walk E b c → Walk E a c
Walk-before a first here = along here first
Walk-before a first (along walk edge) = along (Walk-before a first walk) edge

-- a walk along turned edges, turned
pub Walk-turned : (E F : NodeName → NodeName → Type 0) → ((n m : NodeName) → E n m → F m n) → {a b : NodeName} → Walk E a b → Walk F b a
Walk-turned E F each here = here
Walk-turned E F each (along {n} {m} walk edge) = Walk-before m (each n m edge) (Walk-turned E F each walk)

-- ---- the nodes from which a path leads to what a row holds

module _ (facts part : List Fact) (r : Row) (is_part : IsPart (λ (f : Fact). f.row ≡ r) facts part) where
  row_from : (n : NodeName) → Contains (map (λ (f : Fact). f.node) part) n → Contains facts (record { row = r; node = n })
  row_from n there =
      let f = map-from (λ (f : Fact). f.node) part n there in
      let found = (is_part f.0).0 f.1 in
      let P : Row → NodeName → Type 0 = λ a b. Contains facts (record { row = a; node = b }) in
      subst (λ a. P a n) found.1 (subst (P f.0.row) f.2 found.0)

  row_to : (n : NodeName) → Contains facts (record { row = r; node = n }) → Contains (map (λ (f : Fact). f.node) part) n
  row_to n there = map-to (λ (f : Fact). f.node) part (record { row = r; node = n }) ((is_part (record { row = r; node = n })).1 (there, refl))

  pub origins_of : (property turned : List Edge) (starts held nodes : List NodeName) → HasEdges facts property turned → starts ≡ map (λ (f : Fact). f.node) part
      → ((n : NodeName) → Contains held n ↔ IsReached (Leads property) starts n) → ((n : NodeName) → Contains nodes n ↔ IsReached (Leads turned) held n)
      → (n : NodeName) → Contains nodes n ↔ Reaches (Contains facts) n r
  origins_of property turned starts held nodes edges starts_are held_are nodes_are n = (
    λ there.
        let back = (nodes_are n).0 there in
        let forth = (held_are back.0).0 back.1 in
        let P : List NodeName → Type 0 = λ xs. Contains xs forth.0 in
        let L : List Edge → NodeName → NodeName → Type 0 = λ xs. Leads xs in
        let start = row_from forth.0 (subst P starts_are forth.1) in (
          forth.0,
          back.0,
          start,
          Walk-map (λ a b leads. (Leads-property facts a b).0 (subst (λ xs. Leads xs a b) edges.properties leads)) forth.2,
          Walk-turned (Leads turned) (IsPathEdge (Contains facts)) (λ a b leads. (Leads-turned facts b a).0 (subst (λ xs. Leads xs a b) edges.paths leads)) back.2,
        ),
    λ reaches.
        let P : List NodeName → Type 0 = λ xs. Contains xs reaches.0 in
        let start = subst P (sym starts_are) (row_to reaches.0 reaches.2) in
        let held_there = (held_are reaches.1).1 (reaches.0, start, Walk-map (λ a b edge. subst (λ xs. Leads xs a b) (sym edges.properties) ((Leads-property facts a b).1 edge)) reaches.3) in
        (nodes_are n).1 (reaches.1, held_there, Walk-turned (IsPathEdge (Contains facts)) (Leads turned) (λ a b edge. subst (λ xs. Leads xs b a) (sym edges.paths) ((Leads-turned facts a b).1 edge)) reaches.4),
  )

-- ---- flows

-- the flows from parameters among the nodes
from_flow : (call : Site) (sink : SharedId) (argument : ℕ) (node : NodeName) (flow : Flow) → flow_from call sink argument node ≡ Some flow
    → (flow.call ≡ call) × (flow.sink ≡ sink) × (flow.argument ≡ argument) × (node ≡ name.Src flow.function flow.parameter)
from_flow call sink argument (name.Src f i) flow is =
    let made : Flow = record { call = call; sink = sink; argument = argument; function = f; parameter = i } in
    let same : flow ≡ made = sym (let e : Some made ≡ Some flow = is in let inner : made ≡ flow = cc in inner) in
    (ap (λ (x : Flow). x.call) same, ap (λ (x : Flow). x.sink) same, ap (λ (x : Flow). x.argument) same, sym (ap (λ (x : Flow). name.Src x.function x.parameter) same))
from_flow call sink argument (name.Shared b) flow is = absurd (let no : None ≡ Some flow = is in cc)
from_flow call sink argument (name.Site s) flow is = absurd (let no : None ≡ Some flow = is in cc)
from_flow call sink argument (name.Ext s) flow is = absurd (let no : None ≡ Some flow = is in cc)
from_flow call sink argument name.Caller flow is = absurd (let no : None ≡ Some flow = is in cc)

again : (call : Site) (sink : SharedId) (argument : ℕ) (flow : Flow) → flow.call ≡ call → flow.sink ≡ sink → flow.argument ≡ argument → flow_from call sink argument (name.Src flow.function flow.parameter) ≡ Some flow
again call sink argument flow at into number =
    let P : Site → SharedId → ℕ → Type 0 = λ c b j. flow_from c b j (name.Src flow.function flow.parameter) ≡ Some flow in
    subst (λ c. P c sink argument) at (subst (λ b. P flow.call b argument) into (subst (λ j. P flow.call flow.sink j) number refl))

pub argument_flows : (facts : List Fact) (nodes : List NodeName) (call : Site) (sink : SharedId) (argument : ℕ) (local : Local) (old new : List Flow)
    → ((n : NodeName) → Contains nodes n ↔ Reaches (Contains facts) n (row.Loc call local))
    → new ≡ old ++ filter_map (flow_from call sink argument) nodes → Adds (IsArgumentFlow (Contains facts) call sink argument local) old new
argument_flows facts nodes call sink argument local old new exact is =
    Adds-items (IsArgumentFlow (Contains facts) call sink argument local) old (filter_map (flow_from call sink argument) nodes) new (λ flow. (
      λ there.
          let r = filter_map-from (flow_from call sink argument) nodes flow there in
          let parts = from_flow call sink argument r.0 flow r.2 in
          let P : NodeName → Type 0 = λ n. Reaches (Contains facts) n (row.Loc call local) in
          record { at = parts.0; into = parts.1; number = parts.2; reaches = subst P parts.3 ((exact r.0).0 r.1) },
      λ is_flow.
          filter_map-to (flow_from call sink argument) nodes (name.Src flow.function flow.parameter) flow ((exact (name.Src flow.function flow.parameter)).1 is_flow.reaches)
          (again call sink argument flow is_flow.at is_flow.into is_flow.number),
    )) is

-- ---- common nodes

module _ (facts part : List Fact) (r other : Row) (is_part : IsPart (λ (f : Fact). f.row ≡ r) facts part) where
  pub common_found : (k : ℕ) (d : Fact) → k < length part → Contains facts (record { row = other; node = (get_or part k d).node }) → HaveCommon (Contains facts) r other
  common_found k d below there =
      let f = get_or part k d in
      let found = (is_part f).0 (Contains-get_or part k d below) in
      let P : Row → Type 0 = λ a. Contains facts (record { row = a; node = f.node }) in
      (f.node, subst P found.1 found.0, there)

  pub common_none : ((k : ℕ) (d : Fact) → k < length part → Contains facts (record { row = other; node = (get_or part k d).node }) → ⊥) → HaveCommon (Contains facts) r other → ⊥
  common_none none common =
      let f : Fact = record { row = r; node = common.0 } in
      let at : Contains part f = (is_part f).1 (common.1, refl) in
      let P : Fact → Type 0 = λ x. Contains facts (record { row = other; node = x.node }) in
      none at.0 f at.1 (subst P (sym at.2) common.2)

pub common_default : (facts part : List Fact) (other : Row) (k : ℕ) (d e : Fact) → k < length part → Contains facts (record { row = other; node = (get_or part k d).node }) → Contains facts (record { row = other; node = (get_or part k e).node })
common_default facts part other k d e below there =
    let P : Fact → Type 0 = λ x. Contains facts (record { row = other; node = x.node }) in subst P (get_or_default part k d e below) there

-- ---- what one step of the search adds

module _ (Holds : Fact → Type 0) (call : Site) (sink : SharedId) (arguments : List Local) where
  pub listed_some : (argument : ℕ) (local : Local) (old new : List Flow) → slice_get arguments argument ≡ Some local → Adds (IsArgumentFlow Holds call sink argument local) old new → Adds (IsListedFlow Holds call sink arguments argument) old new
  listed_some argument local old new is = Adds-as (IsArgumentFlow Holds call sink argument local) (IsListedFlow Holds call sink arguments argument) old new (λ flow. (
    λ is_flow. (local, is, is_flow),
    λ listed. let P : Local → Type 0 = λ x. IsArgumentFlow Holds call sink argument x flow in subst P (some_is listed.0 local (sym listed.1 ∙ is)) listed.2,
  ))

  pub listed_none : (argument : ℕ) (old new : List Flow) → slice_get arguments argument ≡ None → new ≡ old → Adds (IsListedFlow Holds call sink arguments argument) old new
  listed_none argument old new none = Adds-nothing (IsListedFlow Holds call sink arguments argument) old new (λ flow listed. let no : None ≡ Some listed.0 = sym none ∙ listed.1 in cc)

module _ (Holds : Fact → Type 0) (call : Site) (callee : Local) (arguments : List Local) (sink : SharedId) where
  pub sink_some : (kind : Kind) (listed : List ℕ) (old new : List Flow) → kind ≡ Sink listed → HaveCommon Holds (row.Loc call callee) (row.IsShared sink)
      → Adds (Somewhere (λ _ argument. IsListedFlow Holds call sink arguments argument) listed) old new → Adds (IsSinkFlow Holds call callee arguments sink kind) old new
  sink_some kind listed old new is common = Adds-as (Somewhere (λ _ argument. IsListedFlow Holds call sink arguments argument) listed) (IsSinkFlow Holds call callee arguments sink kind) old new (λ flow. (
    λ some. (listed, some.1, is, common, Contains-from_get listed some.0 some.1 some.2, some.3),
    λ is_flow.
        let same : is_flow.0 ≡ listed = some_list is_flow.0 listed (sym is_flow.2 ∙ is) in
        let P : List ℕ → Type 0 = λ xs. Contains xs is_flow.1 in
        let at = get_from_Contains listed is_flow.1 (subst P same is_flow.4) in
        (at.0, is_flow.1, at.1, is_flow.5),
  ))
    where
      some_list : (xs ys : List ℕ) → Sink xs ≡ Sink ys → xs ≡ ys
      some_list xs ys is = cc

  pub sink_apart : (kind : Kind) (old new : List Flow) → ((listed : List ℕ) → kind ≡ Sink listed → HaveCommon Holds (row.Loc call callee) (row.IsShared sink) → ⊥) → new ≡ old → Adds (IsSinkFlow Holds call callee arguments sink kind) old new
  sink_apart kind old new none = Adds-nothing (IsSinkFlow Holds call callee arguments sink kind) old new (λ flow is_flow. none is_flow.0 is_flow.2 is_flow.3)

module _ (Holds : Fact → Type 0) (call : Site) (shared : List SharedRow) where
  pub statement_call : (statement : Statement) (result callee : Local) (arguments : List Local) (old new : List Flow) → statement ≡ Call result callee arguments
      → Adds (Somewhere (λ b (s : SharedRow). IsSinkFlow Holds call callee arguments (record { 0 = b }) s.kind) shared) old new → Adds (IsStatementFlow Holds call statement shared) old new
  statement_call statement result callee arguments old new is = Adds-as (Somewhere (λ b (s : SharedRow). IsSinkFlow Holds call callee arguments (record { 0 = b }) s.kind) shared) (IsStatementFlow Holds call statement shared) old new (λ flow. (
    λ some. (result, callee, arguments, some.0, some.1, is, some.2, some.3),
    λ is_flow.
        let parts = call_parts is_flow.0 result is_flow.1 callee is_flow.2 arguments (sym is_flow.5 ∙ is) in
        let P : Local → List Local → Type 0 = λ y xs. IsSinkFlow Holds call y xs (record { 0 = is_flow.3 }) is_flow.4.kind flow in
        (is_flow.3, is_flow.4, is_flow.6, subst (λ y. P y arguments) parts.0 (subst (P is_flow.1) parts.1 is_flow.7)),
  ))
    where
      call_parts : (r s c d : Local) (xs ys : List Local) → Call r c xs ≡ Call s d ys → (c ≡ d) × (xs ≡ ys)
      call_parts r s c d xs ys is = (cc, cc)

  pub statement_other : (statement : Statement) (old new : List Flow) → ((result callee : Local) (arguments : List Local) → statement ≡ Call result callee arguments → ⊥) → new ≡ old → Adds (IsStatementFlow Holds call statement shared) old new
  statement_other statement old new none = Adds-nothing (IsStatementFlow Holds call statement shared) old new (λ flow is_flow. none is_flow.0 is_flow.1 is_flow.2 is_flow.5)

-- all that was added to nothing, sorted, each once, are the flows of the code
pub all_flows : (facts : List Fact) (code : Code) (found sorted flows : List Flow)
    → Adds (Somewhere (λ s (line : Line). IsStatementFlow (Contains facts) (record { 0 = s }) line.statement code.shared) code.lines) [] found
    → IsStrictlySortedBy (flow_order.ghosts).cmp sorted × ((flow : Flow) → Contains sorted flow ↔ Contains found flow)
    → flows ≡ sorted → AreFlows (Contains facts) code flows
unfolding Adds
all_flows facts code found sorted flows adds once is =
    let P : List Flow → Type 0 = λ xs. AreFlows (Contains facts) code xs in
    subst P (sym is) (record {
      sorted = once.0;
      all = λ flow. (
        λ there. ⊎_elim (λ none. absurd (Contains-none flow none)) (λ some. some) ((adds flow).0 ((once.1 flow).0 there)),
        λ some. (once.1 flow).1 ((adds flow).1 (inr some)),
      );
    })
