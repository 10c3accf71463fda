-- Flows by facts that hold in two ways, and lists of all flows.
use Rattle.std.proofs.Common.{◌≡◌, ◌↔◌, List, [], ◌∷◌, refl, sym, ◌∙◌, ap, subst, inl, inr, ⊎_elim}
use Rattle.std.specs.Prelude.{Contains}
use Rattle.std.specs.declared.cmp.Ordering.{Ordering}
use Rattle.std.specs.declared.cmp.Ordering.TheVariants.{Less, Equal}
use Rattle.std.specs.List.Sorted.{IsStrictlySortedBy}
use Rattle.std.proofs.lemmas.Cmp.{tied_itself}
use Rattle.std.proofs.lemmas.List.Elements.{All-contains}
use Rattle.std.proofs.lemmas.Map.Keys.{sorted_tail}
use Rattle.std.proofs.lemmas.Map.Views.{All-after_first}
use Rattle.mdg_scan.specs.contracts.first.flow.FlowOrd.TheImpl as flow_order
use Rattle.mdg_scan.specs.contracts.first.flow.FlowOrd.TheImpl.Laws as order_laws
use Rattle.mdg_scan.specs.declared.first.code.Code.{Code}
use Rattle.mdg_base.specs.declared.number.Site.{Site}
use Rattle.mdg_scan.specs.declared.first.code.SharedRow.{SharedRow}
use Rattle.mdg_scan.specs.declared.first.code.Statement.{Statement}
use Rattle.mdg_scan.specs.declared.first.fact.Fact.{Fact}
use Rattle.mdg_scan.specs.declared.first.flow.Flow.{Flow}
use Rattle.mdg_scan.specs.declared.first.fact.Row.{Row}
use Rattle.mdg_base.specs.declared.node_name.NodeName.{NodeName}
use Rattle.mdg_scan.specs.Flows.{HaveCommon, IsPathEdge, Reaches, IsStatementFlow, IsFlow, AreFlows}
use Rattle.mdg_scan.proofs.FlowLemmas.{Walk-map}
use Rattle.mdg_scan.proofs.Gathered.{Contains-none, Contains-first, Contains-later, Contains-cases}

module _ (Holds Also : Fact → Type 0) (each : (f : Fact) → Holds f → Also f) where
  HaveCommon-map : (r other : Row) → HaveCommon Holds r other → HaveCommon Also r other
  HaveCommon-map r other common = (common.0, each (record { row = r; node = common.0 }) common.1, each (record { row = other; node = common.0 }) common.2)

  edge_map : (n m : NodeName) → IsPathEdge Holds n m → IsPathEdge Also n m
  edge_map n m edge = ⊎_elim (λ newer. inl (each _ newer)) (λ computed. inr (each _ computed)) edge

  Reaches-map : (n : NodeName) (r : Row) → Reaches Holds n r → Reaches Also n r
  Reaches-map n r reaches = (
    reaches.0,
    reaches.1,
    each (record { row = r; node = reaches.0 }) reaches.2,
    Walk-map (λ a b edge. (edge.0, each _ edge.1)) reaches.3,
    Walk-map edge_map reaches.4,
  )

  -- a flow by the one facts is a flow by the others
  statement_map : (call : Site) (statement : Statement) (shared : List SharedRow) (flow : Flow) → IsStatementFlow Holds call statement shared flow → IsStatementFlow Also call statement shared flow
  statement_map call statement shared flow f =
      let into = f.7 in
      let given = into.5 in
      let is_flow = given.2 in (
        f.0,
        f.1,
        f.2,
        f.3,
        f.4,
        f.5,
        f.6,
        (
          into.0,
          into.1,
          into.2,
          HaveCommon-map _ _ into.3,
          into.4,
          (given.0, given.1, record { at = is_flow.at; into = is_flow.into; number = is_flow.number; reaches = Reaches-map _ _ is_flow.reaches }),
        ),
      )

  pub IsFlow-map : (code : Code) (flow : Flow) → IsFlow Holds code flow → IsFlow Also code flow
  IsFlow-map code flow f = (f.0, f.1, f.2, statement_map _ _ _ flow f.3)

pub AreFlows-same : (Holds Also : Fact → Type 0) → ((f : Fact) → Holds f ↔ Also f) → (code : Code) (flows : List Flow) → AreFlows Holds code flows → AreFlows Also code flows
AreFlows-same Holds Also same code flows are = record {
  sorted = are.sorted;
  all = λ flow. (
    λ there. IsFlow-map Holds Also (λ f. (same f).0) code flow ((are.all flow).0 there),
    λ is_flow. (are.all flow).1 (IsFlow-map Also Holds (λ f. (same f).1) code flow is_flow),
  );
}

-- ---- two sorted lists of the same flows

abbrev order : Flow → Flow → Ordering
order = (flow_order.ghosts).cmp

-- none is below itself
irreflexive : (x : Flow) → order x x ≡ Less → ⊥
irreflexive x is = absurd (let no : Less ≡ Equal = sym is ∙ tied_itself order_laws.total-law x in cc)

-- of two flows only one is below the other
asymmetric : (x y : Flow) → order x y ≡ Less → order y x ≡ Less → ⊥
asymmetric x y one other = irreflexive x ((order_laws.total-law).trans x y x one other)

after : (x y : Flow) (xs : List Flow) → IsStrictlySortedBy order (x ∷ xs) → Contains xs y → order x y ≡ Less
after x y xs sorted there = All-contains (λ q. order x q ≡ Less) xs y (All-after_first order x xs sorted) there

pub same_flows : (xs ys : List Flow) → IsStrictlySortedBy order xs → IsStrictlySortedBy order ys → ((f : Flow) → Contains xs f ↔ Contains ys f) → xs ≡ ys
same_flows [] [] first last same = refl
same_flows [] (y ∷ ys) first last same = absurd (Contains-none y ((same y).1 (Contains-first y ys)))
same_flows (x ∷ xs) [] first last same = absurd (Contains-none x ((same x).0 (Contains-first x xs)))
same_flows (x ∷ xs) (y ∷ ys) first last same =
    let heads : x ≡ y = head x y xs ys first last (same x).0 (same y).1 in
    let P : Flow → Type 0 = λ z. (f : Flow) → Contains (x ∷ xs) f ↔ Contains (z ∷ ys) f in
    let Q : Flow → Type 0 = λ z. IsStrictlySortedBy order (z ∷ ys) in
    ap (λ zs. x ∷ zs) (same_flows xs ys (sorted_tail order x xs first) (sorted_tail order y ys last) (rests x xs ys first (subst Q (sym heads) last) (subst P (sym heads) same)))
    ∙ ap (λ z. z ∷ ys) heads
  where
    head : (x y : Flow) (xs ys : List Flow) → IsStrictlySortedBy order (x ∷ xs) → IsStrictlySortedBy order (y ∷ ys) → (Contains (x ∷ xs) x → Contains (y ∷ ys) x) → (Contains (y ∷ ys) y → Contains (x ∷ xs) y) → x ≡ y
    head x y xs ys first last over back =
        ⊎_elim (λ is. sym is)
        (λ x_later. ⊎_elim (λ is. is) (λ y_later. absurd (asymmetric x y (after x y xs first y_later) (after y x ys last x_later))) (Contains-cases x xs y (back (Contains-first y ys))))
        (Contains-cases y ys x (over (Contains-first x xs)))

    rests : (x : Flow) (xs ys : List Flow) → IsStrictlySortedBy order (x ∷ xs) → IsStrictlySortedBy order (x ∷ ys) → ((f : Flow) → Contains (x ∷ xs) f ↔ Contains (x ∷ ys) f) → (f : Flow) → Contains xs f ↔ Contains ys f
    rests x xs ys first last same f = (
      λ there. ⊎_elim (λ is. absurd (irreflexive x (let P : Flow → Type 0 = λ z. order x z ≡ Less in subst P (sym is) (after x f xs first there)))) (λ later. later) (Contains-cases x ys f ((same f).0 (Contains-later x xs f there))),
      λ there. ⊎_elim (λ is. absurd (irreflexive x (let P : Flow → Type 0 = λ z. order x z ≡ Less in subst P (sym is) (after x f ys last there)))) (λ later. later) (Contains-cases x xs f ((same f).1 (Contains-later x ys f there))),
    )
