-- Flows that are sorted, each once.
use Rattle.std.proofs.Common.{◌≡◌, ◌↔◌, List, ℕ, Bool, true, false, ◌&&◌, ◌==◌, eqb-true, refl, sym, ◌∙◌, ap, subst, arith}
use Rattle.std.specs.Prelude.{Contains}
use Rattle.std.specs.declared.cmp.Ordering.{Ordering}
use Rattle.std.specs.List.{dedup}
use Rattle.std.specs.List.Sorted.{IsSorted, IsStrictlySortedBy}
use Rattle.std.proofs.Common.{IsPermutation}
use Rattle.std.proofs.lemmas.List.Sorted.{Contains-permutation, IsPermutation-sym}
use Rattle.std.proofs.lemmas.List.Kept.{Contains-dedup, Contains-from_dedup, IsStrictlySortedBy-dedup}
use Rattle.mdg_scan.specs.contracts.first.flow.FlowOrd.TheImpl as flow_order
use Rattle.mdg_scan.specs.contracts.first.flow.FlowOrd.TheImpl.Laws as order_laws
use Rattle.mdg_scan.specs.contracts.first.flow.FlowPartialEq.TheImpl as flow_equality
use Rattle.mdg_scan.specs.contracts.first.flow.FlowEq.TheImpl.Laws as equality_laws
use Rattle.mdg_scan.specs.declared.first.flow.Flow.{Flow}

abbrev order : Flow → Flow → Ordering
order = (flow_order.ghosts).cmp

abbrev same : Flow → Flow → Bool
same = (flow_equality.ghosts).eq

and_left : (a b : Bool) → a && b ≡ true → a ≡ true
and_left true b is = refl
and_left false b is = is

and_right : (a b : Bool) → a && b ≡ true → b ≡ true
and_right true b is = is
and_right false b is = absurd (let no : false ≡ true = is in grind arith)

abbrev made : ℕ → ℕ → ℕ → ℕ → ℕ → Flow
made c b j f i = record { call = record { 0 = c }; sink = record { 0 = b }; argument = j; function = record { 0 = f }; parameter = i }

five : (x y : Flow) → x.call.0 ≡ y.call.0 → x.sink.0 ≡ y.sink.0 → x.argument ≡ y.argument → x.function.0 ≡ y.function.0 → x.parameter ≡ y.parameter → x ≡ y
five x y a b c d e =
    ap (λ n. made n x.sink.0 x.argument x.function.0 x.parameter) a ∙ ap (λ n. made y.call.0 n x.argument x.function.0 x.parameter) b
    ∙ ap (λ n. made y.call.0 y.sink.0 n x.function.0 x.parameter) c ∙ ap (λ n. made y.call.0 y.sink.0 y.argument n x.parameter) d
    ∙ ap (λ n. made y.call.0 y.sink.0 y.argument y.function.0 n) e

-- flows that count as the same are equal
same_is : (x y : Flow) → same x y ≡ true → x ≡ y
same_is x y is =
    let a = and_left (x.call.0 == y.call.0) _ is in
    let b = and_right (x.call.0 == y.call.0) _ is in
    let c = and_left (x.sink.0 == y.sink.0) _ b in
    let d = and_right (x.sink.0 == y.sink.0) _ b in
    let e = and_left (x.argument == y.argument) _ d in
    let f = and_right (x.argument == y.argument) _ d in
    let g = and_left (x.function.0 == y.function.0) _ f in
    let h = and_right (x.function.0 == y.function.0) _ f in
    five x y (eqb-true _ _ a) (eqb-true _ _ c) (eqb-true _ _ e) (eqb-true _ _ g) (eqb-true _ _ h)

pub sorted_once : (found sorted flows : List Flow) → IsPermutation found sorted → IsSorted order sorted → flows ≡ dedup same sorted → IsStrictlySortedBy order flows × ((flow : Flow) → Contains flows flow ↔ Contains found flow)
sorted_once found sorted flows permutes is_sorted is =
    let P : List Flow → Type 0 = λ xs. IsStrictlySortedBy order xs × ((flow : Flow) → Contains xs flow ↔ Contains found flow) in
    subst P (sym is) (
      IsStrictlySortedBy-dedup order_laws.total-law order_laws.matches_eq-law sorted is_sorted,
      λ flow. (
        λ there. Contains-permutation sorted found flow (IsPermutation-sym found sorted permutes) (Contains-from_dedup same sorted flow there),
        λ there. Contains-dedup equality_laws.laws-law same_is sorted flow (Contains-permutation found sorted flow permutes there),
      ),
    )
