use Rattle.std.proofs.Common.{◌≡◌, true, map, ap, sym, ◌∙◌, arith, eqb}
use Rattle.std.specs.List.{Contains}
use Rattle.std.proofs.lemmas.Bool.Decides.{Decides-eqb}
use Rattle.std.proofs.lemmas.List.Elements.{contains_decides, Decides-contains}
use Rattle.mdg_profile.specs.Members.{natural}
use Rattle.mdg_profile.proofs.Numbers.{value_at, none_of_number, none_of_repeat, numbers_more}
use Rattle.serde_json.specs.View.{view}
use Rattle.mdg_profile.proofs.form.numbers_of.Goals as goal

pub returns-in_default : goal.returns-in_default
returns-in_default c =
    let i = c.loop-value.value-index in
    let x = c.value-item.result in
    let at = value_at c.args.values.now i x (omega arith) c.value-item.is in
    λ part are. none_of_number (map view c.args.values.now) i (view x) at.0 (λ n e. c.in_default.ensures n (sym (ap natural at.1) ∙ e)) part are

pub returns-then-contains : goal.returns-then-contains
returns-then-contains c =
    let i = c.loop-value.value-index in
    let x = c.value-item.result in
    let numbers = c.loop-value.numbers in
    let n = c.in-Some.number in
    let at = value_at c.args.values.now i x (omega arith) c.value-item.is in
    let read = c.in-Some.ensures in
    let has = Decides-contains c.deref.result.now n c.contains.result (contains_decides eqb Decides-eqb c.deref.result.now n c.contains.result c.contains.ensures.cases) in
    let found : Contains numbers.items n = rw c.deref.ensures.value at (has.0 (cc)) in
    λ part are. none_of_repeat (map view c.args.values.now) numbers.items i n (view x) at.0 (ap natural at.1 ∙ read.0) found c.loop-value.invariant part are

pub loop-value-preserved : goal.loop-value-preserved
loop-value-preserved c =
    let i = c.loop-value.value-index in
    let x = c.value-item.result in
    let numbers = c.loop-value.numbers in
    let n = c.in-Some.number in
    let at = value_at c.args.values.now i x (omega arith) c.value-item.is in
    let read = c.in-Some.ensures in
    let has = Decides-contains c.deref.result.now n c.contains.result (contains_decides eqb Decides-eqb c.deref.result.now n c.contains.result c.contains.ensures.cases) in
    let is_new : Contains numbers.items n → ⊥ = λ found. let answer : c.contains.result ≡ true = has.1 (rw (sym c.deref.ensures.value) at found) in cc in
    rw c.in_ok-push.ensures.items (numbers_more (map view c.args.values.now) numbers.items i n (view x) at.0 (ap natural at.1 ∙ read.0) read.1 is_new c.loop-value.invariant)
