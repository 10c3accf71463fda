use Rattle.std.proofs.Common.{◌≡◌, true, map, length, take, get_or, arith}
use Rattle.std.proofs.lemmas.List.{take_all, length-map}
use Rattle.mdg_profile.specs.Listed.{IsListed}
use Rattle.mdg_profile.proofs.Numbers.{value_at}
use Rattle.mdg_profile.proofs.Turns.{breaks_here, repeats_here, zip_more, first_more}
use Rattle.mdg_profile.specs.Entries.{IsEntry, BreaksForm}
use Rattle.serde_json.specs.View.{view}
use Rattle.mdg_profile.proofs.read.entries_of.Goals as goal

pub returns-in-Err-OutOfForm : goal.returns-in-Err-OutOfForm
returns-in-Err-OutOfForm c =
    let i = c.loop-index.index in
    let x = c.index-values-index.result in
    let at = value_at c.args.values.now i x c.loop-index-test.true c.index-values-index.is in
    let fault = c.in-Err-OutOfForm.ensures in
    let broken : BreaksForm (view x) = rw c.in-Err-OutOfForm.field-0-is at fault in
    (breaks_here (map view c.args.values.now) i (view x) at.0 (rw at.1 broken), c.loop-index.invariant.first)

pub returns-then-is_listed : goal.returns-then-is_listed
returns-then-is_listed c =
    let i = c.loop-index.index in
    let x = c.index-values-index.result in
    let at = value_at c.args.values.now i x c.loop-index-test.true c.index-values-index.is in
    let entry = c.in-Ok.entry in
    let form : IsEntry (view x) entry = c.in-Ok.ensures in
    let listed : IsListed c.loop-index.entries entry = rw c.as_slice.ensures at (c.is_listed.ensures.0 c.if-is_listed.true) in
    (repeats_here (map view c.args.values.now) c.loop-index.entries i (view x) entry at.0 c.loop-index.invariant.zip (rw at.1 form) listed, c.loop-index.invariant.first)

pub loop-index-preserved : goal.loop-index-preserved
loop-index-preserved c =
    let i = c.loop-index.index in
    let x = c.index-values-index.result in
    let items = map view c.args.values.now in
    let at = value_at c.args.values.now i x c.loop-index-test.true c.index-values-index.is in
    let entry = c.in-Ok.entry in
    let form : IsEntry (view x) entry = c.in-Ok.ensures in
    let there : IsEntry (get_or items i (view x)) entry = rw at.1 form in
    let entries = c.loop-index.entries in
    let before = c.loop-index.invariant in
    let is_new : IsListed entries entry → ⊥ = λ found. let answer : c.is_listed.result ≡ true = c.is_listed.ensures.1 (rw c.as_slice.ensures found) in cc in
    record {
      zip = rw c.in_ok-push.ensures.ok (zip_more items entries i (view x) entry at.0 before.zip there);
      first = first_more items entries i (view x) entry at.0 before.zip there is_new before.first;
    }

pub returns : goal.returns
returns c =
    let items = map view c.args.values.now in
    let i = c.loop-index.index in
    let same : length items ≡ length c.args.values.now = length-map c.args.values.now view in
    let all : i ≡ length items = omega arith in
    let before = c.loop-index.invariant in
    let whole : take i items ≡ items = take_all i items (omega arith) in
    (rw whole at before.zip, rw all at before.first)
