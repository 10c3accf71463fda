use Rattle.std.proofs.Common.{◌≡◌, true, false, sym, ◌∙◌, ap}
use Rattle.std.specs.Prelude.{nat_eq}
use Rattle.std.specs.Cmp.Lexicographic.{pointwise, slice_cmp, nat_list_cmp_total}
use Rattle.std.specs.FinMap.{find, get-from_entries}
use Rattle.std.specs.Ordering.{nat_cmp}
use Rattle.mdg_port.proofs.Found.{found_first, find_later}
use Rattle.mdg_port.proofs.mem_folder.find.Goals as goal

pub returns-then-eq : goal.returns-then-eq
returns-then-eq c =
    let same : pointwise nat_eq c.args.path.now c.in-Some.field-0.now.0 ≡ true = cc in
    found_first _ c.in-Some.field-0.now _ _ c.in-Some.ensures.steps same ∙ sym c.loop-name.invariant

pub loop-name-preserved : goal.loop-name-preserved
loop-name-preserved c =
    let other : pointwise nat_eq c.args.path.now c.in-Some.field-0.now.0 ≡ false = cc in
    c.loop-name.invariant ∙ find_later _ c.in-Some.field-0.now _ _ c.in-Some.ensures.steps other

pub loop-name-init : goal.loop-name-init
loop-name-init c = get-from_entries nat_list_cmp_total _ _ ∙ ap (find (slice_cmp nat_cmp) c.args.path.now) (sym c.into_iter-name-iterator.ensures.into_iter_gives.0)
