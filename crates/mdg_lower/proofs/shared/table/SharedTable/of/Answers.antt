use Rattle.std.proofs.Common.{◌+◌, ◌∷◌, drop, sym, ap, subst, ◌∙◌, arith, if◌then◌else◌}
use Rattle.std.specs.Prelude.{Some, None}
use Rattle.mdg_lower.specs.SharedRows.{is_row_of}
use Rattle.mdg_lower.specs.SharedTable.{found, else_number}
use Rattle.mdg_lower.proofs.SharedTableLemmas.{IsFilled, start_filled, fill_one, all_filled}
use Rattle.mdg_lower.proofs.Drops.{drop_at, drop_past}
use Rattle.mdg_lower.proofs.shared.table.SharedTable.of.Goals as goal

pub loop-number-init : goal.loop-number-init
loop-number-init c = start_filled (record { globals = c.new.result; modules = c.new-2.result }) c.args.rows.now c.new.ensures.empty c.new-2.ensures.empty

pub loop-number-preserved : goal.loop-number-preserved
loop-number-preserved c =
    let rows = c.args.rows.now in
    let number = c.loop-number.number in
    let row = c.index-rows-number.result in
    let table = c.loop-number.table in
    fill_one table c.put.new.self number row (drop (number + 1) rows) rows
    (λ home asked. c.in_ok-put.ensures home asked
    ∙ ap (λ n. else_number (found home table asked.now) (if is_row_of home asked.now row then Some (record { 0 = n }) else None)) c.in_ok-counted.ensures)
    (subst (λ rest. IsFilled table number rest rows) (drop_at rows number row c.loop-number-test.true ∙ ap (λ r. r ∷ drop (number + 1) rows) (sym c.index-rows-number.is)) c.loop-number.invariant)

pub returns : goal.returns
returns c =
    let rows = c.args.rows.now in
    let number = c.loop-number.number in
    all_filled c.loop-number.table number rows
    (subst (λ rest. IsFilled c.loop-number.table number rest rows) (drop_past rows number (omega (arith, c.loop-number-test.false))) c.loop-number.invariant)
