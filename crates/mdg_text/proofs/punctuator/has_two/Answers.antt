use Rattle.std.proofs.Common.{◌++◌, sym}
use Rattle.mdg_text.specs.Punctuator.{comparisons, shifts_and_updates, connectives, arithmetic_assignments, bitwise_assignments}
use Rattle.mdg_text.proofs.TableLemmas.{listed, one_part}
use Rattle.mdg_text.proofs.punctuator.has_two.Goals as goal

pub returns : goal.returns
returns c =
    let s0 = listed comparisons c.is_comparison-comparisons.result c.args.text.now c.is_comparison-comparisons.ensures in
    let s1 = one_part (comparisons) shifts_and_updates c.is_comparison-comparisons.result c.is_shift_or_update.result c.either-shifts_and_updates.result c.args.text.now s0 c.is_shift_or_update.ensures c.either-shifts_and_updates.ensures in
    let s2 = one_part (comparisons ++ shifts_and_updates) connectives c.either-shifts_and_updates.result c.is_connective.result c.either-connectives.result c.args.text.now s1 c.is_connective.ensures c.either-connectives.ensures in
    let s3 = one_part (comparisons ++ shifts_and_updates ++ connectives) arithmetic_assignments c.either-connectives.result c.is_arithmetic_assignment.result c.either-arithmetic.result c.args.text.now s2 c.is_arithmetic_assignment.ensures c.either-arithmetic.ensures in
    let s4 = one_part (comparisons ++ shifts_and_updates ++ connectives ++ arithmetic_assignments) bitwise_assignments c.either-arithmetic.result c.is_bitwise_assignment.result c.either.result c.args.text.now s3 c.is_bitwise_assignment.ensures c.either.ensures in
    sym s4
