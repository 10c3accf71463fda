use Rattle.std.proofs.Common.{◌++◌, sym}
use Rattle.mdg_text.specs.Punctuator.{brackets, separators, signs, arithmetic, bitwise}
use Rattle.mdg_text.proofs.TableLemmas.{listed, one_part}
use Rattle.mdg_text.proofs.punctuator.has_one.Goals as goal

pub returns : goal.returns
returns c =
    let s0 = listed brackets c.is_bracket-brackets.result c.args.text.now c.is_bracket-brackets.ensures in
    let s1 = one_part (brackets) separators c.is_bracket-brackets.result c.is_separator.result c.either-separators.result c.args.text.now s0 c.is_separator.ensures c.either-separators.ensures in
    let s2 = one_part (brackets ++ separators) signs c.either-separators.result c.is_sign.result c.either-signs.result c.args.text.now s1 c.is_sign.ensures c.either-signs.ensures in
    let s3 = one_part (brackets ++ separators ++ signs) arithmetic c.either-signs.result c.is_arithmetic.result c.either-arithmetic.result c.args.text.now s2 c.is_arithmetic.ensures c.either-arithmetic.ensures in
    let s4 = one_part (brackets ++ separators ++ signs ++ arithmetic) bitwise c.either-arithmetic.result c.is_bitwise.result c.either.result c.args.text.now s3 c.is_bitwise.ensures c.either.ensures in
    sym s4
