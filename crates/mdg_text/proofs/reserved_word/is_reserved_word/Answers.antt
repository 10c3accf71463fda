use Rattle.std.proofs.Common.{◌++◌, sym}
use Rattle.mdg_text.specs.ReservedWord.{break_to_const, continue_to_do, else_to_false, finally_to_implements, import_to_let, new_to_protected, public_to_switch, this_to_typeof, var_to_yield}
use Rattle.mdg_text.proofs.TableLemmas.{listed, one_part}
use Rattle.mdg_text.proofs.reserved_word.is_reserved_word.Goals as goal

pub returns : goal.returns
returns c =
    let s0 = listed break_to_const c.is_break_to_const-to_const.result c.args.text.now c.is_break_to_const-to_const.ensures in
    let s1 = one_part (break_to_const) continue_to_do c.is_break_to_const-to_const.result c.is_continue_to_do.result c.either-to_do.result c.args.text.now s0 c.is_continue_to_do.ensures c.either-to_do.ensures in
    let s2 = one_part (break_to_const ++ continue_to_do) else_to_false c.either-to_do.result c.is_else_to_false.result c.either-to_false.result c.args.text.now s1 c.is_else_to_false.ensures c.either-to_false.ensures in
    let s3 = one_part (break_to_const ++ continue_to_do ++ else_to_false) finally_to_implements c.either-to_false.result c.is_finally_to_implements.result c.either-to_implements.result c.args.text.now s2 c.is_finally_to_implements.ensures c.either-to_implements.ensures in
    let s4 = one_part (break_to_const ++ continue_to_do ++ else_to_false ++ finally_to_implements) import_to_let c.either-to_implements.result c.is_import_to_let.result c.either-to_let.result c.args.text.now s3 c.is_import_to_let.ensures c.either-to_let.ensures in
    let s5 = one_part (break_to_const ++ continue_to_do ++ else_to_false ++ finally_to_implements ++ import_to_let) new_to_protected c.either-to_let.result c.is_new_to_protected.result c.either-to_protected.result c.args.text.now s4 c.is_new_to_protected.ensures c.either-to_protected.ensures in
    let s6 = one_part (break_to_const ++ continue_to_do ++ else_to_false ++ finally_to_implements ++ import_to_let ++ new_to_protected) public_to_switch c.either-to_protected.result c.is_public_to_switch.result c.either-to_switch.result c.args.text.now s5 c.is_public_to_switch.ensures c.either-to_switch.ensures in
    let s7 = one_part (break_to_const ++ continue_to_do ++ else_to_false ++ finally_to_implements ++ import_to_let ++ new_to_protected ++ public_to_switch) this_to_typeof c.either-to_switch.result c.is_this_to_typeof.result c.either-to_typeof.result c.args.text.now s6 c.is_this_to_typeof.ensures c.either-to_typeof.ensures in
    let s8 = one_part (break_to_const ++ continue_to_do ++ else_to_false ++ finally_to_implements ++ import_to_let ++ new_to_protected ++ public_to_switch ++ this_to_typeof) var_to_yield c.either-to_typeof.result c.is_var_to_yield.result c.either.result c.args.text.now s7 c.is_var_to_yield.ensures c.either.ensures in
    sym s8
