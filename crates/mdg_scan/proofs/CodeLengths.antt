-- How many statements the body of a file has.
use Rattle.std.proofs.Common.{◌≡◌, ℕ, ◌+◌, ◌*◌, ◌≤◌, List, [], ◌∷◌, ◌++◌, length, refl, arith, length-append}
use Rattle.std.specs.Prelude.{Option, Some, None}
use Rattle.mdg_base.specs.declared.number.Local.{Local}
use Rattle.mdg_scan.specs.declared.first.form.Form.{Form}
use Rattle.mdg_scan.specs.declared.first.form.FormFunction.{FormFunction}
use Rattle.mdg_scan.specs.declared.first.form.Export.{Export}
use Rattle.mdg_scan.specs.Lowered.{body_lines, declared_lines, end_lines, exported_lines, function_id, local}

pub length-declared_lines : (first : Local) (k : ℕ) (functions : List FormFunction) → length (declared_lines first k functions) ≡ 2 * length functions
length-declared_lines first k [] = refl
length-declared_lines first k (function ∷ functions) =
    let rest : length (declared_lines first (k + 1) functions) ≡ 2 * length functions = length-declared_lines first (k + 1) functions in
    omega arith

length-exported_lines : (first : Local) (exported : Option Export) → length (exported_lines first exported) ≤ 2
length-exported_lines first None = omega arith
length-exported_lines first (Some export) = omega arith

pub length-body_lines : (form : Form) → length (body_lines form) ≤ 2 * length form.functions + 10
length-body_lines form =
    let first : Local = local (length form.functions + 2) in
    let declared : length (declared_lines first 1 form.functions) ≡ 2 * length form.functions = length-declared_lines first 1 form.functions in
    let exported : length (exported_lines first form.exported) ≤ 2 = length-exported_lines first form.exported in
    let one : length (exported_lines first form.exported ++ end_lines first (function_id 0) 1) ≡ length (exported_lines first form.exported) + 2 = length-append (exported_lines first form.exported) (end_lines first (function_id 0) 1) in
    let two : length (declared_lines first 1 form.functions ++ (exported_lines first form.exported ++ end_lines first (function_id 0) 1)) ≡ length (declared_lines first 1 form.functions) + length (exported_lines first form.exported ++ end_lines first (function_id 0) 1) = length-append (declared_lines first 1 form.functions) (exported_lines first form.exported ++ end_lines first (function_id 0) 1) in
    omega arith
