-- Each lowered code is well formed.
use Rattle.std.proofs.Common.{◌≡◌, ℕ, suc, zero, ◌+◌, ◌*◌, ◌<◌, ◌≤◌, ◌⊎◌, List, [], ◌∷◌, ◌++◌, length, get_or, ap, refl, inl, inr, arith, length-append, add-one, append_assoc, subst, sym, ◌∙◌}
use Rattle.std.specs.Prelude.{Option, Some, None, ⊤}
use Rattle.mdg_base.specs.declared.number.FunId.{FunId}
use Rattle.mdg_base.specs.declared.number.Local.{Local}
use Rattle.mdg_scan.specs.declared.first.code.FunctionRow.{FunctionRow}
use Rattle.mdg_scan.specs.declared.first.code.Line.{Line}
use Rattle.mdg_scan.specs.declared.first.code.Statement.TheVariants.{Return}
use Rattle.mdg_scan.specs.declared.first.form.Form.{Form}
use Rattle.mdg_scan.specs.declared.first.form.FormFunction.{FormFunction}
use Rattle.mdg_scan.specs.declared.first.form.Export.{Export}
use Rattle.mdg_scan.specs.CodeShape.{IsFollowed, IsReturn, IsWellFormed}
use Rattle.mdg_scan.specs.Lowered.{body_lines, declared_lines, end_lines, exported_lines, function_id, function_lines, function_rows, functions_lines, local, lowered, start_lines, statement_line, undefined}
use Rattle.mdg_scan.proofs.CodeLengths.{length-body_lines}

-- each line but the last is followed by one of its function or returns, and the last one returns
abbrev Chained : List Line → Type 0
Chained [] = ⊤
Chained (line ∷ []) = IsReturn line.statement
Chained (line ∷ next ∷ lines) = (IsReturn line.statement ⊎ (next.function ≡ line.function)) × Chained (next ∷ lines)

-- each line is of this function
abbrev Within : FunId → List Line → Type 0
Within f [] = ⊤
Within f (line ∷ lines) = (line.function ≡ f) × Within f lines

Chained-append : (xs ys : List Line) → Chained xs → Chained ys → Chained (xs ++ ys)
Chained-append [] ys one other = other
Chained-append (x ∷ []) [] one other = one
Chained-append (x ∷ []) (y ∷ ys) one other = (inl one, other)
Chained-append (x ∷ next ∷ xs) ys one other = (one.0, Chained-append (next ∷ xs) ys one.1 other)

-- lines of one function before others of it
Chained-within : (f : FunId) (xs : List Line) (y : Line) (ys : List Line) → Within f xs → y.function ≡ f → Chained (y ∷ ys) → Chained (xs ++ y ∷ ys)
Chained-within f [] y ys within is chained = chained
Chained-within f (x ∷ []) y ys within is chained = (inr (cc (within.0)), chained)
Chained-within f (x ∷ next ∷ xs) y ys within is chained =
    (inr (cc (within.0, within.1.0)), Chained-within f (next ∷ xs) y ys within.1 is chained)

Within-append : (f : FunId) (xs ys : List Line) → Within f xs → Within f ys → Within f (xs ++ ys)
Within-append f [] ys one other = other
Within-append f (x ∷ xs) ys one other = (one.0, Within-append f xs ys one.1 other)

Within-declared : (first : Local) (k : ℕ) (functions : List FormFunction) → Within (function_id 0) (declared_lines first k functions)
Within-declared first k [] = tt
Within-declared first k (f ∷ functions) = (refl, (refl, Within-declared first (k + 1) functions))

Within-exported : (first : Local) (exported : Option Export) → Within (function_id 0) (exported_lines first exported)
Within-exported first None = tt
Within-exported first (Some export) = (refl, (refl, tt))

Chained-body : (form : Form) → Chained (body_lines form)
Chained-body form =
    let first = local (length form.functions + 2) in
    let start = start_lines first (local (length form.functions + 3)) in
    let declared = declared_lines first 1 form.functions in
    let exported = exported_lines first form.exported in
    let end = end_lines first (function_id 0) 1 in
    let front : Within (function_id 0) (start ++ (declared ++ exported)) =
    (refl, (refl, (refl, (refl, (refl, (refl, Within-append (function_id 0) declared exported (Within-declared first 1 form.functions) (Within-exported first form.exported))))))) in
    let grouped : (start ++ (declared ++ exported)) ++ end ≡ body_lines form =
    append_assoc start (declared ++ exported) end ∙ ap (λ (ls : List Line). start ++ ls) (append_assoc declared exported end) in
    subst Chained grouped
    (Chained-within (function_id 0) (start ++ (declared ++ exported)) (statement_line (undefined first) (function_id 0) 1) (statement_line (Return first) (function_id 0) 1 ∷ []) front refl (inr refl, tt))

Chained-function : (f : FunId) (function : FormFunction) → Chained (function_lines f function)
Chained-function f function =
    elim function.text as (λ (t : Option (List ℕ)). Chained (function_lines f (record { name = function.name; parameter = function.parameter; text = t; line = function.line }))) [
      | None ↦ (inr refl, (inr refl, (inr refl, (inr refl, (inr refl, tt)))))
      | Some text ↦ (inr refl, (inr refl, (inr refl, (inr refl, (inr refl, (inr refl, (inr refl, tt)))))))
    ]

Chained-functions : (k : ℕ) (functions : List FormFunction) → Chained (functions_lines k functions)
Chained-functions k [] = tt
Chained-functions k (f ∷ functions) =
    Chained-append (function_lines (function_id k) f) (functions_lines (k + 1) functions) (Chained-function (function_id k) f) (Chained-functions (k + 1) functions)

followed_next : (lines : List Line) (site : ℕ) (default : Line) → Chained lines → site < length lines → IsReturn (get_or lines site default).statement ⊎ ((suc site < length lines) × ((get_or lines (suc site) default).function ≡ (get_or lines site default).function))
followed_next [] site default chained within = absurd (omega arith)
followed_next (line ∷ []) zero default chained within = inl chained
followed_next (line ∷ []) (suc site) default chained within = absurd (omega arith)
followed_next (line ∷ next ∷ lines) zero default chained within =
    elim chained.0 [ inl returns ↦ inl returns | inr same ↦ inr (omega arith, same) ]
followed_next (line ∷ next ∷ lines) (suc site) default chained within =
    elim (followed_next (next ∷ lines) site default chained.1 (omega arith)) [
      | inl returns ↦ inl returns
      | inr more ↦ inr (omega (arith, more.0), more.1)
    ]

followed_from : (lines : List Line) (site : ℕ) (default : Line) → Chained lines → site < length lines → IsFollowed lines site default
followed_from lines site default chained within =
    subst (λ (n : ℕ). IsReturn (get_or lines site default).statement ⊎ ((n < length lines) × ((get_or lines n default).function ≡ (get_or lines site default).function))) (sym (add-one site))
    (followed_next lines site default chained within)

length-function_lines : (f : FunId) (function : FormFunction) → (6 ≤ length (function_lines f function)) × (length (function_lines f function) ≤ 8)
length-function_lines f function =
    elim function.text as (λ (t : Option (List ℕ)). (6 ≤ length (function_lines f (record { name = function.name; parameter = function.parameter; text = t; line = function.line }))) × (length (function_lines f (record { name = function.name; parameter = function.parameter; text = t; line = function.line })) ≤ 8)) [
      | None ↦ (omega arith, omega arith)
      | Some text ↦ (omega arith, omega arith)
    ]

length-functions_lines : (k : ℕ) (functions : List FormFunction) → length (functions_lines k functions) ≤ 8 * length functions
length-functions_lines k [] = omega arith
length-functions_lines k (f ∷ functions) =
    let size : length (functions_lines k (f ∷ functions)) ≡ length (function_lines (function_id k) f) + length (functions_lines (k + 1) functions) = length-append (function_lines (function_id k) f) (functions_lines (k + 1) functions) in
    let one : length (function_lines (function_id k) f) ≤ 8 = (length-function_lines (function_id k) f).1 in
    let rest : length (functions_lines (k + 1) functions) ≤ 8 * length functions = length-functions_lines (k + 1) functions in
    let count : length (f ∷ functions) ≡ suc (length functions) = refl in
    omega arith

length-function_rows : (k site : ℕ) (functions : List FormFunction) → length (function_rows k site functions) ≡ length functions
length-function_rows k site [] = refl
length-function_rows k site (f ∷ functions) = ap suc (length-function_rows (k + 1) (site + length (function_lines (function_id k) f)) functions)

entered_from : (k site : ℕ) (functions : List FormFunction) (at : ℕ) (default : FunctionRow) → at < length functions → (get_or (function_rows k site functions) at default).entry.0 < site + length (functions_lines k functions)
entered_from k site [] at default within = absurd (omega arith)
entered_from k site (f ∷ functions) zero default within =
    let size : length (functions_lines k (f ∷ functions)) ≡ length (function_lines (function_id k) f) + length (functions_lines (k + 1) functions) = length-append (function_lines (function_id k) f) (functions_lines (k + 1) functions) in
    let some : 6 ≤ length (function_lines (function_id k) f) = (length-function_lines (function_id k) f).0 in
    let goes : site < site + length (functions_lines k (f ∷ functions)) = omega arith in
    goes
entered_from k site (f ∷ functions) (suc at) default within =
    let next = site + length (function_lines (function_id k) f) in
    let size : length (functions_lines k (f ∷ functions)) ≡ length (function_lines (function_id k) f) + length (functions_lines (k + 1) functions) = length-append (function_lines (function_id k) f) (functions_lines (k + 1) functions) in
    let later : (get_or (function_rows (k + 1) (site + length (function_lines (function_id k) f)) functions) at default).entry.0 < site + length (function_lines (function_id k) f) + length (functions_lines (k + 1) functions) =
    entered_from (k + 1) (site + length (function_lines (function_id k) f)) functions at default (omega arith) in
    omega arith

entered_code : (form : Form) (function : ℕ) (default : FunctionRow) → function < length (lowered form).functions → (get_or (lowered form).functions function default).entry.0 < length (lowered form).lines
entered_code form zero default within =
    let size : length (lowered form).lines ≡ length (body_lines form) + length (functions_lines 1 form.functions) = length-append (body_lines form) (functions_lines 1 form.functions) in
    omega arith
entered_code form (suc at) default within =
    let size : length (lowered form).lines ≡ length (body_lines form) + length (functions_lines 1 form.functions) = length-append (body_lines form) (functions_lines 1 form.functions) in
    let rows : length (function_rows 1 (length (body_lines form)) form.functions) ≡ length form.functions = length-function_rows 1 (length (body_lines form)) form.functions in
    let later : (get_or (function_rows 1 (length (body_lines form)) form.functions) at default).entry.0 < length (body_lines form) + length (functions_lines 1 form.functions) =
    entered_from 1 (length (body_lines form)) form.functions at default (omega arith) in
    omega arith

few_lines : (form : Form) → length (lowered form).lines ≤ 10 * length (lowered form).functions
few_lines form =
    let size : length (lowered form).lines ≡ length (body_lines form) + length (functions_lines 1 form.functions) = length-append (body_lines form) (functions_lines 1 form.functions) in
    let rows : length (function_rows 1 (length (body_lines form)) form.functions) ≡ length form.functions = length-function_rows 1 (length (body_lines form)) form.functions in
    let body : length (body_lines form) ≤ 2 * length form.functions + 10 = length-body_lines form in
    let rest : length (functions_lines 1 form.functions) ≤ 8 * length form.functions = length-functions_lines 1 form.functions in
    omega arith

pub IsWellFormed-lowered : (form : Form) → IsWellFormed (lowered form)
IsWellFormed-lowered form = record {
  followed = λ site default within. followed_from (lowered form).lines site default (Chained-append (body_lines form) (functions_lines 1 form.functions) (Chained-body form) (Chained-functions 1 form.functions)) within;
  entered = entered_code form;
  few = few_lines form;
}
