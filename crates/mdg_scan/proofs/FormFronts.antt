-- A front of a form is a form, so there is one first line that is out of form.
use Rattle.std.proofs.Common.{◌≡◌, ℕ, suc, zero, ◌+◌, ◌-◌, ◌<◌, ◌≤◌, ◌⊎◌, List, [], ◌∷◌, ◌++◌, length, map, take, cond, sym, ◌∙◌, ap, subst, refl, Bool, true, false, inl, inr, arith, length-append}
use Rattle.std.specs.Prelude.{Option, Some, None}
use Rattle.std.specs.Str.{bytes_eq}
use Rattle.std.specs.Cmp.Lexicographic.{bytes_decides}
use Rattle.std.proofs.Math.Seq.{take-length}
use Rattle.std.proofs.lemmas.Bool.{cases_lt}
use Rattle.std.proofs.lemmas.List.{length-take-le, take-append-le, take-map, take-take}
use Rattle.mdg_scan.specs.declared.first.form.Form.{Form}
use Rattle.mdg_scan.specs.declared.first.form.FormFunction.{FormFunction}
use Rattle.mdg_scan.specs.declared.first.form.Export.{Export}
use Rattle.mdg_scan.specs.FormLines.{directive}
use Rattle.mdg_scan.specs.Form.{AreFunctions, IsFirstUnfit, IsForm, IsStrict, Reading, export_lines, form_lines, in_form, line_of, lines_read_of, no_tree, not_strict, rest_of}
use Rattle.mdg_scan.proofs.FormLaw.{IsRight, all_right, length_of_lines, plain_form}

AreFunctions-take : (earlier : List FormFunction) (number : ℕ) (functions : List FormFunction) (j : ℕ) → AreFunctions earlier number functions → AreFunctions earlier number (take j functions)
AreFunctions-take earlier number [] zero are = tt
AreFunctions-take earlier number [] (suc j) are = tt
AreFunctions-take earlier number (f ∷ functions) zero are = tt
AreFunctions-take earlier number (f ∷ functions) (suc j) are = (are.0, AreFunctions-take (earlier ++ f ∷ []) (number + 1) functions j are.1)

one_export : (functions : List FormFunction) (exported : Option Export) → length (export_lines functions exported) ≤ 1
one_export functions None = omega arith
one_export functions (Some export) = omega arith

-- the lines of a form after the directive
abbrev later_lines : Form → List (List ℕ)
later_lines form = map line_of form.functions ++ export_lines form.functions form.exported

front_later : (form : Form) (j : ℕ) → IsForm (form_lines form) form → j ≤ length (later_lines form) → (j < suc (length form.functions)) ⊎ (suc (length form.functions) ≤ j) → (front : Form) × IsForm (directive ∷ take j (later_lines form)) front
front_later form j is within (inl short) =
    let functions = form.functions in
    let room : j ≤ length (map line_of functions) = omega (arith, length_of_lines functions) in
    let cut : take j (later_lines form) ≡ map line_of (take j functions) = take-append-le j (map line_of functions) (export_lines functions form.exported) room ∙ take-map line_of j functions in
    let front : Form = record { functions = take j functions; exported = None } in
    (front, subst (λ (ls : List (List ℕ)). IsForm (directive ∷ ls) front) (sym cut) (plain_form (take j functions) (AreFunctions-take [] 2 functions j is.functions)))
front_later form j is within (inr long) =
    let size : length (later_lines form) ≡ length (map line_of form.functions) + length (export_lines form.functions form.exported) = length-append (map line_of form.functions) (export_lines form.functions form.exported) in
    let all : j ≡ length (later_lines form) = omega (arith, length_of_lines form.functions, one_export form.functions form.exported) in
    let whole : take j (later_lines form) ≡ later_lines form = ap (λ (n : ℕ). take n (later_lines form)) all ∙ take-length (later_lines form) in
    (form, subst (λ (ls : List (List ℕ)). IsForm (directive ∷ ls) form) (sym whole) is)

-- the first lines of a form are a form
front_form : (lines : List (List ℕ)) (form : Form) (j : ℕ) → IsForm lines form → suc j ≤ length lines → (front : Form) × IsForm (take (suc j) lines) front
front_form lines form j is within =
    let size : length lines ≡ length (form_lines form) = ap length is.spelt in
    let found = front_later form j (subst (λ (ls : List (List ℕ)). IsForm ls form) is.spelt is) (omega arith) (cases_lt j (suc (length form.functions))) in
    (found.0, subst (λ (ls : List (List ℕ)). IsForm (take (suc j) ls) found.0) (sym is.spelt) found.1)

no_lines : (form : Form) → IsForm [] form → ⊥
no_lines form is = let empty : [] ≡ form_lines form = is.spelt in cc

-- no line is out of form before one that is the first
not_before : (lines : List (List ℕ)) (m n : ℕ) → IsFirstUnfit lines m → IsFirstUnfit lines n → m < n → ⊥
not_before lines zero n one other below = no_lines one.before.0 one.before.1
not_before lines (suc j) n one other below =
    let size : length (take (n - 1) lines) ≡ n - 1 = length-take-le (n - 1) lines (omega (arith, other.within)) in
    let front = front_form (take (n - 1) lines) other.before.0 j other.before.1 (omega arith) in
    one.here front.0 (subst (λ (ls : List (List ℕ)). IsForm ls front.0) (take-take (suc j) (n - 1) lines (omega arith)) front.1)

same_unfit : (lines : List (List ℕ)) (m n : ℕ) → IsFirstUnfit lines m → IsFirstUnfit lines n → m ≡ n
same_unfit lines m n one other =
    elim (cases_lt m n) [
      | inl below ↦ absurd (not_before lines m n one other below)
      | inr least ↦
          elim (cases_lt n m) [
            | inl above ↦ absurd (not_before lines n m other one above)
            | inr most ↦ omega arith
          ]
    ]

-- a front that is a form begins with the directive
strict_from_front : (lines : List (List ℕ)) (k : ℕ) (form : Form) → IsForm (take k lines) form → IsStrict lines
strict_from_front lines zero form is = absurd (no_lines form is)
strict_from_front [] (suc k) form is = absurd (no_lines form is)
strict_from_front (line ∷ lines) (suc k) form is =
    let spelt : line ∷ take k lines ≡ form_lines form = is.spelt in
    let first : line ≡ directive = cc in
    (lines, ap (λ (w : List ℕ). w ∷ lines) first)

unfit_read : (lines : List (List ℕ)) (number : ℕ) (reading : Reading) → IsRight lines reading → IsFirstUnfit lines number → reading ≡ no_tree number
unfit_read lines number not_strict right unfit = absurd (right (strict_from_front lines (number - 1) unfit.before.0 unfit.before.1))
unfit_read lines number (no_tree other) right unfit = ap no_tree (same_unfit lines other number right unfit)
unfit_read lines zero (in_form form) right unfit = absurd (no_lines unfit.before.0 unfit.before.1)
unfit_read lines (suc j) (in_form form) right unfit =
    let front = front_form lines form j right unfit.within in
    absurd (unfit.here front.0 front.1)

-- the first line that is out of form is read as that
pub read_unfit : (lines : List (List ℕ)) (number : ℕ) → IsFirstUnfit lines number → lines_read_of lines ≡ no_tree number
read_unfit lines number unfit = unfit_read lines number (lines_read_of lines) (all_right lines) unfit

first_read : (line : List ℕ) (lines : List (List ℕ)) (same : Bool) → bytes_eq line directive ≡ same → (IsStrict (line ∷ lines) → ⊥) → cond same (rest_of [] 2 lines) not_strict ≡ not_strict
first_read line lines true same other =
    absurd (other (lines, ap (λ (w : List ℕ). w ∷ lines) ((bytes_decides line directive).0 same)))
first_read line lines false same other = refl

-- lines that don't begin with the directive are read as that
pub read_other : (lines : List (List ℕ)) → (IsStrict lines → ⊥) → lines_read_of lines ≡ not_strict
read_other [] other = refl
read_other (line ∷ lines) other = first_read line lines (bytes_eq line directive) refl other
