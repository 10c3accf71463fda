-- What is read of some lines is what they are.
use Rattle.std.proofs.Common.{◌≡◌, ℕ, suc, zero, ◌+◌, ◌-◌, ◌<◌, List, [], ◌∷◌, ◌++◌, length, map, take, get_or, cond, eqb, sym, ◌∙◌, ap, subst, refl, Bool, true, false, ◌||◌, arith, append_assoc, length-append}
use Rattle.std.specs.Prelude.{IfSome, Option, Some, None}
use Rattle.std.specs.List.{position_from}
use Rattle.std.specs.Str.{bytes_eq}
use Rattle.std.specs.Cmp.Lexicographic.{bytes_decides}
use Rattle.std.proofs.lemmas.List.{map-append}
use Rattle.std.proofs.lemmas.List.Folds.{list_any-append}
use Rattle.std.proofs.Math.Seq.{take-append_seam, take-append-add}
use Rattle.mdg_scan.specs.declared.first.form.Form.{Form}
use Rattle.mdg_scan.specs.declared.first.form.FormFunction.{FormFunction}
use Rattle.mdg_scan.specs.declared.first.form.Export.{Export}
use Rattle.mdg_scan.specs.FormLines.{directive, exports_line, function_line}
use Rattle.mdg_scan.specs.Form.{AreFunctions, IsExport, IsFirstUnfit, IsForm, IsFunction, IsStrict, Reading, end_of, export_lines, exported_of, function_of, in_form, is_declared, line_of, lines_read_of, name_at, next_of, no_tree, not_strict, rest_of}
use Rattle.mdg_scan.proofs.FormExports.{exports_once}
use Rattle.mdg_scan.proofs.FormParts.{IsRead, function_of-spells}
use Rattle.mdg_scan.proofs.FormRest.{line_read, next_by, next_new, next_none}

-- One line ------------------------------------------------------------------------------------------------------------

-- a function is read of the line that declares it
next_of-line : (earlier : List FormFunction) (number : ℕ) (f : FormFunction) → IsFunction earlier number f → next_of earlier number (line_of f) ≡ Some f
next_of-line earlier number f is =
    sym (next_new earlier number (line_of f) f.name f.parameter f.text f
    (record { named = is.name; takes = is.parameter; plain = is.plain; spelt = refl })
    (sym is.new)
    (ap (λ (w : ℕ). let g : FormFunction = record { name = f.name; parameter = f.parameter; text = f.text; line = w } in g) is.line))

-- what is read of a line may stand there
record IsNext (earlier : List FormFunction) (number : ℕ) (line : List ℕ) (f : FormFunction) : Type 0 where
  pub fits : IsFunction earlier number f
  pub spelt : line ≡ line_of f

next_from_read : (earlier : List FormFunction) (number : ℕ) (line : List ℕ) (g f : FormFunction) → IsRead number line g → (declared : Bool) → is_declared earlier g.name ≡ declared → cond declared None (Some g) ≡ Some f → IsNext earlier number line f
next_from_read earlier number line g f read true new is = cc
next_from_read earlier number line g f read false new is =
    let same : g ≡ f = cc in
    subst (IsNext earlier number line) same (record {
      fits = record { name = read.is_line.named; parameter = read.is_line.takes; plain = read.is_line.plain; line = read.is_number; new = new };
      spelt = read.is_line.spelt;
    })

next_from : (earlier : List FormFunction) (number : ℕ) (line : List ℕ) (f : FormFunction) (o : Option FormFunction) → function_of number line ≡ o → next_by earlier o ≡ Some f → IsNext earlier number line f
next_from earlier number line f None read is = cc
next_from earlier number line f (Some g) read is =
    next_from_read earlier number line g f (function_of-spells number line g read) (is_declared earlier g.name) refl is

next_of-spells : (earlier : List FormFunction) (number : ℕ) (line : List ℕ) (f : FormFunction) → next_of earlier number line ≡ Some f → IsNext earlier number line f
next_of-spells earlier number line f is = next_from earlier number line f (function_of number line) refl is

-- the line that exports a function declares none
exports_no_function : (name n p : List ℕ) (t : Option (List ℕ)) → exports_line name ≡ function_line n p t → ⊥
exports_no_function name n p t same =
    let head : true ≡ false = ap (λ (w : List ℕ). eqb (get_or w 0 0) 109) same in
    cc

next_of-exports : (earlier : List FormFunction) (number : ℕ) (name : List ℕ) → next_of earlier number (exports_line name) ≡ None
next_of-exports earlier number name =
    sym (next_none earlier number (exports_line name) (λ n p t is. exports_no_function name n p t is.spelt))

-- The function that a line exports ------------------------------------------------------------------------------------

record IsExportedAt (functions : List FormFunction) (line : List ℕ) (from at : ℕ) : Type 0 where
  pub place : ℕ
  pub counted : at ≡ from + place
  pub within : place < length functions
  pub spelt : line ≡ exports_line (name_at functions place)

-- one function more in front
exported_step : (f : FormFunction) (functions : List FormFunction) (line : List ℕ) (from at : ℕ) → ((at : ℕ) → position_from (λ (f : FormFunction). bytes_eq line (exports_line f.name)) (from + 1) functions ≡ Some at → IsExportedAt functions line (from + 1) at) → (same : Bool) → bytes_eq line (exports_line f.name) ≡ same → cond same (Some from) (position_from (λ (f : FormFunction). bytes_eq line (exports_line f.name)) (from + 1) functions) ≡ Some at → IsExportedAt (f ∷ functions) line from at
exported_step f functions line from at later true same is =
    let here : from ≡ at = cc in
    record { place = 0; counted = omega arith; within = omega arith; spelt = (bytes_decides line (exports_line f.name)).0 same }
exported_step f functions line from at later false same is =
    let rest = later at is in
    record { place = suc rest.place; counted = omega (arith, rest.counted); within = omega (arith, rest.within); spelt = rest.spelt }

exported_from : (functions : List FormFunction) (line : List ℕ) (from at : ℕ) → position_from (λ (f : FormFunction). bytes_eq line (exports_line f.name)) from functions ≡ Some at → IsExportedAt functions line from at
exported_from [] line from at is = cc
exported_from (f ∷ functions) line from at is =
    exported_step f functions line from at (λ at h. exported_from functions line (from + 1) at h) (bytes_eq line (exports_line f.name)) refl is

exported_of-spells : (functions : List FormFunction) (line : List ℕ) (at : ℕ) → exported_of functions line ≡ Some at → (at < length functions) × (line ≡ exports_line (name_at functions at))
exported_of-spells functions line at is =
    let found = exported_from functions line 0 at is in
    let same : found.place ≡ at = omega (arith, found.counted) in
    (omega (arith, found.within), found.spelt ∙ ap (λ (k : ℕ). exports_line (name_at functions k)) same)

not_declared_front : (earlier : List FormFunction) (f : FormFunction) (name : List ℕ) → is_declared (earlier ++ f ∷ []) name ≡ false → (is_declared earlier name ≡ false) × (bytes_eq f.name name ≡ false)
not_declared_front earlier f name none =
    parts (is_declared earlier name) (bytes_eq f.name name) (sym (list_any-append (λ (e : FormFunction). bytes_eq e.name name) earlier (f ∷ [])) ∙ none)
  where
    parts : (a b : Bool) → (a || (b || false)) ≡ false → (a ≡ false) × (b ≡ false)
    parts true b is = cc
    parts false true is = cc
    parts false false is = (refl, refl)

-- the names of later functions are new
later_new : (earlier : List FormFunction) (number : ℕ) (functions : List FormFunction) (k : ℕ) → AreFunctions earlier number functions → k < length functions → is_declared earlier (name_at functions k) ≡ false
later_new earlier number [] k are within = absurd (omega arith)
later_new earlier number (f ∷ functions) zero are within = are.0.new
later_new earlier number (f ∷ functions) (suc k) are within =
    (not_declared_front earlier f (name_at functions k) (later_new (earlier ++ f ∷ []) (number + 1) functions k are.1 (omega arith))).0

false_test : (a b : List ℕ) → bytes_eq b a ≡ false → bytes_eq (exports_line a) (exports_line b) ≡ false
false_test a b other = cases (bytes_eq (exports_line a) (exports_line b)) (λ is.
    let same : b ≡ a = sym (exports_once a b ((bytes_decides (exports_line a) (exports_line b)).0 is)) in
    let test : bytes_eq b a ≡ true = (bytes_decides b a).1 same in
    cc)
  where
    cases : (t : Bool) → (t ≡ true → ⊥) → t ≡ false
    cases true never = absurd (never refl)
    cases false never = refl

-- of functions with unlike names the one is found whose name is exported
exported_at : (earlier : List FormFunction) (number : ℕ) (functions : List FormFunction) (k from : ℕ) → AreFunctions earlier number functions → k < length functions → position_from (λ (f : FormFunction). bytes_eq (exports_line (name_at functions k)) (exports_line f.name)) from functions ≡ Some (from + k)
exported_at earlier number [] k from are within = absurd (omega arith)
exported_at earlier number (f ∷ functions) zero from are within =
    let rest = position_from (λ (g : FormFunction). bytes_eq (exports_line f.name) (exports_line g.name)) (from + 1) functions in
    let sum : from ≡ from + 0 = omega arith in
    ap (λ b. cond b (Some from) rest) ((bytes_decides (exports_line f.name) (exports_line f.name)).1 refl) ∙ ap Some sum
exported_at earlier number (f ∷ functions) (suc k) from are within =
    let name = name_at functions k in
    let rest = position_from (λ (g : FormFunction). bytes_eq (exports_line name) (exports_line g.name)) (from + 1) functions in
    let new : is_declared (earlier ++ f ∷ []) name ≡ false = later_new (earlier ++ f ∷ []) (number + 1) functions k are.1 (omega arith) in
    let sum : from + 1 + k ≡ from + suc k = omega arith in
    ap (λ b. cond b (Some from) rest) (false_test name f.name ((not_declared_front earlier f name new).1))
    ∙ exported_at (earlier ++ f ∷ []) (number + 1) functions k (from + 1) are.1 (omega arith) ∙ ap Some sum

-- Many lines ----------------------------------------------------------------------------------------------------------

-- the lines of functions are read as them
rest_of-functions : (earlier : List FormFunction) (number : ℕ) (functions : List FormFunction) (lines : List (List ℕ)) → AreFunctions earlier number functions → rest_of earlier number (map line_of functions ++ lines) ≡ rest_of (earlier ++ functions) (number + length functions) lines
rest_of-functions earlier number [] lines are =
    let sum : number ≡ number + 0 = omega arith in
    ap (λ (fs : List FormFunction). rest_of fs number lines) (sym (append-nil earlier)) ∙ ap (λ (n : ℕ). rest_of (earlier ++ []) n lines) sum
  where
    append-nil : (xs : List FormFunction) → xs ++ [] ≡ xs
    append-nil [] = refl
    append-nil (x ∷ xs) = ap (λ w. x ∷ w) (append-nil xs)
rest_of-functions earlier number (f ∷ functions) lines are =
    let sum : number + 1 + length functions ≡ number + length (f ∷ functions) = omega arith in
    ap (λ o. line_read earlier number (map line_of functions ++ lines) o (exported_of earlier (line_of f))) (next_of-line earlier number f are.0)
    ∙ rest_of-functions (earlier ++ f ∷ []) (number + 1) functions lines are.1
    ∙ ap (λ (fs : List FormFunction). rest_of fs (number + 1 + length functions) lines) (append_assoc earlier (f ∷ []) functions)
    ∙ ap (λ (n : ℕ). rest_of (earlier ++ f ∷ functions) n lines) sum

read_after_functions : (functions : List FormFunction) (lines : List (List ℕ)) → AreFunctions [] 2 functions → lines_read_of (directive ∷ (map line_of functions ++ lines)) ≡ rest_of functions (2 + length functions) lines
read_after_functions functions lines are = rest_of-functions [] 2 functions lines are

-- the lines of a form are read as it
form_read : (functions : List FormFunction) (exported : Option Export) → AreFunctions [] 2 functions → IfSome exported (IsExport functions) → rest_of functions (2 + length functions) (export_lines functions exported) ≡ in_form (record { functions = functions; exported = exported })
form_read functions None are fits = refl
form_read functions (Some export) are fits =
    let line = exports_line (name_at functions export.function) in
    let number : 2 + length functions ≡ export.line = omega (arith, fits.1) in
    let found : exported_of functions line ≡ Some (0 + export.function) = exported_at [] 2 functions export.function 0 are fits.0 in
    let sum : 0 + export.function ≡ export.function = omega arith in
    ap (λ o. line_read functions (2 + length functions) [] o (exported_of functions line)) (next_of-exports functions (2 + length functions) (name_at functions export.function))
    ∙ ap (λ o. line_read functions (2 + length functions) [] None o) (found ∙ ap Some sum)
    ∙ ap (λ (n : ℕ). end_of functions n [] export.function) number

pub complete : (lines : List (List ℕ)) (form : Form) → IsForm lines form → lines_read_of lines ≡ in_form form
complete lines form is =
    ap lines_read_of is.spelt
    ∙ read_after_functions form.functions (export_lines form.functions form.exported) is.functions
    ∙ form_read form.functions form.exported is.functions is.exported

-- What is read is right -----------------------------------------------------------------------------------------------

AreFunctions-push : (earlier : List FormFunction) (number : ℕ) (functions : List FormFunction) (f : FormFunction) → AreFunctions earlier number functions → (IsFunction (earlier ++ functions) (number + length functions) f) → AreFunctions earlier number (functions ++ f ∷ [])
AreFunctions-push earlier number [] f are is =
    let sum : number + 0 ≡ number = omega arith in
    let first : IsFunction earlier (number + 0) f = subst (λ (fs : List FormFunction). IsFunction fs (number + 0) f) (append-nil earlier) is in
    (subst (λ (n : ℕ). IsFunction earlier n f) sum first, tt)
  where
    append-nil : (xs : List FormFunction) → xs ++ [] ≡ xs
    append-nil [] = refl
    append-nil (x ∷ xs) = ap (λ w. x ∷ w) (append-nil xs)
AreFunctions-push earlier number (g ∷ functions) f are is =
    let sum : number + length (g ∷ functions) ≡ number + 1 + length functions = omega arith in
    let moved : IsFunction ((earlier ++ g ∷ []) ++ functions) (number + length (g ∷ functions)) f =
    subst (λ (fs : List FormFunction). IsFunction fs (number + length (g ∷ functions)) f) (sym (append_assoc earlier (g ∷ []) functions)) is in
    (are.0, AreFunctions-push (earlier ++ g ∷ []) (number + 1) functions f are.1 (subst (λ (n : ℕ). IsFunction ((earlier ++ g ∷ []) ++ functions) n f) sum moved))

-- what a reading claims of the lines
abbrev pub IsRight : List (List ℕ) → Reading → Type 0
IsRight lines not_strict = IsStrict lines → ⊥
IsRight lines (no_tree number) = IsFirstUnfit lines number
IsRight lines (in_form form) = IsForm lines form

-- a line is the first that is out of form where those before it are in form and are not read with it
unfit_at : (front : List (List ℕ)) (line : List ℕ) (after : List (List ℕ)) (number other : ℕ) (form : Form) → IsForm front form → number ≡ length front + 1 → lines_read_of (front ++ line ∷ []) ≡ no_tree other → IsFirstUnfit (front ++ line ∷ after) number
unfit_at front line after number other form is counted read =
    let sum : number - 1 ≡ length front = omega arith in
    let size : length (front ++ line ∷ after) ≡ length front + length (line ∷ after) = length-append front (line ∷ after) in
    let before : take (number - 1) (front ++ line ∷ after) ≡ front = ap (λ (n : ℕ). take n (front ++ line ∷ after)) sum ∙ take-append_seam front (line ∷ after) in
    let here : take number (front ++ line ∷ after) ≡ front ++ line ∷ [] = ap (λ (n : ℕ). take n (front ++ line ∷ after)) counted ∙ take-append-add front (line ∷ after) 1 in
    record {
      within = omega arith;
      before = (form, subst (λ (ls : List (List ℕ)). IsForm ls form) (sym before) is);
      here = λ other_form other_is.
          let fits : lines_read_of (front ++ line ∷ []) ≡ in_form other_form = complete (front ++ line ∷ []) other_form (subst (λ (ls : List (List ℕ)). IsForm ls other_form) here other_is) in
          let clash : no_tree other ≡ in_form other_form = sym read ∙ fits in
          cc;
    }

-- functions and nothing after them
pub plain_form : (functions : List FormFunction) → AreFunctions [] 2 functions → IsForm (directive ∷ map line_of functions) (record { functions = functions; exported = None })
plain_form functions are = record {
  spelt = ap (λ (ls : List (List ℕ)). directive ∷ ls) (sym (append-nil (map line_of functions)));
  functions = are;
  exported = tt;
}
  where
    append-nil : (xs : List (List ℕ)) → xs ++ [] ≡ xs
    append-nil [] = refl
    append-nil (x ∷ xs) = ap (λ w. x ∷ w) (append-nil xs)

pub length_of_lines : (functions : List FormFunction) → length (map line_of functions) ≡ length functions
length_of_lines [] = refl
length_of_lines (f ∷ functions) =
    let rest : length (map line_of functions) ≡ length functions = length_of_lines functions in
    omega arith

-- functions and the line that exports one of them
exporting_form : (functions : List FormFunction) (line : List ℕ) (at number : ℕ) → AreFunctions [] 2 functions → number ≡ length functions + 2 → (at < length functions) × (line ≡ exports_line (name_at functions at)) → IsForm (directive ∷ (map line_of functions ++ line ∷ [])) (record { functions = functions; exported = Some (record { function = at; line = number }) })
exporting_form functions line at number are counted found = record {
  spelt = ap (λ (w : List ℕ). directive ∷ (map line_of functions ++ w ∷ [])) found.1;
  functions = are;
  exported = (found.0, counted);
}

-- what is claimed of lines that come after functions
abbrev RightAfter : List (List ℕ) → Type 0
RightAfter lines = (functions : List FormFunction) (number : ℕ) → AreFunctions [] 2 functions → number ≡ length functions + 2 → IsRight (directive ∷ (map line_of functions ++ lines)) (rest_of functions number lines)

-- after the line that exports a function
end_right : (functions : List FormFunction) (number : ℕ) (line : List ℕ) (lines : List (List ℕ)) (at : ℕ) → AreFunctions [] 2 functions → number ≡ length functions + 2 → next_of functions number line ≡ None → exported_of functions line ≡ Some at → IsRight (directive ∷ (map line_of functions ++ line ∷ lines)) (end_of functions number lines at)
end_right functions number line [] at are counted next exported =
    exporting_form functions line at number are counted (exported_of-spells functions line at exported)
end_right functions number line (other ∷ lines) at are counted next exported =
    let front = directive ∷ (map line_of functions ++ line ∷ []) in
    let sum : 2 + length functions ≡ number = omega arith in
    let size : length (map line_of functions ++ line ∷ []) ≡ length (map line_of functions) + 1 = length-append (map line_of functions) (line ∷ []) in
    let places : number + 1 ≡ length front + 1 = omega (arith, length_of_lines functions) in
    let read : lines_read_of (directive ∷ (map line_of functions ++ line ∷ other ∷ [])) ≡ no_tree (number + 1) =
    read_after_functions functions (line ∷ other ∷ []) are
    ∙ ap (λ (n : ℕ). rest_of functions n (line ∷ other ∷ [])) sum
    ∙ ap (λ o. line_read functions number (other ∷ []) o (exported_of functions line)) next
    ∙ ap (λ o. line_read functions number (other ∷ []) None o) exported in
    let joined : (map line_of functions ++ line ∷ []) ++ other ∷ [] ≡ map line_of functions ++ line ∷ other ∷ [] = append_assoc (map line_of functions) (line ∷ []) (other ∷ []) in
    let whole : (map line_of functions ++ line ∷ []) ++ other ∷ lines ≡ map line_of functions ++ line ∷ other ∷ lines = append_assoc (map line_of functions) (line ∷ []) (other ∷ lines) in
    subst (λ (ls : List (List ℕ)). IsFirstUnfit (directive ∷ ls) (number + 1)) whole
    (unfit_at front other lines (number + 1) (number + 1) (record { functions = functions; exported = Some (record { function = at; line = number }) })
    (exporting_form functions line at number are counted (exported_of-spells functions line at exported)) places
    (ap (λ (ls : List (List ℕ)). lines_read_of (directive ∷ ls)) joined ∙ read))

line_right : (functions : List FormFunction) (number : ℕ) (line : List ℕ) (lines : List (List ℕ)) → RightAfter lines → AreFunctions [] 2 functions → number ≡ length functions + 2 → (next : Option FormFunction) (exported : Option ℕ) → next_of functions number line ≡ next → exported_of functions line ≡ exported → IsRight (directive ∷ (map line_of functions ++ line ∷ lines)) (line_read functions number lines next exported)
line_right functions number line lines later are counted (Some f) exported next_is exported_is =
    let is = next_of-spells functions number line f next_is in
    let sum : number ≡ 2 + length functions = omega arith in
    let size : length (functions ++ f ∷ []) ≡ length functions + 1 = length-append functions (f ∷ []) in
    let fits : IsFunction functions (2 + length functions) f = subst (λ (n : ℕ). IsFunction functions n f) sum is.fits in
    let lines_are : map line_of (functions ++ f ∷ []) ++ lines ≡ map line_of functions ++ line ∷ lines =
    ap (λ (ls : List (List ℕ)). ls ++ lines) (map-append line_of functions (f ∷ []))
    ∙ append_assoc (map line_of functions) (line_of f ∷ []) lines
    ∙ ap (λ (w : List ℕ). map line_of functions ++ w ∷ lines) (sym is.spelt) in
    subst (λ (ls : List (List ℕ)). IsRight (directive ∷ ls) (rest_of (functions ++ f ∷ []) (number + 1) lines)) lines_are
    (later (functions ++ f ∷ []) (number + 1) (AreFunctions-push [] 2 functions f are fits) (omega arith))
line_right functions number line lines later are counted None (Some at) next_is exported_is =
    end_right functions number line lines at are counted next_is exported_is
line_right functions number line lines later are counted None None next_is exported_is =
    let sum : 2 + length functions ≡ number = omega arith in
    let places : number ≡ length (directive ∷ map line_of functions) + 1 = omega (arith, length_of_lines functions) in
    let read : lines_read_of (directive ∷ (map line_of functions ++ line ∷ [])) ≡ no_tree number =
    read_after_functions functions (line ∷ []) are
    ∙ ap (λ (n : ℕ). rest_of functions n (line ∷ [])) sum
    ∙ ap (λ o. line_read functions number [] o (exported_of functions line)) next_is
    ∙ ap (λ o. line_read functions number [] None o) exported_is in
    unfit_at (directive ∷ map line_of functions) line lines number number (record { functions = functions; exported = None }) (plain_form functions are) places read

rest_right : (lines : List (List ℕ)) → RightAfter lines
rest_right [] functions number are counted = record { spelt = refl; functions = are; exported = tt }
rest_right (line ∷ lines) functions number are counted =
    line_right functions number line lines (rest_right lines) are counted (next_of functions number line) (exported_of functions line) refl refl

strict_right : (line : List ℕ) (lines : List (List ℕ)) (same : Bool) → bytes_eq line directive ≡ same → IsRight (line ∷ lines) (cond same (rest_of [] 2 lines) not_strict)
strict_right line lines true same =
    subst (λ (w : List ℕ). IsRight (w ∷ lines) (rest_of [] 2 lines)) (sym ((bytes_decides line directive).0 same)) (rest_right lines [] 2 tt refl)
strict_right line lines false same = λ strict.
    let is : line ∷ lines ≡ directive ∷ strict.0 = strict.1 in
    let first : line ≡ directive = cc in
    let test : bytes_eq line directive ≡ true = (bytes_decides line directive).1 first in
    cc

-- what is read of some lines is right
pub all_right : (lines : List (List ℕ)) → IsRight lines (lines_read_of lines)
all_right [] = λ strict. let is : [] ≡ directive ∷ strict.0 = strict.1 in cc
all_right (line ∷ lines) = strict_right line lines (bytes_eq line directive) refl
