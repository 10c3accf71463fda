-- A file of the first form: what its lines are, and how it is read.
use Rattle.std.specs.Prelude.{◌≡◌, ℕ, ◌+◌, ◌-◌, ◌<◌, ◌≤◌, ◌&&◌, if◌then◌else◌, List, [], ◌∷◌, ◌++◌, length, map, slice_index_or, Bool, false, ⊤, IfSome, Option, Some, None, Result, Ok, Err, drop, take}
use Rattle.std.specs.Option.{option_and_then, option_map_or}
use Rattle.std.specs.List.{list_any, position_from}
use Rattle.std.specs.Str.{bytes_eq}
use Rattle.mdg_scan.specs.declared.first.form.Form.{Form}
use Rattle.mdg_scan.specs.declared.first.form.FormFunction.{FormFunction}
use Rattle.mdg_scan.specs.declared.first.form.Export.{Export}
use Rattle.mdg_scan.specs.declared.first.form.FormRefusal.{FormRefusal}
use Rattle.mdg_scan.specs.declared.first.form.FormRefusal.TheVariants.{NotStrict, NoTree, NoMemory}
use Rattle.mdg_scan.specs.Lines.{lines_of}
use Rattle.mdg_scan.specs.FormLines.{IsFirstName, EachIs, is_lower, is_plain, is_free, directive, ending, function_line, exports_line}

-- What a file of the first form is ------------------------------------------------------------------------------------

-- the line that declares the function
abbrev pub line_of : FormFunction → List ℕ
line_of function = function_line function.name function.parameter function.text

-- the name of the function at this place
abbrev pub name_at : List FormFunction → ℕ → List ℕ
name_at functions at = slice_index_or (map (λ (f : FormFunction). f.name) functions) at []

abbrev pub export_lines : List FormFunction → Option Export → List (List ℕ)
export_lines functions None = []
export_lines functions (Some export) = exports_line (name_at functions export.function) ∷ []

-- the lines of a file of this form
abbrev pub form_lines : Form → List (List ℕ)
form_lines form = directive ∷ (map line_of form.functions ++ export_lines form.functions form.exported)

-- some function has the name
abbrev pub is_declared : List FormFunction → List ℕ → Bool
is_declared functions name = list_any (λ (f : FormFunction). bytes_eq f.name name) functions

-- a function that may stand on this line after the earlier ones
pub record IsFunction (earlier : List FormFunction) (number : ℕ) (function : FormFunction) : Type 0 where
  pub name : IsFirstName function.name
  pub parameter : IsFirstName function.parameter
  pub plain : IfSome function.text (EachIs is_plain)
  pub line : function.line ≡ number
  pub new : is_declared earlier function.name ≡ false

-- functions that may stand on the lines from this one on, after the earlier ones
abbrev pub AreFunctions : List FormFunction → ℕ → List FormFunction → Type 0
AreFunctions earlier number [] = ⊤
AreFunctions earlier number (function ∷ functions) =
    IsFunction earlier number function × AreFunctions (earlier ++ function ∷ []) (number + 1) functions

-- one of the functions is exported, on the line after them
abbrev pub IsExport : List FormFunction → Export → Type 0
IsExport functions export = (export.function < length functions) × (export.line ≡ length functions + 2)

-- the lines are those of a file of this form
pub record IsForm (lines : List (List ℕ)) (form : Form) : Type 0 where
  pub spelt : lines ≡ form_lines form
  pub functions : AreFunctions [] 2 form.functions
  pub exported : IfSome form.exported (IsExport form.functions)

abbrev pub IsFormFile : List ℕ → Form → Type 0
IsFormFile bytes form = IsForm (lines_of bytes) form

-- the first line is the directive
abbrev pub IsStrict : List (List ℕ) → Type 0
IsStrict lines = (rest : List (List ℕ)) × (lines ≡ directive ∷ rest)

-- the line with this number is the first that is out of form: the lines before it are those of some file of this form,
-- and with it they are those of none
pub record IsFirstUnfit (lines : List (List ℕ)) (number : ℕ) : Type 0 where
  pub within : number ≤ length lines
  pub before : (form : Form) × IsForm (take (number - 1) lines) form
  pub here : (form : Form) → IsForm (take number lines) form → ⊥

-- How a file is read --------------------------------------------------------------------------------------------------

-- what is read: no directive, the first line that is out of form, or a form
pub data Reading : Type 0 where
  not_strict : Reading
  no_tree : ℕ → Reading
  in_form : Form → Reading

-- the bytes at the front that pass the test
abbrev pub front_of : (ℕ → Bool) → List ℕ → List ℕ
front_of p [] = []
front_of p (c ∷ cs) = if p c then c ∷ front_of p cs else []

-- what would be the parts of a line that declares a function: its name and what follows that, its parameter and what
-- follows that, and the text that is added
abbrev pub name_of : List ℕ → List ℕ
name_of line = front_of is_lower (drop 9 line)

abbrev pub after_name : List ℕ → List ℕ
after_name line = drop 1 (drop (length (name_of line)) (drop 9 line))

abbrev pub parameter_of : List ℕ → List ℕ
parameter_of line = front_of is_lower (after_name line)

abbrev pub after_parameter : List ℕ → List ℕ
after_parameter line = drop 9 (drop (length (parameter_of line)) (after_name line))

abbrev pub added_of : List ℕ → Option (List ℕ)
added_of after = if bytes_eq after (ending None) then None else Some (front_of is_plain (drop 4 after))

abbrev pub text_of : List ℕ → Option (List ℕ)
text_of line = added_of (drop (length (parameter_of line)) (after_parameter line))

-- the function that this line declares
unfoldable pub function_of : ℕ → List ℕ → Option FormFunction
function_of number line =
    if bytes_eq line (function_line (name_of line) (parameter_of line) (text_of line)) && (is_free (name_of line) && is_free (parameter_of line))
    then Some (record { name = name_of line; parameter = parameter_of line; text = text_of line; line = number })
    else None

-- the function that this line declares after the earlier ones
abbrev pub next_of : List FormFunction → ℕ → List ℕ → Option FormFunction
next_of earlier number line =
    option_and_then (λ (f : FormFunction). if is_declared earlier f.name then None else Some f) (function_of number line)

-- the place of the function that this line exports
abbrev pub exported_of : List FormFunction → List ℕ → Option ℕ
exported_of functions line = position_from (λ (f : FormFunction). bytes_eq line (exports_line f.name)) 0 functions

-- the line `number` exports the function at a place, and these lines come after it
abbrev pub end_of : List FormFunction → ℕ → List (List ℕ) → ℕ → Reading
end_of functions number [] at = in_form (record { functions = functions; exported = Some (record { function = at; line = number }) })
end_of functions number (next ∷ lines) at = no_tree (number + 1)

-- what is read where these lines, from `number` on, come after the functions
abbrev pub rest_of : List FormFunction → ℕ → List (List ℕ) → Reading
rest_of functions number [] = in_form (record { functions = functions; exported = None })
rest_of functions number (line ∷ lines) =
    option_map_or (λ f. rest_of (functions ++ f ∷ []) (number + 1) lines) (next_of functions number line)
    (option_map_or (end_of functions number lines) (exported_of functions line) (no_tree number))

abbrev pub lines_read_of : List (List ℕ) → Reading
lines_read_of [] = not_strict
lines_read_of (line ∷ lines) = if bytes_eq line directive then rest_of [] 2 lines else not_strict

abbrev pub read_of : List ℕ → Reading
read_of bytes = lines_read_of (lines_of bytes)

-- the result tells what is read, unless memory was refused
abbrev pub Tells : Result Form FormRefusal → Reading → Type 0
Tells (Ok form) reading = reading ≡ in_form form
Tells (Err NotStrict) reading = reading ≡ not_strict
Tells (Err (NoTree number)) reading = reading ≡ no_tree number
Tells (Err NoMemory) reading = ⊤
