-- What is read of the lines after a function, after the last one, and at the end.
use Rattle.std.proofs.Common.{◌≡◌, ℕ, suc, ◌+◌, ◌≤◌, List, [], ◌∷◌, ◌++◌, length, sym, ◌∙◌, ap, subst, refl, true, false, cond, eqb, arith}
use Rattle.std.proofs.lemmas.Bool.{eqb-true}
use Rattle.std.specs.Prelude.{Option, Some, None, Result, IfSome}
use Rattle.std.specs.Option.{option_map_or, option_and_then}
use Rattle.std.specs.Str.{IsAscii}
use Rattle.mdg_scan.specs.declared.first.form.Form.{Form}
use Rattle.mdg_scan.specs.declared.first.form.FormFunction.{FormFunction}
use Rattle.mdg_scan.specs.declared.first.form.FormRefusal.{FormRefusal}
use Rattle.mdg_scan.specs.Lines.{lines_of}
use Rattle.mdg_scan.specs.Form.{Reading, in_form, no_tree, Tells, end_of, exported_of, is_declared, next_of, rest_of}
use Rattle.mdg_scan.specs.FormLines.{EachIs, IsFunctionLine, is_plain}
use Rattle.mdg_scan.proofs.FormParts.{function_of-line, function_of-none, plain_ascii}
use Rattle.mdg_scan.proofs.LineCuts.{some_line}

-- what is read of a line by what it declares and what it exports
abbrev pub line_read : List FormFunction → ℕ → List (List ℕ) → Option FormFunction → Option ℕ → Reading
line_read functions number lines next exported =
    option_map_or (λ f. rest_of (functions ++ f ∷ []) (number + 1) lines) next (option_map_or (end_of functions number lines) exported (no_tree number))

pub rest_step : (functions : List FormFunction) (number : ℕ) (rest line later : List ℕ) (f : FormFunction) → lines_of rest ≡ line ∷ lines_of later → Some f ≡ next_of functions number line → rest_of functions number (lines_of rest) ≡ rest_of (functions ++ f ∷ []) (number + 1) (lines_of later)
rest_step functions number rest line later f cut next =
    ap (rest_of functions number) cut ∙ ap (λ o. line_read functions number (lines_of later) o (exported_of functions line)) (sym next)

pub rest_last : (functions : List FormFunction) (number : ℕ) (rest line later : List ℕ) → lines_of rest ≡ line ∷ lines_of later → None ≡ next_of functions number line → rest_of functions number (lines_of rest) ≡ option_map_or (end_of functions number (lines_of later)) (exported_of functions line) (no_tree number)
rest_last functions number rest line later cut next =
    ap (rest_of functions number) cut ∙ ap (λ o. line_read functions number (lines_of later) o (exported_of functions line)) (sym next)

pub rest_end : (functions : List FormFunction) (number : ℕ) (rest : List ℕ) → true ≡ eqb (length rest) 0 → rest_of functions number (lines_of rest) ≡ in_form (record { functions = functions; exported = None })
rest_end functions number [] empty = refl
rest_end functions number (b ∷ rest) empty =
    let none : suc (length rest) ≡ 0 = eqb-true (suc (length rest)) 0 (sym empty) in
    absurd (omega arith)

-- more lines after the one that exports
pub last_after : (functions : List FormFunction) (number : ℕ) (line rest : List ℕ) (at : ℕ) → Some at ≡ exported_of functions line → eqb (length rest) 0 ≡ false → option_map_or (end_of functions number (lines_of rest)) (exported_of functions line) (no_tree number) ≡ no_tree (number + 1)
last_after functions number line rest at exported some =
    let found = some_line rest some in
    ap (λ o. option_map_or (end_of functions number (lines_of rest)) o (no_tree number)) (sym exported)
    ∙ ap (λ ls. end_of functions number ls at) found.2

pub Tells-equal : (result : Result Form FormRefusal) (r s : Reading) → Tells result r → s ≡ r → Tells result s
Tells-equal result r s told is = subst (Tells result) (sym is) told

-- so far these functions were read of the bytes, and the rest is still to be read
pub record IsSoFar (bytes : List ℕ) (functions : List FormFunction) (number : ℕ) (rest : List ℕ) : Type 0 where
  pub same : rest_of functions number (lines_of rest) ≡ rest_of [] 2 (lines_of bytes)
  pub few : length functions + length rest ≤ 4096
  pub numbered : number ≡ length functions + 2

abbrev pub next_by : List FormFunction → Option FormFunction → Option FormFunction
next_by earlier o = option_and_then (λ (f : FormFunction). cond (is_declared earlier f.name) None (Some f)) o

pub next_none : (earlier : List FormFunction) (number : ℕ) (line : List ℕ) → ((n p : List ℕ) (t : Option (List ℕ)) → IsFunctionLine line n p t → ⊥) → None ≡ next_of earlier number line
next_none earlier number line none = sym (ap (next_by earlier) (function_of-none number line none))

pub next_declared : (earlier : List FormFunction) (number : ℕ) (line n p : List ℕ) (t : Option (List ℕ)) → IsFunctionLine line n p t → true ≡ is_declared earlier n → None ≡ next_of earlier number line
next_declared earlier number line n p t is declared =
    let f : FormFunction = record { name = n; parameter = p; text = t; line = number } in
    sym (ap (next_by earlier) (function_of-line number line n p t is) ∙ ap (λ b. cond b None (Some f)) (sym declared))

pub next_new : (earlier : List FormFunction) (number : ℕ) (line n p : List ℕ) (t : Option (List ℕ)) (f : FormFunction) → IsFunctionLine line n p t → false ≡ is_declared earlier n → f ≡ record { name = n; parameter = p; text = t; line = number } → Some f ≡ next_of earlier number line
next_new earlier number line n p t f is new same =
    let g : FormFunction = record { name = n; parameter = p; text = t; line = number } in
    ap Some same ∙ sym (ap (next_by earlier) (function_of-line number line n p t is) ∙ ap (λ b. cond b None (Some g)) (sym new))

pub text_ascii : (t : Option (List ℕ)) → IfSome t (EachIs is_plain) → IfSome t IsAscii
text_ascii None plain = tt
text_ascii (Some text) plain = plain_ascii text plain
