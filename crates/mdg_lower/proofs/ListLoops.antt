-- Loops over expressions: what was made so far, and the rest, make the whole.
use Rattle.std.proofs.Common.{◌≡◌, ℕ, ◌+◌, ◌<◌, ◌≤◌, List, [], ◌∷◌, ◌++◌, length, get_or, drop, sym, ap, ◌∙◌, append_assoc, append-nil}
use Rattle.std.specs.Prelude.{map}
use Rattle.mdg_base.specs.declared.number.Local.{Local}
use Rattle.mdg_tree.specs.declared.tree.At.{At}
use Rattle.mdg_tree.specs.declared.tree.Expr.{Expr}
use Rattle.mdg_tree.specs.declared.tree.Property.{Property}
use Rattle.mdg_lower.specs.declared.draft.DraftLine.{DraftLine}
use Rattle.mdg_lower.specs.declared.scope.Scope.{Scope}
use Rattle.mdg_lower.specs.Builder.{nothing, Emits}
use Rattle.mdg_lower.specs.Lookup.{temp}
use Rattle.mdg_lower.specs.Access.{arguments, temps}
use Rattle.mdg_lower.specs.Initialisers.{comma, element, elements, property_of, properties}
use Rattle.mdg_lower.specs.Trees.{operands_of, operand_of, value_of, property_part}
use Rattle.mdg_lower.proofs.Growth.{emits_rest}
use Rattle.mdg_lower.proofs.Drops.{drop_at, drop_past}

pub more_arguments : (scope : Scope) (es : List Expr) (now then all : List DraftLine) (i next : ℕ) (one : Expr) → i < length es → one ≡ get_or es i one
    → Emits (value_of one scope next) now then
    → all ≡ now ++ arguments scope (operands_of (drop i es)) next (length now)
    → all ≡ then ++ arguments scope (operands_of (drop (i + 1) es)) (next + 1) (length then)
unfolding arguments
more_arguments scope es now then all i next one h is p e =
    e ∙ ap (λ l. now ++ arguments scope (operands_of l) next (length now)) (drop_at es i one h)
    ∙ ap (λ w. now ++ arguments scope (operands_of (w ∷ drop (i + 1) es)) next (length now)) (sym is)
    ∙ emits_rest (value_of one scope next) (arguments scope (operands_of (drop (i + 1) es)) (next + 1)) now then p

pub more_temps : (scope : Scope) (es : List Expr) (made all : List Local) (i next : ℕ) (d : Expr) → i < length es
    → all ≡ made ++ temps scope (operands_of (drop i es)) next
    → all ≡ (made ++ temp scope next ∷ []) ++ temps scope (operands_of (drop (i + 1) es)) (next + 1)
unfolding temps
more_temps scope es made all i next d h e =
    e ∙ ap (λ l. made ++ temps scope (operands_of l) next) (drop_at es i d h)
    ∙ sym (append_assoc made (temp scope next ∷ []) (temps scope (operands_of (drop (i + 1) es)) (next + 1)))

pub ended_arguments : (scope : Scope) (es : List Expr) (c : ℕ) (before now : List DraftLine) (i next : ℕ) → length es ≤ i
    → before ++ arguments scope (operands_of es) c (length before) ≡ now ++ arguments scope (operands_of (drop i es)) next (length now)
    → Emits (arguments scope (operands_of es) c) before now
unfolding Emits arguments nothing
ended_arguments scope es c before now i next h e = sym (e ∙ ap (λ l. now ++ arguments scope (operands_of l) next (length now)) (drop_past es i h) ∙ append-nil now)

pub ended_temps : (scope : Scope) (es : List Expr) (c : ℕ) (made : List Local) (i next : ℕ) → length es ≤ i
    → temps scope (operands_of es) c ≡ made ++ temps scope (operands_of (drop i es)) next → made ≡ temps scope (operands_of es) c
unfolding temps
ended_temps scope es c made i next h e = sym (e ∙ ap (λ l. made ++ temps scope (operands_of l) next) (drop_past es i h) ∙ append-nil made)

pub more_comma : (scope : Scope) (es : List Expr) (d : ℕ) (now then all : List DraftLine) (i : ℕ) (one : Expr) → i < length es → one ≡ get_or es i one
    → Emits (value_of one scope d) now then
    → all ≡ now ++ comma scope (operands_of (drop i es)) d (length now)
    → all ≡ then ++ comma scope (operands_of (drop (i + 1) es)) d (length then)
unfolding comma
more_comma scope es d now then all i one h is p e =
    e ∙ ap (λ l. now ++ comma scope (operands_of l) d (length now)) (drop_at es i one h)
    ∙ ap (λ w. now ++ comma scope (operands_of (w ∷ drop (i + 1) es)) d (length now)) (sym is)
    ∙ emits_rest (value_of one scope d) (comma scope (operands_of (drop (i + 1) es)) d) now then p

pub ended_comma : (scope : Scope) (es : List Expr) (d : ℕ) (before now : List DraftLine) (i : ℕ) → length es ≤ i
    → before ++ comma scope (operands_of es) d (length before) ≡ now ++ comma scope (operands_of (drop i es)) d (length now)
    → Emits (comma scope (operands_of es) d) before now
unfolding Emits comma nothing
ended_comma scope es d before now i h e = sym (e ∙ ap (λ l. now ++ comma scope (operands_of l) d (length now)) (drop_past es i h) ∙ append-nil now)

pub more_elements : (scope : Scope) (at : At) (es : List Expr) (d : ℕ) (now then all : List DraftLine) (i number : ℕ) (one : Expr) → i < length es → one ≡ get_or es i one
    → Emits (element scope at (operand_of one) number d) now then
    → all ≡ now ++ elements scope at (operands_of (drop i es)) number d (length now)
    → all ≡ then ++ elements scope at (operands_of (drop (i + 1) es)) (number + 1) d (length then)
unfolding elements
more_elements scope at es d now then all i number one h is p e =
    e ∙ ap (λ l. now ++ elements scope at (operands_of l) number d (length now)) (drop_at es i one h)
    ∙ ap (λ w. now ++ elements scope at (operands_of (w ∷ drop (i + 1) es)) number d (length now)) (sym is)
    ∙ emits_rest (element scope at (operand_of one) number d) (elements scope at (operands_of (drop (i + 1) es)) (number + 1) d) now then p

pub ended_elements : (scope : Scope) (at : At) (es : List Expr) (d : ℕ) (before now : List DraftLine) (i number : ℕ) → length es ≤ i
    → before ++ elements scope at (operands_of es) 0 d (length before) ≡ now ++ elements scope at (operands_of (drop i es)) number d (length now)
    → Emits (elements scope at (operands_of es) 0 d) before now
unfolding Emits elements nothing
ended_elements scope at es d before now i number h e = sym (e ∙ ap (λ l. now ++ elements scope at (operands_of l) number d (length now)) (drop_past es i h) ∙ append-nil now)

pub more_properties : (scope : Scope) (at : At) (ps : List Property) (d : ℕ) (now then all : List DraftLine) (i : ℕ) (one : Property) → i < length ps → one ≡ get_or ps i one
    → Emits (property_of scope at (property_part one) d) now then
    → all ≡ now ++ properties scope at (map property_part (drop i ps)) d (length now)
    → all ≡ then ++ properties scope at (map property_part (drop (i + 1) ps)) d (length then)
unfolding properties
more_properties scope at ps d now then all i one h is p e =
    e ∙ ap (λ l. now ++ properties scope at (map property_part l) d (length now)) (drop_at ps i one h)
    ∙ ap (λ w. now ++ properties scope at (map property_part (w ∷ drop (i + 1) ps)) d (length now)) (sym is)
    ∙ emits_rest (property_of scope at (property_part one) d) (properties scope at (map property_part (drop (i + 1) ps)) d) now then p

pub ended_properties : (scope : Scope) (at : At) (ps : List Property) (d : ℕ) (before now : List DraftLine) (i : ℕ) → length ps ≤ i
    → before ++ properties scope at (map property_part ps) d (length before) ≡ now ++ properties scope at (map property_part (drop i ps)) d (length now)
    → Emits (properties scope at (map property_part ps) d) before now
unfolding Emits properties nothing
ended_properties scope at ps d before now i h e = sym (e ∙ ap (λ l. now ++ properties scope at (map property_part l) d (length now)) (drop_past ps i h) ∙ append-nil now)
