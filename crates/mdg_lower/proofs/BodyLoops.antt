-- Loops over statements: what was made so far, and the rest, make the whole.
use Rattle.std.proofs.Common.{◌≡◌, ℕ, ◌+◌, ◌<◌, ◌≤◌, List, ◌∷◌, ◌++◌, length, get_or, drop, sym, ap, ◌∙◌, append-nil}
use Rattle.std.specs.Prelude.{map}
use Rattle.mdg_tree.specs.declared.tree.At.{At}
use Rattle.mdg_tree.specs.declared.tree.Declaration.{Declaration}
use Rattle.mdg_tree.specs.declared.tree.Stmt.{Stmt}
use Rattle.mdg_lower.specs.declared.draft.DraftLine.{DraftLine}
use Rattle.mdg_lower.specs.declared.scope.Scope.{Scope}
use Rattle.mdg_lower.specs.Builder.{nothing, Emits}
use Rattle.mdg_lower.specs.Statements.{declaration, declarations}
use Rattle.mdg_lower.specs.Trees.{declaration_part, lines_of_stmt, body_lines, hoisted_of, hoisted_lines}
use Rattle.mdg_lower.proofs.Growth.{emits_rest}
use Rattle.mdg_lower.proofs.Drops.{drop_at, drop_past}

pub more_declarations : (scope : Scope) (at : At) (ds : List Declaration) (now then all : List DraftLine) (i : ℕ) (one : Declaration) → i < length ds → one ≡ get_or ds i one
    → Emits (declaration scope at (declaration_part one).name (declaration_part one).value) now then
    → all ≡ now ++ declarations scope at (map declaration_part (drop i ds)) (length now)
    → all ≡ then ++ declarations scope at (map declaration_part (drop (i + 1) ds)) (length then)
unfolding declarations
more_declarations scope at ds now then all i one h is p e =
    e ∙ ap (λ l. now ++ declarations scope at (map declaration_part l) (length now)) (drop_at ds i one h)
    ∙ ap (λ w. now ++ declarations scope at (map declaration_part (w ∷ drop (i + 1) ds)) (length now)) (sym is)
    ∙ emits_rest (declaration scope at (declaration_part one).name (declaration_part one).value) (declarations scope at (map declaration_part (drop (i + 1) ds))) now then p

pub ended_declarations : (scope : Scope) (at : At) (ds : List Declaration) (before now : List DraftLine) (i : ℕ) → length ds ≤ i
    → before ++ declarations scope at (map declaration_part ds) (length before) ≡ now ++ declarations scope at (map declaration_part (drop i ds)) (length now)
    → Emits (declarations scope at (map declaration_part ds)) before now
unfolding Emits declarations nothing
ended_declarations scope at ds before now i h e = sym (e ∙ ap (λ l. now ++ declarations scope at (map declaration_part l) (length now)) (drop_past ds i h) ∙ append-nil now)

pub more_body : (scope : Scope) (body : List Stmt) (now then all : List DraftLine) (i : ℕ) (one : Stmt) → i < length body → one ≡ get_or body i one
    → Emits (lines_of_stmt one scope) now then
    → all ≡ now ++ body_lines (drop i body) scope (length now)
    → all ≡ then ++ body_lines (drop (i + 1) body) scope (length then)
more_body scope body now then all i one h is p e =
    e ∙ ap (λ l. now ++ body_lines l scope (length now)) (drop_at body i one h)
    ∙ ap (λ w. now ++ body_lines (w ∷ drop (i + 1) body) scope (length now)) (sym is)
    ∙ emits_rest (lines_of_stmt one scope) (body_lines (drop (i + 1) body) scope) now then p

pub ended_body : (scope : Scope) (body : List Stmt) (before now : List DraftLine) (i : ℕ) → length body ≤ i
    → before ++ body_lines body scope (length before) ≡ now ++ body_lines (drop i body) scope (length now)
    → Emits (body_lines body scope) before now
unfolding Emits nothing
ended_body scope body before now i h e = sym (e ∙ ap (λ l. now ++ body_lines l scope (length now)) (drop_past body i h) ∙ append-nil now)

pub more_hoisted : (scope : Scope) (body : List Stmt) (now then all : List DraftLine) (i : ℕ) (one : Stmt) → i < length body → one ≡ get_or body i one
    → Emits (hoisted_of one scope) now then
    → all ≡ now ++ hoisted_lines (drop i body) scope (length now)
    → all ≡ then ++ hoisted_lines (drop (i + 1) body) scope (length then)
more_hoisted scope body now then all i one h is p e =
    e ∙ ap (λ l. now ++ hoisted_lines l scope (length now)) (drop_at body i one h)
    ∙ ap (λ w. now ++ hoisted_lines (w ∷ drop (i + 1) body) scope (length now)) (sym is)
    ∙ emits_rest (hoisted_of one scope) (hoisted_lines (drop (i + 1) body) scope) now then p

pub ended_hoisted : (scope : Scope) (body : List Stmt) (before now : List DraftLine) (i : ℕ) → length body ≤ i
    → before ++ hoisted_lines body scope (length before) ≡ now ++ hoisted_lines (drop i body) scope (length now)
    → Emits (hoisted_lines body scope) before now
unfolding Emits nothing
ended_hoisted scope body before now i h e = sym (e ∙ ap (λ l. now ++ hoisted_lines l scope (length now)) (drop_past body i h) ∙ append-nil now)
