-- The loop over parameters: what was made so far, and the rest, make the whole.
use Rattle.std.proofs.Common.{◌≡◌, ℕ, ◌+◌, ◌<◌, ◌≤◌, List, ◌∷◌, ◌++◌, length, get_or, drop, sym, ap, ◌∙◌, append-nil}
use Rattle.mdg_tree.specs.declared.tree.At.{At}
use Rattle.mdg_lower.specs.declared.draft.DraftLine.{DraftLine}
use Rattle.mdg_lower.specs.declared.scope.Scope.{Scope}
use Rattle.mdg_lower.specs.Builder.{nothing, Emits}
use Rattle.mdg_lower.specs.Lookup.{Name, meaning}
use Rattle.mdg_lower.specs.Statements.{parameter_by, parameters_from}
use Rattle.mdg_lower.proofs.Growth.{emits_rest}
use Rattle.mdg_lower.proofs.Drops.{drop_at, drop_past}

pub more_parameters : (scope : Scope) (at : At) (ps : List Name) (now then all : List DraftLine) (i number : ℕ) (one name : Name) → i < length ps → one ≡ get_or ps i one → name ≡ one
    → Emits (parameter_by scope at number (meaning scope name)) now then
    → all ≡ now ++ parameters_from scope at (drop i ps) number (length now)
    → all ≡ then ++ parameters_from scope at (drop (i + 1) ps) (number + 1) (length then)
unfolding parameters_from
more_parameters scope at ps now then all i number one name h is same p e =
    e ∙ ap (λ l. now ++ parameters_from scope at l number (length now)) (drop_at ps i one h)
    ∙ ap (λ w. now ++ parameters_from scope at (w ∷ drop (i + 1) ps) number (length now)) (sym (same ∙ is))
    ∙ emits_rest (parameter_by scope at number (meaning scope name)) (parameters_from scope at (drop (i + 1) ps) (number + 1)) now then p

pub ended_parameters : (scope : Scope) (at : At) (ps : List Name) (before now : List DraftLine) (i number : ℕ) → length ps ≤ i
    → before ++ parameters_from scope at ps 0 (length before) ≡ now ++ parameters_from scope at (drop i ps) number (length now)
    → Emits (parameters_from scope at ps 0) before now
unfolding Emits parameters_from nothing
ended_parameters scope at ps before now i number h e = sym (e ∙ ap (λ l. now ++ parameters_from scope at l number (length now)) (drop_past ps i h) ∙ append-nil now)
