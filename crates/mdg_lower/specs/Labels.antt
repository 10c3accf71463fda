-- Branches, and the labels of jumps until the loop around them is laid out (12.6 to 12.8).
use Rattle.std.specs.Prelude.{ℕ, ◌+◌, List, [], ◌∷◌, ◌++◌, length}
use Rattle.mdg_tree.specs.declared.tree.At.{At}
use Rattle.mdg_lower.specs.declared.draft.Draft.{Draft}
use Rattle.mdg_lower.specs.declared.draft.Draft.TheVariants as draft
use Rattle.mdg_lower.specs.declared.draft.Label.{Label}
use Rattle.mdg_lower.specs.declared.draft.Label.TheVariants as to
use Rattle.mdg_lower.specs.declared.scope.Scope.{Scope}
use Rattle.mdg_lower.specs.Builder.{Lines, line_of}
use Rattle.std.specs.Prelude.{◌≡◌, ℕ, ◌+◌, List, [], ◌∷◌, ◌++◌, length, map, take, drop, slice_set}
use Rattle.mdg_lower.specs.declared.draft.DraftLine.{DraftLine}

abbrev pub at_site : ℕ → Label
at_site site = to.Site (record { 0 = site })

abbrev pub branch : ℕ → ℕ → Draft
branch left right = draft.Branch (at_site left) (at_site right)

abbrev pub jump : Label → Draft
jump target = draft.Branch target target

-- The labels of a loop's body are resolved once the loop is laid out.
unfoldable pub resolved_label : ℕ → ℕ → Label → Label
resolved_label next end (to.Site site) = to.Site site
resolved_label next end to.Break = at_site end
resolved_label next end to.Continue = at_site next

unfoldable pub resolved_draft : ℕ → ℕ → Draft → Draft
resolved_draft next end (draft.Branch left right) =
    draft.Branch (resolved_label next end left) (resolved_label next end right)
resolved_draft next end it = it

unfoldable pub resolved : ℕ → ℕ → DraftLine → DraftLine
resolved next end line = record line { draft = resolved_draft next end line.draft }

-- A jump that no loop encloses goes to the end of the function's statements.
unfoldable pub closed : Lines → Lines
closed body s = let end = s + length (body s) in map (resolved end end) (body s)

-- Serves only the proofs: the labels from a site on were resolved, a jump back was appended, and the branch before
-- them was patched.
unfoldable pub FinishesWhile : Scope → At → ℕ → ℕ → ℕ → List DraftLine → List DraftLine → Type 0
FinishesWhile scope at start from next before now =
    now ≡ slice_set ((take (from + 1) before ++ map (resolved next (length before + 1)) (drop (from + 1) before)) ++ line_of scope at (jump (at_site start)) ∷ [])
    from (line_of scope at (branch (from + 1) (length before + 1)))

-- Serves only the proofs: the labels from a site on were resolved, and a branch to that site or past them was appended.
unfoldable pub FinishesDo : Scope → At → ℕ → ℕ → List DraftLine → List DraftLine → Type 0
FinishesDo scope at start next before now =
    now ≡ (take start before ++ map (resolved next (length before + 1)) (drop start before)) ++ line_of scope at (branch start (length before + 1)) ∷ []
