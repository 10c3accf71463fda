-- The lines and tables of the functions so far lie as they should, and one more function keeps them so.
use Rattle.std.proofs.Common.{◌≡◌, ℕ, ◌+◌, ◌-◌, ◌<◌, ◌≤◌, true, List, [], ◌∷◌, ◌++◌, length, All, IfSome, refl, sym, ◌∙◌, subst, arith}
use Rattle.std.proofs.lemmas.List.Elements.{All-nil}
use Rattle.mdg_code.specs.declared.code.FunctionRow.{FunctionRow}
use Rattle.mdg_code.specs.Order.{FollowOn}
use Rattle.mdg_code.specs.Places.{EachAt, HasAt}
use Rattle.mdg_lower.specs.declared.draft.Draft.{Draft}
use Rattle.mdg_lower.specs.declared.draft.Draft.TheVariants as d
use Rattle.mdg_lower.specs.declared.draft.DraftLine.{DraftLine}
use Rattle.mdg_lower.specs.declared.draft.Label.{Label}
use Rattle.mdg_lower.specs.declared.draft.Label.TheVariants as to
use Rattle.mdg_lower.specs.FrameSize.{size_for_draft}
use Rattle.mdg_lower.specs.WellFormed.{Counts, IsRangedDraft, IsResolved, AreLanded, IsApartAt, ends, LabelInto, BranchesInto, IsResolvedLabel, StaysWithin, BranchesWithin}
use Rattle.mdg_lower.proofs.LayoutLands.{apart_left, apart_right}

-- the target is a site of the function
abbrev pub TargetIn : FunctionRow → Label → Type 0
TargetIn row (to.Site site) = (row.entry.0 ≤ site.0) × (site.0 ≤ row.end.0)
TargetIn row to.Break = ⊥
TargetIn row to.Continue = ⊥

-- the draft goes to sites of the function alone
abbrev pub BranchesIn : FunctionRow → Draft → Type 0
BranchesIn row (d.Complete statement) = Unit {0}
BranchesIn row (d.Get into of name) = Unit {0}
BranchesIn row (d.Set of name value) = Unit {0}
BranchesIn row (d.Shared into home name) = Unit {0}
BranchesIn row (d.Branch left right) = TargetIn row left × TargetIn row right

-- the draft stands in the function, which has room for it and where its branches stay
abbrev pub FitsRow : ℕ → Draft → FunctionRow → Type 0
FitsRow site draft row = (row.entry.0 ≤ site) × (site ≤ row.end.0) × (size_for_draft draft ≤ row.locals) × BranchesIn row draft

-- the line stands at this site in its function
abbrev pub IsPlaced : List FunctionRow → ℕ → DraftLine → Type 0
IsPlaced rows site line = HasAt (FitsRow site line.draft) rows line.function.0

-- no draft that awaits a land stands right before the target
abbrev pub TargetApart : List DraftLine → Label → Type 0
TargetApart lines (to.Site site) = IsApartAt lines site.0
TargetApart lines to.Break = ⊥
TargetApart lines to.Continue = ⊥

-- the draft goes to no such target
abbrev pub DraftApart : List DraftLine → Draft → Type 0
DraftApart lines (d.Complete statement) = Unit {0}
DraftApart lines (d.Get into of name) = Unit {0}
DraftApart lines (d.Set of name value) = Unit {0}
DraftApart lines (d.Shared into home name) = Unit {0}
DraftApart lines (d.Branch left right) = TargetApart lines left × TargetApart lines right

-- the numbers of a line are in range, and it is of a file
abbrev pub IsLineRanged : Counts → DraftLine → Type 0
IsLineRanged n line = IsRangedDraft n line.draft × (line.place.file.0 < n.files)

-- the numbers of a row are in range
abbrev pub IsRowRanged : Counts → FunctionRow → Type 0
IsRowRanged n row = (length row.parameters ≤ row.locals) × (row.place.file.0 < n.files) × IfSome row.parent (λ function. function.0 < n.functions)

-- the last line of the function ends it
abbrev pub EndsIn : List DraftLine → FunctionRow → Type 0
EndsIn lines row = HasAt (λ line. ends line.draft ≡ true) lines row.end.0

-- the lines and the functions' rows lie as they should
pub record Laid (n : Counts) (rows : List FunctionRow) (lines : List DraftLine) : Type 0 where
  pub follow : FollowOn 0 rows (length lines)
  pub placed : EachAt (IsPlaced rows) lines
  pub ranged : All (IsLineRanged n) lines
  pub landed : AreLanded lines
  pub apart : All (λ line. DraftApart lines line.draft) lines
  pub rows_ranged : All (IsRowRanged n) rows
  pub rows_end : All (EndsIn lines) rows

-- with no function yet all is as it should be
pub laid_nothing : (n : Counts) → Laid n [] []
unfolding FollowOn
laid_nothing n = record {
  follow = refl;
  placed = λ i d within. absurd (omega (arith, within));
  ranged = All-nil (IsLineRanged n);
  landed = tt;
  apart = All-nil (λ line. DraftApart [] line.draft);
  rows_ranged = All-nil (IsRowRanged n);
  rows_end = All-nil (EndsIn []);
}

-- one more row after those that follow on
pub follow_append : (at : ℕ) (rows : List FunctionRow) (row : FunctionRow) (middle count : ℕ) → FollowOn at rows middle
    → row.entry.0 ≡ middle → row.entry.0 ≤ row.end.0 → row.end.0 + 1 ≡ count → FollowOn at (rows ++ row ∷ []) count
unfolding FollowOn
follow_append at [] row middle count follow begins some stops = (begins ∙ sym follow, some, stops)
follow_append at (one ∷ rows) row middle count follow begins some stops =
    (follow.0, follow.1, follow_append (one.end.0 + 1) rows row middle count follow.2 begins some stops)

-- a target within the function's lines is a site of the function
target_in : (row : FunctionRow) (lines : List DraftLine) (s : ℕ) (target : Label) → row.entry.0 ≡ s → row.end.0 + 1 ≡ s + length lines
    → LabelInto lines s target → IsResolvedLabel target → StaysWithin s (length lines) target → TargetIn row target
target_in row lines s (to.Site site) begins stops branches resolved within = (omega (arith, begins, branches.0), omega (arith, stops, within))
target_in row lines s to.Break begins stops branches resolved within = resolved
target_in row lines s to.Continue begins stops branches resolved within = resolved

-- a draft that stays within the function's lines goes to its sites alone
pub branches_in : (row : FunctionRow) (lines : List DraftLine) (s : ℕ) (draft : Draft) → row.entry.0 ≡ s → row.end.0 + 1 ≡ s + length lines
    → BranchesInto lines s draft → IsResolved draft → BranchesWithin s (length lines) draft → BranchesIn row draft
branches_in row lines s (d.Complete statement) begins stops branches resolved within = tt
branches_in row lines s (d.Get into of name) begins stops branches resolved within = tt
branches_in row lines s (d.Set of name value) begins stops branches resolved within = tt
branches_in row lines s (d.Shared into home name) begins stops branches resolved within = tt
branches_in row lines s (d.Branch left right) begins stops branches resolved within =
    (target_in row lines s left begins stops branches.0 resolved.0 within.0, target_in row lines s right begins stops branches.1 resolved.1 within.1)

-- a target that is apart stays so under more lines
target_left : (one other : List DraftLine) (target : Label) → TargetApart one target → TargetApart (one ++ other) target
target_left one other (to.Site site) apart = apart_left one other site.0 apart
target_left one other to.Break apart = apart
target_left one other to.Continue apart = apart

-- so does a draft that goes to such targets
pub draft_left : (one other : List DraftLine) (draft : Draft) → DraftApart one draft → DraftApart (one ++ other) draft
draft_left one other (d.Complete statement) apart = tt
draft_left one other (d.Get into of name) apart = tt
draft_left one other (d.Set of name value) apart = tt
draft_left one other (d.Shared into home name) apart = tt
draft_left one other (d.Branch left right) apart = (target_left one other left apart.0, target_left one other right apart.1)

-- a target among lines after landed ones is apart
target_right : (one other : List DraftLine) (target : Label) → AreLanded one → LabelInto other (length one) target → IsResolvedLabel target → TargetApart (one ++ other) target
target_right one other (to.Site site) landed branches resolved =
    let same : length one + (site.0 - length one) ≡ site.0 = omega (arith, branches.0) in
    subst (IsApartAt (one ++ other)) same (apart_right one other (site.0 - length one) landed branches.1)
target_right one other to.Break landed branches resolved = resolved
target_right one other to.Continue landed branches resolved = resolved

-- so are the targets of a draft there
pub draft_right : (one other : List DraftLine) (draft : Draft) → AreLanded one → BranchesInto other (length one) draft → IsResolved draft → DraftApart (one ++ other) draft
draft_right one other (d.Complete statement) landed branches resolved = tt
draft_right one other (d.Get into of name) landed branches resolved = tt
draft_right one other (d.Set of name value) landed branches resolved = tt
draft_right one other (d.Shared into home name) landed branches resolved = tt
draft_right one other (d.Branch left right) landed branches resolved =
    (target_right one other left landed branches.0 resolved.0, target_right one other right landed branches.1 resolved.1)
