-- The lines of linked drafts lie as the drafts do.
use Rattle.std.proofs.Common.{◌≡◌, ℕ, suc, ◌+◌, ◌-◌, true, List, map, get_or, All, IsTrue, sym, ◌∙◌, subst, arith}
use Rattle.std.proofs.lemmas.List.Elements.{All-map}
use Rattle.mdg_base.specs.declared.number.FunId.{FunId}
use Rattle.mdg_base.specs.declared.number.Site.{Site}
use Rattle.mdg_code.specs.declared.code.FunctionRow.{FunctionRow}
use Rattle.mdg_code.specs.declared.code.Line.{Line}
use Rattle.mdg_code.specs.declared.code.SharedRow.{SharedRow}
use Rattle.mdg_code.specs.declared.statement.Statement.{Statement}
use Rattle.mdg_code.specs.declared.statement.Statement.TheVariants as s
use Rattle.mdg_code.specs.Kinds.{awaits_land, is_land, is_last}
use Rattle.mdg_code.specs.Lands.{IsLanded, AreLandsThere, AwaitsAt, IsApart, BranchesApart, AreAwaitedLandsUnnamed}
use Rattle.mdg_code.specs.Order.{AreInTheirFunctions, BranchesWithin, EndsAt, LiesIn}
use Rattle.mdg_code.specs.Places.{EachAt, HasAt}
use Rattle.mdg_lower.specs.declared.draft.Draft.{Draft}
use Rattle.mdg_lower.specs.declared.draft.Draft.TheVariants as d
use Rattle.mdg_lower.specs.declared.draft.DraftLine.{DraftLine}
use Rattle.mdg_lower.specs.declared.draft.Label.{Label}
use Rattle.mdg_lower.specs.declared.draft.Label.TheVariants as to
use Rattle.mdg_lower.specs.Link.{site_of, linked_statement, linked_line}
use Rattle.mdg_lower.specs.WellFormed.{Counts, IsRanged, IsRangedDraft, awaits, lands, ends, IsApartAt}
use Rattle.mdg_lower.proofs.LayoutLists.{all_then, has_both, has_then, has_map, map_has, each_map}
use Rattle.mdg_lower.proofs.LayoutLands.{apart_before, lands_after}
use Rattle.mdg_lower.proofs.LayoutRows.{TargetIn, FitsRow, IsPlaced, TargetApart, DraftApart, IsLineRanged, EndsIn, Laid}
use Rattle.mdg_lower.proofs.LinkedNames.{awaits_kept, lands_kept, ends_kept}

-- a complete statement is no branch
complete_apart : (n : Counts) (lines : List Line) (statement : Statement) → IsRanged n statement → BranchesApart lines statement
complete_apart n lines (s.Branch left right) ranged = absurd ranged
complete_apart n lines _ ranged = tt

-- so it goes nowhere
complete_within : (n : Counts) (rows : List FunctionRow) (function : FunId) (statement : Statement) → IsRanged n statement → BranchesWithin rows function statement
complete_within n rows function (s.Branch left right) ranged = absurd ranged
complete_within n rows function _ ranged = tt

-- a target within a row of the function is a site of the function
target_lies : (rows : List FunctionRow) (function : FunId) (target : Label) → HasAt (λ row. TargetIn row target) rows function.0 → LiesIn rows function (site_of target).0
target_lies rows function (to.Site site) has = has
target_lies rows function to.Break has = (has.0, λ row. absurd (has.1 row))
target_lies rows function to.Continue has = (has.0, λ row. absurd (has.1 row))

-- a branch that stays within the row of its function stays within its function
draft_lies : (n : Counts) (rows : List FunctionRow) (columns : List (List ℕ)) (shared : List SharedRow) (function : FunId) (site : ℕ) (draft : Draft)
    → IsRangedDraft n draft → HasAt (FitsRow site draft) rows function.0 → BranchesWithin rows function (linked_statement columns shared draft)
draft_lies n rows columns shared function site (d.Complete statement) ranged has = complete_within n rows function statement ranged
draft_lies n rows columns shared function site (d.Get into of name) ranged has = tt
draft_lies n rows columns shared function site (d.Set of name value) ranged has = tt
draft_lies n rows columns shared function site (d.Shared into home name) ranged has = tt
draft_lies n rows columns shared function site (d.Branch left right) ranged has =
    (target_lies rows function left (has.0, λ row. (has.1 row).3.0), target_lies rows function right (has.0, λ row. (has.1 row).3.1))

-- linked drafts that lie as they should
module _ (n : Counts) (rows : List FunctionRow) (columns : List (List ℕ)) (shared : List SharedRow) (drafts : List DraftLine) (laid : Laid n rows drafts) where
  -- the drafts, settled
  abbrev lines : List Line
  lines = map (linked_line columns shared) drafts

  -- what holds of the draft at a place holds of a in range one
  ranged_at : (P : DraftLine → Type 0) (site : ℕ) → HasAt P drafts site → HasAt (λ line. P line × IsLineRanged n line) drafts site
  ranged_at P site has = has_both P (IsLineRanged n) drafts site has laid.ranged

  -- after each line that awaits a land there is one
  pub lines_landed : AreLandsThere lines
  lines_landed = each_map (linked_line columns shared) (IsLanded lines) drafts at
    where
      at : EachAt (λ site line. IsLanded lines site (linked_line columns shared line)) drafts
      at site d within waits =
          let line : DraftLine = get_or drafts site d in
          let waited : awaits line.draft ≡ true = sym (awaits_kept n columns shared line.draft (laid.ranged site d within).0) ∙ waits in
          let beyond : HasAt (λ next. lands next.draft ≡ true) drafts (site + 1) = lands_after drafts laid.landed site d within waited in
          has_map (linked_line columns shared) (λ next. IsTrue (is_land next.statement)) drafts (site + 1)
          (has_then (λ next. (lands next.draft ≡ true) × IsLineRanged n next) (λ next. IsTrue (is_land (linked_statement columns shared next.draft)))
          (λ next is. lands_kept n columns shared next.draft is.1.0 ∙ is.0) drafts (site + 1) (ranged_at (λ next. lands next.draft ≡ true) (site + 1) beyond))

  -- a line that awaits a land was a draft that awaits one
  awaited : (site : ℕ) → AwaitsAt lines site → HasAt (λ line. awaits line.draft ≡ true) drafts site
  awaited site has =
      has_then (λ line. IsTrue (awaits_land (linked_statement columns shared line.draft)) × IsLineRanged n line) (λ line. awaits line.draft ≡ true)
      (λ line is. sym (awaits_kept n columns shared line.draft is.1.0) ∙ is.0) drafts site
      (ranged_at (λ line. IsTrue (awaits_land (linked_statement columns shared line.draft))) site
      (map_has (linked_line columns shared) (λ line. IsTrue (awaits_land line.statement)) drafts site has))

  -- no line that awaits a land stands right before a site before which no such draft stands
  site_apart : (site : Site) → IsApartAt drafts site.0 → IsApart lines site
  unfolding IsApart
  site_apart site apart some has =
      let next : site.0 ≡ suc (site.0 - 1) = omega (arith, some) in
      apart_before drafts (site.0 - 1) (subst (IsApartAt drafts) next apart) (awaited (site.0 - 1) has)

  -- nor before a target of which that is so
  target_apart : (target : Label) → TargetApart drafts target → IsApart lines (site_of target)
  target_apart (to.Site site) apart = site_apart site apart
  target_apart to.Break apart = absurd apart
  target_apart to.Continue apart = absurd apart

  -- nor before the targets of a branch of which that is so
  draft_apart : (draft : Draft) → IsRangedDraft n draft → DraftApart drafts draft → BranchesApart lines (linked_statement columns shared draft)
  draft_apart (d.Complete statement) ranged apart = complete_apart n lines statement ranged
  draft_apart (d.Get into of name) ranged apart = tt
  draft_apart (d.Set of name value) ranged apart = tt
  draft_apart (d.Shared into home name) ranged apart = tt
  draft_apart (d.Branch left right) ranged apart = (target_apart left apart.0, target_apart right apart.1)

  -- no branch goes to the land of a call or a load
  pub lines_apart : AreAwaitedLandsUnnamed lines
  lines_apart = All-map (λ line. BranchesApart lines line.statement) (linked_line columns shared) drafts
      (λ site d within. draft_apart (get_or drafts site d).draft (laid.ranged site d within).0 (laid.apart site d within))

  -- each line lies in its function
  pub lines_belong : AreInTheirFunctions rows lines
  lines_belong = each_map (linked_line columns shared) (λ site line. LiesIn rows line.function site) drafts
      (λ site d within. let has : IsPlaced rows site (get_or drafts site d) = laid.placed site d within in (has.0, λ row. ((has.1 row).0, (has.1 row).1)))

  -- each branch stays within its function
  pub lines_within : All (λ line. BranchesWithin rows line.function line.statement) lines
  lines_within = All-map (λ line. BranchesWithin rows line.function line.statement) (linked_line columns shared) drafts
      (λ site d within. let line : DraftLine = get_or drafts site d in
      draft_lies n rows columns shared line.function site line.draft (laid.ranged site d within).0 (laid.placed site d within))

  -- the last line of each function ends it
  pub rows_end : All (λ row. EndsAt lines row.end) rows
  rows_end = all_then (EndsIn drafts) (λ row. EndsAt lines row.end) last rows laid.rows_end
    where
      last : (row : FunctionRow) → EndsIn drafts row → EndsAt lines row.end
      last row has = has_map (linked_line columns shared) (λ line. IsTrue (is_last line.statement)) drafts row.end.0
          (has_then (λ line. (ends line.draft ≡ true) × IsLineRanged n line) (λ line. IsTrue (is_last (linked_statement columns shared line.draft)))
          (λ line is. ends_kept n columns shared line.draft is.1.0 ∙ is.0) drafts row.end.0 (ranged_at (λ line. ends line.draft ≡ true) row.end.0 has))
