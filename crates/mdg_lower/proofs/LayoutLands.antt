-- Lands and ends of lines that are joined, and how many locals they need.
use Rattle.std.proofs.Common.{◌≡◌, ℕ, zero, suc, max, ◌+◌, ◌-◌, ◌<◌, ◌≤◌, true, false, List, [], ◌∷◌, ◌++◌, length, All, sym, ◌∙◌, subst, arith, true≢false, le_refl, le_trans}
use Rattle.std.proofs.Math.Nat.{le-max_left, le-max_right}
use Rattle.std.proofs.lemmas.List.Elements.{All-nil, All-cons}
use Rattle.mdg_code.specs.Places.{EachAt, HasAt}
use Rattle.mdg_lower.proofs.LayoutLists.{has_more}
use Rattle.mdg_lower.specs.declared.draft.DraftLine.{DraftLine}
use Rattle.mdg_lower.specs.FrameSize.{size_for_draft, size_for_lines}
use Rattle.mdg_lower.specs.WellFormed.{awaits, lands, ends, AreLanded, IsApartAt, EndWell}

-- a line that awaits no land, before lines that are landed
landed_cons : (line : DraftLine) (lines : List DraftLine) → awaits line.draft ≡ false → AreLanded lines → AreLanded (line ∷ lines)
landed_cons line [] free landed = free
landed_cons line (next ∷ lines) free landed = (λ waits. absurd (true≢false (sym waits ∙ free)), landed)

-- lines that are landed, and then others
pub landed_append : (one other : List DraftLine) → AreLanded one → AreLanded other → AreLanded (one ++ other)
landed_append [] other a b = b
landed_append (line ∷ []) other a b = landed_cons line other a b
landed_append (line ∷ next ∷ one) other a b = (a.0, landed_append (next ∷ one) other a.1 b)

-- what was apart stays so under more lines
pub apart_left : (one other : List DraftLine) (k : ℕ) → IsApartAt one k → IsApartAt (one ++ other) k
apart_left one other zero apart = tt
apart_left [] other (suc k) apart = absurd apart
apart_left (line ∷ one) other (suc zero) apart = apart
apart_left (line ∷ one) other (suc (suc k)) apart = apart_left one other (suc k) apart

-- the site right after landed lines is apart
apart_end : (lines : List DraftLine) → AreLanded lines → IsApartAt lines (length lines)
apart_end [] landed = tt
apart_end (line ∷ []) landed = landed
apart_end (line ∷ next ∷ lines) landed = apart_end (next ∷ lines) landed.1

-- a site that is not the first and is apart stays so after other lines
apart_after : (one other : List DraftLine) (k : ℕ) → IsApartAt other (suc k) → IsApartAt (one ++ other) (suc (length one + k))
apart_after [] other k apart = let same : suc k ≡ suc (0 + k) = omega arith in subst (IsApartAt other) same apart
apart_after (line ∷ one) other k apart =
    let next : suc (suc (length one + k)) ≡ suc (length (line ∷ one) + k) = omega arith in
    subst (IsApartAt (line ∷ (one ++ other))) next (apart_after one other k apart)

-- so is a site that is apart among the lines after them
pub apart_right : (one other : List DraftLine) (k : ℕ) → AreLanded one → IsApartAt other k → IsApartAt (one ++ other) (length one + k)
apart_right one other zero landed apart = let same : length one ≡ length one + 0 = omega arith in subst (IsApartAt (one ++ other)) same (apart_left one other (length one) (apart_end one landed))
apart_right one other (suc k) landed apart = let same : suc (length one + k) ≡ length one + suc k = omega arith in subst (IsApartAt (one ++ other)) same (apart_after one other k apart)

-- no line that awaits a land stands before a site that is apart
pub apart_before : (lines : List DraftLine) (k : ℕ) → IsApartAt lines (suc k) → HasAt (λ line. awaits line.draft ≡ true) lines k → ⊥
apart_before [] k apart has = apart
apart_before (line ∷ lines) zero apart has = true≢false (sym (has.1 line) ∙ apart)
apart_before (line ∷ lines) (suc k) apart has = apart_before lines k apart (omega (arith, has.0), λ d. has.1 d)

-- after each line that awaits a land there is one
pub lands_after : (lines : List DraftLine) → AreLanded lines
    → EachAt (λ site line. awaits line.draft ≡ true → HasAt (λ next. lands next.draft ≡ true) lines (site + 1)) lines
lands_after [] landed i d within = absurd (omega (arith, within))
lands_after (line ∷ []) landed zero d within = λ waits. absurd (true≢false (sym waits ∙ landed))
lands_after (line ∷ []) landed (suc i) d within = absurd (omega (arith, within))
lands_after (line ∷ next ∷ lines) landed zero d within = λ waits. (omega arith, λ e. landed.0 waits)
lands_after (line ∷ next ∷ lines) landed (suc i) d within = λ waits.
    let rest : HasAt (λ other. lands other.draft ≡ true) (next ∷ lines) (i + 1) = lands_after (next ∷ lines) landed.1 i d (omega (arith, within)) waits in
    let more : suc (i + 1) ≡ suc i + 1 = omega arith in
    subst (HasAt (λ other. lands other.draft ≡ true) (line ∷ next ∷ lines)) more (has_more (λ other. lands other.draft ≡ true) line (next ∷ lines) (i + 1) rest)

-- the last line ends
pub ends_last : (lines : List DraftLine) → EndWell lines → HasAt (λ line. ends line.draft ≡ true) lines (length lines - 1)
ends_last [] well = absurd well
ends_last (line ∷ []) well = (omega arith, λ d. well)
ends_last (line ∷ next ∷ lines) well =
    let rest : HasAt (λ other. ends other.draft ≡ true) (next ∷ lines) (length (next ∷ lines) - 1) = ends_last (next ∷ lines) well in
    let more : suc (length (next ∷ lines) - 1) ≡ length (line ∷ next ∷ lines) - 1 = omega arith in
    subst (HasAt (λ other. ends other.draft ≡ true) (line ∷ next ∷ lines)) more (has_more (λ other. ends other.draft ≡ true) line (next ∷ lines) (length (next ∷ lines) - 1) rest)

-- a function has a line
pub some_lines : (lines : List DraftLine) → EndWell lines → 0 < length lines
some_lines [] well = absurd well
some_lines (line ∷ lines) well = omega arith

-- there is at least the room that there was before
pub size_above : (least : ℕ) (lines : List DraftLine) → least ≤ size_for_lines least lines
size_above least [] = le_refl least
size_above least (line ∷ lines) = le_trans (le-max_left least (size_for_draft line.draft)) (size_above (max least (size_for_draft line.draft)) lines)

-- there is room for each line
pub sizes : (least : ℕ) (lines : List DraftLine) → All (λ line. size_for_draft line.draft ≤ size_for_lines least lines) lines
sizes least [] = All-nil (λ (line : DraftLine). size_for_draft line.draft ≤ least)
sizes least (line ∷ lines) =
    All-cons (λ (one : DraftLine). size_for_draft one.draft ≤ size_for_lines least (line ∷ lines)) line lines
    (le_trans (le-max_right least (size_for_draft line.draft)) (size_above (max least (size_for_draft line.draft)) lines))
    (sizes (max least (size_for_draft line.draft)) lines)
