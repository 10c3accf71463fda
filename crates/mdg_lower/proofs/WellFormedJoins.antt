-- Joins of lines that are well-formed are well-formed.
use Rattle.std.proofs.Common.{◌≡◌, ℕ, ◌+◌, false, List, [], ◌∷◌, ◌++◌, length, All, refl, sym, subst, arith, append_assoc, append-nil, length-append}
use Rattle.std.proofs.lemmas.List.Elements.{All-append, All-nil, All-cons}
use Rattle.mdg_tree.specs.declared.tree.At.{At}
use Rattle.mdg_code.specs.declared.statement.Statement.TheVariants as st
use Rattle.mdg_lower.specs.declared.draft.Draft.{Draft}
use Rattle.mdg_lower.specs.declared.draft.Draft.TheVariants as d
use Rattle.mdg_lower.specs.declared.draft.DraftLine.{DraftLine}
use Rattle.mdg_lower.specs.declared.draft.Label.{Label}
use Rattle.mdg_lower.specs.declared.draft.Label.TheVariants as to
use Rattle.mdg_lower.specs.declared.scope.Scope.{Scope}
use Rattle.mdg_lower.specs.Builder.{Lines, ◌>>◌, nothing, one, line_of}
use Rattle.mdg_lower.specs.Instructions.{complete}
use Rattle.mdg_lower.specs.Labels.{branch, jump, at_site}
use Rattle.mdg_lower.specs.Operators.{emit_optional, either}
use Rattle.mdg_lower.specs.WellFormed.{Counts, awaits, AreLanded, LabelInto, BranchesInto, IsRangedDraft, IsOf, WellFormed, WellFormedLines}
use Rattle.mdg_lower.proofs.WellFormedLists.{landed_append, aims_at, AimIn, aim_left, aim_right}

-- no line
pub well_formed_none : (n : Counts) (scope : Scope) (s : ℕ) → WellFormed n scope s []
well_formed_none n scope s = record { ranged = All-nil (λ line. IsRangedDraft n line.draft); own = All-nil (IsOf scope); landed = tt; branches = All-nil (λ line. BranchesInto [] s line.draft) }

-- a form with no line
pub well_formed_nothing : (n : Counts) (scope : Scope) → WellFormedLines n scope nothing
unfolding WellFormedLines nothing
well_formed_nothing n scope s = well_formed_none n scope s

-- lines, and others after them
pub well_formed_append : (n : Counts) (scope : Scope) (s r : ℕ) (a b : List DraftLine) → r ≡ s + length a → WellFormed n scope s a → WellFormed n scope r b → WellFormed n scope s (a ++ b)
well_formed_append n scope s r a b e sa sb = record {
  ranged = All-append (λ line. IsRangedDraft n line.draft) a b sa.ranged sb.ranged;
  own = All-append (IsOf scope) a b sa.own sb.own;
  landed = landed_append a b sa.landed sb.landed;
  branches = All-append (λ line. BranchesInto (a ++ b) s line.draft) a b (aim_left a b a s sa.branches) (aim_right a b b s r e sa.landed sb.branches);
}

-- a line before others has what each has
pub ranged_cons : (n : Counts) (x : DraftLine) (xs : List DraftLine) → IsRangedDraft n x.draft → All (λ line. IsRangedDraft n line.draft) xs → All (λ line. IsRangedDraft n line.draft) (x ∷ xs)
ranged_cons n = All-cons (λ line. IsRangedDraft n line.draft)

-- a line of the scope before lines of the scope
pub own_cons : (scope : Scope) (at : At) (it : Draft) (xs : List DraftLine) → All (IsOf scope) xs → All (IsOf scope) (line_of scope at it ∷ xs)
own_cons scope at it xs h = All-cons (IsOf scope) (line_of scope at it) xs (refl, refl) h

-- a line whose labels are sites of others, before lines of which this holds
pub aims_cons : (all : List DraftLine) (s : ℕ) (x : DraftLine) (xs : List DraftLine) → BranchesInto all s x.draft → AimIn all s xs → AimIn all s (x ∷ xs)
aims_cons all s = All-cons (λ line. BranchesInto all s line.draft)

-- one part, and after it the next
pub well_formed_then : (n : Counts) (scope : Scope) (a b : Lines) → WellFormedLines n scope a → WellFormedLines n scope b → WellFormedLines n scope (a >> b)
unfolding WellFormedLines ◌>>◌
well_formed_then n scope a b sa sb s = well_formed_append n scope s (s + length (a s)) (a s) (b (s + length (a s))) refl (sa s) (sb (s + length (a s)))

-- the target waits for a loop
abbrev pub IsUnaimedTarget : Label → Type 0
IsUnaimedTarget (to.Site site) = ⊥
IsUnaimedTarget to.Break = Unit {0}
IsUnaimedTarget to.Continue = Unit {0}

-- no branch, or one that waits for a loop
abbrev pub IsUnaimed : Draft → Type 0
IsUnaimed (d.Complete statement) = Unit {0}
IsUnaimed (d.Get into of name) = Unit {0}
IsUnaimed (d.Set of name value) = Unit {0}
IsUnaimed (d.Shared into home name) = Unit {0}
IsUnaimed (d.Branch left right) = IsUnaimedTarget left × IsUnaimedTarget right

-- a label that waits for a loop may stand in all lines
unresolved_target : (lines : List DraftLine) (s : ℕ) (t : Label) → IsUnaimedTarget t → LabelInto lines s t
unresolved_target lines s (to.Site site) h = absurd h
unresolved_target lines s to.Break h = tt
unresolved_target lines s to.Continue h = tt

-- so does a draft whose targets all wait
pub unresolved : (lines : List DraftLine) (s : ℕ) (it : Draft) → IsUnaimed it → BranchesInto lines s it
unresolved lines s (d.Complete statement) h = tt
unresolved lines s (d.Get into of name) h = tt
unresolved lines s (d.Set of name value) h = tt
unresolved lines s (d.Shared into home name) h = tt
unresolved lines s (d.Branch left right) h = (unresolved_target lines s left h.0, unresolved_target lines s right h.1)

-- one line that awaits nothing
pub well_formed_one : (n : Counts) (scope : Scope) (at : At) (it : Draft) → IsRangedDraft n it → awaits it ≡ false → IsUnaimed it → WellFormedLines n scope (one scope at it)
unfolding WellFormedLines one
well_formed_one n scope at it ranged free aim s = record {
  ranged = ranged_cons n (line_of scope at it) [] ranged (All-nil (λ line. IsRangedDraft n line.draft));
  own = own_cons scope at it [] (All-nil (IsOf scope));
  landed = free;
  branches = aims_cons (line_of scope at it ∷ []) s (line_of scope at it) [] (unresolved (line_of scope at it ∷ []) s it aim) (All-nil (λ line. BranchesInto (line_of scope at it ∷ []) s line.draft));
}

-- a call or the start of a file, and its land
pub well_formed_awaited : (n : Counts) (scope : Scope) (at : At) (it : Draft) → IsRangedDraft n it → IsUnaimed it → WellFormedLines n scope (one scope at it >> one scope at (complete st.Land))
unfolding WellFormedLines one ◌>>◌
well_formed_awaited n scope at it ranged aim s = let x = line_of scope at it in let y = line_of scope at (complete st.Land) in let all : List DraftLine = x ∷ y ∷ [] in record {
  ranged = ranged_cons n x (y ∷ []) ranged (ranged_cons n y [] tt (All-nil (λ line. IsRangedDraft n line.draft)));
  own = own_cons scope at it (y ∷ []) (own_cons scope at (complete st.Land) [] (All-nil (IsOf scope)));
  landed = (λ e. refl, refl);
  branches = aims_cons all s x (y ∷ []) (unresolved all s it aim) (aims_cons all s y [] tt (All-nil (λ line. BranchesInto all s line.draft)));
}

-- a branch to the next line or past the part
pub well_formed_guarded : (n : Counts) (scope : Scope) (at : At) (part : Lines) → WellFormedLines n scope part → WellFormedLines n scope (emit_optional scope at part)
unfolding WellFormedLines one ◌>>◌ emit_optional
well_formed_guarded n scope at part sp s =
    let rest = part (s + 1) in
    let first = line_of scope at (branch (s + 1) (s + 1 + length rest)) in
    let is = sp (s + 1) in
    let landed : AreLanded (first ∷ rest) = landed_append (first ∷ []) rest refl is.landed in
    record {
      ranged = ranged_cons n first rest tt is.ranged;
      own = own_cons scope at (branch (s + 1) (s + 1 + length rest)) rest is.own;
      landed = landed;
      branches = aims_cons (first ∷ rest) s first rest
          (aims_at (first ∷ rest) (first ∷ []) rest s (s + 1) refl refl refl, aims_at (first ∷ rest) (first ∷ rest) [] s (s + 1 + length rest) (sym (append-nil (first ∷ rest))) (omega arith) landed)
          (aim_right (first ∷ []) rest rest s (s + 1) refl refl is.branches);
    }

-- a branch to one of two parts
pub well_formed_either : (n : Counts) (scope : Scope) (at : At) (chosen otherwise : Lines) → WellFormedLines n scope chosen → WellFormedLines n scope otherwise → WellFormedLines n scope (either scope at chosen otherwise)
unfolding WellFormedLines one either
well_formed_either n scope at chosen otherwise sc so s =
    let first = s + 1 in
    let a = chosen first in
    let second = first + length a + 1 in
    let b = otherwise second in
    let end = second + length b in
    let x = line_of scope at (branch first second) in
    let y = line_of scope at (jump (at_site end)) in
    let all : List DraftLine = x ∷ (a ++ y ∷ b) in
    let sa = sc first in
    let sb = so second in
    let lb : AreLanded (y ∷ b) = landed_append (y ∷ []) b refl sb.landed in
    let la : AreLanded (x ∷ a) = landed_append (x ∷ []) a refl sa.landed in
    let ly : AreLanded ((x ∷ a) ++ y ∷ []) = landed_append (x ∷ a) (y ∷ []) la refl in
    let lall : AreLanded all = landed_append (x ∷ a) (y ∷ b) la lb in
    let cut : all ≡ ((x ∷ a) ++ y ∷ []) ++ b = sym (append_assoc (x ∷ a) (y ∷ []) b) in
    let count : second ≡ s + length ((x ∷ a) ++ y ∷ []) = omega (arith, length-append (x ∷ a) (y ∷ [])) in
    let count_all : end ≡ s + length all = omega (arith, length-append (x ∷ a) (y ∷ b)) in
    let at_end : LabelInto all s (at_site end) = aims_at all all [] s end (sym (append-nil all)) count_all lall in
    record {
      ranged = ranged_cons n x (a ++ y ∷ b) tt (All-append (λ line. IsRangedDraft n line.draft) a (y ∷ b) sa.ranged (ranged_cons n y b tt sb.ranged));
      own = own_cons scope at (branch first second) (a ++ y ∷ b) (All-append (IsOf scope) a (y ∷ b) sa.own (own_cons scope at (jump (at_site end)) b sb.own));
      landed = lall;
      branches = aims_cons all s x (a ++ y ∷ b)
          (aims_at all (x ∷ []) (a ++ y ∷ b) s first refl refl refl, aims_at all ((x ∷ a) ++ y ∷ []) b s second cut count ly)
          (All-append (λ line. BranchesInto all s line.draft) a (y ∷ b)
          (aim_left (x ∷ a) (y ∷ b) a s (aim_right (x ∷ []) a a s first refl refl sa.branches))
          (aims_cons all s y b (at_end, at_end) (subst (λ l. AimIn l s b) (sym cut) (aim_right ((x ∷ a) ++ y ∷ []) b b s second count ly sb.branches))));
    }
