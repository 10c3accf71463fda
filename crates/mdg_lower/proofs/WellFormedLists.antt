-- Lines one after another: lands stay after what awaits them, and sites that were well placed stay so.
use Rattle.std.proofs.Common.{◌≡◌, ℕ, zero, suc, ◌+◌, ◌-◌, ◌≤◌, List, [], ◌∷◌, ◌++◌, length, All, sym, subst, arith}
use Rattle.std.proofs.lemmas.List.Elements.{All-weaker}
use Rattle.mdg_lower.specs.declared.draft.Draft.{Draft}
use Rattle.mdg_lower.specs.declared.draft.Draft.TheVariants as d
use Rattle.mdg_lower.specs.declared.draft.DraftLine.{DraftLine}
use Rattle.mdg_lower.specs.declared.draft.Label.{Label}
use Rattle.mdg_lower.specs.declared.draft.Label.TheVariants as to
use Rattle.mdg_lower.specs.Labels.{at_site}
use Rattle.mdg_lower.specs.WellFormed.{AreLanded, IsApartAt, LabelInto, BranchesInto}

-- lines that are landed, and then others
pub landed_append : (a b : List DraftLine) → AreLanded a → AreLanded b → AreLanded (a ++ b)
landed_append [] b la lb = lb
landed_append (x ∷ []) [] la lb = la
landed_append (x ∷ []) (y ∷ b) la lb = (λ e. cc, lb)
landed_append (x ∷ y ∷ a) b la lb = (la.0, landed_append (y ∷ a) b la.1 lb)

-- a site that is well placed stays so when lines are put after
pub apart_left : (a b : List DraftLine) (n : ℕ) → IsApartAt a n → IsApartAt (a ++ b) n
apart_left a b zero h = tt
apart_left [] b (suc n) h = absurd h
apart_left (x ∷ a) b (suc zero) h = h
apart_left (x ∷ a) b (suc (suc n)) h = apart_left a b (suc n) h

-- a site that is well placed stays so when landed lines are put before
pub apart_right : (a b : List DraftLine) (n k : ℕ) → k ≡ length a + n → AreLanded a → IsApartAt b n → IsApartAt (a ++ b) k
apart_right [] b n k e la h = let m : n ≡ k = omega arith in subst (IsApartAt b) m h
apart_right (x ∷ []) b n zero e la h = tt
apart_right (x ∷ []) b n (suc zero) e la h = la
apart_right (x ∷ []) b n (suc (suc k)) e la h = let m : n ≡ suc k = omega arith in subst (IsApartAt b) m h
apart_right (x ∷ y ∷ a) b n zero e la h = tt
apart_right (x ∷ y ∷ a) b n (suc zero) e la h = absurd (omega arith)
apart_right (x ∷ y ∷ a) b n (suc (suc k)) e la h = apart_right (y ∷ a) b n (suc k) (omega arith) la.1 h

-- a site that is well placed is one of the lines or right after them
pub apart_within : (a : List DraftLine) (n : ℕ) → IsApartAt a n → n ≤ length a
apart_within a zero h = omega arith
apart_within [] (suc n) h = absurd h
apart_within (x ∷ a) (suc zero) h = omega arith
apart_within (x ∷ a) (suc (suc n)) h = let m : suc n ≤ length a = apart_within a (suc n) h in omega arith

-- a target into lines is one into more lines
pub aims_left : (a b : List DraftLine) (s : ℕ) (t : Label) → LabelInto a s t → LabelInto (a ++ b) s t
aims_left a b s (to.Site site) h = (h.0, apart_left a b (site.0 - s) h.1)
aims_left a b s to.Break h = tt
aims_left a b s to.Continue h = tt

-- a target into lines is one into these with landed lines before them
pub aims_right : (a b : List DraftLine) (s r : ℕ) (t : Label) → r ≡ s + length a → AreLanded a → LabelInto b r t → LabelInto (a ++ b) s t
aims_right a b s r (to.Site site) e la h =
    let below : r ≤ site.0 = h.0 in
    (omega arith, apart_right a b (site.0 - r) (site.0 - s) (omega arith) la h.1)
aims_right a b s r to.Break e la h = tt
aims_right a b s r to.Continue e la h = tt

-- the site right after landed lines is well placed
pub aims_at : (all a b : List DraftLine) (s site : ℕ) → all ≡ a ++ b → site ≡ s + length a → AreLanded a → LabelInto all s (at_site site)
aims_at all a b s site e f la =
    subst (λ l. LabelInto l s (at_site site)) (sym e) (omega arith, apart_right a b zero (site - s) (omega arith) la tt)

-- a branch into lines is one into more lines
pub branches_left : (a b : List DraftLine) (s : ℕ) (it : Draft) → BranchesInto a s it → BranchesInto (a ++ b) s it
branches_left a b s (d.Complete statement) h = tt
branches_left a b s (d.Get into of name) h = tt
branches_left a b s (d.Set of name value) h = tt
branches_left a b s (d.Shared into home name) h = tt
branches_left a b s (d.Branch left right) h = (aims_left a b s left h.0, aims_left a b s right h.1)

-- a branch into lines is one into these with landed lines before them
pub branches_right : (a b : List DraftLine) (s r : ℕ) (it : Draft) → r ≡ s + length a → AreLanded a → BranchesInto b r it → BranchesInto (a ++ b) s it
branches_right a b s r (d.Complete statement) e la h = tt
branches_right a b s r (d.Get into of name) e la h = tt
branches_right a b s r (d.Set of name value) e la h = tt
branches_right a b s r (d.Shared into home name) e la h = tt
branches_right a b s r (d.Branch left right) e la h = (aims_right a b s r left e la h.0, aims_right a b s r right e la h.1)

-- each of these lines has its targets in all lines
abbrev pub AimIn : List DraftLine → ℕ → List DraftLine → Type 0
AimIn all s lines = All (λ line. BranchesInto all s line.draft) lines

-- lines whose labels are sites of others have them in these with more after them
pub aim_left : (a b lines : List DraftLine) (s : ℕ) → AimIn a s lines → AimIn (a ++ b) s lines
aim_left a b lines s h = All-weaker (λ line. BranchesInto a s line.draft) (λ line. BranchesInto (a ++ b) s line.draft) (λ line. branches_left a b s line.draft) lines h

-- lines whose labels are sites of others have them in these with landed lines before them
pub aim_right : (a b lines : List DraftLine) (s r : ℕ) → r ≡ s + length a → AreLanded a → AimIn b r lines → AimIn (a ++ b) s lines
aim_right a b lines s r e la h =
    All-weaker (λ line. BranchesInto b r line.draft) (λ line. BranchesInto (a ++ b) s line.draft) (λ line. branches_right a b s r line.draft e la) lines h
