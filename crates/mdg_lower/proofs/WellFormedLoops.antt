-- Loops whose parts are well-formed are well-formed, once their jumps are resolved.
use Rattle.std.proofs.Common.{◌≡◌, ℕ, zero, suc, ◌+◌, ◌-◌, List, [], ◌∷◌, ◌++◌, length, map, All, refl, sym, ap, ◌∙◌, subst, arith, append_assoc, append-nil, length-append}
use Rattle.std.proofs.lemmas.List.Elements.{All-append, All-map, All-weaker, All-nil}
use Rattle.std.proofs.lemmas.List.{length-map, map-append}
use Rattle.mdg_tree.specs.declared.tree.At.{At}
use Rattle.mdg_lower.specs.declared.draft.Draft.{Draft}
use Rattle.mdg_lower.specs.declared.draft.Draft.TheVariants as d
use Rattle.mdg_lower.specs.declared.draft.DraftLine.{DraftLine}
use Rattle.mdg_lower.specs.declared.draft.Label.{Label}
use Rattle.mdg_lower.specs.declared.draft.Label.TheVariants as to
use Rattle.mdg_lower.specs.declared.scope.Scope.{Scope}
use Rattle.mdg_lower.specs.Builder.{Lines, ◌>>◌, one, line_of}
use Rattle.mdg_lower.specs.Operands.{Operand}
use Rattle.mdg_lower.specs.Labels.{branch, jump, at_site, resolved_label, resolved_draft, resolved, closed}
use Rattle.mdg_lower.specs.Statements.{ContinueSite, to_test, to_update, continue_site, loop_lines, do_while}
use Rattle.mdg_lower.specs.WellFormed.{Counts, awaits, lands, AreLanded, IsApartAt, LabelInto, BranchesInto, IsRangedDraft, IsOf, WellFormed, WellFormedLines}
use Rattle.mdg_lower.proofs.WellFormedLists.{landed_append, aims_at, AimIn, aim_left, aim_right}
use Rattle.mdg_lower.proofs.WellFormedJoins.{well_formed_append, ranged_cons, own_cons, aims_cons}

-- an resolved draft awaits a land just where it did
awaits_resolved : (x y : ℕ) (it : Draft) → awaits (resolved_draft x y it) ≡ awaits it
unfolding resolved_draft
awaits_resolved x y (d.Complete statement) = refl
awaits_resolved x y (d.Get into of name) = refl
awaits_resolved x y (d.Set of name value) = refl
awaits_resolved x y (d.Shared into home name) = refl
awaits_resolved x y (d.Branch left right) = refl

-- it is a land just where it was one
lands_resolved : (x y : ℕ) (it : Draft) → lands (resolved_draft x y it) ≡ lands it
unfolding resolved_draft
lands_resolved x y (d.Complete statement) = refl
lands_resolved x y (d.Get into of name) = refl
lands_resolved x y (d.Set of name value) = refl
lands_resolved x y (d.Shared into home name) = refl
lands_resolved x y (d.Branch left right) = refl

-- its numbers stay in range
ranged_resolved : (n : Counts) (x y : ℕ) (it : Draft) → IsRangedDraft n it → IsRangedDraft n (resolved_draft x y it)
unfolding resolved_draft
ranged_resolved n x y (d.Complete statement) h = h
ranged_resolved n x y (d.Get into of name) h = tt
ranged_resolved n x y (d.Set of name value) h = tt
ranged_resolved n x y (d.Shared into home name) h = tt
ranged_resolved n x y (d.Branch left right) h = tt

-- resolved lines stay landed
landed_resolved : (x y : ℕ) (l : List DraftLine) → AreLanded l → AreLanded (map (resolved x y) l)
unfolding resolved
landed_resolved x y [] h = tt
landed_resolved x y (a ∷ []) h = awaits_resolved x y a.draft ∙ h
landed_resolved x y (a ∷ b ∷ l) h = (λ e. lands_resolved x y b.draft ∙ h.0 (sym (awaits_resolved x y a.draft) ∙ e), landed_resolved x y (b ∷ l) h.1)

-- a site that is well placed in lines is so once they are resolved
apart_resolved : (x y : ℕ) (l : List DraftLine) (n : ℕ) → IsApartAt l n → IsApartAt (map (resolved x y) l) n
unfolding resolved
apart_resolved x y l zero h = tt
apart_resolved x y [] (suc n) h = absurd h
apart_resolved x y (a ∷ l) (suc zero) h = awaits_resolved x y a.draft ∙ h
apart_resolved x y (a ∷ l) (suc (suc n)) h = apart_resolved x y l (suc n) h

-- a target into lines is one into these once they are resolved
target_resolved : (x y : ℕ) (l : List DraftLine) (s : ℕ) (t : Label) → LabelInto l s t → LabelInto (map (resolved x y) l) s t
target_resolved x y l s (to.Site site) h = (h.0, apart_resolved x y l (site.0 - s) h.1)
target_resolved x y l s to.Break h = tt
target_resolved x y l s to.Continue h = tt

-- a branch into lines is one into these once they are resolved
branches_resolved : (x y : ℕ) (l : List DraftLine) (s : ℕ) (it : Draft) → BranchesInto l s it → BranchesInto (map (resolved x y) l) s it
branches_resolved x y l s (d.Complete statement) h = tt
branches_resolved x y l s (d.Get into of name) h = tt
branches_resolved x y l s (d.Set of name value) h = tt
branches_resolved x y l s (d.Shared into home name) h = tt
branches_resolved x y l s (d.Branch left right) h = (target_resolved x y l s left h.0, target_resolved x y l s right h.1)

-- a target that waited for the loop is where the loop's own sites are
target_replaced : (all : List DraftLine) (s x y : ℕ) (t : Label) → LabelInto all s (at_site x) → LabelInto all s (at_site y) → LabelInto all s t → LabelInto all s (resolved_label x y t)
unfolding resolved_label
target_replaced all s x y (to.Site site) hx hy h = h
target_replaced all s x y to.Break hx hy h = hy
target_replaced all s x y to.Continue hx hy h = hx

-- so are both targets of a branch
branches_replaced : (all : List DraftLine) (s x y : ℕ) (it : Draft) → LabelInto all s (at_site x) → LabelInto all s (at_site y) → BranchesInto all s it → BranchesInto all s (resolved_draft x y it)
unfolding resolved_draft
branches_replaced all s x y (d.Complete statement) hx hy h = tt
branches_replaced all s x y (d.Get into of name) hx hy h = tt
branches_replaced all s x y (d.Set of name value) hx hy h = tt
branches_replaced all s x y (d.Shared into home name) hx hy h = tt
branches_replaced all s x y (d.Branch left right) hx hy h = (target_replaced all s x y left hx hy h.0, target_replaced all s x y right hx hy h.1)

-- lines whose labels are sites of others have them in these once they are resolved
aim_mapped : (x y : ℕ) (l lines : List DraftLine) (s : ℕ) → AimIn l s lines → AimIn (map (resolved x y) l) s lines
aim_mapped x y l lines s h =
    All-weaker (λ line. BranchesInto l s line.draft) (λ line. BranchesInto (map (resolved x y) l) s line.draft) (λ line. branches_resolved x y l s line.draft) lines h

-- resolved lines have their targets where they had them or at the loop's own sites
aim_replaced : (all lines : List DraftLine) (s x y : ℕ) → LabelInto all s (at_site x) → LabelInto all s (at_site y) → AimIn all s lines → AimIn all s (map (resolved x y) lines)
unfolding resolved
aim_replaced all lines s x y hx hy h =
    All-map (λ line. BranchesInto all s line.draft) (resolved x y) lines
    (All-weaker (λ line. BranchesInto all s line.draft) (λ line. BranchesInto all s (resolved x y line).draft) (λ line. branches_replaced all s x y line.draft hx hy) lines h)

-- the numbers of resolved lines stay in range
ranged_mapped : (n : Counts) (x y : ℕ) (l : List DraftLine) → All (λ line. IsRangedDraft n line.draft) l → All (λ line. IsRangedDraft n line.draft) (map (resolved x y) l)
unfolding resolved
ranged_mapped n x y l h =
    All-map (λ line. IsRangedDraft n line.draft) (resolved x y) l
    (All-weaker (λ line. IsRangedDraft n line.draft) (λ line. IsRangedDraft n (resolved x y line).draft) (λ line. ranged_resolved n x y line.draft) l h)

-- resolved lines stay lines of the scope
own_mapped : (scope : Scope) (x y : ℕ) (l : List DraftLine) → All (IsOf scope) l → All (IsOf scope) (map (resolved x y) l)
unfolding resolved
own_mapped scope x y l h = All-map (IsOf scope) (resolved x y) l h

-- a loop's test, the branch, its resolved lines, and the jump back
abbrev turned : Scope → At → ℕ → ℕ → ℕ → ℕ → List DraftLine → List DraftLine → List DraftLine
turned scope at s first end next test rest =
    test ++ (line_of scope at (branch first end) ∷ (map (resolved next end) rest ++ line_of scope at (jump (at_site s)) ∷ []))

-- a loop, where its next iteration begins at a site that is well placed
well_formed_turned : (n : Counts) (scope : Scope) (at : At) (s first end next : ℕ) (test rest : List DraftLine) → first ≡ s + length test + 1 → end ≡ first + length rest + 1
    → WellFormed n scope s test → WellFormed n scope first rest → LabelInto (turned scope at s first end next test rest) s (at_site next)
    → WellFormed n scope s (turned scope at s first end next test rest)
well_formed_turned n scope at s first end next test rest ef ee st sr an =
    let x = line_of scope at (branch first end) in
    let m = map (resolved next end) rest in
    let y = line_of scope at (jump (at_site s)) in
    let all : List DraftLine = test ++ (x ∷ (m ++ y ∷ [])) in
    let lm : AreLanded m = landed_resolved next end rest sr.landed in
    let lt : AreLanded (test ++ x ∷ []) = landed_append test (x ∷ []) st.landed refl in
    let ly : AreLanded (m ++ y ∷ []) = landed_append m (y ∷ []) lm refl in
    let cut : all ≡ (test ++ x ∷ []) ++ (m ++ y ∷ []) = sym (append_assoc test (x ∷ []) (m ++ y ∷ [])) in
    let lall : AreLanded all = subst AreLanded (sym cut) (landed_append (test ++ x ∷ []) (m ++ y ∷ []) lt ly) in
    let cf : first ≡ s + length (test ++ x ∷ []) = omega (arith, length-append test (x ∷ [])) in
    let ce : end ≡ s + length all = omega (arith, length-append test (x ∷ (m ++ y ∷ [])), length-append m (y ∷ []), length-map rest (resolved next end)) in
    let a0 : LabelInto all s (at_site s) = aims_at all [] all s s refl (omega arith) tt in
    let af : LabelInto all s (at_site first) = aims_at all (test ++ x ∷ []) (m ++ y ∷ []) s first cut cf lt in
    let ae : LabelInto all s (at_site end) = aims_at all all [] s end (sym (append-nil all)) ce lall in
    let ar : AimIn all s rest = subst (λ l. AimIn l s rest) (sym cut)
    (aim_right (test ++ x ∷ []) (m ++ y ∷ []) rest s first cf lt (aim_left m (y ∷ []) rest first (aim_mapped next end rest rest first sr.branches))) in
    record {
      ranged = All-append (λ line. IsRangedDraft n line.draft) test (x ∷ (m ++ y ∷ [])) st.ranged
          (ranged_cons n x (m ++ y ∷ []) tt (All-append (λ line. IsRangedDraft n line.draft) m (y ∷ []) (ranged_mapped n next end rest sr.ranged) (ranged_cons n y [] tt (All-nil (λ line. IsRangedDraft n line.draft)))));
      own = All-append (IsOf scope) test (x ∷ (m ++ y ∷ [])) st.own
          (own_cons scope at (branch first end) (m ++ y ∷ []) (All-append (IsOf scope) m (y ∷ []) (own_mapped scope next end rest sr.own) (own_cons scope at (jump (at_site s)) [] (All-nil (IsOf scope)))));
      landed = lall;
      branches = All-append (λ line. BranchesInto all s line.draft) test (x ∷ (m ++ y ∷ [])) (aim_left test (x ∷ (m ++ y ∷ [])) test s st.branches)
          (aims_cons all s x (m ++ y ∷ []) (af, ae)
          (All-append (λ line. BranchesInto all s line.draft) m (y ∷ []) (aim_replaced all rest s next end an ae ar)
          (aims_cons all s y [] (a0, a0) (All-nil (λ line. BranchesInto all s line.draft)))));
    }

-- the next iteration begins at the test, or right after the body
turn_placed : (n : Counts) (scope : Scope) (at : At) (turn : ContinueSite) (s first end : ℕ) (test body update : List DraftLine) → first ≡ s + length test + 1
    → WellFormed n scope s test → WellFormed n scope first body
    → let next = continue_site turn s (first + length body) in LabelInto (turned scope at s first end next test (body ++ update)) s (at_site next)
turn_placed n scope at to_test s first end test body update ef st sb =
    let all = turned scope at s first end s test (body ++ update) in
    aims_at all [] all s s refl (omega arith) tt
turn_placed n scope at to_update s first end test body update ef st sb =
    let next = first + length body in
    let all = turned scope at s first end next test (body ++ update) in
    let x = line_of scope at (branch first end) in
    let b = map (resolved next end) body in
    let u = map (resolved next end) update in
    let y = line_of scope at (jump (at_site s)) in
    let split : all ≡ test ++ (x ∷ ((b ++ u) ++ y ∷ [])) = ap (λ l. test ++ (x ∷ (l ++ y ∷ []))) (map-append (resolved next end) body update) in
    let cut : all ≡ (test ++ x ∷ b) ++ (u ++ y ∷ []) =
    split ∙ ap (λ l. test ++ (x ∷ l)) (append_assoc b u (y ∷ [])) ∙ sym (append_assoc test (x ∷ b) (u ++ y ∷ [])) in
    let count : next ≡ s + length (test ++ x ∷ b) = omega (arith, length-append test (x ∷ b), length-map body (resolved next end)) in
    let landed : AreLanded (test ++ x ∷ b) = landed_append test (x ∷ b) st.landed (landed_append (x ∷ []) b refl (landed_resolved next end body sb.landed)) in
    aims_at all (test ++ x ∷ b) (u ++ y ∷ []) s next cut count landed

-- a test, a branch into the loop or past it, the loop's body and update, and the jump back
pub well_formed_turning : (n : Counts) (scope : Scope) (at : At) (turn : ContinueSite) (test body update : Lines)
    → WellFormedLines n scope test → WellFormedLines n scope body → WellFormedLines n scope update → WellFormedLines n scope (loop_lines scope at turn test body update)
unfolding WellFormedLines loop_lines one ◌>>◌
well_formed_turning n scope at turn test body update st sb su s =
    let first = s + length (test s) + 1 in
    let b = body first in
    let u = update (first + length b) in
    let end = first + length (b ++ u) + 1 in
    let next = continue_site turn s (first + length b) in
    well_formed_turned n scope at s first end next (test s) (b ++ u) refl refl (st s) (well_formed_append n scope first (first + length b) b u refl (sb first) (su (first + length b)))
    (turn_placed n scope at turn s first end (test s) b u refl (st s) (sb first))

-- do s while (e)
pub well_formed_doing : (n : Counts) (scope : Scope) (at : At) (body : Lines) (test : Operand) → WellFormedLines n scope body → WellFormedLines n scope (test.value scope 0) → WellFormedLines n scope (do_while scope at body test)
unfolding WellFormedLines do_while one ◌>>◌
well_formed_doing n scope at body test sb st s =
    let a = body s in
    let next = s + length a in
    let t = test.value scope 0 next in
    let rest = a ++ t in
    let end = s + length rest + 1 in
    let m = map (resolved next end) rest in
    let y = line_of scope at (branch s end) in
    let all : List DraftLine = m ++ y ∷ [] in
    let sr = well_formed_append n scope s next a t refl (sb s) (st next) in
    let lm : AreLanded m = landed_resolved next end rest sr.landed in
    let lall : AreLanded all = landed_append m (y ∷ []) lm refl in
    let ma = map (resolved next end) a in
    let mt = map (resolved next end) t in
    let cut : all ≡ ma ++ (mt ++ y ∷ []) = ap (λ l. l ++ y ∷ []) (map-append (resolved next end) a t) ∙ append_assoc ma mt (y ∷ []) in
    let a0 : LabelInto all s (at_site s) = aims_at all [] all s s refl (omega arith) tt in
    let an : LabelInto all s (at_site next) = aims_at all ma (mt ++ y ∷ []) s next cut (omega (arith, length-map a (resolved next end))) (landed_resolved next end a (sb s).landed) in
    let ae : LabelInto all s (at_site end) = aims_at all all [] s end (sym (append-nil all)) (omega (arith, length-append m (y ∷ []), length-map rest (resolved next end))) lall in
    record {
      ranged = All-append (λ line. IsRangedDraft n line.draft) m (y ∷ []) (ranged_mapped n next end rest sr.ranged) (ranged_cons n y [] tt (All-nil (λ line. IsRangedDraft n line.draft)));
      own = All-append (IsOf scope) m (y ∷ []) (own_mapped scope next end rest sr.own) (own_cons scope at (branch s end) [] (All-nil (IsOf scope)));
      landed = lall;
      branches = All-append (λ line. BranchesInto all s line.draft) m (y ∷ [])
          (aim_replaced all rest s next end an ae (aim_left m (y ∷ []) rest s (aim_mapped next end rest rest s sr.branches)))
          (aims_cons all s y [] (a0, ae) (All-nil (λ line. BranchesInto all s line.draft)));
    }

-- the jumps that no loop encloses go right after
pub well_formed_closed : (n : Counts) (scope : Scope) (body : Lines) → WellFormedLines n scope body → WellFormedLines n scope (closed body)
unfolding WellFormedLines closed
well_formed_closed n scope body sb s =
    let l = body s in
    let end = s + length l in
    let is = sb s in
    let m = map (resolved end end) l in
    let lm : AreLanded m = landed_resolved end end l is.landed in
    let ae : LabelInto m s (at_site end) = aims_at m m [] s end (sym (append-nil m)) (omega (arith, length-map l (resolved end end))) lm in
    record {
      ranged = ranged_mapped n end end l is.ranged;
      own = own_mapped scope end end l is.own;
      landed = lm;
      branches = aim_replaced m l s end end ae ae (aim_mapped end end l l s is.branches);
    }
