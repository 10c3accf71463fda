-- The lines of whole functions and of files' bodies are well-formed.
use Rattle.std.proofs.Common.{ℕ, ◌+◌, ◌-◌, ◌<◌, ◌≤◌, List, [], ◌∷◌, ◌++◌, length, All, refl, arith, length-append}
use Rattle.std.proofs.lemmas.List.Elements.{All-append, All-nil, All-cons, All-weaker}
use Rattle.mdg_tree.specs.declared.tree.At.{At}
use Rattle.mdg_tree.specs.declared.tree.Stmt.{Stmt}
use Rattle.mdg_tree.specs.declared.tree.Function.{Function}
use Rattle.mdg_scope.specs.declared.bound.BoundFunction.{BoundFunction}
use Rattle.mdg_code.specs.declared.statement.Statement.TheVariants as st
use Rattle.mdg_lower.specs.declared.draft.Draft.{Draft}
use Rattle.mdg_lower.specs.declared.draft.Draft.TheVariants as d
use Rattle.mdg_lower.specs.declared.draft.DraftLine.{DraftLine}
use Rattle.mdg_lower.specs.declared.draft.Label.{Label}
use Rattle.mdg_lower.specs.declared.draft.Label.TheVariants as to
use Rattle.mdg_lower.specs.declared.scope.Scope.{Scope}
use Rattle.mdg_lower.specs.Lookup.{temp}
use Rattle.mdg_lower.specs.Builder.{Lines, ◌>>◌, one, line_of}
use Rattle.mdg_lower.specs.Instructions.{complete, undefined_text, literal}
use Rattle.mdg_lower.specs.Statements.{function_start, body_start, return_temporary, return_undefined}
use Rattle.mdg_lower.specs.Forms.{keyword_at}
use Rattle.mdg_lower.specs.Trees.{body_lines}
use Rattle.mdg_lower.specs.Tables.{inner_lines, function_lines, file_lines}
use Rattle.mdg_lower.specs.WellFormed.{Counts, WellFormed, WellFormedLines, ScopeFits, LabelInto, BranchesInto, IsResolved, EndWell, StaysWithin, BranchesWithin, WellFormedFunction}
use Rattle.mdg_lower.proofs.WellFormedLists.{apart_within}
use Rattle.mdg_lower.proofs.WellFormedJoins.{well_formed_append, well_formed_then}
use Rattle.mdg_lower.proofs.WellFormedLoops.{well_formed_closed}
use Rattle.mdg_lower.proofs.WellFormedLabels.{ResolvedLines, resolved_then, resolved_closed, resolved_function_start, resolved_body_start}
use Rattle.mdg_lower.proofs.WellFormedStatements.{well_formed_function_start, well_formed_body_start, well_formed_nothing_back}
use Rattle.mdg_lower.proofs.WellFormedBodies.{well_formed_body_lines, well_formed_hoisted_lines, resolved_hoisted_lines}

-- the lines of a function, from each site on
abbrev pub WholeLines : Counts → Scope → Lines → Type 0
WholeLines n scope code = (s : ℕ) → WellFormedFunction n scope s (code s)

-- lines that end well do so after others
end_append : (a b : List DraftLine) → EndWell b → EndWell (a ++ b)
end_append [] b h = h
end_append (x ∷ []) [] h = absurd h
end_append (x ∷ []) (y ∷ b) h = h
end_append (x ∷ y ∷ a) b h = end_append (y ∷ a) b h

-- lines that end well are not none
end_counted : (b : List DraftLine) → EndWell b → 0 < length b
end_counted [] h = absurd h
end_counted (x ∷ b) h = omega arith

-- a target into lines stays within these and one more
target_within : (a : List DraftLine) (s count : ℕ) (t : Label) → length a < count → LabelInto a s t → StaysWithin s count t
target_within a s count (to.Site site) lt h = let near : site.0 - s ≤ length a = apart_within a (site.0 - s) h.1 in let low : s ≤ site.0 = h.0 in omega arith
target_within a s count to.Break lt h = tt
target_within a s count to.Continue lt h = tt

-- so does a branch into lines
branches_within : (a : List DraftLine) (s count : ℕ) (it : Draft) → length a < count → BranchesInto a s it → BranchesWithin s count it
branches_within a s count (d.Complete statement) lt h = tt
branches_within a s count (d.Get into of name) lt h = tt
branches_within a s count (d.Set of name value) lt h = tt
branches_within a s count (d.Shared into home name) lt h = tt
branches_within a s count (d.Branch left right) lt h = (target_within a s count left lt h.0, target_within a s count right lt h.1)

-- what stays within lines stays within these with others before them
target_later : (s r count all : ℕ) (t : Label) → r + count ≤ s + all → StaysWithin r count t → StaysWithin s all t
target_later s r count all (to.Site site) le h = let low : site.0 < r + count = h in omega arith
target_later s r count all to.Break le h = tt
target_later s r count all to.Continue le h = tt

-- so does a branch
branches_later : (s r count all : ℕ) (it : Draft) → r + count ≤ s + all → BranchesWithin r count it → BranchesWithin s all it
branches_later s r count all (d.Complete statement) le h = tt
branches_later s r count all (d.Get into of name) le h = tt
branches_later s r count all (d.Set of name value) le h = tt
branches_later s r count all (d.Shared into home name) le h = tt
branches_later s r count all (d.Branch left right) le h = (target_later s r count all left le h.0, target_later s r count all right le h.1)

-- lines, and those of a whole function after them
whole_append : (n : Counts) (scope : Scope) (s : ℕ) (a b : List DraftLine) → WellFormed n scope s a → All (λ line. IsResolved line.draft) a → WellFormedFunction n scope (s + length a) b → WellFormedFunction n scope s (a ++ b)
whole_append n scope s a b sa ha wb =
    let count = length (a ++ b) in
    let more : length a < count = omega (arith, length-append a b, end_counted b wb.end_well) in
    let rest : (s + length a) + length b ≤ s + count = omega (arith, length-append a b) in
    record {
      well_formed = well_formed_append n scope s (s + length a) a b refl sa wb.well_formed;
      resolved = All-append (λ line. IsResolved line.draft) a b ha wb.resolved;
      end_well = end_append a b wb.end_well;
      within = All-append (λ line. BranchesWithin s count line.draft) a b
          (All-weaker (λ line. BranchesInto a s line.draft) (λ line. BranchesWithin s count line.draft) (λ line. branches_within a s count line.draft more) a sa.branches)
          (All-weaker (λ line. BranchesWithin (s + length a) (length b) line.draft) (λ line. BranchesWithin s count line.draft) (λ line. branches_later s (s + length a) (length b) count line.draft rest) b wb.within);
    }

-- a part of a function, and after it what makes it whole
whole_then : (n : Counts) (scope : Scope) (a b : Lines) → WellFormedLines n scope a → ResolvedLines a → WholeLines n scope b → WholeLines n scope (a >> b)
unfolding WellFormedLines ◌>>◌
whole_then n scope a b sa ha wb s = whole_append n scope s (a s) (b (s + length (a s))) (sa s) (ha s) (wb (s + length (a s)))

-- the end of each function
whole_back : (n : Counts) (scope : Scope) → ScopeFits n scope → (at : At) → WholeLines n scope (return_undefined scope at)
unfolding WellFormedLines return_undefined literal return_temporary one ◌>>◌
whole_back n scope fits at s =
    let x = line_of scope at (complete (st.Literal (temp scope 0) undefined_text)) in
    let y = line_of scope at (complete (st.Return (temp scope 0))) in
    record {
      well_formed = well_formed_nothing_back n scope fits at s;
      resolved = All-cons (λ line. IsResolved line.draft) x (y ∷ []) tt (All-cons (λ line. IsResolved line.draft) y [] tt (All-nil (λ line. IsResolved line.draft)));
      end_well = refl;
      within = All-cons (λ line. BranchesWithin s 2 line.draft) x (y ∷ []) tt (All-cons (λ line. BranchesWithin s 2 line.draft) y [] tt (All-nil (λ line. BranchesWithin s 2 line.draft)));
    }

-- what stands between the start and the end of a function
well_formed_inner : (n : Counts) (scope : Scope) → ScopeFits n scope → (body : List Stmt) → WellFormedLines n scope (inner_lines scope body)
unfolding inner_lines
well_formed_inner n scope fits body = well_formed_then n scope _ _ (well_formed_hoisted_lines n scope fits body) (well_formed_closed n scope (body_lines body scope) (well_formed_body_lines n scope fits body))

-- no jump among it waits for a loop
resolved_inner : (n : Counts) (scope : Scope) → ScopeFits n scope → (body : List Stmt) → ResolvedLines (inner_lines scope body)
unfolding inner_lines
resolved_inner n scope fits body = resolved_then _ _ (resolved_hoisted_lines n scope fits body) (resolved_closed (body_lines body scope))

-- the lines of a function
pub whole_function : (n : Counts) (scope : Scope) → ScopeFits n scope → (f : BoundFunction) (t : Function) (s : ℕ) → WellFormedFunction n scope s (function_lines scope f t s)
unfolding function_lines
whole_function n scope fits f t =
    let inner = whole_then n scope (inner_lines scope t.body) (return_undefined scope (keyword_at t)) (well_formed_inner n scope fits t.body) (resolved_inner n scope fits t.body) (whole_back n scope fits (keyword_at t)) in
    whole_then n scope (function_start scope (keyword_at t) f.parameters f.own_name f.name) _
    (well_formed_function_start n scope fits (keyword_at t) f.parameters f.own_name f.name) (resolved_function_start scope (keyword_at t) f.parameters f.own_name f.name) inner

-- the lines of the body of a file
pub whole_body : (n : Counts) (scope : Scope) → ScopeFits n scope → (at : At) (items : List Stmt) (s : ℕ) → WellFormedFunction n scope s (file_lines scope at items s)
unfolding file_lines
whole_body n scope fits at items =
    let inner = whole_then n scope (inner_lines scope items) (return_undefined scope at) (well_formed_inner n scope fits items) (resolved_inner n scope fits items) (whole_back n scope fits at) in
    whole_then n scope (body_start scope at) _ (well_formed_body_start n scope fits at) (resolved_body_start scope at) inner
