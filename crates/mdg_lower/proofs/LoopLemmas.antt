-- Loops, whose branch and whose jumps are written last.
use Rattle.std.proofs.Common.{◌≡◌, ℕ, ◌+◌, List, [], ◌∷◌, ◌++◌, length, take, drop, refl, sym, ap, ◌∙◌, append_assoc, length-append}
use Rattle.std.specs.Prelude.{slice_set, map}
use Rattle.std.proofs.Math.Seq.{set-append_seam, take-append_seam, drop-append_seam}
use Rattle.mdg_tree.specs.declared.tree.At.{At}
use Rattle.mdg_lower.specs.declared.draft.Draft.{Draft}
use Rattle.mdg_lower.specs.declared.draft.DraftLine.{DraftLine}
use Rattle.mdg_lower.specs.declared.scope.Scope.{Scope}
use Rattle.mdg_lower.specs.Builder.{Lines, ◌>>◌, nothing, one, line_of, Emits}
use Rattle.mdg_lower.specs.Operands.{Operand}
use Rattle.mdg_lower.specs.Labels.{branch, jump, at_site, closed, resolved, FinishesWhile, FinishesDo}
use Rattle.mdg_lower.specs.Statements.{ContinueSite, to_test, continue_site, loop_lines, do_while}
use Rattle.mdg_lower.proofs.Growth.{emits_nothing}

-- a test, a branch that was reserved, a body and an update, and then the loop is closed
pub turning_written : (scope : Scope) (at : At) (free : Draft) (turn : ContinueSite) (test body update : Lines) (l0 l1 l2 l3 l4 now : List DraftLine) (start from next : ℕ)
    → start ≡ length l0 → Emits test l0 l1 → from ≡ length l1 → Emits (one scope at free) l1 l2 → Emits body l2 l3 → Emits update l3 l4
    → next ≡ continue_site turn start (length l3) → FinishesWhile scope at start from next l4 now → Emits (loop_lines scope at turn test body update) l0 now
unfolding Emits loop_lines one ◌>>◌ FinishesWhile
turning_written scope at free turn test body update l0 l1 l2 l3 l4 now start from next s0 p1 f1 p2 p3 p4 t0 pn =
    let T = test (length l0) in
    let F = length l0 + length T + 1 in
    let B = body F in
    let U = update (F + length B) in
    let R = B ++ U in
    let E = F + length R + 1 in
    let N = continue_site turn (length l0) (F + length B) in
    let X = line_of scope at free in
    let n1 : length l1 ≡ length l0 + length T = ap length p1 ∙ length-append l0 T in
    let n2 : length l2 ≡ F = ap length p2 ∙ length-append l1 (X ∷ []) ∙ ap (λ k. k + 1) n1 in
    let e3 : l3 ≡ l2 ++ B = p3 ∙ ap (λ k. l2 ++ body k) n2 in
    let n3 : length l3 ≡ F + length B = ap length e3 ∙ length-append l2 B ∙ ap (λ k. k + length B) n2 in
    let e4 : l4 ≡ l2 ++ R = p4 ∙ ap (λ k. l3 ++ update k) n3 ∙ ap (λ l. l ++ U) e3 ∙ append_assoc l2 B U in
    let n4 : length l4 + 1 ≡ E = ap (λ k. k + 1) (ap length e4 ∙ length-append l2 R ∙ ap (λ k. k + length R) n2) in
    let g1 : from + 1 ≡ length l2 = ap (λ k. k + 1) (f1 ∙ n1) ∙ sym n2 in
    let g2 : from + 1 ≡ F = g1 ∙ n2 in
    let h1 : next ≡ N = t0 ∙ ap (λ k. continue_site turn k (length l3)) s0 ∙ ap (λ k. continue_site turn (length l0) k) n3 in
    let t4 : take (from + 1) l4 ≡ l2 = ap (λ k. take k l4) g1 ∙ ap (λ l. take (length l2) l) e4 ∙ take-append_seam l2 R in
    let d4 : drop (from + 1) l4 ≡ R = ap (λ k. drop k l4) g1 ∙ ap (λ l. drop (length l2) l) e4 ∙ drop-append_seam l2 R in
    let M = map (resolved N E) R in
    let J = line_of scope at (jump (at_site (length l0))) in
    let Y = line_of scope at (branch F E) in
    let m4 : map (resolved next (length l4 + 1)) (drop (from + 1) l4) ≡ M =
    ap (λ k. map (resolved k (length l4 + 1)) (drop (from + 1) l4)) h1 ∙ ap (λ k. map (resolved N k) (drop (from + 1) l4)) n4 ∙ ap (λ l. map (resolved N E) l) d4 in
    let e5 : (take (from + 1) l4 ++ map (resolved next (length l4 + 1)) (drop (from + 1) l4)) ++ line_of scope at (jump (at_site start)) ∷ [] ≡ l1 ++ X ∷ (M ++ J ∷ []) =
    ap (λ l. (l ++ map (resolved next (length l4 + 1)) (drop (from + 1) l4)) ++ line_of scope at (jump (at_site start)) ∷ []) t4
    ∙ ap (λ l. (l2 ++ l) ++ line_of scope at (jump (at_site start)) ∷ []) m4
    ∙ ap (λ k. (l2 ++ M) ++ line_of scope at (jump (at_site k)) ∷ []) s0
    ∙ append_assoc l2 M (J ∷ []) ∙ ap (λ l. l ++ (M ++ J ∷ [])) p2 ∙ append_assoc l1 (X ∷ []) (M ++ J ∷ []) in
    let y1 : line_of scope at (branch (from + 1) (length l4 + 1)) ≡ Y =
    ap (λ k. line_of scope at (branch k (length l4 + 1))) g2 ∙ ap (λ k. line_of scope at (branch F k)) n4 in
    pn ∙ ap (λ l. slice_set l from (line_of scope at (branch (from + 1) (length l4 + 1)))) e5
    ∙ ap (λ w. slice_set (l1 ++ X ∷ (M ++ J ∷ [])) from w) y1
    ∙ ap (λ k. slice_set (l1 ++ X ∷ (M ++ J ∷ [])) k Y) f1 ∙ set-append_seam l1 X (M ++ J ∷ []) Y
    ∙ ap (λ l. l ++ Y ∷ (M ++ J ∷ [])) p1 ∙ append_assoc l0 T (Y ∷ (M ++ J ∷ []))

pub doing_written : (scope : Scope) (at : At) (body : Lines) (test : Operand) (l0 l1 l2 now : List DraftLine) (start next : ℕ)
    → start ≡ length l0 → Emits body l0 l1 → next ≡ length l1 → Emits (test.value scope 0) l1 l2 → FinishesDo scope at start next l2 now
    → Emits (do_while scope at body test) l0 now
unfolding Emits do_while one ◌>>◌ FinishesDo
doing_written scope at body test l0 l1 l2 now start next s0 p1 x0 p2 pn =
    let B = body (length l0) in
    let N = length l0 + length B in
    let U = test.value scope 0 N in
    let R = B ++ U in
    let E = length l0 + length R + 1 in
    let n1 : length l1 ≡ N = ap length p1 ∙ length-append l0 B in
    let e2 : l2 ≡ l0 ++ R = p2 ∙ ap (λ k. l1 ++ test.value scope 0 k) n1 ∙ ap (λ l. l ++ U) p1 ∙ append_assoc l0 B U in
    let h1 : next ≡ N = x0 ∙ n1 in
    let h2 : length l2 + 1 ≡ E = ap (λ k. k + 1) (ap length e2 ∙ length-append l0 R) in
    let t2 : take start l2 ≡ l0 = ap (λ k. take k l2) s0 ∙ ap (λ l. take (length l0) l) e2 ∙ take-append_seam l0 R in
    let d2 : drop start l2 ≡ R = ap (λ k. drop k l2) s0 ∙ ap (λ l. drop (length l0) l) e2 ∙ drop-append_seam l0 R in
    let M = map (resolved N E) R in
    let Y = line_of scope at (branch start (length l2 + 1)) in
    pn ∙ ap (λ l. (l ++ map (resolved next (length l2 + 1)) (drop start l2)) ++ Y ∷ []) t2
    ∙ ap (λ k. (l0 ++ map (resolved k (length l2 + 1)) (drop start l2)) ++ Y ∷ []) h1
    ∙ ap (λ k. (l0 ++ map (resolved N k) (drop start l2)) ++ Y ∷ []) h2
    ∙ ap (λ l. (l0 ++ map (resolved N E) l) ++ Y ∷ []) d2
    ∙ append_assoc l0 M (Y ∷ [])
    ∙ ap (λ k. l0 ++ (M ++ line_of scope at (branch k (length l2 + 1)) ∷ [])) s0
    ∙ ap (λ k. l0 ++ (M ++ line_of scope at (branch (length l0) k) ∷ [])) h2

-- a `while`, which has no update
pub while_written : (scope : Scope) (at : At) (free : Draft) (test : Operand) (body : Lines) (l0 l1 l2 l3 now : List DraftLine) (start from : ℕ)
    → start ≡ length l0 → Emits (test.value scope 0) l0 l1 → from ≡ length l1 → Emits (one scope at free) l1 l2 → Emits body l2 l3
    → FinishesWhile scope at start from start l3 now → Emits (loop_lines scope at to_test (test.value scope 0) body nothing) l0 now
while_written scope at free test body l0 l1 l2 l3 now start from s0 p1 f1 p2 p3 pn =
    turning_written scope at free to_test (test.value scope 0) body nothing l0 l1 l2 l3 l3 now start from start s0 p1 f1 p2 p3 (emits_nothing l3) refl pn

-- iterations that have neither a test nor an update
pub turns_written : (scope : Scope) (at : At) (free : Draft) (body : Lines) (l0 l2 l3 now : List DraftLine) (start : ℕ)
    → start ≡ length l0 → Emits (one scope at free) l0 l2 → Emits body l2 l3
    → FinishesWhile scope at start start start l3 now → Emits (loop_lines scope at to_test nothing body nothing) l0 now
turns_written scope at free body l0 l2 l3 now start s0 p2 p3 pn =
    turning_written scope at free to_test nothing body nothing l0 l0 l2 l3 l3 now start start start s0 (emits_nothing l0) s0 p2 p3 (emits_nothing l3) refl pn

pub closed_written : (body : Lines) (l0 l1 now : List DraftLine) (start end : ℕ) → start ≡ length l0 → Emits body l0 l1 → end ≡ length l1
    → now ≡ take start l1 ++ map (resolved end end) (drop start l1) → Emits (closed body) l0 now
unfolding Emits closed
closed_written body l0 l1 now start end s0 p1 e0 pn =
    let B = body (length l0) in
    let N = length l0 + length B in
    let h : end ≡ N = e0 ∙ ap length p1 ∙ length-append l0 B in
    let t1 : take start l1 ≡ l0 = ap (λ k. take k l1) s0 ∙ ap (λ l. take (length l0) l) p1 ∙ take-append_seam l0 B in
    let d1 : drop start l1 ≡ B = ap (λ k. drop k l1) s0 ∙ ap (λ l. drop (length l0) l) p1 ∙ drop-append_seam l0 B in
    pn ∙ ap (λ l. l ++ map (resolved end end) (drop start l1)) t1 ∙ ap (λ k. l0 ++ map (resolved k k) (drop start l1)) h ∙ ap (λ l. l0 ++ map (resolved N N) l) d1

pub ruleset loops = (turning_written)

pub ruleset whiles = (while_written)

pub ruleset turns = (turns_written)

pub ruleset doings = (doing_written)

pub ruleset closings = (closed_written)
