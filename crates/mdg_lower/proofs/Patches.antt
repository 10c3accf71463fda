-- Branches that are patched once the lines after them stand.
use Rattle.std.proofs.Common.{◌≡◌, ℕ, ◌+◌, List, [], ◌∷◌, ◌++◌, length, sym, ap, ◌∙◌, arith, append_assoc, length-append}
use Rattle.std.specs.Prelude.{slice_set}
use Rattle.std.proofs.Math.Seq.{set-append_seam}
use Rattle.mdg_tree.specs.declared.tree.At.{At}
use Rattle.mdg_lower.specs.declared.draft.Draft.{Draft}
use Rattle.mdg_lower.specs.declared.draft.DraftLine.{DraftLine}
use Rattle.mdg_lower.specs.declared.scope.Scope.{Scope}
use Rattle.mdg_lower.specs.Builder.{Lines, ◌>>◌, one, line_of, Emits}
use Rattle.mdg_lower.specs.Labels.{branch}
use Rattle.mdg_lower.specs.Operators.{emit_optional, either}

-- A branch that was reserved, the part after it, and then the branch in its place.
pub guarded_written : (scope : Scope) (at : At) (free : Draft) (part : Lines) (before held after now : List DraftLine) (from : ℕ)
    → Emits (one scope at free) before held → Emits part held after → from ≡ length before
    → now ≡ slice_set after from (line_of scope at (branch (from + 1) (length after))) → Emits (emit_optional scope at part) before now
unfolding Emits emit_optional one ◌>>◌
guarded_written scope at free part before held after now from h p n e =
    let x = line_of scope at free in
    let y = line_of scope at (branch (from + 1) (length after)) in
    let lh : length held ≡ length before + 1 = ap length h ∙ length-append before (x ∷ []) in
    let code = part (length before + 1) in
    let all : after ≡ before ++ x ∷ code = p ∙ ap (λ k. held ++ part k) lh ∙ ap (λ l. l ++ code) h ∙ append_assoc before (x ∷ []) code in
    let la : length after ≡ length before + 1 + length code = ap length all ∙ length-append before (x ∷ code) ∙ omega arith in
    e ∙ ap (λ l. slice_set l from y) all ∙ ap (λ k. slice_set (before ++ x ∷ code) k y) n ∙ set-append_seam before x code y
    ∙ ap (λ k. before ++ line_of scope at (branch (k + 1) (length after)) ∷ code) n
    ∙ ap (λ k. before ++ line_of scope at (branch (length before + 1) k) ∷ code) la

pub ruleset patches = (guarded_written)

-- Two branches that were reserved, a part after each, and then the branch and the jump in their places.
pub either_written : (scope : Scope) (at : At) (free : Draft) (chosen otherwise : Lines) (l0 l1 l2 l3 l4 l5 now : List DraftLine) (from middle end first second : ℕ)
    → from ≡ length l0 → Emits (one scope at free) l0 l1 → Emits chosen l1 l2 → middle ≡ length l2 → Emits (one scope at free) l2 l3 → Emits otherwise l3 l4
    → end ≡ length l4 → first ≡ from + 1 → second ≡ middle + 1
    → l5 ≡ slice_set l4 from (line_of scope at (branch first second)) → now ≡ slice_set l5 middle (line_of scope at (branch end end))
    → Emits (either scope at chosen otherwise) l0 now
unfolding Emits either one
either_written scope at free chosen otherwise l0 l1 l2 l3 l4 l5 now from middle end first second f0 p1 p2 m0 p3 p4 e0 g1 g2 p5 pn =
    let X = line_of scope at free in
    let F = length l0 + 1 in
    let A = chosen F in
    let S = F + length A + 1 in
    let B = otherwise S in
    let N = S + length B in
    let Y = line_of scope at (branch first second) in
    let Z = line_of scope at (branch end end) in
    let n1 : length l1 ≡ F = ap length p1 ∙ length-append l0 (X ∷ []) in
    let e2 : l2 ≡ l1 ++ A = p2 ∙ ap (λ k. l1 ++ chosen k) n1 in
    let n2 : length l2 ≡ F + length A = ap length e2 ∙ length-append l1 A ∙ ap (λ k. k + length A) n1 in
    let n3 : length l3 ≡ S = ap length p3 ∙ length-append l2 (X ∷ []) ∙ ap (λ k. k + 1) n2 in
    let e4 : l4 ≡ l3 ++ B = p4 ∙ ap (λ k. l3 ++ otherwise k) n3 in
    let n4 : length l4 ≡ N = ap length e4 ∙ length-append l3 B ∙ ap (λ k. k + length B) n3 in
    let w2 : l2 ≡ l0 ++ X ∷ A = e2 ∙ ap (λ l. l ++ A) p1 ∙ append_assoc l0 (X ∷ []) A in
    let w4 : l4 ≡ l0 ++ X ∷ (A ++ X ∷ B) = e4 ∙ ap (λ l. l ++ B) p3 ∙ append_assoc l2 (X ∷ []) B ∙ ap (λ l. l ++ X ∷ B) w2 ∙ append_assoc l0 (X ∷ A) (X ∷ B) in
    let w5 : l5 ≡ l0 ++ Y ∷ (A ++ X ∷ B) = p5 ∙ ap (λ l. slice_set l from Y) w4 ∙ ap (λ k. slice_set (l0 ++ X ∷ (A ++ X ∷ B)) k Y) f0 ∙ set-append_seam l0 X (A ++ X ∷ B) Y in
    let v5 : l5 ≡ (l0 ++ Y ∷ A) ++ X ∷ B = w5 ∙ sym (append_assoc l0 (Y ∷ A) (X ∷ B)) in
    let m1 : middle ≡ length (l0 ++ Y ∷ A) = m0 ∙ ap length w2 ∙ length-append l0 (X ∷ A) ∙ sym (length-append l0 (Y ∷ A)) in
    let h1 : first ≡ F = g1 ∙ ap (λ k. k + 1) f0 in
    let h2 : second ≡ S = g2 ∙ ap (λ k. k + 1) (m0 ∙ n2) in
    let h3 : end ≡ N = e0 ∙ n4 in
    pn ∙ ap (λ l. slice_set l middle Z) v5 ∙ ap (λ k. slice_set ((l0 ++ Y ∷ A) ++ X ∷ B) k Z) m1 ∙ set-append_seam (l0 ++ Y ∷ A) X B Z
    ∙ append_assoc l0 (Y ∷ A) (Z ∷ B)
    ∙ ap (λ k. l0 ++ line_of scope at (branch k second) ∷ (A ++ Z ∷ B)) h1
    ∙ ap (λ k. l0 ++ line_of scope at (branch F k) ∷ (A ++ Z ∷ B)) h2
    ∙ ap (λ k. l0 ++ line_of scope at (branch F S) ∷ (A ++ line_of scope at (branch k k) ∷ B)) h3

pub ruleset choices = (either_written)
