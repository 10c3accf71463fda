-- The lines of some bytes are what spells them.
use Rattle.std.proofs.Common.{◌≡◌, ℕ, ◌<◌, List, [], ◌∷◌, ◌++◌, length, cond, eqb, sym, ◌∙◌, ap, subst, refl, Bool, true, false, ◌||◌, arith}
use Rattle.std.proofs.lemmas.Bool.{eqb-true}
use Rattle.mdg_scan.specs.Lines.{AreLines, has_feed, last, lines_of, more, none, onto_first}

or_false : (a b : Bool) → (a || b) ≡ false → (a ≡ false) × (b ≡ false)
or_false true b is = cc
or_false false b is = (refl, is)

-- a byte that is no line feed goes onto the first line
lines_of-other : (b : ℕ) (bytes : List ℕ) → eqb b 10 ≡ false → lines_of (b ∷ bytes) ≡ onto_first b (lines_of bytes)
lines_of-other b bytes other = ap (λ t. cond t ([] ∷ lines_of bytes) (onto_first b (lines_of bytes))) other

lines_of-last : (line : List ℕ) → has_feed line ≡ false → 0 < length line → lines_of line ≡ line ∷ []
lines_of-last [] whole some = absurd (omega arith)
lines_of-last (b ∷ []) whole some = lines_of-other b [] ((or_false (eqb b 10) false whole).0)
lines_of-last (b ∷ c ∷ line) whole some =
    let parts = or_false (eqb b 10) (has_feed (c ∷ line)) whole in
    lines_of-other b (c ∷ line) parts.0 ∙ ap (onto_first b) (lines_of-last (c ∷ line) parts.1 (omega arith))

lines_of-more : (line rest : List ℕ) → has_feed line ≡ false → lines_of (line ++ 10 ∷ rest) ≡ line ∷ lines_of rest
lines_of-more [] rest whole = refl
lines_of-more (b ∷ line) rest whole =
    let parts = or_false (eqb b 10) (has_feed line) whole in
    lines_of-other b (line ++ 10 ∷ rest) parts.0 ∙ ap (onto_first b) (lines_of-more line rest parts.1)

pub lines_of-AreLines : {bytes : List ℕ} {lines : List (List ℕ)} → AreLines bytes lines → lines_of bytes ≡ lines
lines_of-AreLines none = refl
lines_of-AreLines (last line whole some) = lines_of-last line whole some
lines_of-AreLines (more line rest lines whole later) = lines_of-more line rest whole ∙ ap (λ ls. line ∷ ls) (lines_of-AreLines later)

-- one byte more, which is no line feed
AreLines-onto : (b : ℕ) {bytes : List ℕ} {lines : List (List ℕ)} → eqb b 10 ≡ false → AreLines bytes lines → AreLines (b ∷ bytes) (onto_first b lines)
AreLines-onto b other none = last (b ∷ []) (ap (λ t. t || false) other) (omega arith)
AreLines-onto b other (last line whole some) = last (b ∷ line) (ap (λ t. t || has_feed line) other ∙ whole) (omega arith)
AreLines-onto b other (more line rest lines whole later) = more (b ∷ line) rest lines (ap (λ t. t || has_feed line) other ∙ whole) later

AreLines-cons : (b : ℕ) (bytes : List ℕ) (lines : List (List ℕ)) → AreLines bytes lines → (feed : Bool) → eqb b 10 ≡ feed → AreLines (b ∷ bytes) (cond feed ([] ∷ lines) (onto_first b lines))
AreLines-cons b bytes lines are true is =
    subst (λ (n : ℕ). AreLines (n ∷ bytes) ([] ∷ lines)) (sym (eqb-true b 10 is)) (more [] bytes lines refl are)
AreLines-cons b bytes lines are false is = AreLines-onto b is are

AreLines-lines_of : (bytes : List ℕ) → AreLines bytes (lines_of bytes)
AreLines-lines_of [] = none
AreLines-lines_of (b ∷ bytes) = AreLines-cons b bytes (lines_of bytes) (AreLines-lines_of bytes) (eqb b 10) refl

pub AreLines-from : (bytes : List ℕ) (lines : List (List ℕ)) → lines_of bytes ≡ lines → AreLines bytes lines
AreLines-from bytes lines is = subst (AreLines bytes) is (AreLines-lines_of bytes)
