-- Where the first line of some bytes ends.
use Rattle.std.proofs.Common.{◌≡◌, ◌≢◌, ℕ, suc, zero, ◌+◌, ◌<◌, List, [], ◌∷◌, true, false, cond, eqb, refl, length, get_or, take, drop, arith, ap, ◌∙◌, eq-eqb, add-one}
use Rattle.std.proofs.lemmas.Bool.{ne_eqb}
use Rattle.mdg_scan.specs.Lines.{lines_of, onto_first}

cut_at : (bytes : List ℕ) (at : ℕ) → ((k : ℕ) → k < at → get_or bytes k 0 ≢ 10) → at < length bytes → get_or bytes at 0 ≡ 10 → lines_of bytes ≡ take at bytes ∷ lines_of (drop (suc at) bytes)
cut_at [] at none inside is = absurd (omega arith)
cut_at (b ∷ bytes) zero none inside is = ap (λ t. cond t ([] ∷ lines_of bytes) (onto_first b (lines_of bytes))) (eq-eqb b 10 is)
cut_at (b ∷ bytes) (suc at) none inside is =
    let later : lines_of bytes ≡ take at bytes ∷ lines_of (drop (suc at) bytes) =
    cut_at bytes at (λ k h. none (suc k) (omega arith)) (omega arith) is in
    ap (λ t. cond t ([] ∷ lines_of bytes) (onto_first b (lines_of bytes))) (ne_eqb b 10 (none 0 (omega arith))) ∙ ap (onto_first b) later

-- the first line feed ends the first line
pub first_line_cut : (bytes : List ℕ) (at : ℕ) → ((k : ℕ) → k < at → get_or bytes k 0 ≢ 10) → at < length bytes → get_or bytes at 0 ≡ 10 → lines_of bytes ≡ take at bytes ∷ lines_of (drop (at + 1) bytes)
first_line_cut bytes at none inside is = rw add-one (cut_at bytes at none inside is)

-- bytes with no line feed are one line
pub first_line_all : (bytes : List ℕ) → ((k : ℕ) → k < length bytes → get_or bytes k 0 ≢ 10) → 0 < length bytes → lines_of bytes ≡ bytes ∷ []
first_line_all [] none some = absurd (omega arith)
first_line_all (b ∷ []) none some = ap (λ t. cond t ([] ∷ []) ((b ∷ []) ∷ [])) (ne_eqb b 10 (none 0 (omega arith)))
first_line_all (b ∷ c ∷ bytes) none some =
    let later : lines_of (c ∷ bytes) ≡ (c ∷ bytes) ∷ [] = first_line_all (c ∷ bytes) (λ k h. none (suc k) (omega arith)) (omega arith) in
    ap (λ t. cond t ([] ∷ lines_of (c ∷ bytes)) (onto_first b (lines_of (c ∷ bytes)))) (ne_eqb b 10 (none 0 (omega arith))) ∙ ap (onto_first b) later

-- some byte is some line
pub some_line : (bytes : List ℕ) → eqb (length bytes) 0 ≡ false → (line : List ℕ) × (lines : List (List ℕ)) × (lines_of bytes ≡ line ∷ lines)
some_line [] some = cc
some_line (b ∷ bytes) some =
    elim (eqb b 10) as (λ t. (line : List ℕ) × (lines : List (List ℕ)) × (cond t ([] ∷ lines_of bytes) (onto_first b (lines_of bytes)) ≡ line ∷ lines)) [
      | true ↦ ([], lines_of bytes, refl)
      | false ↦ onto_some b (lines_of bytes)
    ]
  where
    onto_some : (b : ℕ) (lines : List (List ℕ)) → (line : List ℕ) × (more : List (List ℕ)) × (onto_first b lines ≡ line ∷ more)
    onto_some b [] = (b ∷ [], [], refl)
    onto_some b (l ∷ ls) = (b ∷ l, ls, refl)
