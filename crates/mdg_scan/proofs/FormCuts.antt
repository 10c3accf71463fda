-- A list is cut in one way where a test first fails.
use Rattle.std.proofs.Common.{◌≡◌, ℕ, Bool, true, List, [], ◌∷◌, ◌++◌, ap, refl}
use Rattle.mdg_scan.specs.FormLines.{EachIs, Stops}

pub cut_once : (p : ℕ → Bool) (a b x y : List ℕ) → EachIs p a → EachIs p b → Stops p x → Stops p y → a ++ x ≡ b ++ y → (a ≡ b) × (x ≡ y)
cut_once p [] [] x y pa pb sx sy is = (refl, is)
cut_once p [] (c ∷ b) [] y pa pb sx sy is = cc
cut_once p [] (c ∷ b) (d ∷ x) y pa pb sx sy is =
    let same : d ≡ c = cc in
    let both : p d ≡ p c = ap p same in
    cc (pb.0)
cut_once p (c ∷ a) [] x [] pa pb sx sy is = cc
cut_once p (c ∷ a) [] x (d ∷ y) pa pb sx sy is =
    let same : d ≡ c = cc in
    let both : p d ≡ p c = ap p same in
    cc (pa.0)
cut_once p (c ∷ a) (d ∷ b) x y pa pb sx sy is =
    let same : c ≡ d = cc in
    let rest : a ++ x ≡ b ++ y = cc in
    let later = cut_once p a b x y pa.1 pb.1 sx sy rest in
    let first : a ≡ b = later.0 in
    (cc, later.1)

-- one more byte passes
pub EachIs-push : (p : ℕ → Bool) (a : List ℕ) (c : ℕ) → EachIs p a → p c ≡ true → EachIs p (a ++ c ∷ [])
EachIs-push p [] c pa pc = (pc, tt)
EachIs-push p (d ∷ a) c pa pc = (pa.0, EachIs-push p a c pa.1 pc)
