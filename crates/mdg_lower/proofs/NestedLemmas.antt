-- Lists that grow at their ends.
use Rattle.std.proofs.Common.{◌≡◌, ℕ, zero, suc, ◌+◌, ◌<◌, ◌≤◌, List, [], ◌∷◌, ◌++◌, length, map, get_or, take, refl, sym, ap, ◌∙◌, append_assoc, append-nil, arith}
use Rattle.std.proofs.lemmas.List.{map_push}
use Rattle.std.specs.List.{flat_map}
use Rattle.std.specs.Borrow.{Bor}
use Rattle.mdg_tree.specs.declared.tree.Function.{Function}
use Rattle.mdg_tree.specs.declared.tree.Stmt.{Stmt}
use Rattle.mdg_lower.specs.Offsets.{add_offset, add_offsets}
use Rattle.mdg_lower.specs.Nested.{Listed, GrewBy}

pub grows_by_nothing : (x : Listed) → GrewBy [] x x
unfolding GrewBy
grows_by_nothing x = sym (append-nil x)

pub grows_then : (a b x y z : Listed) → GrewBy a x y → GrewBy b y z → GrewBy (a ++ b) x z
unfolding GrewBy
grows_then a b x y z p q = q ∙ ap (λ t. t ++ b) p ∙ append_assoc x a b

pub grows_by_four : (a b c d v w x y z : Listed) → GrewBy a v w → GrewBy b w x → GrewBy c x y → GrewBy d y z → GrewBy (a ++ b ++ c ++ d) v z
grows_by_four a b c d v w x y z p q r s = grows_then (a ++ b ++ c) d v y z (grows_then (a ++ b) c v x y (grows_then a b v w x p q) r) s

-- a function and what stands in it
pub grows_by_function : (f : Bor Function) (rest : Listed) (old : List (Bor Function)) (z : Listed) → GrewBy rest (map (λ f. f.now) (old ++ f ∷ [])) z → GrewBy (f.now ∷ rest) (map (λ f. f.now) old) z
unfolding GrewBy
grows_by_function f rest old z p = p ∙ ap (λ t. t ++ rest) (map_push (λ (f : Bor Function). f.now) old f) ∙ append_assoc (map (λ f. f.now) old) (f.now ∷ []) rest

pub ruleset functions = (grows_by_function)

pub ruleset growth = (grows_by_nothing, grows_then)

pub next_piece : {A B : Type 0} (f : A → List B) (xs : List A) (i : ℕ) (d : A) → i < length xs → flat_map f (take (i + 1) xs) ≡ flat_map f (take i xs) ++ f (get_or xs i d)
next_piece f [] i d h = absurd (omega arith)
next_piece f (x ∷ xs) zero d h = append-nil (f x)
next_piece f (x ∷ xs) (suc i) d h = let n : suc i + 1 ≡ suc (i + 1) = omega arith in ap (λ k. flat_map f (take k (x ∷ xs))) n ∙ ap (λ rest. f x ++ rest) (next_piece f xs i d (omega arith)) ∙ sym (append_assoc (f x) (flat_map f (take i xs)) (f (get_or xs i d)))

pub all_pieces : {A B : Type 0} (f : A → List B) (xs : List A) (i : ℕ) → length xs ≤ i → flat_map f (take i xs) ≡ flat_map f xs
all_pieces f [] zero h = refl
all_pieces f [] (suc i) h = refl
all_pieces f (x ∷ xs) zero h = absurd (omega arith)
all_pieces f (x ∷ xs) (suc i) h = ap (λ rest. f x ++ rest) (all_pieces f xs i (omega arith))

pub grows_next : {A : Type 0} (f : A → Listed) (xs : List A) (i : ℕ) (d : A) (x y z : Listed) → i < length xs → GrewBy (flat_map f (take i xs)) x y → GrewBy (f (get_or xs i d)) y z → GrewBy (flat_map f (take (i + 1) xs)) x z
grows_next f xs i d x y z h p q = rw (next_piece f xs i d h) (grows_then (flat_map f (take i xs)) (f (get_or xs i d)) x y z p q)

pub ruleset steps = (grows_by_nothing, grows_next, all_pieces)

pub adds_then : (offsets more rest : List ℕ) → add_offsets offsets (more ++ rest) ≡ add_offsets (add_offsets offsets more) rest
adds_then offsets [] rest = refl
adds_then offsets (one ∷ more) rest = adds_then (add_offset offsets one) more rest

pub ruleset additions = (adds_then)

pub adds_next : (f : Stmt → List ℕ) (xs : List Stmt) (i : ℕ) (d : Stmt) (offsets : List ℕ) → i < length xs → add_offsets offsets (flat_map f (take (i + 1) xs)) ≡ add_offsets (add_offsets offsets (flat_map f (take i xs))) (f (get_or xs i d))
adds_next f xs i d offsets h = ap (add_offsets offsets) (next_piece f xs i d h) ∙ adds_then offsets (flat_map f (take i xs)) (f (get_or xs i d))

pub ruleset additions_in_steps = (adds_next, all_pieces)
