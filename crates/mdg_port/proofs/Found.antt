-- How a look-up in a list of named values goes on at its first entry.
use Rattle.std.proofs.Common.{◌≡◌, ℕ, List, ◌∷◌, true, false, cond, sym, ◌∙◌, ap}
use Rattle.std.specs.Prelude.{nat_eq}
use Rattle.std.specs.declared.option.Option.TheVariants.{Some}
use Rattle.std.specs.Ordering.{nat_cmp}
use Rattle.std.specs.Cmp.Lexicographic.{slice_cmp, pointwise, texts_ties}
use Rattle.std.specs.FinMap.{find}

pub found_first : {X : Type 0} (path : List ℕ) (e : List ℕ × X) (rest all : List (List ℕ × X)) → all ≡ e ∷ rest → pointwise nat_eq path e.0 ≡ true → Some e.1 ≡ find (slice_cmp nat_cmp) path all
found_first path e rest all is same =
    sym (ap (find (slice_cmp nat_cmp) path) is ∙ ap (λ b. cond b (Some e.1) (find (slice_cmp nat_cmp) path rest)) (sym (texts_ties path e.0) ∙ same))

pub find_later : {X : Type 0} (path : List ℕ) (e : List ℕ × X) (rest all : List (List ℕ × X)) → all ≡ e ∷ rest → pointwise nat_eq path e.0 ≡ false → find (slice_cmp nat_cmp) path all ≡ find (slice_cmp nat_cmp) path rest
find_later path e rest all is other =
    ap (find (slice_cmp nat_cmp) path) is ∙ ap (λ b. cond b (Some e.1) (find (slice_cmp nat_cmp) path rest)) (sym (texts_ties path e.0) ∙ other)
