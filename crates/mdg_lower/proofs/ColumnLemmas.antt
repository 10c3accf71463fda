-- Columns, a draft at a time, and that no name stands in two.
use Rattle.std.proofs.Common.{◌≡◌, ℕ, Bool, true, false, List, [], ◌∷◌, ◌++◌, filter, refl, sym, ap, ◌∙◌, subst, append_assoc, append-nil, if◌then◌else◌}
use Rattle.std.proofs.lemmas.List.Elements.{filter-append}
use Rattle.mdg_scope.specs.Names.{has_name, add_name}
use Rattle.mdg_lower.specs.declared.draft.DraftLine.{DraftLine}
use Rattle.mdg_lower.specs.Columns.{is_listed, name_in, names_in, add_names, columns_in}

pub add_names_append : (names one other : List (List ℕ)) → add_names names (one ++ other) ≡ add_names (add_names names one) other
add_names_append names [] other = refl
add_names_append names (n ∷ ns) other = add_names_append (add_name names n) ns other

-- one more draft
pub add_line : (names : List (List ℕ)) (line : DraftLine) (lines : List DraftLine)
    → add_names names (filter is_listed (names_in (line ∷ lines))) ≡ add_names (add_names names (filter is_listed (name_in line.draft))) (filter is_listed (names_in lines))
add_line names line lines =
    ap (add_names names) (filter-append is_listed (name_in line.draft) (names_in lines))
    ∙ add_names_append names (filter is_listed (name_in line.draft)) (filter is_listed (names_in lines))

-- each name stands in none of the lists before it
abbrev Fresh : List (List ℕ) → List (List ℕ) → Type 0
Fresh before [] = Unit {0}
Fresh before (n ∷ ns) = (has_name before n ≡ false) × Fresh (before ++ n ∷ []) ns

fresh_all : (before names : List (List ℕ)) → Fresh before names → add_names before names ≡ before ++ names
fresh_all before [] f = sym (append-nil before)
fresh_all before (n ∷ ns) f =
    ap (λ b. add_names (if b then before else before ++ n ∷ []) ns) f.0
    ∙ fresh_all (before ++ n ∷ []) ns f.1
    ∙ append_assoc before (n ∷ []) ns

fresh_after : (before names : List (List ℕ)) (n : List ℕ) → Fresh before names → has_name (before ++ names) n ≡ false → Fresh before (names ++ n ∷ [])
fresh_after before [] n f e = (subst (λ l. has_name l n ≡ false) (append-nil before) e, tt)
fresh_after before (m ∷ ms) n f e =
    (f.0, fresh_after (before ++ m ∷ []) ms n f.1 (subst (λ l. has_name l n ≡ false) (sym (append_assoc before (m ∷ []) ms)) e))

fresh_added : (names : List (List ℕ)) (n : List ℕ) → Fresh [] names → Fresh [] (add_name names n)
fresh_added names n f = by (has_name names n) refl
  where
    by : (b : Bool) → has_name names n ≡ b → Fresh [] (if b then names else names ++ n ∷ [])
    by true e = f
    by false e = fresh_after [] names n f e

fresh_names : (names more : List (List ℕ)) → Fresh [] names → Fresh [] (add_names names more)
fresh_names names [] f = f
fresh_names names (n ∷ ns) f = fresh_names (add_name names n) ns (fresh_added names n f)

-- to add names once more that were added changes nothing
pub add_names_again : (names : List (List ℕ)) → add_names [] (add_names [] names) ≡ add_names [] names
add_names_again names = fresh_all [] (add_names [] names) (fresh_names [] names tt)

pub columns_again : (lines : List DraftLine) → add_names [] (columns_in lines) ≡ columns_in lines
unfolding columns_in
columns_again lines = add_names_again (filter is_listed (names_in lines))
