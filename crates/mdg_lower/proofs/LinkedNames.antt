-- Each property name that lines keep has its column, and no two columns are of one name.
use Rattle.std.proofs.Common.{◌≡◌, ◌≢◌, ℕ, ◌<◌, ◌≤◌, Bool, true, false, List, [], ◌∷◌, ◌++◌, length, get_or, filter, refl, sym, ◌∙◌, arith, true≢false, inl, inr, if◌then◌else◌, Option, Some, None, All}
use Rattle.std.specs.List.{Any, AllPairs, position_or_len}
use Rattle.std.specs.Str.{bytes_eq}
use Rattle.std.proofs.lemmas.Slice.Eq.{bytes_eq-Decides}
use Rattle.std.proofs.lemmas.List.Elements.{All-map}
use Rattle.std.proofs.lemmas.List.Folds.{list_any_at}
use Rattle.std.proofs.lemmas.List.Quantifiers.{all_pairs_push, position-Some}
use Rattle.std.proofs.lemmas.List.Sums.{fails_before_first}
use Rattle.std.proofs.lemmas.Grind.{common_steps}
use Rattle.mdg_scope.specs.Names.{has_name, add_name, place_of}
use Rattle.mdg_code.specs.declared.statement.Statement.{Statement}
use Rattle.mdg_code.specs.declared.statement.Statement.TheVariants as s
use Rattle.mdg_code.specs.declared.code.SharedRow.{SharedRow}
use Rattle.mdg_code.specs.Columns.{IsColumnOf, HasColumn}
use Rattle.mdg_code.specs.Kinds.{awaits_land, is_land, is_last}
use Rattle.mdg_profile.specs.declared.entry.Entry.{Entry}
use Rattle.mdg_lower.specs.declared.draft.Draft.{Draft}
use Rattle.mdg_lower.specs.declared.draft.Draft.TheVariants as d
use Rattle.mdg_lower.specs.declared.draft.DraftLine.{DraftLine}
use Rattle.mdg_lower.specs.Columns.{is_listed, names_in, add_names, columns_in, column_by, column_of}
use Rattle.mdg_lower.specs.SharedRows.{shared_in}
use Rattle.mdg_lower.specs.Link.{linked_statement, linked_line, linked}
use Rattle.mdg_lower.specs.WellFormed.{Counts, IsRanged, IsRangedDraft, awaits, lands, ends}

-- no two of the names are the same
abbrev AreDistinct : List (List ℕ) → Type 0
AreDistinct names = AllPairs (λ a b. a ≢ b) names

-- a name that is not among them is none of them
not_among : (names : List (List ℕ)) (name : List ℕ) (k : ℕ) (d : List ℕ) → has_name names name ≡ false → k < length names → get_or names k d ≢ name
not_among names name k d none within is =
    true≢false (sym (list_any_at (bytes_eq name) names k d within ((bytes_eq-Decides name (get_or names k d)).1 (sym is))) ∙ none)

-- one name more keeps them distinct
distinct_added : (names : List (List ℕ)) (name : List ℕ) → AreDistinct names → AreDistinct (add_name names name)
distinct_added names name apart = by (has_name names name) refl
  where
    by : (b : Bool) → has_name names name ≡ b → AreDistinct (if b then names else names ++ name ∷ [])
    by true e = apart
    by false e = all_pairs_push (λ a b. a ≢ b) names name apart (λ k d within. not_among names name k d e within)

-- and so do more names
distinct_names : (names more : List (List ℕ)) → AreDistinct names → AreDistinct (add_names names more)
distinct_names names [] apart = apart
distinct_names names (n ∷ ns) apart = distinct_names (add_name names n) ns (distinct_added names n apart)

-- No two columns have the same name.
pub columns_distinct : (lines : List DraftLine) → AllPairs (λ a b. a ≢ b) (columns_in lines)
unfolding columns_in
columns_distinct lines = distinct_names [] (filter is_listed (names_in lines)) (λ i j d before within. absurd (omega arith))

-- a name that has no place is not among them
no_place : (columns : List (List ℕ)) (name : List ℕ) → place_of columns name ≡ None → ¬ Any (λ text. name ≡ text) columns
no_place columns name none (k, x, within, found, is) =
    let past : length columns ≤ position_or_len (bytes_eq name) columns = grind (arith, common_steps) in
    let fails : bytes_eq name (get_or columns k x) ≡ false = fails_before_first (bytes_eq name) columns k x (omega arith) in
    true≢false (sym ((bytes_eq-Decides name (get_or columns k x)).1 (is ∙ sym found)) ∙ fails)

-- The column of a name is its place, or the number after the last where it has none.
column_there : (columns : List (List ℕ)) (name : List ℕ) → IsColumnOf columns name (record { 0 = column_of columns name })
column_there columns name = by (place_of columns name) refl
  where
    by : (place : Option ℕ) → place_of columns name ≡ place → IsColumnOf columns name (record { 0 = column_by columns place })
    by None e = inr (refl, no_place columns name e)
    by (Some i) e = inl ((position-Some (bytes_eq name) columns i [] e).0, λ d. sym ((bytes_eq-Decides name (get_or columns i d)).0 (position-Some (bytes_eq name) columns i d e).1))

-- a complete statement names no property
complete_named : (n : Counts) (columns : List (List ℕ)) (statement : Statement) → IsRanged n statement → HasColumn columns statement
complete_named n columns (s.Get into of name column) ranged = absurd ranged
complete_named n columns (s.Set of name column value) ranged = absurd ranged
complete_named n columns _ ranged = tt

-- each draft gets the column of its name
draft_named : (n : Counts) (columns : List (List ℕ)) (shared : List SharedRow) (draft : Draft) → IsRangedDraft n draft → HasColumn columns (linked_statement columns shared draft)
draft_named n columns shared (d.Complete statement) ranged = complete_named n columns statement ranged
draft_named n columns shared (d.Get into of name) ranged = column_there columns name
draft_named n columns shared (d.Set of name value) ranged = column_there columns name
draft_named n columns shared (d.Shared into home name) ranged = tt
draft_named n columns shared (d.Branch left right) ranged = tt

-- Each line with a property name has the column of this name.
pub lines_named : (n : Counts) (entries : List Entry) (lines : List DraftLine) → All (λ line. IsRangedDraft n line.draft) lines
    → All (λ line. HasColumn (columns_in lines) line.statement) (linked entries lines).lines
unfolding linked
lines_named n entries lines ranged =
    let columns = columns_in lines in
    let shared = shared_in entries lines in
    All-map (λ line. HasColumn columns line.statement) (linked_line columns shared) lines
    (λ k line within. draft_named n columns shared (get_or lines k line).draft (ranged k line within))

-- A draft that awaits a land becomes a statement that awaits one.
pub awaits_kept : (n : Counts) (columns : List (List ℕ)) (shared : List SharedRow) (draft : Draft) → IsRangedDraft n draft
    → awaits_land (linked_statement columns shared draft) ≡ awaits draft
awaits_kept n columns shared (d.Complete statement) ranged = refl
awaits_kept n columns shared (d.Get into of name) ranged = refl
awaits_kept n columns shared (d.Set of name value) ranged = refl
awaits_kept n columns shared (d.Shared into home name) ranged = refl
awaits_kept n columns shared (d.Branch left right) ranged = refl

-- A land stays one, and nothing else becomes one.
pub lands_kept : (n : Counts) (columns : List (List ℕ)) (shared : List SharedRow) (draft : Draft) → IsRangedDraft n draft
    → is_land (linked_statement columns shared draft) ≡ lands draft
lands_kept n columns shared (d.Complete statement) ranged = refl
lands_kept n columns shared (d.Get into of name) ranged = refl
lands_kept n columns shared (d.Set of name value) ranged = refl
lands_kept n columns shared (d.Shared into home name) ranged = refl
lands_kept n columns shared (d.Branch left right) ranged = refl

-- A draft that ends its function becomes a statement that does.
pub ends_kept : (n : Counts) (columns : List (List ℕ)) (shared : List SharedRow) (draft : Draft) → IsRangedDraft n draft
    → is_last (linked_statement columns shared draft) ≡ ends draft
ends_kept n columns shared (d.Complete statement) ranged = refl
ends_kept n columns shared (d.Get into of name) ranged = refl
ends_kept n columns shared (d.Set of name value) ranged = refl
ends_kept n columns shared (d.Shared into home name) ranged = refl
ends_kept n columns shared (d.Branch left right) ranged = refl
