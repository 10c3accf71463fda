-- The first place at which a test passes: the column of a name, the member of a base.
use Rattle.std.proofs.Common.{◌≡◌, ◌≢◌, ◌⊎◌, inl, inr, ℕ, ◌<◌, ◌≤◌, ◌==◌, ◌&&◌, nat_lt, not, cond, Bool, true, false, List, [], length, get_or, Option, Some, None, MatchOption, slice_get, refl, sym, ◌∙◌, ap, subst, arith, true≢false, All}
use Rattle.std.specs.List.{AllPairs, Any, position, position_or_len}
use Rattle.std.specs.Str.{bytes_eq}
use Rattle.std.proofs.lemmas.Bool.{cases_lt}
use Rattle.std.proofs.lemmas.Bool.Decides.{Decides-eqb, Decides-ltb}
use Rattle.std.proofs.lemmas.List.Sums.{fails_before_first, passes_at_first, prefix_len-le-length}
use Rattle.std.proofs.lemmas.Option.{none-some, same_Some, slice_get_cases}
use Rattle.std.proofs.lemmas.Slice.Eq.{bytes_eq-Decides}
use Rattle.mdg_base.specs.declared.number.Column.{Column}
use Rattle.mdg_base.specs.declared.number.SharedId.{SharedId}
use Rattle.mdg_code.specs.declared.code.SharedRow.{SharedRow}
use Rattle.mdg_code.specs.Columns.{IsColumnOf, column_of}
use Rattle.mdg_code.specs.Laws.{IsOneColumnAName}
use Rattle.mdg_code.specs.Places.{HasAt}
use Rattle.mdg_code.specs.Sharing.{AreMembersDistinct, IsMember, IsSameMember, is_member, is_named, member_of}

-- there are at most as many as the list has
pub place_le : {X : Type 0} (p : X → Bool) (xs : List X) → position_or_len p xs ≤ length xs
place_le p xs = prefix_len-le-length (λ x. not (p x)) xs

found_by : (n m i : ℕ) (b : Bool) → nat_lt n m ≡ b → cond b (Some n) None ≡ Some i → (i ≡ n) × (n < m)
found_by n m i true less is = (sym (same_Some n i is), (Decides-ltb n m).0 less)
found_by n m i false less is = absurd (none-some i is)

missed_by : (n m : ℕ) (b : Bool) → nat_lt n m ≡ b → cond b (Some n) None ≡ None → m ≤ n
missed_by n m true less is = absurd (none-some n (sym is))
missed_by n m false less is = elim (cases_lt n m) [ inl before ↦ absurd (true≢false (sym ((Decides-ltb n m).1 before) ∙ less)) | inr past ↦ past ]

pub place_found : {X : Type 0} (p : X → Bool) (xs : List X) (i : ℕ) → position p xs ≡ Some i → (i ≡ position_or_len p xs) × (position_or_len p xs < length xs)
place_found p xs i is = found_by (position_or_len p xs) (length xs) i (nat_lt (position_or_len p xs) (length xs)) refl is

pub place_missed : {X : Type 0} (p : X → Bool) (xs : List X) → position p xs ≡ None → length xs ≤ position_or_len p xs
place_missed p xs is = missed_by (position_or_len p xs) (length xs) (nat_lt (position_or_len p xs) (length xs)) refl is

-- a name is among the columns at its column
named_at : (columns : List (List ℕ)) (name : List ℕ) (d : List ℕ) → column_of columns name < length columns → get_or columns (column_of columns name) d ≡ name
named_at columns name d within = sym ((bytes_eq-Decides name (get_or columns (column_of columns name) d)).0 (passes_at_first (bytes_eq name) columns d within))

-- and at no place before it
not_before : (columns : List (List ℕ)) (name : List ℕ) (k : ℕ) (d : List ℕ) → k < column_of columns name → get_or columns k d ≡ name → ⊥
not_before columns name k d before is = true≢false (sym ((bytes_eq-Decides name (get_or columns k d)).1 (sym is)) ∙ fails_before_first (bytes_eq name) columns k d before)

-- the column of a name is one that it may have
pub column_there : (columns : List (List ℕ)) (name : List ℕ) → IsColumnOf columns name (record { 0 = column_of columns name })
column_there columns name = elim (cases_lt (column_of columns name) (length columns)) [
  | inl within ↦ inl (within, λ d. named_at columns name d within)
  | inr past ↦ inr (last past, λ any. absent past any)
]
  where
    last : length columns ≤ column_of columns name → column_of columns name ≡ length columns
    last past = omega (arith, past, place_le (bytes_eq name) columns)

    absent : length columns ≤ column_of columns name → Any (λ text. name ≡ text) columns → ⊥
    absent past (k, x, within, found, is) = not_before columns name k x (omega (arith, past, within)) (found ∙ sym is)

one_column : (columns : List (List ℕ)) → AllPairs (λ a b. a ≢ b) columns → (name : List ℕ) (column : Column) → IsColumnOf columns name column → column.0 ≡ column_of columns name
one_column columns distinct name column (inl (within, at)) = elim (cases_lt column.0 (column_of columns name)) [
  | inl before ↦ absurd (not_before columns name column.0 [] before (at []))
  | inr from ↦ elim (cases_lt (column_of columns name) column.0) [ inl later ↦ absurd (twice later) | inr to ↦ omega (arith, from, to) ]
]
  where
    twice : column_of columns name < column.0 → ⊥
    twice later = distinct (column_of columns name) column.0 [] later within
        (named_at columns name [] (omega (arith, later, within)) ∙ sym (at []))
one_column columns distinct name column (inr (last, none)) = elim (cases_lt (column_of columns name) (length columns)) [
  | inl within ↦ absurd (none (column_of columns name, get_or columns (column_of columns name) [], within, there within, sym (named_at columns name [] within)))
  | inr past ↦ omega (arith, last, past, place_le (bytes_eq name) columns)
]
  where
    there : column_of columns name < length columns
        → get_or columns (column_of columns name) (get_or columns (column_of columns name) []) ≡ get_or columns (column_of columns name) []
    there within = named_at columns name (get_or columns (column_of columns name) []) within ∙ sym (named_at columns name [] within)

one_name : (columns : List (List ℕ)) (name other : List ℕ) (column : Column) → IsColumnOf columns name column → IsColumnOf columns other column
    → (name ≡ other) ⊎ (column.0 ≡ length columns)
one_name columns name other column (inl (within, at)) (inl (inside, is)) = inl (sym (at []) ∙ is [])
one_name columns name other column (inl (within, at)) (inr (last, none)) = inr last
one_name columns name other column (inr (last, none)) is = inr last

pub columns_of_names : (columns : List (List ℕ)) → AllPairs (λ a b. a ≢ b) columns → IsOneColumnAName columns
columns_of_names columns distinct = record { one_column = one_column columns distinct; one_name = one_name columns }

both : (a b : Bool) → (a && b) ≡ true → (a ≡ true) × (b ≡ true)
both true b is = (refl, is)
both false b is = absurd (true≢false (sym is))

numbered : ℕ → SharedId
numbered n = record { 0 = n }

named_only : (member : Option (List ℕ)) (name : List ℕ) → is_named member name ≡ true → member ≡ Some name
named_only None name is = absurd (true≢false (sym is))
named_only (Some text) name is = ap (λ (t : List ℕ). Some t) ((bytes_eq-Decides text name).0 is)

named_there : (member : Option (List ℕ)) (name : List ℕ) → member ≡ Some name → is_named member name ≡ true
named_there None name is = absurd (none-some name is)
named_there (Some text) name is = (bytes_eq-Decides text name).1 (same_Some text name is)

-- the test of a member passes at that member alone
member_only : (base : SharedId) (name : List ℕ) (row : SharedRow) → is_member base name row ≡ true → IsMember base name row
unfolding numbered
member_only base name row is = let two : ((row.base.0 == base.0) ≡ true) × (is_named row.member name ≡ true) = both (row.base.0 == base.0) (is_named row.member name) is in
    (ap numbered ((Decides-eqb row.base.0 base.0).0 two.0), named_only row.member name two.1)

member_passes : (base : SharedId) (name : List ℕ) (row : SharedRow) → IsMember base name row → is_member base name row ≡ true
member_passes base name row is =
    ap (λ (b : Bool). b && is_named row.member name) ((Decides-eqb row.base.0 base.0).1 (ap (λ (s : SharedId). s.0) is.0)) ∙ named_there row.member name is.1

pub member_found : (shared : List SharedRow) (base : SharedId) (name : List ℕ) (place : ℕ) → member_of shared base name ≡ Some place → HasAt (IsMember base name) shared place
member_found shared base name place is = (
  subst (λ (n : ℕ). n < length shared) (sym at.0) at.1,
  λ d. subst (λ (n : ℕ). IsMember base name (get_or shared n d)) (sym at.0)
      (member_only base name (get_or shared (position_or_len (is_member base name) shared) d) (passes_at_first (is_member base name) shared d at.1)),
)
  where
    at : (place ≡ position_or_len (is_member base name) shared) × (position_or_len (is_member base name) shared < length shared)
    at = place_found (is_member base name) shared place is

pub member_missed : (shared : List SharedRow) (base : SharedId) (name : List ℕ) → member_of shared base name ≡ None → All (λ row. ¬ IsMember base name row) shared
member_missed shared base name is k d within member =
    let past : length shared ≤ position_or_len (is_member base name) shared = place_missed (is_member base name) shared is in
    true≢false (sym (member_passes base name (get_or shared k d) member) ∙ fails_before_first (is_member base name) shared k d (omega (arith, past, within)))

same_member : (base : SharedId) (name : List ℕ) (row other : SharedRow) → IsMember base name row → IsMember base name other → IsSameMember row other
same_member base name row other one two = (
  ap (λ (s : SharedId). s.0) (one.0 ∙ sym two.0),
  subst (λ (m : Option (List ℕ)). MatchOption m ⊥ (λ member. other.member ≡ Some member)) (sym one.1) two.1,
)

not_twice : (shared : List SharedRow) → AreMembersDistinct shared → (base : SharedId) (name : List ℕ) (one other : ℕ)
    → HasAt (IsMember base name) shared one → HasAt (IsMember base name) shared other → one < other → ⊥
not_twice shared distinct base name one other here there before = elim (slice_get_cases shared one).1 [ inl row ↦ clash row | inr past ↦ absurd (omega (arith, here.0, past.0)) ]
  where
    clash : (row : SharedRow) × (one < length shared) × (slice_get shared one ≡ Some row) × (get_or shared one row ≡ row) → ⊥
    clash (row, within, has, is) = distinct one other row before there.0
        (same_member base name (get_or shared one row) (get_or shared other row) (here.1 row) (there.1 row))

pub members_of_bases : (shared : List SharedRow) → AreMembersDistinct shared → (base : SharedId) (name : List ℕ) (one other : ℕ)
    → HasAt (IsMember base name) shared one → HasAt (IsMember base name) shared other → one ≡ other
members_of_bases shared distinct base name one other here there = elim (cases_lt one other) [
  | inl before ↦ absurd (not_twice shared distinct base name one other here there before)
  | inr from ↦ elim (cases_lt other one) [ inl after ↦ absurd (not_twice shared distinct base name other one there here after) | inr to ↦ omega (arith, from, to) ]
]

-- what the search for a name tells
pub column_found : (columns xs : List (List ℕ)) (name : List ℕ) (place : ℕ) → xs ≡ columns → Some place ≡ position (bytes_eq name) xs → place ≡ column_of columns name
column_found columns xs name place same is = (place_found (bytes_eq name) columns place (sym (is ∙ ap (position (bytes_eq name)) same))).0

pub column_missed : (columns xs : List (List ℕ)) (name : List ℕ) → xs ≡ columns → None ≡ position (bytes_eq name) xs → length xs ≡ column_of columns name
column_missed columns xs name same is =
    let past : length columns ≤ column_of columns name = place_missed (bytes_eq name) columns (sym (is ∙ ap (position (bytes_eq name)) same)) in
    let all : length xs ≡ length columns = ap (λ (ys : List (List ℕ)). length ys) same in
    omega (arith, past, all, place_le (bytes_eq name) columns)

pub column_is : (columns : List (List ℕ)) (name : List ℕ) (n : ℕ) → n ≡ column_of columns name → IsColumnOf columns name (record { 0 = n })
column_is columns name n is = subst (λ (m : ℕ). IsColumnOf columns name (record { 0 = m })) (sym is) (column_there columns name)
