-- The rows of shared things: their bases, their members, and that each number names one.
use Rattle.std.proofs.Common.{◌≡◌, ℕ, zero, suc, ◌+◌, ◌<◌, ◌≤◌, Bool, true, false, List, [], ◌∷◌, ◌++◌, length, get_or, filter, refl, sym, ◌∙◌, subst, arith, true≢false, if◌then◌else◌, length-append}
use Rattle.std.specs.Prelude.{All, Option, Some, None, is_some, MatchOption}
use Rattle.std.specs.List.{AllPairs, list_any, position}
use Rattle.std.specs.Str.{bytes_eq}
use Rattle.std.proofs.lemmas.Bool.{and_parts}
use Rattle.std.proofs.lemmas.Slice.Eq.{bytes_eq-Decides}
use Rattle.std.proofs.lemmas.List.Elements.{All-append, All-cons, All-map, filter_passes}
use Rattle.std.proofs.lemmas.List.Kept.{AllPairs-cons, AllPairs-filter}
use Rattle.std.proofs.lemmas.List.Quantifiers.{position-Some}
use Rattle.mdg_base.specs.declared.profile_word.Home.{Home}
use Rattle.mdg_base.specs.declared.profile_word.Home.TheVariants as home
use Rattle.mdg_profile.specs.declared.entry.Entry.{Entry}
use Rattle.mdg_code.specs.declared.code.SharedRow.{SharedRow}
use Rattle.mdg_code.specs.declared.statement.Statement.{Statement}
use Rattle.mdg_code.specs.declared.statement.Statement.TheVariants as s
use Rattle.mdg_code.specs.Sharing.{AreBasesInRange, NamesItself, DoBasesNameThemselves, IsSameMember, AreMembersDistinct}
use Rattle.mdg_lower.specs.declared.draft.Draft.{Draft}
use Rattle.mdg_lower.specs.declared.draft.Draft.TheVariants as d
use Rattle.mdg_lower.specs.declared.draft.DraftLine.{DraftLine}
use Rattle.mdg_lower.specs.declared.shared.names.SharedName.{SharedName}
use Rattle.mdg_lower.specs.Columns.{columns_in}
use Rattle.mdg_profile.specs.Distinct.{AreDistinct, SameName}
use Rattle.mdg_lower.specs.SharedRows.{is_home, is_same, add_shared_name, add_shared_names, shared_name_in, shared_names_of, shared_names_in, is_about, is_member_of, base_row, member_row, member_rows, base_rows, rows_of, shared_in, is_row_of, number_by, shared_number}
use Rattle.mdg_lower.specs.Link.{linked_statement}
use Rattle.mdg_lower.specs.WellFormed.{Counts, IsRanged, IsRangedDraft}
use Rattle.mdg_lower.proofs.LinkedLists.{EachFrom, each_more, each_joined, pairs_joined, pairs_mapped}

-- the number after the rows of a base that has this number
abbrev next_number : List Entry → ℕ → SharedName → ℕ
next_number entries number base = number + length (base_rows entries number base)

-- the row is that of a member of the base with this number
abbrev IsMemberAt : ℕ → SharedRow → Type 0
IsMemberAt number row = (row.base.0 ≡ number) × (is_some row.member ≡ true)

members_at : (number : ℕ) (base : SharedName) (entries : List Entry) → All (IsMemberAt number) (member_rows number base entries)
members_at number base entries =
    All-map (IsMemberAt number) (member_row number) (filter (is_member_of base) entries)
    (λ k entry within. (refl, (and_parts _ _ (filter_passes (is_member_of base) entries k entry within)).0))

-- the rows of a base and its members have its number
rows_at : (entries : List Entry) (number : ℕ) (base : SharedName) → All (λ row. row.base.0 ≡ number) (base_rows entries number base)
rows_at entries number base =
    All-cons (λ row. row.base.0 ≡ number) (base_row entries number base) (member_rows number base entries) refl
    (λ k row within. (members_at number base entries k row within).0)

-- no base has a number after the last row
bases_below : (entries : List Entry) (number : ℕ) (bases : List SharedName) (end : ℕ) → number + length (rows_of entries number bases) ≤ end
    → All (λ row. row.base.0 < end) (rows_of entries number bases)
bases_below entries number [] end fits = λ k row within. absurd (omega arith)
bases_below entries number (base ∷ bases) end fits =
    let here = base_rows entries number base in
    let rest = rows_of entries (number + length here) bases in
    let long : length (here ++ rest) ≡ length here + length rest = length-append here rest in
    All-append (λ row. row.base.0 < end) here rest
    (λ k row within. let e : (get_or here k row).base.0 ≡ number = rows_at entries number base k row within in omega arith)
    (bases_below entries (number + length here) bases end (omega arith))

-- Each row has a row as its base.
pub bases_in_range : (entries : List Entry) (lines : List DraftLine) → AreBasesInRange (shared_in entries lines)
unfolding shared_in
bases_in_range entries lines = bases_below entries 0 (shared_names_in lines) (length (rows_of entries 0 (shared_names_in lines))) (omega arith)

-- no base has a number before the first row
bases_above : (entries : List Entry) (number : ℕ) (bases : List SharedName) (start : ℕ) → start ≤ number
    → All (λ row. start ≤ row.base.0) (rows_of entries number bases)
bases_above entries number [] start fits = λ k row within. absurd (omega arith)
bases_above entries number (base ∷ bases) start fits =
    let here = base_rows entries number base in
    All-append (λ row. start ≤ row.base.0) here (rows_of entries (number + length here) bases)
    (λ k row within. let e : (get_or here k row).base.0 ≡ number = rows_at entries number base k row within in omega arith)
    (bases_above entries (number + length here) bases start (omega arith))

-- a member's row doesn't name itself
member_names : (number index : ℕ) (row : SharedRow) → number < index → IsMemberAt number row → NamesItself index row
member_names number index row later member =
    let base : row.base.0 ≡ number = member.0 in
    (λ itself. absurd (omega arith), λ none. absurd (true≢false (sym member.1 ∙ none)))

-- of the rows of a base the first alone names itself
rows_named : (entries : List Entry) (number : ℕ) (base : SharedName) → EachFrom number NamesItself (base_rows entries number base)
rows_named entries number base =
    each_more number NamesItself (base_row entries number base) (member_rows number base entries) (λ itself. refl, λ none. refl)
    (λ i row within. member_names number (number + 1 + i) (get_or (member_rows number base entries) i row) (omega arith) (members_at number base entries i row within))

all_named : (entries : List Entry) (number : ℕ) (bases : List SharedName) → EachFrom number NamesItself (rows_of entries number bases)
all_named entries number [] = λ i row within. absurd (omega arith)
all_named entries number (base ∷ bases) =
    each_joined number NamesItself (base_rows entries number base) (rows_of entries (next_number entries number base) bases)
    (rows_named entries number base) (all_named entries (next_number entries number base) bases)

-- A row names itself as its base exactly where it has no member.
pub bases_themselves : (entries : List Entry) (lines : List DraftLine) → DoBasesNameThemselves (shared_in entries lines)
unfolding shared_in
bases_themselves entries lines i row within =
    let e : 0 + i ≡ i = omega arith in
    subst (λ k. NamesItself k (get_or (rows_of entries 0 (shared_names_in lines)) i row)) e (all_named entries 0 (shared_names_in lines) i row within)

-- two homes that pass the test are the same
same_home : (one other : Home) → is_home one other ≡ true → one ≡ other
same_home home.Global home.Global e = refl
same_home home.Global home.Module e = absurd (true≢false (sym e))
same_home home.Module home.Global e = absurd (true≢false (sym e))
same_home home.Module home.Module e = refl

same_member : {X : Type 0} (one other : Option X) → MatchOption one ⊥ (λ member. other ≡ Some member) → one ≡ other
same_member None other is = absurd is
same_member (Some member) other is = sym is

-- an entry of a member has the home and the name of its base
member_about : (base : SharedName) (entry : Entry) → is_member_of base entry ≡ true → (base.home ≡ entry.home) × (base.name ≡ entry.name)
member_about base entry is =
    let about : is_about base entry ≡ true = (and_parts (is_some entry.member) (is_about base entry) is).1 in
    let parts = and_parts (is_home base.home entry.home) (bytes_eq base.name entry.name) about in
    (same_home base.home entry.home parts.0, (bytes_eq-Decides base.name entry.name).0 parts.1)

-- entries whose rows have the same base and member say what the same name does
same_entry : (number : ℕ) (base : SharedName) (one other : Entry) → is_member_of base one ≡ true → is_member_of base other ≡ true
    → IsSameMember (member_row number one) (member_row number other) → SameName one other
same_entry number base one other first second same =
    let p = member_about base one first in
    let q = member_about base other second in
    record { home = sym p.0 ∙ q.0; name = sym p.1 ∙ q.1; member = same_member one.member other.member same.1 }

-- the members of one base are distinct
members_apart : (number : ℕ) (base : SharedName) (entries : List Entry) → AreDistinct entries
    → AreMembersDistinct (member_rows number base entries)
members_apart number base entries distinct =
    let listed = filter (is_member_of base) entries in
    let passed = filter_passes (is_member_of base) entries in
    pairs_mapped (λ row other. ¬ IsSameMember row other) (member_row number) listed
    (λ i j d lt within same.
    AllPairs-filter (λ one other. ¬ SameName one other) (is_member_of base) entries distinct i j d lt within
    (same_entry number base (get_or listed i d) (get_or listed j d) (passed i d (omega arith)) (passed j d within) same))

rows_apart : (entries : List Entry) (number : ℕ) (bases : List SharedName) → AreDistinct entries
    → AreMembersDistinct (rows_of entries number bases)
rows_apart entries number [] distinct = λ i j d lt within. absurd (omega arith)
rows_apart entries number (base ∷ bases) distinct =
    let here = base_rows entries number base in
    let next = next_number entries number base in
    let rest = rows_of entries next bases in
    pairs_joined (λ row other. ¬ IsSameMember row other) here rest
    (AllPairs-cons (λ row other. ¬ IsSameMember row other) (base_row entries number base) (member_rows number base entries)
    (λ k row within same. same.1) (members_apart number base entries distinct))
    (rows_apart entries next bases distinct)
    (λ k row within j other inside same.
    let p : (get_or here k row).base.0 ≡ number = rows_at entries number base k row within in
    let q : next ≤ (get_or rest j other).base.0 = bases_above entries next bases next (omega arith) j other inside in
    let e : (get_or here k row).base.0 ≡ (get_or rest j other).base.0 = same.0 in
    absurd (omega arith))

-- No two rows with a member have the same base and member, where no two entries say what the same name does.
pub members_distinct : (entries : List Entry) (lines : List DraftLine) → AreDistinct entries
    → AreMembersDistinct (shared_in entries lines)
unfolding shared_in
members_distinct entries lines distinct = rows_apart entries 0 (shared_names_in lines) distinct

-- the statement names one of so many shared things, if any
abbrev pub IsSharedThere : ℕ → Statement → Type 0
IsSharedThere count (s.Shared into shared) = shared.0 < count
IsSharedThere count _ = Unit {0}

-- bases that are added take none away
bases_grow : (bases more : List SharedName) → length bases ≤ length (add_shared_names bases more)
bases_grow bases [] = omega arith
bases_grow bases (one ∷ more) =
    let step : length bases ≤ length (add_shared_name bases one) = by (list_any (is_same one) bases) in
    omega (arith, bases_grow (add_shared_name bases one) more)
  where
    by : (b : Bool) → length bases ≤ length (if b then bases else bases ++ one ∷ [])
    by true = omega arith
    by false = omega (arith, length-append bases (one ∷ []))

-- where bases are named there are some
bases_some : (named : List SharedName) → 0 < length named → 0 < length (add_shared_names [] named)
bases_some [] some = some
bases_some (one ∷ more) some = omega (arith, bases_grow (one ∷ []) more)

-- where there are bases there are rows
rows_some : (entries : List Entry) (number : ℕ) (bases : List SharedName) → 0 < length bases → 0 < length (rows_of entries number bases)
rows_some entries number [] some = some
rows_some entries number (base ∷ bases) some = omega arith

-- the base of a draft is among those that are named
draft_names : (lines : List DraftLine) (k : ℕ) (line : DraftLine) → k < length lines → length (shared_name_in (get_or lines k line).draft) ≤ length (shared_names_of lines)
draft_names [] k line within = absurd (omega arith)
draft_names (first ∷ lines) zero line within = omega (arith, length-append (shared_name_in first.draft) (shared_names_of lines))
draft_names (first ∷ lines) (suc k) line within =
    let rest : length (shared_name_in (get_or lines k line).draft) ≤ length (shared_names_of lines) = draft_names lines k line (omega arith) in
    omega (arith, length-append (shared_name_in first.draft) (shared_names_of lines))

-- where a draft names a base there are rows
shared_some : (entries : List Entry) (lines : List DraftLine) → 0 < length (shared_names_of lines) → 0 < length (shared_in entries lines)
unfolding shared_in shared_names_in
shared_some entries lines some = rows_some entries 0 (shared_names_in lines) (bases_some (shared_names_of lines) some)

-- the number of a base is that of a row, where there are rows
number_there : (rows : List SharedRow) (home : Home) (name : List ℕ) → 0 < length rows → shared_number rows home name < length rows
number_there [] home name some = some
number_there (row ∷ rows) home name some = by (position (is_row_of home name) (row ∷ rows)) refl
  where
    by : (place : Option ℕ) → position (is_row_of home name) (row ∷ rows) ≡ place → number_by place < length (row ∷ rows)
    by None e = some
    by (Some i) e = (position-Some (is_row_of home name) (row ∷ rows) i row e).0

-- a complete statement names no shared thing
complete_there : (n : Counts) (count : ℕ) (statement : Statement) → IsRanged n statement → IsSharedThere count statement
complete_there n count (s.Shared into shared) ranged = absurd ranged
complete_there n count _ ranged = tt

-- a draft gets a number of a row, where the base that it names is among them
draft_there : (n : Counts) (columns : List (List ℕ)) (rows : List SharedRow) (draft : Draft) → IsRangedDraft n draft → (0 < length (shared_name_in draft) → 0 < length rows)
    → IsSharedThere (length rows) (linked_statement columns rows draft)
draft_there n columns rows (d.Complete statement) ranged some = complete_there n (length rows) statement ranged
draft_there n columns rows (d.Get into of name) ranged some = tt
draft_there n columns rows (d.Set of name value) ranged some = tt
draft_there n columns rows (d.Shared into home name) ranged some = number_there rows home name (some (omega arith))
draft_there n columns rows (d.Branch left right) ranged some = tt

-- Each statement that names a shared thing names one that has a row.
pub shared_there : (n : Counts) (entries : List Entry) (lines : List DraftLine) → All (λ line. IsRangedDraft n line.draft) lines
    → All (λ line. IsSharedThere (length (shared_in entries lines)) (linked_statement (columns_in lines) (shared_in entries lines) line.draft)) lines
shared_there n entries lines ranged k line within =
    draft_there n (columns_in lines) (shared_in entries lines) (get_or lines k line).draft (ranged k line within)
    (λ named. let among : length (shared_name_in (get_or lines k line).draft) ≤ length (shared_names_of lines) = draft_names lines k line within in
    shared_some entries lines (omega arith))
