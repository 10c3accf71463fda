-- Bytes have at most one answer.
use Rattle.std.proofs.Common.{ℕ, ◌≡◌, ◌<◌, ◌≤◌, ◌⊎◌, List, [], ◌∷◌, length, Some, refl, sym, ◌∙◌, ap, inl, inr, arith, Result, Ok, Err}
use Rattle.std.specs.List.{AllZip}
use Rattle.std.proofs.lemmas.Bool.{cases_lt}
use Rattle.std.proofs.lemmas.Option.{slice_get_within}
use Rattle.mdg_profile.specs.declared.entry.Entry.{Entry}
use Rattle.mdg_profile.specs.declared.entry.Profile.{Profile}
use Rattle.mdg_profile.specs.declared.refusal.ProfileRefusal.{ProfileRefusal}
use Rattle.mdg_profile.specs.declared.refusal.ProfileRefusal.TheVariants.{NotJson, NotProfile, BadMember, RepeatedName, NoMemory}
use Rattle.mdg_profile.specs.Entries.{IsEntry}
use Rattle.mdg_profile.specs.Format.{IsJson, IsListing, Lists, BreaksAt, RepeatsAt, IsFirst, HasOneAnswer, HasCause, Answers}
use Rattle.mdg_profile.proofs.Unique.{one_entry, one_value, one_list}
use Rattle.serde_json.specs.Data.{Data}

abbrev Wrong : List Data → ℕ → Type 0
Wrong items i = BreaksAt items i ⊎ RepeatsAt items i

within : (items : List Data) (i : ℕ) → Wrong items i → i < length items
within items i (inl breaks) = slice_get_within items i breaks.value breaks.at
within items i (inr repeats) = let here = repeats.here in slice_get_within items i here.value here.at

-- the first wrong index
one_index : (items : List Data) (i j : ℕ) → Wrong items i → Wrong items j → IsFirst items i → IsFirst items j → i ≡ j
one_index items i j at_i at_j before_i before_j = cases (cases_lt i j) (cases_lt j i)
  where
    cases : (i < j) ⊎ (j ≤ i) → (j < i) ⊎ (i ≤ j) → i ≡ j
    cases (inl less) other = absurd (before_j i less at_i)
    cases (inr most) (inl more) = absurd (before_i j more at_j)
    cases (inr most) (inr least) = omega arith

not_both : (items : List Data) (i : ℕ) → BreaksAt items i → RepeatsAt items i → ⊥
not_both items i breaks repeats =
    let here = repeats.here in
    let values : Some here.value ≡ Some breaks.value = sym here.at ∙ breaks.at in
    let same : here.value ≡ breaks.value = cc in
    breaks.broken repeats.entry (rw same at here.form)

same_entries : (items : List Data) (one other : List Entry) → AllZip IsEntry items one → AllZip IsEntry items other → one ≡ other
same_entries [] [] [] a b = refl
same_entries [] [] (f ∷ fs) a b = absurd b
same_entries [] (e ∷ es) other a b = absurd a
same_entries (d ∷ ds) [] other a b = absurd a
same_entries (d ∷ ds) (e ∷ es) [] a b = absurd b
same_entries (d ∷ ds) (e ∷ es) (f ∷ fs) a b =
    let head : e ≡ f = one_entry d e f a.0 b.0 in
    let tail : es ≡ fs = same_entries ds es fs a.1 b.1 in
    cc

-- an index that is wrong, where all values are entries of new names
ok_wrong : (bytes : List ℕ) (xs ys : List Data) (j : ℕ) → Lists bytes xs → Lists bytes ys → IsFirst xs (length xs) → Wrong ys j → ⊥
ok_wrong bytes xs ys j a b first wrong =
    let same : ys ≡ xs = one_list bytes ys xs b a in
    let here : Wrong xs j = rw same at wrong in
    first j (within xs j here) here

two_wrong : (bytes : List ℕ) (xs ys : List Data) (i j : ℕ) → Lists bytes xs → Lists bytes ys → Wrong xs i → Wrong ys j → IsFirst xs i → IsFirst ys j → i ≡ j
two_wrong bytes xs ys i j a b at_i at_j before_i before_j =
    let same : ys ≡ xs = one_list bytes ys xs b a in
    one_index xs i j at_i (rw same at at_j) before_i (rw same at before_j)

bad_repeated : (bytes : List ℕ) (xs ys : List Data) (i j : ℕ) → Lists bytes xs → Lists bytes ys → BreaksAt xs i → RepeatsAt ys j → IsFirst xs i → IsFirst ys j → ⊥
bad_repeated bytes xs ys i j a b breaks repeats before_i before_j =
    let same : ys ≡ xs = one_list bytes ys xs b a in
    let index : j ≡ i = two_wrong bytes ys xs j i b a (inr repeats) (inl breaks) before_j before_i in
    let there : RepeatsAt xs j = rw same at repeats in
    not_both xs i breaks (rw index at there)

listed_is_json : (bytes : List ℕ) (items : List Data) → Lists bytes items → ((value : Data) → IsJson bytes value → ⊥) → ⊥
listed_is_json bytes items lists none = none lists.value lists.json

listed_is_listing : (bytes : List ℕ) (items : List Data) (value : Data) → Lists bytes items → IsJson bytes value → ((xs : List Data) → IsListing value xs → ⊥) → ⊥
listed_is_listing bytes items value lists json none =
    let same : lists.value ≡ value = one_value bytes lists.value value lists.json json in
    none items (rw same at lists.listing)

pub one_answer : HasOneAnswer
one_answer bytes (Ok p) (Ok q) a b =
    let entries : p.entries ≡ q.entries = same_entries b.0 p.entries q.entries (rw (one_list bytes a.0 b.0 a.1 b.1) at a.2) b.2 in
    ap (λ (es : List Entry). let profile : Profile = record { entries = es } in Ok profile) entries
one_answer bytes (Ok p) (Err NotJson) a b = absurd (listed_is_json bytes a.0 a.1 b)
one_answer bytes (Ok p) (Err NotProfile) a b = absurd (listed_is_listing bytes a.0 b.0 a.1 b.1 b.2)
one_answer bytes (Ok p) (Err (BadMember j)) a b = absurd (ok_wrong bytes a.0 b.0 j a.1 b.1 a.3 (inl b.2))
one_answer bytes (Ok p) (Err (RepeatedName j)) a b = absurd (ok_wrong bytes a.0 b.0 j a.1 b.1 a.3 (inr b.2))
one_answer bytes (Ok p) (Err NoMemory) a b = absurd b
one_answer bytes (Err NotJson) (Ok q) a b = absurd (listed_is_json bytes b.0 b.1 a)
one_answer bytes (Err NotJson) (Err NotJson) a b = refl
one_answer bytes (Err NotJson) (Err NotProfile) a b = absurd (a b.0 b.1)
one_answer bytes (Err NotJson) (Err (BadMember j)) a b = absurd (listed_is_json bytes b.0 b.1 a)
one_answer bytes (Err NotJson) (Err (RepeatedName j)) a b = absurd (listed_is_json bytes b.0 b.1 a)
one_answer bytes (Err NotJson) (Err NoMemory) a b = absurd b
one_answer bytes (Err NotProfile) (Ok q) a b = absurd (listed_is_listing bytes b.0 a.0 b.1 a.1 a.2)
one_answer bytes (Err NotProfile) (Err NotJson) a b = absurd (b a.0 a.1)
one_answer bytes (Err NotProfile) (Err NotProfile) a b = refl
one_answer bytes (Err NotProfile) (Err (BadMember j)) a b = absurd (listed_is_listing bytes b.0 a.0 b.1 a.1 a.2)
one_answer bytes (Err NotProfile) (Err (RepeatedName j)) a b = absurd (listed_is_listing bytes b.0 a.0 b.1 a.1 a.2)
one_answer bytes (Err NotProfile) (Err NoMemory) a b = absurd b
one_answer bytes (Err (BadMember i)) (Ok q) a b = absurd (ok_wrong bytes b.0 a.0 i b.1 a.1 b.3 (inl a.2))
one_answer bytes (Err (BadMember i)) (Err NotJson) a b = absurd (listed_is_json bytes a.0 a.1 b)
one_answer bytes (Err (BadMember i)) (Err NotProfile) a b = absurd (listed_is_listing bytes a.0 b.0 a.1 b.1 b.2)
one_answer bytes (Err (BadMember i)) (Err (BadMember j)) a b =
    let same : i ≡ j = two_wrong bytes a.0 b.0 i j a.1 b.1 (inl a.2) (inl b.2) a.3 b.3 in
    cc
one_answer bytes (Err (BadMember i)) (Err (RepeatedName j)) a b = absurd (bad_repeated bytes a.0 b.0 i j a.1 b.1 a.2 b.2 a.3 b.3)
one_answer bytes (Err (BadMember i)) (Err NoMemory) a b = absurd b
one_answer bytes (Err (RepeatedName i)) (Ok q) a b = absurd (ok_wrong bytes b.0 a.0 i b.1 a.1 b.3 (inr a.2))
one_answer bytes (Err (RepeatedName i)) (Err NotJson) a b = absurd (listed_is_json bytes a.0 a.1 b)
one_answer bytes (Err (RepeatedName i)) (Err NotProfile) a b = absurd (listed_is_listing bytes a.0 b.0 a.1 b.1 b.2)
one_answer bytes (Err (RepeatedName i)) (Err (BadMember j)) a b = absurd (bad_repeated bytes b.0 a.0 j i b.1 a.1 b.2 a.2 b.3 a.3)
one_answer bytes (Err (RepeatedName i)) (Err (RepeatedName j)) a b =
    let same : i ≡ j = two_wrong bytes a.0 b.0 i j a.1 b.1 (inr a.2) (inr b.2) a.3 b.3 in
    cc
one_answer bytes (Err (RepeatedName i)) (Err NoMemory) a b = absurd b
one_answer bytes (Err NoMemory) other a b = absurd a

-- what shows its cause is answered wherever an answer is due
pub answered : (bytes : List ℕ) (result : Result Profile ProfileRefusal) → HasCause bytes result → Answers bytes result
answered bytes result (inl is) answer due = inl (one_answer bytes result answer is due)
answered bytes result (inr none) answer due = inr none
