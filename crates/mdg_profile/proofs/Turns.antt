-- A turn of the loop over the values of a profile.
use Rattle.std.proofs.Common.{ℕ, zero, suc, ◌≡◌, ◌+◌, ◌<◌, ◌⊎◌, List, [], ◌∷◌, ◌++◌, length, take, get_or, slice_get, Some, None, Option, IsSomeAnd, refl, sym, ◌∙◌, inl, inr, arith, length-take}
use Rattle.std.specs.List.{AllZip}
use Rattle.std.proofs.Common.{below_more}
use Rattle.std.proofs.lemmas.List.{take_more}
use Rattle.std.proofs.lemmas.Option.{slice_get-get_or, slice_get_within, MatchOption-at_some}
use Rattle.std.proofs.lemmas.Slice.Zip.{AllZip-left, AllZip-right}
use Rattle.mdg_profile.specs.declared.entry.Entry.{Entry}
use Rattle.mdg_profile.specs.Entries.{IsEntry, BreaksForm}
use Rattle.mdg_profile.specs.Distinct.{SameName}
use Rattle.mdg_profile.specs.Format.{BreaksAt, RepeatsAt, IsFirst}
use Rattle.mdg_profile.specs.Listed.{IsListed}
use Rattle.mdg_profile.proofs.Unique.{one_entry}
use Rattle.serde_json.specs.Data.{Data}

pub zip_push : (items : List Data) (entries : List Entry) (value : Data) (entry : Entry) → AllZip IsEntry items entries → IsEntry value entry → AllZip IsEntry (items ++ value ∷ []) (entries ++ entry ∷ [])
zip_push [] [] value entry zip is = (is, tt)
zip_push [] (e ∷ es) value entry zip is = absurd zip
zip_push (d ∷ ds) [] value entry zip is = absurd zip
zip_push (d ∷ ds) (e ∷ es) value entry zip is = (zip.0, zip_push ds es value entry zip.1 is)

pub get_in_front : (n : ℕ) (items : List Data) (k : ℕ) → k < n → slice_get (take n items) k ≡ slice_get items k
get_in_front zero items k h = absurd (omega arith)
get_in_front (suc n) [] k h = refl
get_in_front (suc n) (d ∷ ds) zero h = refl
get_in_front (suc n) (d ∷ ds) (suc k) h = get_in_front n ds k (omega arith)

-- the entry that was read at an index
read_at : (items : List Data) (entries : List Entry) (i k : ℕ) (value : Data) → AllZip IsEntry (take i items) entries → k < i → slice_get items k ≡ Some value → (entry : Entry) × (slice_get entries k ≡ Some entry) × IsEntry value entry
read_at items entries i k value zip below at =
    let there : slice_get (take i items) k ≡ Some value = get_in_front i items k below ∙ at in
    found (slice_get entries k) (MatchOption-at_some (Unit {0}) (λ d. IsSomeAnd (slice_get entries k) (IsEntry d)) value there (AllZip-left IsEntry (take i items) entries zip k))
  where
    found : (o : Option Entry) → IsSomeAnd o (IsEntry value) → (entry : Entry) × (o ≡ Some entry) × IsEntry value entry
    found None is = absurd is
    found (Some entry) is = (entry, refl, is)

breaks_no_form : (items : List Data) (i : ℕ) (value : Data) (entry : Entry) → slice_get items i ≡ Some value → IsEntry value entry → BreaksAt items i → ⊥
breaks_no_form items i value entry at is breaks =
    let values : Some breaks.value ≡ Some value = sym breaks.at ∙ at in
    let same : value ≡ breaks.value = cc in
    breaks.broken entry (rw same at is)

repeats_none : (items : List Data) (entries : List Entry) (i : ℕ) (value : Data) (entry : Entry) → slice_get items i ≡ Some value → IsEntry value entry → AllZip IsEntry (take i items) entries → (IsListed entries entry → ⊥) → RepeatsAt items i → ⊥
repeats_none items entries i value entry at is zip new repeats =
    let here = repeats.here in
    let values : Some here.value ≡ Some value = sym here.at ∙ at in
    let same : here.value ≡ value = cc in
    let entry_is : repeats.entry ≡ entry = one_entry value repeats.entry entry (rw same at here.form) is in
    let there = repeats.there in
    let read = read_at items entries i repeats.before there.value zip repeats.earlier there.at in
    let other_is : repeats.other ≡ read.0 = one_entry there.value repeats.other read.0 there.form read.2 in
    let other_same : SameName read.0 repeats.entry = rw other_is at repeats.same in
    new (record { index = repeats.before; other = read.0; at = read.1; same = rw entry_is at other_same })

-- one more value is in form, and its name is new
pub first_more : (items : List Data) (entries : List Entry) (i : ℕ) (d : Data) (entry : Entry) → i < length items → AllZip IsEntry (take i items) entries → IsEntry (get_or items i d) entry → (IsListed entries entry → ⊥) → IsFirst items i → IsFirst items (i + 1)
first_more items entries i d entry inside zip is new first = below_more _ _ first here
  where
    here : BreaksAt items i ⊎ RepeatsAt items i → ⊥
    here (inl breaks) = breaks_no_form items i (get_or items i d) entry (slice_get-get_or items i d inside) is breaks
    here (inr repeats) = repeats_none items entries i (get_or items i d) entry (slice_get-get_or items i d inside) is zip new repeats

pub zip_more : (items : List Data) (entries : List Entry) (i : ℕ) (d : Data) (entry : Entry) → i < length items → AllZip IsEntry (take i items) entries → IsEntry (get_or items i d) entry → AllZip IsEntry (take (i + 1) items) (entries ++ entry ∷ [])
zip_more items entries i d entry inside zip is = rw (take_more items i d inside) (zip_push (take i items) entries (get_or items i d) entry zip is)

pub breaks_here : (items : List Data) (i : ℕ) (d : Data) → i < length items → BreaksForm (get_or items i d) → BreaksAt items i
breaks_here items i d inside broken = record { value = get_or items i d; at = slice_get-get_or items i d inside; broken = broken }

pub repeats_here : (items : List Data) (entries : List Entry) (i : ℕ) (d : Data) (entry : Entry) → i < length items → AllZip IsEntry (take i items) entries → IsEntry (get_or items i d) entry → IsListed entries entry → RepeatsAt items i
repeats_here items entries i d entry inside zip is listed =
    let read = found (slice_get (take i items) listed.index) (MatchOption-at_some (Unit {0}) (λ e. IsSomeAnd (slice_get (take i items) listed.index) (λ d. IsEntry d e)) listed.other listed.at (AllZip-right IsEntry (take i items) entries zip listed.index)) in
    let within : listed.index < length (take i items) = slice_get_within (take i items) listed.index read.0 read.1 in
    let cut = length-take i items in
    let before : listed.index < i = omega arith in
    record {
      entry = entry;
      here = record { value = get_or items i d; at = slice_get-get_or items i d inside; form = is };
      before = listed.index;
      earlier = before;
      other = listed.other;
      there = record { value = read.0; at = sym (get_in_front i items listed.index before) ∙ read.1; form = read.2 };
      same = listed.same;
    }
  where
    found : (o : Option Data) → IsSomeAnd o (λ value. IsEntry value listed.other) → (value : Data) × (o ≡ Some value) × IsEntry value listed.other
    found None is = absurd is
    found (Some value) is = (value, refl, is)
