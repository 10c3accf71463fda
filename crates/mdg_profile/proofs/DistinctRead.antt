-- The entries that are read speak of distinct names, since one that repeats a name is refused.
use Rattle.std.proofs.Common.{ℕ, zero, suc, ◌≡◌, ◌<◌, List, [], ◌∷◌, length, get_or, IfOk, Result, Ok, Err, refl, inl, inr, arith}
use Rattle.std.specs.List.{AllZip}
use Rattle.mdg_profile.specs.declared.entry.Entry.{Entry}
use Rattle.mdg_profile.specs.declared.entry.Profile.{Profile}
use Rattle.mdg_profile.specs.declared.refusal.ProfileRefusal.{ProfileRefusal}
use Rattle.mdg_profile.specs.Distinct.{AreDistinct, HasDistinctEntries}
use Rattle.mdg_profile.specs.Entries.{IsEntry}
use Rattle.mdg_profile.specs.Format.{IsEntryAt, RepeatsAt, IsFirst, HasCause}
use Rattle.serde_json.specs.Data.{Data}

zip_length : (items : List Data) (entries : List Entry) → AllZip IsEntry items entries → length items ≡ length entries
zip_length [] [] zip = refl
zip_length [] (e ∷ es) zip = absurd zip
zip_length (d ∷ ds) [] zip = absurd zip
zip_length (d ∷ ds) (e ∷ es) zip = let rest = zip_length ds es zip.1 in omega arith

-- the entry at an index is that of the value there
entry_at : (items : List Data) (entries : List Entry) (i : ℕ) (d : Entry) → AllZip IsEntry items entries → i < length entries → IsEntryAt items i (get_or entries i d)
entry_at [] [] i d zip within = absurd (omega arith)
entry_at [] (e ∷ es) i d zip within = absurd zip
entry_at (v ∷ vs) [] i d zip within = absurd zip
entry_at (v ∷ vs) (e ∷ es) zero d zip within = record { value = v; at = refl; form = zip.0 }
entry_at (v ∷ vs) (e ∷ es) (suc i) d zip within =
    let rest = entry_at vs es i d zip.1 (omega arith) in
    record { value = rest.value; at = rest.at; form = rest.form }

zip_distinct : (items : List Data) (entries : List Entry) → AllZip IsEntry items entries → IsFirst items (length items) → AreDistinct entries
zip_distinct items entries zip first i j d lt within same =
    let size = zip_length items entries zip in
    let repeats : RepeatsAt items j = record {
      entry = get_or entries j d;
      here = entry_at items entries j d zip within;
      before = i;
      earlier = lt;
      other = get_or entries i d;
      there = entry_at items entries i d zip (omega arith);
      same = same;
    } in
    first j (omega arith) (inr repeats)

pub read_distinct : (bytes : List ℕ) (result : Result Profile ProfileRefusal) → HasCause bytes result → IfOk result HasDistinctEntries
read_distinct bytes (Ok profile) (inl is) = zip_distinct is.0 profile.entries is.2 is.3
read_distinct bytes (Ok profile) (inr none) = absurd (cc)
read_distinct bytes (Err refusal) cause = tt
