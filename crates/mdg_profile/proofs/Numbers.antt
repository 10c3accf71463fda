-- A list of arguments, number by number.
use Rattle.std.proofs.Common.{ℕ, ◌≡◌, ◌+◌, ◌<◌, ◌≤◌, List, [], ◌∷◌, ◌++◌, length, map, take, get_or, Some, None, Option, arith, ap, sym, ◌∙◌, length-take, option_and_then, Err}
use Rattle.std.specs.List.{Contains}
use Rattle.std.proofs.lemmas.List.{get_or-map, length-map, map-append, take_more, get_or-take, get_or_default}
use Rattle.std.proofs.lemmas.List.Elements.{All-push}
use Rattle.std.proofs.lemmas.List.Quantifiers.{all_pairs_push}
use Rattle.mdg_profile.specs.Members.{natural}
use Rattle.mdg_profile.specs.Parts.{AreNumbers, Finds}
use Rattle.mdg_profile.specs.Entries.{IsArguments}
use Rattle.mdg_profile.specs.declared.refusal.EntryFault.{EntryFault}
use Rattle.mdg_profile.specs.declared.refusal.EntryFault.TheVariants.{OutOfForm, NoMemory}
use Rattle.mdg_profile.proofs.Unique.{same_items}
use Rattle.serde_json.specs.Data.{Data}
use Rattle.serde_json.specs.Find.{as_array}
use Rattle.serde_json.specs.View.{items_of, view}
use Rattle.serde_json.specs.declared.value.Value.{Value}

pub same_length : (items : List Data) (numbers : List ℕ) → map natural items ≡ map Some numbers → length items ≡ length numbers
same_length items numbers e = sym (length-map items natural) ∙ ap length e ∙ length-map numbers Some

pub number_at : (items : List Data) (numbers : List ℕ) (i : ℕ) (d : Data) → map natural items ≡ map Some numbers → i < length items → natural (get_or items i d) ≡ Some (get_or numbers i 0)
number_at items numbers i d e h =
    let n : length items ≡ length numbers = same_length items numbers e in
    let k : i < length numbers = omega arith in
    sym (get_or-map natural items i d None h) ∙ ap (λ (xs : List (Option ℕ)). get_or xs i None) e ∙ get_or-map Some numbers i 0 None k

-- no element of the list is n
new_at : (numbers : List ℕ) (n : ℕ) → (Contains numbers n → ⊥) → (k : ℕ) (d : ℕ) → k < length numbers → get_or numbers k d ≡ n → ⊥
new_at numbers n new k d h e = new (k, h, get_or_default numbers k n d h ∙ e)

pub numbers_more : (items : List Data) (numbers : List ℕ) (i n : ℕ) (d : Data) → i < length items → natural (get_or items i d) ≡ Some n → n ≤ 255 → (Contains numbers n → ⊥) → AreNumbers (take i items) numbers → AreNumbers (take (i + 1) items) (numbers ++ n ∷ [])
numbers_more items numbers i n d h e le new are =
    let x = get_or items i d in
    let front : take (i + 1) items ≡ take i items ++ x ∷ [] = take_more items i d h in
    let values : map natural (take i items ++ x ∷ []) ≡ map natural (take i items) ++ natural x ∷ [] = map-append natural (take i items) (x ∷ []) in
    let found : map Some (numbers ++ n ∷ []) ≡ map Some numbers ++ Some n ∷ [] = map-append Some numbers (n ∷ []) in
    let read = are.read in
    record {
      read = cc;
      small = All-push (λ m. m ≤ 255) numbers n are.small le;
      distinct = all_pairs_push (λ a b. a ≡ b → ⊥) numbers n are.distinct (new_at numbers n new);
    }

pub none_of_number : (items : List Data) (i : ℕ) (d : Data) → i < length items → ((n : ℕ) → natural (get_or items i d) ≡ Some n → 255 < n) → (numbers : List ℕ) → AreNumbers items numbers → ⊥
none_of_number items i d h big numbers are =
    let n : length items ≡ length numbers = same_length items numbers are.read in
    let k : i < length numbers = omega arith in
    let large : 255 < get_or numbers i 0 = big _ (number_at items numbers i d are.read h) in
    let small : get_or numbers i 0 ≤ 255 = are.small i 0 k in
    absurd (omega arith)

pub none_of_repeat : (items : List Data) (found : List ℕ) (i n : ℕ) (d : Data) → i < length items → natural (get_or items i d) ≡ Some n → Contains found n → AreNumbers (take i items) found → (numbers : List ℕ) → AreNumbers items numbers → ⊥
none_of_repeat items found i n d h e (k, in_found, is) before numbers are =
    let front : length (take i items) ≡ length found = same_length (take i items) found before.read in
    let cut = length-take i items in
    let all : length items ≡ length numbers = same_length items numbers are.read in
    let below : k < i = omega arith in
    let inside : k < length items = omega arith in
    let there : natural (get_or (take i items) k d) ≡ Some (get_or found k 0) = number_at (take i items) found k d before.read (omega arith) in
    let same : get_or (take i items) k d ≡ get_or items k d = get_or-take i items k d below in
    let first : natural (get_or items k d) ≡ Some (get_or numbers k 0) = number_at items numbers k d are.read inside in
    let second : natural (get_or items i d) ≡ Some (get_or numbers i 0) = number_at items numbers i d are.read h in
    let default : get_or found k n ≡ get_or found k 0 = get_or_default found k n 0 in_found in
    are.distinct k i 0 below (omega arith) (cc)

-- the value that a loop stands at
pub value_at : (values : List Value) (i : ℕ) (value : Value) → i < length values → value ≡ get_or values i value → (i < length (map view values)) × (get_or (map view values) i (view value) ≡ view value)
value_at values i value inside is =
    let same : length (map view values) ≡ length values = length-map values view in
    (omega arith, get_or-map view values i value (view value) inside ∙ ap view (sym is))

-- the array has these numbers
numbers_of_arguments : (found : Option Data) (items : List Data) → option_and_then as_array found ≡ Some (items_of items) → (numbers : List ℕ) → IsArguments found numbers → AreNumbers items numbers
numbers_of_arguments found items listed numbers is =
    let both : Some (items_of is.items) ≡ Some (items_of items) = sym is.listed ∙ listed in
    let same : is.items ≡ items = same_items is.items items (cc) in
    let fit = is.fit in
    record { read = sym (ap (map natural) same) ∙ is.read; small = fit.small; distinct = fit.distinct }

pub arguments_fault : (found : Option Data) (items : List Data) → option_and_then as_array found ≡ Some (items_of items) → (fault : EntryFault) → Finds (Err fault) (AreNumbers items) → Finds (Err fault) (IsArguments found)
arguments_fault found items listed OutOfForm none = λ numbers is. none numbers (numbers_of_arguments found items listed numbers is)
arguments_fault found items listed NoMemory none = tt

pub arguments_empty : (found : Option Data) (items : List Data) (none : List ℕ) → option_and_then as_array found ≡ Some (items_of items) → AreNumbers items none → length none ≡ 0 → (numbers : List ℕ) → IsArguments found numbers → ⊥
arguments_empty found items none listed are empty numbers is =
    let read = numbers_of_arguments found items listed numbers is in
    let one : length items ≡ length numbers = same_length items numbers read.read in
    let other : length items ≡ length none = same_length items none are.read in
    let fit = is.fit in
    let some = fit.some in
    absurd (omega arith)

pub arguments_are : (found : Option Data) (items : List Data) (numbers : List ℕ) → option_and_then as_array found ≡ Some (items_of items) → AreNumbers items numbers → 0 < length numbers → IsArguments found numbers
arguments_are found items numbers listed are some = record {
  items = items;
  listed = listed;
  read = are.read;
  fit = record { some = some; small = are.small; distinct = are.distinct };
}
