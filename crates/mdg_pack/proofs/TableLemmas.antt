-- What a table has, and how it grows.
use Rattle.std.proofs.Common.{◌≡◌, ℕ, zero, suc, ◌+◌, ◌<◌, ◌≤◌, ◌⊎◌, Bool, true, false, cond, List, [], ◌∷◌, ◌++◌, length, refl, sym, ◌∙◌, ap, subst, inl, inr, arith, length-append}
use Rattle.std.specs.Prelude.{slice_get, Option, Some, None, IfSome, nat_le, nat_eq}
use Rattle.std.specs.Str.{bytes_eq}
use Rattle.std.specs.Cmp.Lexicographic.{bytes_decides}
use Rattle.std.proofs.lemmas.Bool.{leb-true, eq-eqb}
use Rattle.std.proofs.lemmas.Bool.Decides.{eqb_tells}
use Rattle.std.proofs.lemmas.Option.{slice_get_past, slice_get_within}
use Rattle.mdg_pack.specs.Paths.{FilePath}
use Rattle.mdg_pack.specs.ModuleResolution.{goes, probed, probed_by, after_reading, most_files}
use Rattle.mdg_pack.specs.ModuleTable.{lookup, lookup_in, with_absent, with_file, empty_table}
use Rattle.mdg_pack.specs.Effects.{Agrees, IsSound, Saw, GivesTold, gave, bytes_of}
use Rattle.mdg_pack.specs.Reads.{Reading, gives, fails, Given, later, reads_of, most_bytes, AreShort}
use Rattle.mdg_pack.specs.declared.module_table.Probe.{Probe}
use Rattle.mdg_pack.specs.declared.module_table.SourceFile.{SourceFile}
use Rattle.mdg_pack.specs.declared.module_table.ModuleTable.{ModuleTable}
use Rattle.mdg_port.specs.Held.{Held, held_at}
use Rattle.mdg_port.specs.Reads.{fetched, fetched_of}
use Rattle.mdg_port.specs.declared.folder.Fetched.{Fetched}
use Rattle.mdg_port.specs.declared.folder.Fetched.TheVariants.{Absent, TooLong, Bytes}

pub get_front : {X : Type 0} (xs : List X) (y : X) (n : ℕ) → n < length xs → slice_get (xs ++ y ∷ []) n ≡ slice_get xs n
get_front [] y n h = absurd (omega arith)
get_front (x ∷ xs) y zero h = refl
get_front (x ∷ xs) y (suc n) h = get_front xs y n (omega arith)

pub get_last : {X : Type 0} (xs : List X) (y : X) → slice_get (xs ++ y ∷ []) (length xs) ≡ Some y
get_last [] y = refl
get_last (x ∷ xs) y = get_last xs y

same_path : (path : FilePath) → bytes_eq path path ≡ true
same_path path = (bytes_decides path path).1 refl

-- ---- what a lookup gives

lookup_by : (b : Bool) (path : FilePath) (one : Probe) (asked : List Probe) → bytes_eq path one.path ≡ b → lookup_in (one ∷ asked) path ≡ cond b (Some one.file) (lookup_in asked path)
lookup_by b path one asked is = ap (λ t. cond t (Some one.file) (lookup_in asked path)) is

pub lookup_split : (asked : List Probe) (one : Probe) (path : FilePath) (file : Option ℕ) → lookup_in (asked ++ one ∷ []) path ≡ Some file → (lookup_in asked path ≡ Some file) ⊎ ((path ≡ one.path) × (file ≡ one.file))
lookup_split [] one path file is = by (bytes_eq path one.path) refl
  where
    by : (b : Bool) → bytes_eq path one.path ≡ b → (lookup_in [] path ≡ Some file) ⊎ ((path ≡ one.path) × (file ≡ one.file))
    by true same = let resolved = sym is ∙ lookup_by true path one [] same in inr ((bytes_decides path one.path).0 same, cc)
    by false other = let no = sym is ∙ lookup_by false path one [] other in absurd cc
lookup_split (first ∷ asked) one path file is = by (lookup_split asked one path file) (bytes_eq path first.path) refl
  where
    later : bytes_eq path first.path ≡ false → (lookup_in asked path ≡ Some file) ⊎ ((path ≡ one.path) × (file ≡ one.file)) → (lookup_in (first ∷ asked) path ≡ Some file) ⊎ ((path ≡ one.path) × (file ≡ one.file))
    later other (inl resolved) = inl (lookup_by false path first asked other ∙ resolved)
    later other (inr new) = inr new

    by : (lookup_in (asked ++ one ∷ []) path ≡ Some file → (lookup_in asked path ≡ Some file) ⊎ ((path ≡ one.path) × (file ≡ one.file)))
        → (b : Bool) → bytes_eq path first.path ≡ b → (lookup_in (first ∷ asked) path ≡ Some file) ⊎ ((path ≡ one.path) × (file ≡ one.file))
    by rest true same = inl (lookup_by true path first asked same ∙ sym (lookup_by true path first (asked ++ one ∷ []) same) ∙ is)
    by rest false other = later other (rest (sym (lookup_by false path first (asked ++ one ∷ []) other) ∙ is))

-- ---- what stands in a list with one more item

get_kept : {X : Type 0} (xs : List X) (y z : X) (n : ℕ) → slice_get xs n ≡ Some z → slice_get (xs ++ y ∷ []) n ≡ Some z
get_kept [] y z n is = absurd cc
get_kept (x ∷ xs) y z zero is = is
get_kept (x ∷ xs) y z (suc n) is = get_kept xs y z n is

get_split : {X : Type 0} (xs : List X) (y z : X) (n : ℕ) → slice_get (xs ++ y ∷ []) n ≡ Some z → (slice_get xs n ≡ Some z) ⊎ ((n ≡ length xs) × (z ≡ y))
get_split [] y z zero is = inr (refl, cc)
get_split [] y z (suc n) is = absurd cc
get_split (x ∷ xs) y z zero is = inl is
get_split (x ∷ xs) y z (suc n) is = by (get_split xs y z n is)
  where
    by : (slice_get xs n ≡ Some z) ⊎ ((n ≡ length xs) × (z ≡ y)) → (slice_get xs n ≡ Some z) ⊎ ((suc n ≡ suc (length xs)) × (z ≡ y))
    by (inl old) = inl old
    by (inr new) = inr (ap suc new.0, new.1)

-- ---- reads that give what a table has

pub agrees_absent : (given : Given) (table : ModuleTable) (path : FilePath) → Agrees given (with_absent table path) → given (length table.probes) path ≡ gives Absent
agrees_absent given table path agrees = agrees.at (length table.probes) (record { path = path; file = None }) (get_last table.probes (record { path = path; file = None }))

pub agrees_file : (given : Given) (table : ModuleTable) (path : FilePath) (bytes : List ℕ) → Agrees given (with_file table path bytes) → given (length table.probes) path ≡ gives (Bytes bytes)
agrees_file given table path bytes agrees =
    let one : Probe = record { path = path; file = Some (length table.files) } in
    agrees.at (length table.probes) one (get_last table.probes one) ∙ ap (λ f. gives (bytes_of f)) (get_last table.files (record { path = path; bytes = bytes }))

gave_absent : (table : ModuleTable) (path : FilePath) (file : Option ℕ) → gave (with_absent table path) file ≡ gave table file
gave_absent table path None = refl
gave_absent table path (Some number) = refl

gave_file : (table : ModuleTable) (path : FilePath) (bytes : List ℕ) (file : Option ℕ) → ((number : ℕ) → file ≡ Some number → number < length table.files) → gave (with_file table path bytes) file ≡ gave table file
gave_file table path bytes None inside = refl
gave_file table path bytes (Some number) inside = ap bytes_of (get_front table.files (record { path = path; bytes = bytes }) number (inside number refl))

pub keeps_absent : (given : Given) (table : ModuleTable) (path : FilePath) → Agrees given (with_absent table path) → Agrees given table
keeps_absent given table path agrees = record {
  at = λ number one is. agrees.at number one (get_kept table.probes (record { path = path; file = None }) one number is) ∙ ap gives (gave_absent table path one.file);
}

pub keeps_file : (given : Given) (table : ModuleTable) (path : FilePath) (bytes : List ℕ) → IsSound table → Agrees given (with_file table path bytes) → Agrees given table
keeps_file given table path bytes sound agrees = record {
  at = λ number one is. agrees.at number one (get_kept table.probes (record { path = path; file = Some (length table.files) }) one number is)
      ∙ ap gives (gave_file table path bytes one.file (λ file at. sound.numbers number one file is at));
}

pub more_absent : (given : Given) (table : ModuleTable) (path : FilePath) → given (length table.probes) path ≡ gives Absent → Agrees given table → Agrees given (with_absent table path)
more_absent given table path is agrees = record { at = λ number one at. by number one (get_split table.probes (record { path = path; file = None }) one number at) }
  where
    by : (number : ℕ) (one : Probe) → (slice_get table.probes number ≡ Some one) ⊎ ((number ≡ length table.probes) × (one ≡ record { path = path; file = None })) → given number one.path ≡ gives (gave (with_absent table path) one.file)
    by number one (inl old) = agrees.at number one old ∙ ap gives (sym (gave_absent table path one.file))
    by number one (inr new) =
        ap (λ n. given n one.path) new.0 ∙ ap (λ (x : Probe). given (length table.probes) x.path) new.1 ∙ is
        ∙ ap (λ (x : Probe). gives (gave (with_absent table path) x.file)) (sym new.1)

pub more_file : (given : Given) (table : ModuleTable) (path : FilePath) (bytes : List ℕ) → IsSound table → given (length table.probes) path ≡ gives (Bytes bytes) → Agrees given table → Agrees given (with_file table path bytes)
more_file given table path bytes sound is agrees = record { at = λ number one at. by number one (get_split table.probes (record { path = path; file = Some (length table.files) }) one number at) }
  where
    by : (number : ℕ) (one : Probe) → (slice_get table.probes number ≡ Some one) ⊎ ((number ≡ length table.probes) × (one ≡ record { path = path; file = Some (length table.files) })) → given number one.path ≡ gives (gave (with_file table path bytes) one.file)
    by number one (inl old) = agrees.at number one old ∙ ap gives (sym (gave_file table path bytes one.file (λ file at. sound.numbers number one file old at)))
    by number one (inr new) =
        ap (λ n. given n one.path) new.0 ∙ ap (λ (x : Probe). given (length table.probes) x.path) new.1 ∙ is
        ∙ sym (ap (λ f. gives (bytes_of f)) (get_last table.files (record { path = path; bytes = bytes })))
        ∙ ap (λ (x : Probe). gives (gave (with_file table path bytes) x.file)) (sym new.1)

-- ---- what stays sound

pub sound_none : IsSound empty_table
sound_none = record { few = omega arith; numbers = λ place one number at is. absurd cc; short = λ number file is. absurd cc }

pub sound_absent : (table : ModuleTable) (path : FilePath) → IsSound table → IsSound (with_absent table path)
sound_absent table path sound = record { few = sound.few; numbers = λ place one number at is. by place one number is (get_split table.probes (record { path = path; file = None }) one place at); short = sound.short }
  where
    by : (place : ℕ) (one : Probe) (number : ℕ) → one.file ≡ Some number → (slice_get table.probes place ≡ Some one) ⊎ ((place ≡ length table.probes) × (one ≡ record { path = path; file = None })) → number < length table.files
    by place one number is (inl old) = sound.numbers place one number old is
    by place one number is (inr new) = let none = ap (λ (x : Probe). x.file) new.1 in let no : None ≡ Some number = sym none ∙ is in absurd cc

pub sound_file : (table : ModuleTable) (path : FilePath) (bytes : List ℕ) → length table.files < most_files → length bytes ≤ most_bytes → IsSound table → IsSound (with_file table path bytes)
sound_file table path bytes few within sound = record {
  few = omega (arith, more);
  numbers = λ place one number at is. by place one number is (get_split table.probes (record { path = path; file = Some (length table.files) }) one place at);
  short = short_at table.files sound.short;
}
  where
    more : length (table.files ++ (record { path = path; bytes = bytes }) ∷ []) ≡ length table.files + 1
    more = length-append table.files _

    by : (place : ℕ) (one : Probe) (number : ℕ) → one.file ≡ Some number → (slice_get table.probes place ≡ Some one) ⊎ ((place ≡ length table.probes) × (one ≡ record { path = path; file = Some (length table.files) })) → number < length (table.files ++ (record { path = path; bytes = bytes }) ∷ [])
    by place one number is (inl old) = let before = sound.numbers place one number old is in omega (arith, more)
    by place one number is (inr new) =
        let file = ap (λ (x : Probe). x.file) new.1 in
        let both : Some number ≡ Some (length table.files) = sym is ∙ file in
        let same : number ≡ length table.files = cc in omega (arith, more)

    short_at : (files : List SourceFile) → ((number : ℕ) (file : SourceFile) → slice_get files number ≡ Some file → length file.bytes ≤ most_bytes) → (number : ℕ) (file : SourceFile) → slice_get (files ++ (record { path = path; bytes = bytes }) ∷ []) number ≡ Some file → length file.bytes ≤ most_bytes
    short_at [] each zero file is = let same : file ≡ record { path = path; bytes = bytes } = cc in subst (λ (f : SourceFile). length f.bytes ≤ most_bytes) (sym same) within
    short_at [] each (suc number) file is = absurd cc
    short_at (first ∷ files) each zero file is = each zero file is
    short_at (first ∷ files) each (suc number) file is = short_at files (λ n f at. each (suc n) f at) number file is

-- ---- what a probe gives

pub probed_known : (given : Given) (table : ModuleTable) (path : FilePath) (file : Option ℕ) → lookup table path ≡ Some file → probed given table path ≡ goes file table
unfolding probed
probed_known given table path file is = ap (λ o. probed_by o given table path) is

pub probed_new : (given : Given) (table : ModuleTable) (path : FilePath) (reading : Reading) → lookup table path ≡ None → given (length table.probes) path ≡ reading → probed given table path ≡ after_reading reading table path
unfolding probed
probed_new given table path reading new is = ap (λ o. probed_by o given table path) new ∙ ap (λ r. after_reading r table path) is

-- ---- reads that are chosen

-- what was read at a place, or this where nothing was
abbrev given_at : ModuleTable → Reading → Option Probe → Reading
given_at table reading None = reading
given_at table reading (Some one) = gives (gave table one.file)

-- what the table has, and this at the reads after that
abbrev given_with : ModuleTable → Reading → Given
given_with table reading number path = given_at table reading (slice_get table.probes number)

-- the reading has no more bytes than a file may have
abbrev pub IsShort : Reading → Type 0
IsShort reading = (bytes : List ℕ) → reading ≡ gives (Bytes bytes) → length bytes ≤ most_bytes

short_gave : (table : ModuleTable) → IsSound table → (file : Option ℕ) (bytes : List ℕ) → gives (gave table file) ≡ gives (Bytes bytes) → length bytes ≤ most_bytes
short_gave table sound None bytes is = absurd cc
short_gave table sound (Some number) bytes is = by (slice_get table.files number) refl is
  where
    by : (resolved : Option SourceFile) → slice_get table.files number ≡ resolved → gives (bytes_of resolved) ≡ gives (Bytes bytes) → length bytes ≤ most_bytes
    by None at it = absurd cc
    by (Some file) at it = let same : file.bytes ≡ bytes = cc in subst (λ (bs : List ℕ). length bs ≤ most_bytes) same (sound.short number file at)

short_fitting : (whole : List ℕ) (b : Bool) → nat_le (length whole) most_bytes ≡ b → (bytes : List ℕ) → gives (cond b (Bytes whole) TooLong) ≡ gives (Bytes bytes) → length bytes ≤ most_bytes
short_fitting whole true le bytes is =
    let same : whole ≡ bytes = cc in
    let within : length whole ≤ most_bytes = leb-true (length whole) most_bytes le in
    subst (λ (bs : List ℕ). length bs ≤ most_bytes) same within
short_fitting whole false le bytes is = absurd cc

short_fetched : (held : Held) (path : FilePath) (bytes : List ℕ) → gives (fetched held path most_bytes) ≡ gives (Bytes bytes) → length bytes ≤ most_bytes
short_fetched held path bytes is = by (held_at held path) is
  where
    by : (resolved : Option (List ℕ)) → gives (fetched_of resolved most_bytes) ≡ gives (Bytes bytes) → length bytes ≤ most_bytes
    by None it = absurd cc
    by (Some whole) it = short_fitting whole (nat_le (length whole) most_bytes) refl bytes it

pub short_told : (held : Held) (failing : Option ℕ) → AreShort (reads_of held failing)
short_told held None number path bytes is = short_fetched held path bytes is
short_told held (Some failing) number path bytes is = by (nat_eq number failing) is
  where
    by : (b : Bool) → cond b fails (gives (fetched held path most_bytes)) ≡ gives (Bytes bytes) → length bytes ≤ most_bytes
    by true it = absurd cc
    by false it = short_fetched held path bytes it

short_with : (table : ModuleTable) (reading : Reading) → IsSound table → IsShort reading → AreShort (given_with table reading)
short_with table reading sound short number path bytes is = by (slice_get table.probes number) is
  where
    by : (one : Option Probe) → given_at table reading one ≡ gives (Bytes bytes) → length bytes ≤ most_bytes
    by None it = short bytes it
    by (Some one) it = short_gave table sound one.file bytes it

agrees_with : (table : ModuleTable) (reading : Reading) → Agrees (given_with table reading) table
agrees_with table reading = record { at = λ number one is. ap (given_at table reading) is }

-- reads that give what a table has and what was read after that, and what the folder holds, where that is told
pub record Chosen (told : Option Held) (failing : Option ℕ) (table : ModuleTable) (path : FilePath) (reading : Reading) : Type 0 where
  pub given : Given
  pub short : AreShort given
  pub told_is : GivesTold told failing given
  pub agrees : Agrees given table
  pub there : given (length table.probes) path ≡ reading

chosen_untold : (failing : Option ℕ) (table : ModuleTable) (path : FilePath) (reading : Reading) → IsSound table → IsShort reading → Chosen None failing table path reading
chosen_untold failing table path reading sound short = record {
  given = given_with table reading;
  short = short_with table reading sound short;
  told_is = tt;
  agrees = agrees_with table reading;
  there = ap (given_at table reading) (slice_get_past table.probes (length table.probes) (omega arith));
}

-- the read gives something
pub chosen : (told : Option Held) (table : ModuleTable) (path : FilePath) (got : Fetched) → IsSound table → IsShort (gives got) → Saw told table → IfSome told (λ held. got ≡ fetched held path most_bytes) → Chosen told None table path (gives got)
chosen (Some held) table path got sound short saw is = record {
  given = later (reads_of held None);
  short = λ number p bytes at. short_told held None (suc number) p bytes at;
  told_is = refl;
  agrees = saw;
  there = ap gives (sym is);
}
chosen None table path got sound short saw is = chosen_untold None table path (gives got) sound short

-- the read fails
pub other_number : (n k : ℕ) → n < k → nat_eq n k ≡ false
other_number n k below = by (eqb_tells n k)
  where
    by : ((nat_eq n k ≡ true) × (n ≡ k)) ⊎ ((nat_eq n k ≡ false) × (n ≡ k → ⊥)) → nat_eq n k ≡ false
    by (inl same) = let is = same.1 in absurd (omega arith)
    by (inr other) = other.0

agrees_failing : (held : Held) (table : ModuleTable) (k : ℕ) → k ≡ length table.probes + 1 → Agrees (later (reads_of held None)) table → Agrees (later (reads_of held (Some k))) table
agrees_failing held table k is saw = record {
  at = λ number one at.
      let inside = slice_get_within table.probes number one at in
      ap (λ b. cond b fails (gives (fetched held one.path most_bytes))) (other_number (suc number) k (omega arith)) ∙ saw.at number one at;
}

pub chosen_failing : (told : Option Held) (table : ModuleTable) (path : FilePath) (k : ℕ) → k ≡ length table.probes + 1 → IsSound table → Saw told table → Chosen told (Some k) table path fails
chosen_failing (Some held) table path k is sound saw = record {
  given = later (reads_of held (Some k));
  short = λ number p bytes at. short_told held (Some k) (suc number) p bytes at;
  told_is = refl;
  agrees = agrees_failing held table k is saw;
  there = ap (λ b. cond b fails (gives (fetched held path most_bytes))) (eq-eqb (suc (length table.probes)) k (omega arith));
}
chosen_failing None table path k is sound saw = chosen_untold (Some k) table path fails sound (λ bytes at. absurd cc)

-- the same where nothing was read after that
pub record ChosenKnown (told : Option Held) (table : ModuleTable) : Type 0 where
  pub given : Given
  pub short : AreShort given
  pub told_is : GivesTold told None given
  pub agrees : Agrees given table

pub chosen_known : (told : Option Held) (table : ModuleTable) → IsSound table → Saw told table → ChosenKnown told table
chosen_known (Some held) table sound saw = record {
  given = later (reads_of held None);
  short = λ number p bytes at. short_told held None (suc number) p bytes at;
  told_is = refl;
  agrees = saw;
}
chosen_known None table sound saw = record {
  given = given_with table (gives Absent);
  short = short_with table (gives Absent) sound (λ bytes at. absurd cc);
  told_is = tt;
  agrees = agrees_with table (gives Absent);
}
