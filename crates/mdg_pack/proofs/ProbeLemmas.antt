-- What a read of a path gives a table.
use Rattle.std.proofs.Common.{◌≡◌, ℕ, ◌+◌, ◌-◌, ◌^◌, ◌<◌, ◌≤◌, cond, List, [], ◌∷◌, ◌++◌, length, refl, sym, ◌∙◌, ap, subst, arith, length-append}
use Rattle.std.specs.Prelude.{Option, Some, None, IfSome, OnSome, Result, Ok, Err}
use Rattle.std.proofs.lemmas.List.{length-map}
use Rattle.std.proofs.lemmas.Bool.{lt-ltb, le-ltb}
use Rattle.mdg_pack.specs.Paths.{FilePath}
use Rattle.mdg_pack.specs.ModuleResolution.{goes, ends, probed, after_reading, registered, most_files}
use Rattle.mdg_pack.specs.ModuleTable.{paths, lookup, with_absent, with_file}
use Rattle.mdg_pack.specs.Effects.{FolderView, Agrees, IsSound, Saw, IsCounted, Did, Refuses, Answers, IsRegistered, failing_at, TellsLastOf}
use Rattle.mdg_pack.specs.Reads.{Reading, gives, fails, Given, later, reads_of, most_bytes}
use Rattle.mdg_pack.specs.declared.fault.PackFault.{PackFault}
use Rattle.mdg_pack.specs.declared.fault.PackFault.TheVariants as fault
use Rattle.mdg_pack.specs.declared.module_table.ModuleTable.{ModuleTable}
use Rattle.mdg_port.specs.Causes.{one_more}
use Rattle.mdg_port.specs.Held.{Held}
use Rattle.mdg_port.specs.Reads.{fetched}
use Rattle.mdg_port.specs.declared.folder.Fetched.{Fetched}
use Rattle.mdg_port.specs.declared.folder.Fetched.TheVariants.{Absent, TooLong, Bytes}
use Rattle.mdg_pack.proofs.TableLemmas.{Chosen, chosen, chosen_failing, IsShort, probed_new, probed_known, agrees_absent, agrees_file, keeps_absent, keeps_file, more_absent, more_file, sound_absent, sound_file}
use Rattle.mdg_pack.proofs.EffectLemmas.{counted_none}

pub counted_one : (before after : FolderView) (k n : ℕ) → OnSome before.told (after.reads ≡ one_more before.reads) → n ≡ k + 1 → IsCounted before after k n
counted_one before after k n one more = by before.told one
  where
    by : (told : Option Held) → OnSome told (after.reads ≡ one_more before.reads) → IfSome told (λ held. after.reads < 2 ^ 64 - 1 → (before.reads ≤ after.reads) × (after.reads + k ≡ before.reads + n))
    by None is = tt
    by (Some held) is = λ below. (omega arith, omega arith)

-- a fact of what is read, at the folder's content
saw_more : (told : Option Held) (table new : ModuleTable) (path : FilePath) (got : Fetched) → ((given : Given) → given (length table.probes) path ≡ gives got → Agrees given table → Agrees given new)
    → IfSome told (λ held. got ≡ fetched held path most_bytes) → Saw told table → Saw told new
saw_more None table new path got more is saw = tt
saw_more (Some held) table new path got more is saw = more (later (reads_of held None)) (ap gives (sym is)) saw

module _ (before after : FolderView) (table : ModuleTable) (path : FilePath) (sound : IsSound table) (saw : Saw before.told table) (new : lookup table path ≡ None)
    (one : OnSome before.told (after.reads ≡ one_more before.reads)) where
  pub did_absent : IfSome before.told (λ held. Absent ≡ fetched held path most_bytes) → Did (λ given. probed given table path) before after table (with_absent table path) None
  did_absent is = record {
    sound = sound_absent table path sound;
    saw = saw_more before.told table (with_absent table path) path Absent (λ given at agrees. more_absent given table path at agrees) is saw;
    is = λ given agrees. probed_new given table path (gives Absent) new (agrees_absent given table path agrees);
    keeps = λ given agrees. keeps_absent given table path agrees;
    longer = omega arith;
    counted = counted_one before after (length table.probes) (length (table.probes ++ (record { path = path; file = None }) ∷ [])) one (length-append table.probes _);
  }

  pub did_file : (bytes : List ℕ) → length table.files < most_files → length bytes ≤ most_bytes → IfSome before.told (λ held. Bytes bytes ≡ fetched held path most_bytes)
      → Did (λ given. probed given table path) before after table (with_file table path bytes) (Some (length table.files))
  did_file bytes room within is = record {
    sound = sound_file table path bytes room within sound;
    saw = saw_more before.told table (with_file table path bytes) path (Bytes bytes) (λ given at agrees. more_file given table path bytes sound at agrees) is saw;
    is = λ given agrees. probed_new given table path (gives (Bytes bytes)) new (agrees_file given table path bytes agrees) ∙ has_room;
    keeps = λ given agrees. keeps_file given table path bytes sound agrees;
    longer = omega (arith, length-append table.files (record { path = path; bytes = bytes } ∷ []));
    counted = counted_one before after (length table.probes) (length (table.probes ++ (record { path = path; file = Some (length table.files) }) ∷ [])) one (length-append table.probes _);
  }
    where
      has_room : registered table path bytes ≡ goes (Some (length table.files)) (with_file table path bytes)
      has_room = ap (λ b. cond b (goes (Some (length table.files)) (with_file table path bytes)) (ends (paths table ++ path ∷ []) (fault.TooManyFiles 257))) (lt-ltb (length table.files) most_files room)

  count_asked : length (paths table ++ path ∷ []) ≡ length table.probes + 1
  count_asked = length-append (paths table) (path ∷ []) ∙ ap (λ n. n + 1) (length-map table.probes _)

  refused_by : (reading : Reading) (refusal : PackFault) → after_reading reading table path ≡ ends (paths table ++ path ∷ []) refusal
      → Chosen before.told (failing_at refusal (paths table ++ path ∷ [])) table path reading → TellsLastOf refusal (paths table ++ path ∷ [])
      → Refuses (λ given. probed given table path) before after table refusal
  refused_by reading refusal ended choice last = record {
    given = choice.given;
    short = choice.short;
    asked = paths table ++ path ∷ [];
    told = choice.told_is;
    agrees = choice.agrees;
    is = probed_new choice.given table path reading new choice.there ∙ ended;
    last = last;
    counted = counted_one before after (length table.probes) (length (paths table ++ path ∷ [])) one count_asked;
  }

  pub too_long : (carried : FilePath) → carried ≡ path → IfSome before.told (λ held. TooLong ≡ fetched held path most_bytes) → Refuses (λ given. probed given table path) before after table (fault.TooLong carried)
  too_long carried same is = subst (λ p. Refuses (λ given. probed given table path) before after table (fault.TooLong p)) (sym same)
      (refused_by (gives TooLong) (fault.TooLong path) refl (chosen before.told table path TooLong sound (λ bytes at. absurd cc) saw is) tt)

  pub too_many : (bytes : List ℕ) → most_files ≤ length table.files → length bytes ≤ most_bytes → IfSome before.told (λ held. Bytes bytes ≡ fetched held path most_bytes)
      → Refuses (λ given. probed given table path) before after table (fault.TooManyFiles 257)
  too_many bytes full within is = refused_by (gives (Bytes bytes)) (fault.TooManyFiles 257) no_room (chosen before.told table path (Bytes bytes) sound short saw is) tt
    where
      short : IsShort (gives (Bytes bytes))
      short others at = let same : bytes ≡ others = cc in subst (λ (bs : List ℕ). length bs ≤ most_bytes) same within

      no_room : registered table path bytes ≡ ends (paths table ++ path ∷ []) (fault.TooManyFiles 257)
      no_room = ap (λ b. cond b (goes (Some (length table.files)) (with_file table path bytes)) (ends (paths table ++ path ∷ []) (fault.TooManyFiles 257))) (le-ltb (length table.files) most_files full)

  pub read_failed : (carried : FilePath) → carried ≡ path → Refuses (λ given. probed given table path) before after table (fault.FolderFailed carried)
  read_failed carried same = subst (λ p. Refuses (λ given. probed given table path) before after table (fault.FolderFailed p)) (sym same)
      (refused_by fails (fault.FolderFailed path) refl (chosen_failing before.told table path (length (paths table ++ path ∷ [])) count_asked sound saw) (paths table, refl))

-- ---- a probe is answered

pub probe_known : (before : FolderView) (table : ModuleTable) (path : FilePath) (file : Option ℕ) → IsSound table → Saw before.told table → lookup table path ≡ Some file
    → Did (λ given. probed given table path) before before table table file
probe_known before table path file sound saw is = record {
  sound = sound;
  saw = saw;
  is = λ given agrees. probed_known given table path file is;
  keeps = λ given agrees. agrees;
  longer = omega arith;
  counted = counted_none before (length table.probes);
}

-- a new file at a path, or no room for it
pub probe_new : (before after : FolderView) (table new : ModuleTable) (path : FilePath) (bytes : List ℕ) (result : Result (Option ℕ) PackFault) → IsSound table → Saw before.told table → lookup table path ≡ None
    → OnSome before.told (after.reads ≡ one_more before.reads) → length bytes ≤ most_bytes → IfSome before.told (λ held. Bytes bytes ≡ fetched held path most_bytes)
    → IsRegistered table new path bytes result → Answers (λ given. probed given table path) before after table new result
probe_new before after table new path bytes (Ok None) sound saw unseen one within is registered = absurd registered
probe_new before after table new path bytes (Ok (Some number)) sound saw unseen one within is registered =
    subst (λ s. Did (λ given. probed given table path) before after table s (Some number)) (sym registered.2)
    (subst (λ n. Did (λ given. probed given table path) before after table (with_file table path bytes) (Some n)) (sym registered.1) (did_file before after table path sound saw unseen one bytes registered.0 within is))
probe_new before after table new path bytes (Err fault.NoMemory) sound saw unseen one within is registered = tt
probe_new before after table new path bytes (Err fault.BadManifest) sound saw unseen one within is registered = let no = registered.1 in absurd cc
probe_new before after table new path bytes (Err (fault.NoFile p)) sound saw unseen one within is registered = let no = registered.1 in absurd cc
probe_new before after table new path bytes (Err (fault.TooLong p)) sound saw unseen one within is registered = let no = registered.1 in absurd cc
probe_new before after table new path bytes (Err (fault.TooManyFiles count)) sound saw unseen one within is registered =
    subst (λ r. Answers (λ given. probed given table path) before after table new (Err r)) (sym registered.1) (tt, too_many before after table path sound saw unseen one bytes registered.0 within is)
probe_new before after table new path bytes (Err (fault.Text p refusal line)) sound saw unseen one within is registered = let no = registered.1 in absurd cc
probe_new before after table new path bytes (Err (fault.Read p refusal line)) sound saw unseen one within is registered = let no = registered.1 in absurd cc
probe_new before after table new path bytes (Err (fault.Scope p refusal line)) sound saw unseen one within is registered = let no = registered.1 in absurd cc
probe_new before after table new path bytes (Err (fault.FolderFailed p)) sound saw unseen one within is registered = let no = registered.1 in absurd cc
