-- From the manifest on.
use Rattle.std.proofs.Common.{◌≡◌, ℕ, zero, suc, ◌+◌, ◌-◌, ◌^◌, ◌<◌, ◌≤◌, cond, List, [], ◌∷◌, length, refl, sym, ◌∙◌, ap, subst, arith, inl, inr, length-append}
use Rattle.std.specs.Prelude.{◌⊎◌, Option, Some, None, IfSome, OnSome, IfOk, Result, Ok, Err}
use Rattle.std.proofs.lemmas.Bool.{eq-eqb}
use Rattle.mdg_base.specs.Memory.{IsUnlessMemory}
use Rattle.mdg_pack.specs.Answers.{IsDecided, IsWalked, IsSomeWalk, failing_of, TellsLast}
use Rattle.mdg_pack.specs.WalkAnswers.{outcome_of, failing_in, TellsLastIn, LoadedFromEntry, LoadFromEntryAnswer, EntryAnswer, LoadedWithManifest, LoadWithManifestAnswer, Gathered, GatherAnswer}
use Rattle.mdg_pack.specs.Manifest.{Enters, manifest}
use Rattle.mdg_pack.specs.Effects.{FolderView, GivesTold, IsCounted, RoseAt, Stays}
use Rattle.mdg_pack.specs.PackageFiles.{IsPackage}
use Rattle.mdg_pack.specs.Paths.{FilePath}
use Rattle.mdg_pack.specs.Reads.{Reading, gives, fails, Given, later, reads_of, most_bytes, AreShort}
use Rattle.mdg_pack.specs.Walk.{Outcome, Walk, WalkBy, failed_manifest, no_manifest, manifested, Starts}
use Rattle.mdg_pack.specs.declared.fault.PackFault.{PackFault}
use Rattle.mdg_pack.specs.declared.fault.PackFault.TheVariants as fault
use Rattle.mdg_pack.specs.declared.walk.Package.{Package}
use Rattle.mdg_port.specs.Causes.{Rose, Stood, one_more}
use Rattle.mdg_port.specs.Held.{Held}
use Rattle.mdg_port.specs.Reads.{fetched, IsWithin}
use Rattle.mdg_port.specs.declared.folder.Fetched.{Fetched}
use Rattle.mdg_port.specs.declared.folder.Fetched.TheVariants.{Absent, TooLong, Bytes}
use Rattle.mdg_profile.specs.declared.entry.Profile.{Profile}
use Rattle.mdg_pack.proofs.EffectLemmas.{unless_memory, or_memory, for_memory, rose_later}
use Rattle.mdg_pack.proofs.ProbeLemmas.{counted_one}
use Rattle.mdg_pack.proofs.OneWalk.{one_walk_by}
use Rattle.mdg_pack.proofs.PackageLemmas.{is_package}
use Rattle.mdg_pack.proofs.TableLemmas.{other_number, short_told}

-- ---- what the manifest gives

enters_err : (read : Fetched) (refusal : PackFault) → Enters read (Err refusal) → (refusal ≡ fault.TooLong manifest) ⊎ (refusal ≡ fault.BadManifest)
enters_err Absent refusal is = absurd is
enters_err TooLong refusal is = inl is
enters_err (Bytes bytes) refusal is = inr is.0

pub entered_refused : (profile : Profile) (read : Fetched) (now : FolderView) (refusal : PackFault) → EntryAnswer read (Err refusal) → LoadWithManifestAnswer profile read now now (Err refusal)
entered_refused profile read now refusal (inl memory) = inl memory
entered_refused profile read now refusal (inr is) = inr (inl (is, refl))

pub entered_later : (profile : Profile) (read : Fetched) (before after : FolderView) (entry shown : List FilePath) (refusal : PackFault) → shown ≡ entry → EntryAnswer read (Ok entry) → LoadFromEntryAnswer profile shown before after (Err refusal) → LoadWithManifestAnswer profile read before after (Err refusal)
entered_later profile read before after entry shown refusal same enters is =
    by (or_memory refusal (RoseAt refusal before.faults after.faults × LoadedFromEntry profile entry before after (Err refusal)) (subst (λ e. LoadFromEntryAnswer profile e before after (Err refusal)) same is))
  where
    by : (refusal ≡ fault.NoMemory) ⊎ (RoseAt refusal before.faults after.faults × LoadedFromEntry profile entry before after (Err refusal)) → LoadWithManifestAnswer profile read before after (Err refusal)
    by (inl memory) = inl memory
    by (inr both) = inr (inr (record { entry = entry; enters = enters; rose = both.0; loaded_from_entry = both.1 }))

pub entered_whole : (profile : Profile) (read : Fetched) (before after : FolderView) (entry shown : List FilePath) (whole : Package) → shown ≡ entry → EntryAnswer read (Ok entry) → LoadedFromEntry profile shown before after (Ok whole) → LoadedWithManifest profile read before after whole
entered_whole profile read before after entry shown whole same enters is = record { entry = entry; enters = enters; loaded_from_entry = subst (λ e. LoadedFromEntry profile e before after (Ok whole)) same is }

-- ---- which read failed

failing_same : (result : Result Package PackFault) (asked : List FilePath) → failing_in result asked ≡ failing_of result (manifest ∷ asked)
failing_same (Ok whole) asked = refl
failing_same (Err (fault.FolderFailed path)) asked = ap Some (omega arith)
failing_same (Err fault.NoMemory) asked = refl
failing_same (Err fault.BadManifest) asked = refl
failing_same (Err (fault.NoFile path)) asked = refl
failing_same (Err (fault.TooLong path)) asked = refl
failing_same (Err (fault.TooManyFiles count)) asked = refl
failing_same (Err (fault.Text path refusal line)) asked = refl
failing_same (Err (fault.Read path refusal line)) asked = refl
failing_same (Err (fault.Scope path refusal line)) asked = refl

last_same : (result : Result Package PackFault) (asked : List FilePath) → TellsLastIn result asked → TellsLast result (manifest ∷ asked)
last_same (Ok whole) asked is = tt
last_same (Err (fault.FolderFailed path)) asked is = (manifest ∷ is.0, ap (λ xs. manifest ∷ xs) is.1)
last_same (Err fault.NoMemory) asked is = tt
last_same (Err fault.BadManifest) asked is = tt
last_same (Err (fault.NoFile path)) asked is = tt
last_same (Err (fault.TooLong path)) asked is = tt
last_same (Err (fault.TooManyFiles count)) asked is = tt
last_same (Err (fault.Text path refusal line)) asked is = tt
last_same (Err (fault.Read path refusal line)) asked is = tt
last_same (Err (fault.Scope path refusal line)) asked is = tt

-- a read after that of the manifest
failing_later : (result : Result Package PackFault) (asked : List FilePath) → TellsLastIn result asked → (k : ℕ) → failing_of result (manifest ∷ asked) ≡ Some k → 0 < k
failing_later (Ok whole) asked is k at = absurd cc
failing_later (Err (fault.FolderFailed path)) asked is k at =
    let size : length asked ≡ length is.0 + 1 = ap (λ (xs : List FilePath). length xs) is.1 ∙ length-append is.0 (path ∷ []) in
    let same : length (manifest ∷ asked) - 1 ≡ k = cc in
    omega (arith, size, same)
failing_later (Err fault.NoMemory) asked is k at = absurd cc
failing_later (Err fault.BadManifest) asked is k at = absurd cc
failing_later (Err (fault.NoFile path)) asked is k at = absurd cc
failing_later (Err (fault.TooLong path)) asked is k at = absurd cc
failing_later (Err (fault.TooManyFiles count)) asked is k at = absurd cc
failing_later (Err (fault.Text path refusal line)) asked is k at = absurd cc
failing_later (Err (fault.Read path refusal line)) asked is k at = absurd cc
failing_later (Err (fault.Scope path refusal line)) asked is k at = absurd cc

-- where no count of faults rose, no read failed
none_failing : (refusal : PackFault) (before after : ℕ) (asked : List FilePath) → RoseAt refusal before after → Stood before after → failing_of (Err refusal) asked ≡ None
none_failing (fault.FolderFailed path) before after asked rose stood = absurd (omega arith)
none_failing fault.NoMemory before after asked rose stood = refl
none_failing fault.BadManifest before after asked rose stood = refl
none_failing (fault.NoFile path) before after asked rose stood = refl
none_failing (fault.TooLong path) before after asked rose stood = refl
none_failing (fault.TooManyFiles count) before after asked rose stood = refl
none_failing (fault.Text path refusal line) before after asked rose stood = refl
none_failing (fault.Read path refusal line) before after asked rose stood = refl
none_failing (fault.Scope path refusal line) before after asked rose stood = refl

-- ---- the whole walk

-- this at the first read, and these at the reads after it
abbrev with_first : Reading → Given → Given
with_first reading given zero path = reading
with_first reading given (suc number) path = given number path

-- the first read of a folder, where a later one fails, or none
first_read : (held : Held) (read : Fetched) (failing : Option ℕ) → ((k : ℕ) → failing ≡ Some k → 0 < k) → read ≡ fetched held manifest most_bytes → reads_of held failing 0 manifest ≡ gives read
first_read held read None past is = ap gives (sym is)
first_read held read (Some k) past is = ap (λ b. cond b fails (gives (fetched held manifest most_bytes))) (other_number 0 k (past k refl)) ∙ ap gives (sym is)

short_read : (read : Fetched) → IsWithin most_bytes read → (bytes : List ℕ) → gives read ≡ gives (Bytes bytes) → length bytes ≤ most_bytes
short_read Absent within bytes is = absurd cc
short_read TooLong within bytes is = absurd cc
short_read (Bytes whole) within bytes is = let same : whole ≡ bytes = cc in subst (λ (bs : List ℕ). length bs ≤ most_bytes) same within

-- reads of the whole walk that have this outcome
record Made (profile : Profile) (told : Option Held) (result : Result Package PackFault) (asked : List FilePath) : Type 0 where
  pub given : Given
  pub short : AreShort given
  pub is_told : IfSome told (λ held. given ≡ reads_of held (failing_of result asked))
  pub walk : WalkBy given profile (outcome_of asked result)

module _ (profile : Profile) (before mid after : FolderView) (read : Fetched) (stays : Stays before mid) (one : OnSome before.told (mid.reads ≡ one_more before.reads))
    (within : IsWithin most_bytes read) (read_told : IfSome before.told (λ held. read ≡ fetched held manifest most_bytes)) where
  count_more : (asked : List FilePath) → IsCounted mid after 0 (length asked) → IsCounted before after 0 (length (manifest ∷ asked))
  count_more asked counted = by before.told one (subst (λ o. IfSome o (λ held. after.reads < 2 ^ 64 - 1 → (mid.reads ≤ after.reads) × (after.reads + 0 ≡ mid.reads + length asked))) stays.held counted)
    where
      by : (told : Option Held) → OnSome told (mid.reads ≡ one_more before.reads) → IfSome told (λ held. after.reads < 2 ^ 64 - 1 → (mid.reads ≤ after.reads) × (after.reads + 0 ≡ mid.reads + length asked))
          → IfSome told (λ held. after.reads < 2 ^ 64 - 1 → (before.reads ≤ after.reads) × (after.reads + 0 ≡ before.reads + suc (length asked)))
      by None is then = tt
      by (Some held) is then = λ below. let more = then below in (omega (arith, more.0), omega (arith, more.0, more.1))

  made_by : (entry : List FilePath) (result : Result Package PackFault) (asked : List FilePath) (given : Given) → Enters read (Ok entry) → AreShort given → TellsLastIn result asked → Starts given profile entry (outcome_of asked result)
      → (told : Option Held) → IfSome told (λ held. read ≡ fetched held manifest most_bytes) → GivesTold told (failing_in result asked) given → Made profile told result (manifest ∷ asked)
  made_by entry result asked given enters short last starts None read_is given_is = record {
    given = with_first (gives read) given;
    short = short_first;
    is_told = tt;
    walk = manifested read entry refl enters starts;
  }
    where
      short_first : AreShort (with_first (gives read) given)
      short_first zero path bytes is = short_read read within bytes is
      short_first (suc number) path bytes is = short number path bytes is
  made_by entry result asked given enters short last starts (Some held) read_is given_is =
      let failing = failing_of result (manifest ∷ asked) in
      let same : given ≡ later (reads_of held failing) = subst (λ (f : Option ℕ). given ≡ later (reads_of held f)) (failing_same result asked) given_is in
      record {
        given = reads_of held failing;
        short = short_told held failing;
        is_told = refl;
        walk = manifested read entry (first_read held read failing (failing_later result asked last) read_is) enters (subst (λ g. Starts g profile entry (outcome_of asked result)) same starts);
      }

  walked_by : (entry : List FilePath) (result : Result Package PackFault) → Enters read (Ok entry) → LoadedFromEntry profile entry mid after result → Gathered profile before after result
  walked_by entry result enters is =
      let made = made_by entry result is.asked is.given enters is.short is.last is.starts before.told read_told (subst (λ o. GivesTold o (failing_in result is.asked) is.given) stays.held is.told) in
      record {
        given = made.given;
        short = made.short;
        asked = manifest ∷ is.asked;
        told = made.is_told;
        walk = made.walk;
        last = last_same result is.asked is.last;
        counted = count_more is.asked is.counted;
      }

  -- the manifest is refused, by a refusal that is no failed read
  refused_made : (refusal : PackFault) → failing_of (Err refusal) (manifest ∷ []) ≡ None → Enters read (Err refusal) → (told : Option Held) → IfSome told (λ held. read ≡ fetched held manifest most_bytes) → Made profile told (Err refusal) (manifest ∷ [])
  refused_made refusal none enters None read_is = record { given = λ number path. gives read; short = λ number path bytes is. short_read read within bytes is; is_told = tt; walk = no_manifest read refl enters }
  refused_made refusal none enters (Some held) read_is = record {
    given = reads_of held None;
    short = short_told held None;
    is_told = ap (reads_of held) (sym none);
    walk = no_manifest read (ap gives (sym read_is)) enters;
  }

  manifest_refused : (refusal : PackFault) → failing_of (Err refusal) (manifest ∷ []) ≡ None → TellsLast (Err refusal) (manifest ∷ []) → Enters read (Err refusal) → after ≡ mid → Gathered profile before after (Err refusal)
  manifest_refused refusal none last enters same =
      let made = refused_made refusal none enters before.told read_told in
      record {
        given = made.given;
        short = made.short;
        asked = manifest ∷ [];
        told = made.is_told;
        walk = made.walk;
        last = last;
        counted = subst (λ o. IsCounted before o 0 1) (sym same) (counted_one before mid 0 1 one (omega arith));
      }

  pub loaded_by : (result : Result Package PackFault) → LoadWithManifestAnswer profile read mid after result → GatherAnswer profile before after result
  loaded_by (Ok whole) is = walked_by is.entry (Ok whole) is.enters is.loaded_from_entry
  loaded_by (Err refusal) (inl memory) = for_memory refusal (RoseAt refusal before.faults after.faults × Gathered profile before after (Err refusal)) memory
  loaded_by (Err refusal) (inr (inr is)) =
      unless_memory refusal (RoseAt refusal before.faults after.faults × Gathered profile before after (Err refusal)) (rose_later refusal before mid after stays is.rose, walked_by is.entry (Err refusal) is.enters is.loaded_from_entry)
  loaded_by (Err refusal) (inr (inl is)) = by (enters_err read refusal is.0)
    where
      by : (refusal ≡ fault.TooLong manifest) ⊎ (refusal ≡ fault.BadManifest) → GatherAnswer profile before after (Err refusal)
      by (inl same) = subst (λ r. GatherAnswer profile before after (Err r)) (sym same) (tt, manifest_refused (fault.TooLong manifest) refl tt (subst (λ r. Enters read (Err r)) same is.0) is.1)
      by (inr same) = subst (λ r. GatherAnswer profile before after (Err r)) (sym same) (tt, manifest_refused fault.BadManifest refl tt (subst (λ r. Enters read (Err r)) same is.0) is.1)

-- the read of the manifest failed
failed_made : (profile : Profile) (told : Option Held) → Made profile told (Err (fault.FolderFailed manifest)) (manifest ∷ [])
failed_made profile None = record { given = λ number path. fails; short = λ number path bytes is. absurd cc; is_told = tt; walk = failed_manifest refl }
failed_made profile (Some held) = record {
  given = reads_of held (Some 0);
  short = short_told held (Some 0);
  is_told = refl;
  walk = failed_manifest (ap (λ b. cond b fails (gives (fetched held manifest most_bytes))) (eq-eqb 0 0 refl));
}

pub manifest_failed : (profile : Profile) (before after : FolderView) (path : FilePath) → path ≡ manifest → Rose before.faults after.faults → OnSome before.told (after.reads ≡ one_more before.reads) → GatherAnswer profile before after (Err (fault.FolderFailed path))
manifest_failed profile before after path is rose one =
    let made = failed_made profile before.told in
    subst (λ p. GatherAnswer profile before after (Err (fault.FolderFailed p))) (sym is) (
      rose,
      record {
        given = made.given;
        short = made.short;
        asked = manifest ∷ [];
        told = made.is_told;
        walk = made.walk;
        last = ([], refl);
        counted = counted_one before after 0 1 one (omega arith);
      },
    )

-- ---- what the whole call says

module _ (profile : Profile) (before after : FolderView) where
  decided_memory : (refusal : PackFault) → refusal ≡ fault.NoMemory → IsDecided (Err refusal) → ⊥
  decided_memory refusal is decided = subst (λ r. IsDecided (Err r)) is decided

  some_walk_of : (result : Result Package PackFault) → Gathered profile before after result → IsSomeWalk profile result
  some_walk_of result is = record { given = is.given; short = is.short; asked = is.asked; walk = is.walk; last = is.last }

  pub some_walk : (result : Result Package PackFault) → GatherAnswer profile before after result → IsDecided result → IsSomeWalk profile result
  some_walk (Ok whole) is decided = some_walk_of (Ok whole) is
  some_walk (Err refusal) is decided = by (or_memory refusal (RoseAt refusal before.faults after.faults × Gathered profile before after (Err refusal)) is)
    where
      by : (refusal ≡ fault.NoMemory) ⊎ (RoseAt refusal before.faults after.faults × Gathered profile before after (Err refusal)) → IsSomeWalk profile (Err refusal)
      by (inl memory) = absurd (decided_memory refusal memory decided)
      by (inr both) = some_walk_of (Err refusal) both.1

  walked_of : (result : Result Package PackFault) → Gathered profile before after result → IfSome before.told (λ held. IsDecided result → IsWalked held profile before.reads after.reads result)
  walked_of result is = by before.told is.told is.counted
    where
      by : (told : Option Held) → IfSome told (λ held. is.given ≡ reads_of held (failing_of result is.asked))
          → IfSome told (λ held. after.reads < 2 ^ 64 - 1 → (before.reads ≤ after.reads) × (after.reads + 0 ≡ before.reads + length is.asked)) → IfSome told (λ held. IsDecided result → IsWalked held profile before.reads after.reads result)
      by None given_is counted = tt
      by (Some held) given_is counted = λ decided. record {
        asked = is.asked;
        walk = subst (λ g. WalkBy g profile (outcome_of is.asked result)) given_is is.walk;
        last = is.last;
        counted = λ below. (let both = counted below in omega (arith, both.1));
      }

  none_walked : (result : Result Package PackFault) → (IsDecided result → ⊥) → IfSome before.told (λ held. IsDecided result → IsWalked held profile before.reads after.reads result)
  none_walked result not = by before.told
    where
      by : (told : Option Held) → IfSome told (λ held. IsDecided result → IsWalked held profile before.reads after.reads result)
      by None = tt
      by (Some held) = λ decided. absurd (not decided)

  pub walked : (result : Result Package PackFault) → GatherAnswer profile before after result → IfSome before.told (λ held. IsDecided result → IsWalked held profile before.reads after.reads result)
  walked (Ok whole) is = walked_of (Ok whole) is
  walked (Err refusal) is = by (or_memory refusal (RoseAt refusal before.faults after.faults × Gathered profile before after (Err refusal)) is)
    where
      by : (refusal ≡ fault.NoMemory) ⊎ (RoseAt refusal before.faults after.faults × Gathered profile before after (Err refusal)) → IfSome before.told (λ held. IsDecided (Err refusal) → IsWalked held profile before.reads after.reads (Err refusal))
      by (inl memory) = none_walked (Err refusal) (decided_memory refusal memory)
      by (inr both) = walked_of (Err refusal) both.1

  decided : (result : Result Package PackFault) → (Stood before.faults after.faults → (asked : List FilePath) → failing_of result asked ≡ None) → Gathered profile before after result
      → IfSome before.told (λ held. (outcome : Outcome) → Walk held profile None outcome → Stood before.faults after.faults → IsUnlessMemory fault.NoMemory result outcome.result)
  decided result none is = by before.told is.told
    where
      by : (told : Option Held) → IfSome told (λ held. is.given ≡ reads_of held (failing_of result is.asked)) → IfSome told (λ held. (outcome : Outcome) → Walk held profile None outcome → Stood before.faults after.faults → IsUnlessMemory fault.NoMemory result outcome.result)
      by None given_is = tt
      by (Some held) given_is = λ outcome walk stood.
          let given_same : is.given ≡ reads_of held None = given_is ∙ ap (reads_of held) (none stood is.asked) in
          let mine : Walk held profile None (outcome_of is.asked result) = subst (λ g. WalkBy g profile (outcome_of is.asked result)) given_same is.walk in
          inl (ap (λ (o : Outcome). o.result) (one_walk_by (reads_of held None) profile (outcome_of is.asked result) outcome mine walk))

  memory_answered : (refusal : PackFault) → refusal ≡ fault.NoMemory → IfSome before.told (λ held. (outcome : Outcome) → Walk held profile None outcome → Stood before.faults after.faults → IsUnlessMemory fault.NoMemory (Err refusal) outcome.result)
  memory_answered refusal is = by before.told
    where
      by : (told : Option Held) → IfSome told (λ held. (outcome : Outcome) → Walk held profile None outcome → Stood before.faults after.faults → IsUnlessMemory fault.NoMemory (Err refusal) outcome.result)
      by None = tt
      by (Some held) = λ outcome walk stood. inr (ap Err is)

  pub answered : (result : Result Package PackFault) → GatherAnswer profile before after result → IfSome before.told (λ held. (outcome : Outcome) → Walk held profile None outcome → Stood before.faults after.faults → IsUnlessMemory fault.NoMemory result outcome.result)
  answered (Ok whole) is = decided (Ok whole) (λ stood asked. refl) is
  answered (Err refusal) is = by (or_memory refusal (RoseAt refusal before.faults after.faults × Gathered profile before after (Err refusal)) is)
    where
      by : (refusal ≡ fault.NoMemory) ⊎ (RoseAt refusal before.faults after.faults × Gathered profile before after (Err refusal))
          → IfSome before.told (λ held. (outcome : Outcome) → Walk held profile None outcome → Stood before.faults after.faults → IsUnlessMemory fault.NoMemory (Err refusal) outcome.result)
      by (inl memory) = memory_answered refusal memory
      by (inr both) = decided (Err refusal) (λ stood asked. none_failing refusal before.faults after.faults asked both.0 stood) both.1

  pub rose_where : (result : Result Package PackFault) → GatherAnswer profile before after result → (path : FilePath) → result ≡ Err (fault.FolderFailed path) → Rose before.faults after.faults
  rose_where result is path same = let both = subst (λ r. GatherAnswer profile before after r) same is in both.0

  pub packaged : (result : Result Package PackFault) → GatherAnswer profile before after result → IfOk result (λ whole. IsPackage profile whole)
  packaged (Ok whole) is = is_package profile whole (some_walk_of (Ok whole) is)
  packaged (Err refusal) is = tt

pub one_outcome : (held : Held) (profile : Profile) (failing : Option ℕ) (one other : Outcome) → Walk held profile failing one → Walk held profile failing other → one ≡ other
one_outcome held profile failing one other walk other_walk = one_walk_by (reads_of held failing) profile one other walk other_walk
