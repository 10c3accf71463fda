-- From the entry on.
use Rattle.std.proofs.Common.{◌≡◌, ℕ, List, length, sym, subst}
use Rattle.std.specs.Prelude.{Option, Some, None, Result, Ok, Err}
use Rattle.mdg_port.specs.Held.{Held}
use Rattle.mdg_port.specs.declared.folder.Fetched.{Fetched}
use Rattle.mdg_port.specs.declared.folder.Fetched.TheVariants.{Bytes}
use Rattle.mdg_pack.specs.Entry.{ManifestAnswer}
use Rattle.mdg_pack.specs.ModuleResolution.{resolved}
use Rattle.mdg_pack.specs.ModuleTable.{empty_table}
use Rattle.mdg_pack.specs.WalkAnswers.{LoadedAll, LoadAllAnswer, LoadedFromEntry, LoadFromEntryAnswer, EntryAnswer, failing_in}
use Rattle.mdg_pack.specs.Effects.{FolderView, Agrees, Saw, GivesTold, Did, Refuses, RoseAt, RefusesUnlessMemory, Stays}
use Rattle.mdg_pack.specs.Paths.{FilePath}
use Rattle.mdg_pack.specs.Reads.{Given, later, reads_of}
use Rattle.mdg_pack.specs.Walk.{no_entry, entered}
use Rattle.mdg_pack.specs.declared.fault.PackFault.{PackFault}
use Rattle.mdg_pack.specs.declared.module_table.ModuleTable.{ModuleTable}
use Rattle.mdg_pack.specs.declared.walk.Package.{Package}
use Rattle.mdg_profile.specs.declared.entry.Profile.{Profile}
use Rattle.mdg_scope.specs.declared.bound.Bound.{Bound}
use Rattle.mdg_pack.proofs.EffectLemmas.{counted_then, rose_later, map_cause}

agrees_none : (given : Given) → Agrees given empty_table
agrees_none given = record { at = λ number one is. absurd cc }

module _ (profile : Profile) (entry : List FilePath) (before : FolderView) where
  -- the entry isn't found
  entry_refused : (after : FolderView) (refusal : PackFault) → RefusesUnlessMemory (λ given. resolved given entry empty_table) before after empty_table refusal → LoadFromEntryAnswer profile entry before after (Err refusal)
  entry_refused after refusal refuses =
      map_cause refusal (RoseAt refusal before.faults after.faults × Refuses (λ given. resolved given entry empty_table) before after empty_table refusal)
      (RoseAt refusal before.faults after.faults × LoadedFromEntry profile entry before after (Err refusal)) (λ is. (
        is.0,
        record {
          given = is.1.given;
          short = is.1.short;
          asked = is.1.asked;
          told = is.1.told;
          starts = no_entry is.1.is;
          last = is.1.last;
          counted = is.1.counted;
        },
      )) refuses

  -- the entry is found
  module _ (now after : FolderView) (table : ModuleTable) (number : ℕ) (stays : Stays before now) (did : Did (λ given. resolved given entry empty_table) before now empty_table table number) where
    loaded_from_entry : (result : Result Package PackFault) → LoadedAll profile now after table result → LoadedFromEntry profile entry before after result
    loaded_from_entry result is = record {
      given = is.given;
      short = is.short;
      asked = is.asked;
      told = subst (λ o. GivesTold o (failing_in result is.asked) is.given) stays.held is.told;
      starts = entered number table (did.is is.given is.agrees) is.walks;
      last = is.last;
      counted = counted_then before now after 0 (length table.probes) (length is.asked) stays did.counted is.counted;
    }

    entry_loaded : (result : Result (List Bound) PackFault) → LoadAllAnswer profile now after table result → LoadFromEntryAnswer profile entry before after result
    entry_loaded (Ok files) is = loaded_from_entry (Ok (record { files = files })) is
    entry_loaded (Err refusal) is =
        map_cause refusal (RoseAt refusal now.faults after.faults × LoadedAll profile now after table (Err refusal)) (RoseAt refusal before.faults after.faults × LoadedFromEntry profile entry before after (Err refusal))
        (λ both. (rose_later refusal before now after stays both.0, loaded_from_entry (Err refusal) both.1)) is

-- what a read of the manifest gives
pub entry_read : (bytes shown : List ℕ) (read : Fetched) (result : Result (List FilePath) PackFault) → shown ≡ bytes → read ≡ Bytes bytes → ManifestAnswer shown result → EntryAnswer read result
entry_read bytes shown read (Ok entry) same is answer = subst (λ r. EntryAnswer r (Ok entry)) (sym is) (subst (λ b. ManifestAnswer b (Ok entry)) same answer)
entry_read bytes shown read (Err refusal) same is answer = subst (λ r. EntryAnswer r (Err refusal)) (sym is) (subst (λ b. ManifestAnswer b (Err refusal)) same answer)

pub entry_refused_at : (profile : Profile) (entry : List FilePath) (before after : FolderView) (first : ModuleTable) → first ≡ empty_table → (refusal : PackFault) → RefusesUnlessMemory (λ given. resolved given entry first) before after first refusal → LoadFromEntryAnswer profile entry before after (Err refusal)
entry_refused_at profile entry before after first is refusal refuses = entry_refused profile entry before after refusal (subst (λ s. RefusesUnlessMemory (λ given. resolved given entry s) before after s refusal) is refuses)

pub entry_loaded_at : (profile : Profile) (entry : List FilePath) (before now after : FolderView) (first : ModuleTable) → first ≡ empty_table → (table : ModuleTable) (number : ℕ) → Stays before now → Did (λ given. resolved given entry first) before now first table number
    → (result : Result (List Bound) PackFault) → LoadAllAnswer profile now after table result → LoadFromEntryAnswer profile entry before after result
entry_loaded_at profile entry before now after first is table number stays did result answer =
    entry_loaded profile entry before now after table number stays (subst (λ s. Did (λ given. resolved given entry s) before now s table number) is did) result answer

-- nothing was read
pub saw_none : (told : Option Held) → Saw told empty_table
saw_none None = tt
saw_none (Some held) = agrees_none (later (reads_of held None))
