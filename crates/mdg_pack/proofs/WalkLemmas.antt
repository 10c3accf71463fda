-- How the walk over the files goes on.
use Rattle.std.proofs.Common.{◌≡◌, ℕ, ◌≤◌, List, [], ◌∷◌, ◌++◌, length, refl, sym, ◌∙◌, ap, subst, inl, inr}
use Rattle.std.specs.Prelude.{Option, Some, None, slice_get, Result, Ok, Err}
use Rattle.std.proofs.lemmas.List.{length-map}
use Rattle.std.proofs.lemmas.Option.{slice_get_past}
use Rattle.mdg_pack.specs.ModuleResolution.{goes}
use Rattle.mdg_pack.specs.ModuleTable.{paths}
use Rattle.mdg_pack.specs.RequireGoals.{resolved_requires_of}
use Rattle.mdg_pack.specs.WalkAnswers.{LoadedNext, Unread, Stopped, LoadNextAnswer, LoadedAll, LoadAllAnswer, LoadsOn}
use Rattle.mdg_pack.specs.Load.{Loads, LoadsFile, no_tokens, no_tree, no_bindings}
use Rattle.mdg_pack.specs.Effects.{FolderView, IsSound, Saw, GivesTold, IsCounted, RoseAt, Stays, failing_at, TellsLastOf}
use Rattle.mdg_pack.specs.Paths.{FilePath}
use Rattle.mdg_pack.specs.Reads.{Given}
use Rattle.mdg_pack.specs.Walk.{Outcome, refused, packed, Walks, finished, unread, stopped, further, with_required}
use Rattle.mdg_pack.specs.declared.fault.PackFault.{PackFault}
use Rattle.mdg_pack.specs.declared.module_table.SourceFile.{SourceFile}
use Rattle.mdg_pack.specs.declared.module_table.ModuleTable.{ModuleTable}
use Rattle.mdg_profile.specs.declared.entry.Profile.{Profile}
use Rattle.mdg_scope.specs.declared.bound.Bound.{Bound}
use Rattle.mdg_scope.specs.declared.bound.Require.{Require}
use Rattle.mdg_pack.proofs.TableLemmas.{chosen_known}
use Rattle.mdg_pack.proofs.EffectLemmas.{stays_then, counted_then, counted_none, saw_before, rose_later, unless_memory, for_memory}
use Rattle.mdg_pack.proofs.ResolutionLemmas.{stays_same}
use Rattle.mdg_pack.proofs.OneLoad.{one_load}

-- ---- a file that is refused

-- no read failed
record IsOwnRefusal (refusal : PackFault) : Type 0 where
  pub failing : (asked : List FilePath) → failing_at refusal asked ≡ None
  pub last : (asked : List FilePath) → TellsLastOf refusal asked
  pub rose : (before after : ℕ) → RoseAt refusal before after

own_refusal : (profile : Profile) (file : FilePath) (bytes : List ℕ) (r : Result Bound PackFault) (refusal : PackFault) → Loads profile file bytes r → r ≡ Err refusal → IsOwnRefusal refusal
own_refusal profile file bytes (Err x) refusal (no_tokens i p) is =
    let same : x ≡ refusal = cc in subst IsOwnRefusal same (record { failing = λ asked. refl; last = λ asked. tt; rose = λ before after. tt })
own_refusal profile file bytes (Err x) refusal (no_tree ts p i f) is =
    let same : x ≡ refusal = cc in subst IsOwnRefusal same (record { failing = λ asked. refl; last = λ asked. tt; rose = λ before after. tt })
own_refusal profile file bytes (Err x) refusal (no_bindings ts t p f i y) is =
    let same : x ≡ refusal = cc in subst IsOwnRefusal same (record { failing = λ asked. refl; last = λ asked. tt; rose = λ before after. tt })
own_refusal profile file bytes (Ok x) refusal l is = absurd cc

-- ---- one file

module _ (given : Given) (profile : Profile) where
  module _ (table : ModuleTable) (done : List Bound) (file : SourceFile) (at : slice_get table.files (length done) ≡ Some file) (bound : Bound) (loads : LoadsFile profile file (Ok bound)) where
    same_file : (other : SourceFile) → slice_get table.files (length done) ≡ Some other → other ≡ file
    same_file other there = let both = sym there ∙ at in cc

    pub same_load : (other : SourceFile) (r : Result Bound PackFault) → slice_get table.files (length done) ≡ Some other → LoadsFile profile other r → r ≡ Ok bound
    same_load other r there is = one_load profile file.path file.bytes r (Ok bound) (subst (λ (f : SourceFile). LoadsFile profile f r) (same_file other there) is) loads

    same_bound : (other : SourceFile) (b : Bound) → slice_get table.files (length done) ≡ Some other → LoadsFile profile other (Ok b) → b ≡ bound
    same_bound other b there is = let same = same_load other (Ok b) there is in cc

    -- the walk goes on after the next file
    pub next_loads : (required : List Require) (after : ModuleTable) → resolved_requires_of given bound table ≡ goes required after → (outcome : Outcome) → Walks given profile table done outcome → Walks given profile after (done ++ with_required bound required ∷ []) outcome
    next_loads required after goes_on outcome (finished none) = let no = sym none ∙ at in absurd cc
    next_loads required after goes_on outcome (unread other {refusal = r} there is) = let no = same_load other (Err r) there is in absurd cc
    next_loads required after goes_on outcome (stopped other b {asked = asked} {refusal = r} there is ended) =
        let no = sym goes_on ∙ ap (λ x. resolved_requires_of given x table) (sym (same_bound other b there is)) ∙ ended in absurd cc
    next_loads required after goes_on outcome (further other b required' after' there is went rest) =
        let same = same_bound other b there is in
        let both = sym (ap (λ x. resolved_requires_of given x table) (sym same) ∙ went) ∙ goes_on in
        let requires_same : required' ≡ required = cc in
        let after_same : after' ≡ after = cc in
        subst (λ s. Walks given profile s (done ++ with_required bound required ∷ []) outcome) after_same
        (subst (λ rs. Walks given profile after' (done ++ with_required bound rs ∷ []) outcome) requires_same
        (subst (λ x. Walks given profile after' (done ++ with_required x required' ∷ []) outcome) same rest))

-- ---- the loop

pub loads_begin : (profile : Profile) (before : FolderView) (old : ModuleTable) → IsSound old → Saw before.told old → LoadsOn profile before before old old []
loads_begin profile before old sound saw = record {
  stays = stays_same before;
  sound = sound;
  saw = saw;
  keeps = λ given agrees. agrees;
  back = λ given outcome agrees walks. walks;
  counted = counted_none before (length old.probes);
}

count_paths : (table : ModuleTable) → length (paths table) ≡ length table.probes
count_paths table = length-map table.probes _

module _ (profile : Profile) (before now : FolderView) (old table : ModuleTable) (done : List Bound) (on : LoadsOn profile before now old table done) where
  pub loads_end : length table.files ≤ length done → LoadAllAnswer profile before now old (Ok done)
  loads_end all =
      let choice = chosen_known before.told table on.sound on.saw in
      record {
        given = choice.given;
        short = choice.short;
        asked = paths table;
        told = choice.told_is;
        agrees = on.keeps choice.given choice.agrees;
        walks = on.back choice.given (packed (paths table) done) choice.agrees (finished (slice_get_past table.files (length done) all));
        last = tt;
        counted = subst (λ n. IsCounted before now (length old.probes) n) (sym (count_paths table)) on.counted;
      }

  loads_go : (after : FolderView) (new : ModuleTable) (made : Bound) (more : List Bound) → Stays now after → more ≡ done ++ made ∷ [] → LoadedNext profile (length done) now after table new made → LoadsOn profile before after old new more
  loads_go after new made more stays more_is load_next =
      let did = load_next.did in
      let files = ap (λ x. done ++ x ∷ []) load_next.made_is in
      let same : more ≡ done ++ with_required load_next.bound load_next.required ∷ [] = more_is ∙ files in
      subst (λ xs. LoadsOn profile before after old new xs) (sym same) (record {
        stays = stays_then before now after on.stays stays;
        sound = did.sound;
        saw = saw_before before now new on.stays did.saw;
        keeps = λ given agrees. on.keeps given (did.keeps given agrees);
        back = λ given outcome agrees walks. on.back given outcome (did.keeps given agrees) (further load_next.file load_next.bound load_next.required new load_next.at load_next.loads (did.is given agrees) walks);
        counted = counted_then before now after (length old.probes) (length table.probes) (length new.probes) on.stays on.counted did.counted;
      })

  loads_unread : (after : FolderView) (refusal : PackFault) → Unread profile (length done) now after table refusal → LoadAllAnswer profile before after old (Err refusal)
  loads_unread after refusal is =
      let own = own_refusal profile is.file.path is.file.bytes (Err refusal) refusal is.loads refl in
      let choice = chosen_known before.told table on.sound on.saw in
      let walked : LoadedAll profile before after old (Err refusal) = record {
        given = choice.given;
        short = choice.short;
        asked = paths table;
        told = subst (λ (f : Option ℕ). GivesTold before.told f choice.given) (sym (own.failing (paths table))) choice.told_is;
        agrees = on.keeps choice.given choice.agrees;
        walks = on.back choice.given (refused (paths table) refusal) choice.agrees (unread is.file is.at is.loads);
        last = own.last (paths table);
        counted = subst (λ n. IsCounted before after (length old.probes) n) (sym (count_paths table)) (subst (λ o. IsCounted before o (length old.probes) (length table.probes)) (sym is.same) on.counted);
      } in
      unless_memory refusal (RoseAt refusal before.faults after.faults × LoadedAll profile before after old (Err refusal)) (own.rose before.faults after.faults, walked)

  loads_stopped : (after : FolderView) (refusal : PackFault) → Stopped profile (length done) now after table refusal → LoadAllAnswer profile before after old (Err refusal)
  loads_stopped after refusal is =
      let refuses = is.refuses in
      let walked : LoadedAll profile before after old (Err refusal) = record {
        given = refuses.given;
        short = refuses.short;
        asked = refuses.asked;
        told = subst (λ o. GivesTold o (failing_at refusal refuses.asked) refuses.given) on.stays.held refuses.told;
        agrees = on.keeps refuses.given refuses.agrees;
        walks = on.back refuses.given (refused refuses.asked refusal) refuses.agrees (stopped is.file is.bound is.at is.loads refuses.is);
        last = refuses.last;
        counted = counted_then before now after (length old.probes) (length table.probes) (length refuses.asked) on.stays on.counted refuses.counted;
      } in
      unless_memory refusal (RoseAt refusal before.faults after.faults × LoadedAll profile before after old (Err refusal)) (rose_later refusal before now after on.stays is.rose, walked)

  loads_refused : (after : FolderView) (new : ModuleTable) (refusal : PackFault) → LoadNextAnswer profile (length done) now after table new (Err refusal) → LoadAllAnswer profile before after old (Err refusal)
  loads_refused after new refusal (inl memory) = for_memory refusal (RoseAt refusal before.faults after.faults × LoadedAll profile before after old (Err refusal)) memory
  loads_refused after new refusal (inr (inl is)) = loads_unread after refusal is
  loads_refused after new refusal (inr (inr is)) = loads_stopped after refusal is

  pub loads_refused_at : (number : ℕ) → number ≡ length done → (after : FolderView) (new : ModuleTable) (refusal : PackFault) → LoadNextAnswer profile number now after table new (Err refusal) → LoadAllAnswer profile before after old (Err refusal)
  loads_refused_at number is after new refusal answer = loads_refused after new refusal (subst (λ n. LoadNextAnswer profile n now after table new (Err refusal)) is answer)

  pub loads_go_at : (number : ℕ) → number ≡ length done → (after : FolderView) (new : ModuleTable) (made : Bound) (more : List Bound) → Stays now after → more ≡ done ++ made ∷ [] → LoadedNext profile number now after table new made → LoadsOn profile before after old new more
  loads_go_at number is after new made more stays more_is load_next = loads_go after new made more stays more_is (subst (λ n. LoadedNext profile n now after table new made) is load_next)
