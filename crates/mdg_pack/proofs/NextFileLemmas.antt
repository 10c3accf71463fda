-- A file is loaded, and its requires are resolved.
use Rattle.std.proofs.Common.{◌≡◌, ℕ, ◌<◌, List, [], length, get_or, sym, ◌∙◌, ap, ap₂, inl, inr}
use Rattle.std.specs.Prelude.{◌⊎◌, Some, slice_get, Ok, Err}
use Rattle.std.proofs.lemmas.Option.{slice_get-get_or}
use Rattle.mdg_pack.specs.RequireGoals.{resolved_requires, resolved_requires_of}
use Rattle.mdg_pack.specs.Reads.{Given}
use Rattle.mdg_pack.specs.WalkAnswers.{LoadedNext, LoadNextAnswer}
use Rattle.mdg_pack.specs.Load.{Loads}
use Rattle.mdg_pack.specs.Effects.{FolderView, Refuses, RoseAt, RefusesUnlessMemory, Answers}
use Rattle.mdg_base.specs.Segments.{folder_of}
use Rattle.mdg_pack.specs.Paths.{FilePath}
use Rattle.mdg_pack.specs.Walk.{with_required}
use Rattle.mdg_pack.specs.declared.fault.PackFault.{PackFault}
use Rattle.mdg_pack.specs.declared.fault.PackFault.TheVariants as fault
use Rattle.mdg_pack.specs.declared.module_table.SourceFile.{SourceFile}
use Rattle.mdg_pack.specs.declared.module_table.ModuleTable.{ModuleTable}
use Rattle.mdg_profile.specs.declared.entry.Profile.{Profile}
use Rattle.mdg_scope.specs.declared.bound.Bound.{Bound}
use Rattle.mdg_scope.specs.declared.bound.Require.{Require}
use Rattle.mdg_pack.proofs.EffectLemmas.{answers_same, or_memory}

module _ (profile : Profile) (number : ℕ) (before after : FolderView) (old new : ModuleTable) (files : List SourceFile) (files_are : files ≡ old.files) (inside : number < length old.files) (file : SourceFile) (file_is : file ≡ get_or files number file) where
  at_number : slice_get old.files number ≡ Some file
  at_number = slice_get-get_or old.files number file inside ∙ ap (λ xs. Some (get_or xs number file)) (sym files_are) ∙ ap Some (sym file_is)

  module _ (bound : Bound) (loads : Loads profile file.path file.bytes (Ok bound)) (path : FilePath) (path_is : path ≡ bound.path) (required : List Require) (required_are : required ≡ bound.required) where
    same_run : (given : Given) → resolved_requires_of given bound old ≡ resolved_requires given (folder_of path) [] required old
    same_run given = ap₂ (λ p rs. resolved_requires given (folder_of p) [] rs old) (sym path_is) (sym required_are)

    pub next_loaded : (resolved : List Require) (made : Bound) → made ≡ with_required bound resolved → Answers (λ given. resolved_requires given (folder_of path) [] required old) before after old new (Ok resolved) → LoadedNext profile number before after old new made
    next_loaded resolved made made_is answers = record {
      file = file;
      at = at_number;
      bound = bound;
      loads = loads;
      required = resolved;
      did = answers_same (λ given. resolved_requires given (folder_of path) [] required old) (λ given. resolved_requires_of given bound old) before after old new (Ok resolved) same_run answers;
      made_is = made_is;
    }

    pub next_stopped : (refusal : PackFault) → RefusesUnlessMemory (λ given. resolved_requires given (folder_of path) [] required old) before after old refusal → LoadNextAnswer profile number before after old new (Err refusal)
    next_stopped refusal refuses = by (or_memory refusal (RoseAt refusal before.faults after.faults × Refuses (λ given. resolved_requires_of given bound old) before after old refusal)
        (answers_same (λ given. resolved_requires given (folder_of path) [] required old) (λ given. resolved_requires_of given bound old) before after old new (Err refusal) same_run refuses))
      where
        by : (refusal ≡ fault.NoMemory) ⊎ (RoseAt refusal before.faults after.faults × Refuses (λ given. resolved_requires_of given bound old) before after old refusal) → LoadNextAnswer profile number before after old new (Err refusal)
        by (inl memory) = inl memory
        by (inr is) = inr (inr (record { file = file; at = at_number; bound = bound; loads = loads; rose = is.0; refuses = is.1 }))
