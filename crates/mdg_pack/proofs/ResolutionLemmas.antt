-- How the candidates are tried.
use Rattle.std.proofs.Common.{◌≡◌, ℕ, List, [], ◌∷◌, length, refl, sym, ap, subst, arith}
use Rattle.std.specs.Prelude.{Option, Some, None, Ok, Err}
use Rattle.std.proofs.lemmas.List.{length-map}
use Rattle.mdg_pack.specs.Paths.{FilePath}
use Rattle.mdg_pack.specs.ModuleResolution.{Progress, goes, ends, then_with, probed, resolved, resolved_among, resolved_or, last_candidate}
use Rattle.mdg_pack.specs.ModuleTable.{paths}
use Rattle.mdg_pack.specs.Reads.{Given}
use Rattle.mdg_pack.specs.Effects.{FolderView, IsSound, Saw, IsCounted, Did, Refuses, RefusesUnlessMemory, Answers, Stays, Carries}
use Rattle.mdg_pack.specs.declared.fault.PackFault.{PackFault}
use Rattle.mdg_pack.specs.declared.fault.PackFault.TheVariants as fault
use Rattle.mdg_pack.specs.declared.module_table.ModuleTable.{ModuleTable}
use Rattle.mdg_pack.proofs.TableLemmas.{chosen_known}
use Rattle.mdg_pack.proofs.EffectLemmas.{stays_then, counted_none, saw_before, saw_after, answers_later, answers_refused, answers_same}

pub stays_same : (a : FolderView) → Stays a a
stays_same a = record { held = refl; faults = omega arith }

-- a value at once
pub did_here : {A : Type 0} (now : FolderView) (table : ModuleTable) (value : A) → IsSound table → Saw now.told table → Did (λ given. goes value table) now now table table value
did_here now table value sound saw = record { sound = sound; saw = saw; is = λ given agrees. refl; keeps = λ given agrees. agrees; longer = omega arith; counted = counted_none now (length table.probes) }

-- the refusal at once, after nothing more was asked; no read failed
refuses_here : {A : Type 0} (now : FolderView) (table : ModuleTable) (path : FilePath) (run : Given → Progress A) → IsSound table → Saw now.told table → ((given : Given) → run given ≡ ends (paths table) (fault.NoFile path))
    → Refuses run now now table (fault.NoFile path)
refuses_here now table path run sound saw is =
    let choice = chosen_known now.told table sound saw in
    record {
      given = choice.given;
      short = choice.short;
      asked = paths table;
      told = choice.told_is;
      agrees = choice.agrees;
      is = is choice.given;
      last = tt;
      counted = subst (λ n. IsCounted now now (length table.probes) n) (sym (length-map table.probes _)) (counted_none now (length table.probes));
    }

module _ (candidates : List FilePath) (before : FolderView) (old : ModuleTable) where
  abbrev Whole : Given → Progress ℕ
  Whole given = resolved given candidates old

  abbrev Left : List FilePath → ModuleTable → Given → Progress ℕ
  Left others table given = resolved_among given (last_candidate candidates) others table

  pub resolve_begins : IsSound old → Saw before.told old → Carries (λ given. resolved given candidates old) before old (λ given. resolved_among given (last_candidate candidates) candidates old) before old
  unfolding resolved
  resolve_begins sound saw = record { stays = stays_same before; sound = sound; saw = saw; goes_on = λ after new result stays answers. answers }

  module _ (now after : FolderView) (table new : ModuleTable) (path : FilePath) (left others : List FilePath) (is : left ≡ path ∷ others) (carries : Carries (Whole) before old (Left left table) now table) (stays : Stays now after) where
    abbrev Next : Given → Option ℕ → ModuleTable → Progress ℕ
    Next given file s = resolved_or (resolved_among given (last_candidate candidates) others) file s

    opened : (given : Given) → resolved_among given (last_candidate candidates) left table ≡ then_with (probed given table path) (Next given)
    unfolding resolved_among
    opened given = ap (λ xs. resolved_among given (last_candidate candidates) xs table) is

    pub resolve_goes : Did (λ given. probed given table path) now after table new None → Carries Whole before old (Left others new) after new
    resolve_goes did = record {
      stays = stays_then before now after carries.stays stays;
      sound = did.sound;
      saw = saw_before before now new carries.stays did.saw;
      goes_on = λ last s result later answers. carries.goes_on last s result (stays_then now after last stays later)
          (answers_same (λ given. then_with (probed given table path) (Next given)) (Left left table) now last table s result opened
          (answers_later (λ given. probed given table path) Next now after last table new s None result stays did answers));
    }

    pub resolve_done : (file : ℕ) → Did (λ given. probed given table path) now after table new (Some file) → Answers Whole before after old new (Ok file)
    resolve_done file did = carries.goes_on after new (Ok file) stays
        (answers_same (λ given. then_with (probed given table path) (Next given)) (Left left table) now after table new (Ok file) opened
        (answers_later (λ given. probed given table path) Next now after after table new new (Some file) (Ok file) stays did (did_here after new file did.sound (saw_after now after new stays did.saw))))

    pub resolve_refused : (refusal : PackFault) → RefusesUnlessMemory (λ given. probed given table path) now after table refusal → Answers Whole before after old new (Err refusal)
    resolve_refused refusal refuses = carries.goes_on after new (Err refusal) stays
        (answers_same (λ given. then_with (probed given table path) (Next given)) (Left left table) now after table new (Err refusal) opened
        (answers_refused (λ given. probed given table path) Next now after table new refusal refuses))

  pub resolve_none : (now : FolderView) (table : ModuleTable) (path : FilePath) (left : List FilePath) → left ≡ [] → Carries Whole before old (Left left table) now table → path ≡ last_candidate candidates → Answers Whole before now old table (Err (fault.NoFile path))
  unfolding resolved_among
  resolve_none now table path left none carries is = subst (λ p. Answers Whole before now old table (Err (fault.NoFile p))) (sym is)
      (carries.goes_on now table (Err (fault.NoFile (last_candidate candidates))) (stays_same now)
      (tt, refuses_here now table (last_candidate candidates) (Left left table) carries.sound (saw_after before now table carries.stays carries.saw) (λ given. ap (λ xs. resolved_among given (last_candidate candidates) xs table) none)))
