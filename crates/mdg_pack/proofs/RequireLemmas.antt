-- How the requires of a file are resolved.
use Rattle.std.proofs.Common.{◌≡◌, ℕ, List, [], ◌∷◌, ◌++◌, sym, ap, subst}
use Rattle.std.specs.Prelude.{Result, Ok, Err}
use Rattle.mdg_pack.specs.Candidates.{candidates_from}
use Rattle.mdg_pack.specs.Paths.{FilePath}
use Rattle.mdg_pack.specs.ModuleResolution.{Progress, goes, then_with, resolved}
use Rattle.mdg_pack.specs.RequireGoals.{resolved_goal, file_goal, with_goal, resolved_requires}
use Rattle.mdg_pack.specs.Reads.{Given}
use Rattle.mdg_pack.specs.Effects.{FolderView, IsSound, Saw, Did, RefusesUnlessMemory, Answers, Stays, Carries}
use Rattle.mdg_pack.specs.declared.fault.PackFault.{PackFault}
use Rattle.mdg_pack.specs.declared.module_table.ModuleTable.{ModuleTable}
use Rattle.mdg_scope.specs.declared.bound.Require.{Require}
use Rattle.mdg_scope.specs.declared.bound.Goal.{Goal}
use Rattle.mdg_scope.specs.declared.bound.Goal.TheVariants.{Path as ToFind}
use Rattle.mdg_pack.proofs.EffectLemmas.{stays_then, saw_before, saw_after, answers_later, answers_refused, answers_same}
use Rattle.mdg_pack.proofs.ResolutionLemmas.{stays_same, did_here}

-- ---- one require

module _ (folder : List FilePath) (require : Require) (before after : FolderView) (old new : ModuleTable) where
  -- a require whose goal is a path
  abbrev Sought : Given → Progress Goal
  Sought given = resolved_goal given folder require ToFind old

  pub goal_resolved : (candidates : List FilePath) (result : Result ℕ PackFault) → candidates ≡ candidates_from folder require.text
      → Stays before after → Answers (λ given. resolved given candidates old) before after old new result
      → (number : ℕ) → result ≡ Ok number → Answers Sought before after old new (Ok (file_goal number))
  goal_resolved candidates result is stays answers number found_it =
      answers_same (λ given. then_with (resolved given candidates old) (λ n s. goes (file_goal n) s)) Sought before after old new (Ok (file_goal number)) (λ given. ap (λ xs. then_with (resolved given xs old) (λ n s. goes (file_goal n) s)) (sym is))
      (let did : Did (λ given. resolved given candidates old) before after old new number = subst (λ r. Answers (λ given. resolved given candidates old) before after old new r) found_it answers in
      answers_later (λ given. resolved given candidates old) (λ given n s. goes (file_goal n) s) before after after old new new number (Ok (file_goal number)) stays did (did_here after new (file_goal number) did.sound (saw_after before after new stays did.saw)))

  pub goal_refused : (candidates : List FilePath) (refusal : PackFault) → candidates ≡ candidates_from folder require.text
      → RefusesUnlessMemory (λ given. resolved given candidates old) before after old refusal → Answers Sought before after old new (Err refusal)
  goal_refused candidates refusal is refuses =
      answers_same (λ given. then_with (resolved given candidates old) (λ n s. goes (file_goal n) s)) Sought before after old new (Err refusal) (λ given. ap (λ xs. then_with (resolved given xs old) (λ n s. goes (file_goal n) s)) (sym is))
      (answers_refused (λ given. resolved given candidates old) (λ given n s. goes (file_goal n) s) before after old new refusal refuses)

-- ---- one after the other

module _ (folder : List FilePath) (required : List Require) (before : FolderView) (old : ModuleTable) where
  abbrev Whole : Given → Progress (List Require)
  Whole given = resolved_requires given folder [] required old

  abbrev Left : List Require → List Require → ModuleTable → Given → Progress (List Require)
  Left done others table given = resolved_requires given folder done others table

  pub requires_begin : IsSound old → Saw before.told old → Carries Whole before old (Left [] required old) before old
  requires_begin sound saw = record { stays = stays_same before; sound = sound; saw = saw; goes_on = λ after new result stays answers. answers }

  pub requires_end : (now : FolderView) (table : ModuleTable) (done left : List Require) → left ≡ [] → Carries Whole before old (Left done left table) now table → Answers Whole before now old table (Ok done)
  unfolding resolved_requires
  requires_end now table done left none carries = carries.goes_on now table (Ok done) (stays_same now)
      (answers_same (λ given. goes done table) (Left done left table) now now table table (Ok done) (λ given. ap (λ xs. resolved_requires given folder done xs table) none)
      (did_here now table done carries.sound (saw_after before now table carries.stays carries.saw)))

  module _ (now after : FolderView) (table new : ModuleTable) (done left others : List Require) (require : Require) (is : left ≡ require ∷ others) (carries : Carries Whole before old (Left done left table) now table) (stays : Stays now after) where
    abbrev Next : Given → Goal → ModuleTable → Progress (List Require)
    Next given goal s = resolved_requires given folder (done ++ with_goal require goal ∷ []) others s

    abbrev First : Given → Progress Goal
    First given = resolved_goal given folder require require.goal table

    opened : (given : Given) → resolved_requires given folder done left table ≡ then_with (First given) (Next given)
    unfolding resolved_requires
    opened given = ap (λ xs. resolved_requires given folder done xs table) is

    pub requires_go : (goal : Goal) (made : List Require) → made ≡ done ++ with_goal require goal ∷ [] → Did First now after table new goal → Carries Whole before old (Left made others new) after new
    requires_go goal made made_is did = subst (λ xs. Carries Whole before old (Left xs others new) after new) (sym made_is) (record {
      stays = stays_then before now after carries.stays stays;
      sound = did.sound;
      saw = saw_before before now new carries.stays did.saw;
      goes_on = λ last s result later answers. carries.goes_on last s result (stays_then now after last stays later)
          (answers_same (λ given. then_with (First given) (Next given)) (Left done left table) now last table s result opened
          (answers_later First Next now after last table new s goal result stays did answers));
    })

    pub requires_refused : (refusal : PackFault) → RefusesUnlessMemory First now after table refusal → Answers Whole before after old new (Err refusal)
    requires_refused refusal refuses = carries.goes_on after new (Err refusal) stays
        (answers_same (λ given. then_with (First given) (Next given)) (Left done left table) now after table new (Err refusal) opened
        (answers_refused First Next now after table new refusal refuses))
