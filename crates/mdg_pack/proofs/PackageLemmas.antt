-- Each goal that was a path is a file of the package.
use Rattle.std.proofs.Common.{◌≡◌, ℕ, zero, suc, ◌+◌, ◌<◌, ◌≤◌, Bool, true, false, cond, List, [], ◌∷◌, ◌++◌, length, refl, sym, ◌∙◌, ap, subst, arith, inl, inr, length-append, append_assoc}
use Rattle.std.specs.Prelude.{◌⊎◌, Option, Some, None, slice_get, nat_lt, Result, Ok, Err}
use Rattle.std.specs.List.{AllZip}
use Rattle.std.proofs.lemmas.Bool.{ltb-true}
use Rattle.std.proofs.lemmas.List.{append-nil}
use Rattle.mdg_pack.specs.Answers.{IsSomeWalk}
use Rattle.mdg_pack.specs.ModuleResolution.{Progress, goes, ends, then_with, probed, probed_by, after_reading, most_files, resolved, resolved_among, resolved_or, last_candidate}
use Rattle.mdg_pack.specs.ModuleTable.{paths, lookup, lookup_in, with_absent, with_file, empty_table}
use Rattle.mdg_pack.specs.RequireGoals.{resolved_goal, file_goal, with_goal, resolved_requires}
use Rattle.mdg_pack.specs.Load.{Loads, bound as loads_bound}
use Rattle.mdg_pack.specs.PackageFiles.{IsGoalFor, IsResolved, IsPacked, IsPackage}
use Rattle.mdg_pack.specs.Candidates.{candidates_from}
use Rattle.mdg_base.specs.Segments.{folder_of}
use Rattle.mdg_pack.specs.Paths.{FilePath}
use Rattle.mdg_pack.specs.Reads.{Reading, gives, fails, Given, later}
use Rattle.mdg_pack.specs.Walk.{Outcome, Walks, finished, unread, stopped, further, with_required, Starts, no_entry, entered, WalkBy, failed_manifest, no_manifest, manifested}
use Rattle.mdg_pack.specs.declared.fault.PackFault.{PackFault}
use Rattle.mdg_pack.specs.declared.fault.PackFault.TheVariants as fault
use Rattle.mdg_pack.specs.declared.module_table.ModuleTable.{ModuleTable}
use Rattle.mdg_pack.specs.declared.walk.Package.{Package}
use Rattle.mdg_port.specs.declared.folder.Fetched.TheVariants.{Absent, TooLong, Bytes}
use Rattle.mdg_profile.specs.declared.entry.Profile.{Profile}
use Rattle.mdg_scope.specs.Bindings as bindings
use Rattle.mdg_scope.specs.declared.bound.Bound.{Bound}
use Rattle.mdg_scope.specs.declared.bound.Require.{Require}
use Rattle.mdg_scope.specs.declared.bound.Goal.{Goal}
use Rattle.mdg_scope.specs.declared.bound.Goal.TheVariants.{Bare, Path as ToFind, File}
use Rattle.mdg_pack.proofs.TableLemmas.{lookup_split}

-- each number in the table is that of a file, and files are no more than a package may have
pub record IsNumbering (table : ModuleTable) : Type 0 where
  pub few : length table.files ≤ most_files
  pub at : (path : FilePath) (number : ℕ) → lookup table path ≡ Some (Some number) → number < length table.files

-- on from a table, to one whose numbers are those of files
pub record IsOn (old new : ModuleTable) : Type 0 where
  pub numbers : IsNumbering new
  pub longer : length old.files ≤ length new.files

on_then : (a b c : ModuleTable) → IsOn a b → IsOn b c → IsOn a c
on_then a b c one two = record { numbers = two.numbers; longer = (let x = one.longer in let y = two.longer in omega arith) }

numbers_absent : (table : ModuleTable) (path : FilePath) → IsNumbering table → IsNumbering (with_absent table path)
numbers_absent table path numbers = record { few = numbers.few; at = λ other number at. by other number (lookup_split table.probes (record { path = path; file = None }) other (Some number) at) }
  where
    by : (other : FilePath) (number : ℕ) → (lookup_in table.probes other ≡ Some (Some number)) ⊎ ((other ≡ path) × (Some number ≡ None)) → number < length table.files
    by other number (inl old) = numbers.at other number old
    by other number (inr new) = let no = new.1 in absurd cc

numbers_file : (table : ModuleTable) (path : FilePath) (bytes : List ℕ) → length table.files < most_files → IsNumbering table → IsNumbering (with_file table path bytes)
numbers_file table path bytes room numbers = record { few = omega (arith, more); at = λ other number at. by other number (lookup_split table.probes (record { path = path; file = Some (length table.files) }) other (Some number) at) }
  where
    more : length (table.files ++ (record { path = path; bytes = bytes }) ∷ []) ≡ length table.files + 1
    more = length-append table.files _

    by : (other : FilePath) (number : ℕ) → (lookup_in table.probes other ≡ Some (Some number)) ⊎ ((other ≡ path) × (Some number ≡ Some (length table.files))) → number < length (table.files ++ (record { path = path; bytes = bytes }) ∷ [])
    by other number (inl old) = let before = numbers.at other number old in omega (arith, more)
    by other number (inr new) = let same : number ≡ length table.files = (let is = new.1 in cc) in omega (arith, more)

-- ---- a probe

record ProbedOn (old new : ModuleTable) (file : Option ℕ) : Type 0 where
  pub on : IsOn old new
  pub inside : (number : ℕ) → file ≡ Some number → number < length new.files

same_table : {A : Type 0} (a b : A) (s t : ModuleTable) → goes a s ≡ goes b t → s ≡ t
same_table a b s t is = cc

same_value : {A : Type 0} (a b : A) (s t : ModuleTable) → goes a s ≡ goes b t → a ≡ b
same_value a b s t is = cc

moved_probe : (old s t : ModuleTable) (a b : Option ℕ) → goes a s ≡ goes b t → ProbedOn old s a → ProbedOn old t b
moved_probe old s t a b is on = subst (λ x. ProbedOn old x b) (same_table a b s t is) (subst (λ x. ProbedOn old s x) (same_value a b s t is) on)

probed_on : (given : Given) (table after : ModuleTable) (path : FilePath) (file : Option ℕ) → IsNumbering table → probed given table path ≡ goes file after → ProbedOn table after file
unfolding probed
probed_on given table after path file numbers is = by (lookup table path) refl is
  where
    registered_by : (bytes : List ℕ) (b : Bool) → nat_lt (length table.files) most_files ≡ b → cond b (goes (Some (length table.files)) (with_file table path bytes)) (ends (paths table ++ path ∷ []) (fault.TooManyFiles 257)) ≡ goes file after → ProbedOn table after file
    registered_by bytes true room it = moved_probe table (with_file table path bytes) after (Some (length table.files)) file it (record {
      on = record { numbers = numbers_file table path bytes (ltb-true (length table.files) most_files room) numbers; longer = omega (arith, length-append table.files (record { path = path; bytes = bytes } ∷ [])) };
      inside = λ number at. let same : length table.files ≡ number = cc in omega (arith, length-append table.files (record { path = path; bytes = bytes } ∷ []));
    })
    registered_by bytes false full it = absurd cc

    read_by : (reading : Reading) → after_reading reading table path ≡ goes file after → ProbedOn table after file
    read_by (gives Absent) it = moved_probe table (with_absent table path) after None file it (record { on = record { numbers = numbers_absent table path numbers; longer = omega arith }; inside = λ number at. absurd cc })
    read_by (gives TooLong) it = absurd cc
    read_by fails it = absurd cc
    read_by (gives (Bytes bytes)) it = registered_by bytes (nat_lt (length table.files) most_files) refl it

    by : (o : Option (Option ℕ)) → lookup table path ≡ o → probed_by o given table path ≡ goes file after → ProbedOn table after file
    by None new it = read_by (given (length table.probes) path) it
    by (Some f) old it = moved_probe table table after f file it (record { on = record { numbers = numbers; longer = omega arith }; inside = λ number at. numbers.at path number (old ∙ ap Some at) })

-- ---- resolution

pub record ResolvedOn (old new : ModuleTable) (number : ℕ) : Type 0 where
  pub on : IsOn old new
  pub inside : number < length new.files

resolved_by : (old : ModuleTable) (next : ModuleTable → Progress ℕ) (number : ℕ) (after : ModuleTable) → ((mid : ModuleTable) → IsOn old mid → next mid ≡ goes number after → ResolvedOn old after number)
    → (step : Progress (Option ℕ)) → ((file : Option ℕ) (mid : ModuleTable) → step ≡ goes file mid → ProbedOn old mid file) → then_with step (resolved_or next) ≡ goes number after → ResolvedOn old after number
resolved_by old next number after rest (ends asked refusal) on is = absurd cc
resolved_by old next number after rest (goes None mid) on is = rest mid (on None mid refl).on is
resolved_by old next number after rest (goes (Some file) mid) on is =
    let probe = on (Some file) mid refl in
    subst (λ x. ResolvedOn old x number) (same_table file number mid after is) (subst (λ x. ResolvedOn old mid x) (same_value file number mid after is) (record { on = probe.on; inside = probe.inside file refl }))

pub resolved_on : (given : Given) (last : FilePath) (candidates : List FilePath) (table after : ModuleTable) (number : ℕ) → IsNumbering table → resolved_among given last candidates table ≡ goes number after → ResolvedOn table after number
unfolding resolved_among
resolved_on given last [] table after number numbers is = absurd cc
resolved_on given last (path ∷ others) table after number numbers is =
    resolved_by table (resolved_among given last others) number after
    (λ mid on it. let rest = resolved_on given last others mid after number on.numbers it in record { on = on_then table mid after on rest.on; inside = rest.inside })
    (probed given table path) (λ file mid it. probed_on given table mid path file numbers it) is

-- ---- following

record GoalOn (old new : ModuleTable) (require : Require) (goal : Goal) : Type 0 where
  pub on : IsOn old new
  pub goal_is : IsGoalFor (length new.files) require.goal goal

goal_by : (table after : ModuleTable) (goal : Goal) (step : Progress ℕ) → ((number : ℕ) (mid : ModuleTable) → step ≡ goes number mid → ResolvedOn table mid number) → then_with step (λ number mid. goes (file_goal number) mid) ≡ goes goal after
    → IsOn table after × IsGoalFor (length after.files) ToFind goal
goal_by table after goal (ends asked refusal) on is = absurd cc
goal_by table after goal (goes number mid) on is =
    let it = on number mid refl in
    let same = same_table (file_goal number) goal mid after is in
    (subst (λ x. IsOn table x) same it.on, (number, subst (λ (x : ModuleTable). number < length x.files) same it.inside, sym (same_value (file_goal number) goal mid after is)))

goal_on : (given : Given) (folder : List FilePath) (require : Require) (to goal : Goal) (table after : ModuleTable) → IsNumbering table → resolved_goal given folder require to table ≡ goes goal after → IsOn table after × IsGoalFor (length after.files) to goal
unfolding resolved
goal_on given folder require Bare goal table after numbers is =
    (subst (λ x. IsOn table x) (same_table Bare goal table after is) (record { numbers = numbers; longer = omega arith }), sym (same_value Bare goal table after is))
goal_on given folder require (File file) goal table after numbers is =
    (subst (λ x. IsOn table x) (same_table (File file) goal table after is) (record { numbers = numbers; longer = omega arith }), sym (same_value (File file) goal table after is))
goal_on given folder require ToFind goal table after numbers is =
    let candidates = candidates_from folder require.text in
    goal_by table after goal (resolved_among given (last_candidate candidates) candidates table) (λ number mid it. resolved_on given (last_candidate candidates) candidates table mid number numbers it) is

more_goal : (few many : ℕ) (to goal : Goal) → few ≤ many → IsGoalFor few to goal → IsGoalFor many to goal
more_goal few many Bare goal le is = is
more_goal few many (File file) goal le is = is
more_goal few many ToFind goal le is = (is.0, omega (arith, is.1), is.2)

pub record RequiresOn (old new : ModuleTable) (done required made : List Require) : Type 0 where
  pub on : IsOn old new
  pub resolved : List Require
  pub made_is : made ≡ done ++ resolved
  pub each : AllZip (IsResolved (length new.files)) required resolved

pub requires_on : (given : Given) (folder : List FilePath) (done required made : List Require) (table after : ModuleTable) → IsNumbering table → resolved_requires given folder done required table ≡ goes made after → RequiresOn table after done required made
unfolding resolved_requires
requires_on given folder done [] made table after numbers is =
    subst (λ x. RequiresOn table x done [] made) (same_table done made table after is)
    (record { on = record { numbers = numbers; longer = omega arith }; resolved = []; made_is = sym (same_value done made table after is) ∙ sym (append-nil done); each = tt })
requires_on given folder done (require ∷ others) made table after numbers is =
    by (resolved_goal given folder require require.goal table) (λ goal mid it. goal_on given folder require require.goal goal table mid numbers it)
    (λ goal mid on it. requires_on given folder (done ++ with_goal require goal ∷ []) others made mid after on.numbers it) is
  where
    by : (step : Progress Goal) → ((goal : Goal) (mid : ModuleTable) → step ≡ goes goal mid → IsOn table mid × IsGoalFor (length mid.files) require.goal goal)
        → ((goal : Goal) (mid : ModuleTable) → IsOn table mid → resolved_requires given folder (done ++ with_goal require goal ∷ []) others mid ≡ goes made after → RequiresOn mid after (done ++ with_goal require goal ∷ []) others made)
        → then_with step (λ goal mid. resolved_requires given folder (done ++ with_goal require goal ∷ []) others mid) ≡ goes made after → RequiresOn table after done (require ∷ others) made
    by (ends asked refusal) on rest it = absurd cc
    by (goes goal mid) on rest it =
        let first = on goal mid refl in
        let others_on = rest goal mid first.0 it in
        record {
          on = on_then table mid after first.0 others_on.on;
          resolved = with_goal require goal ∷ others_on.resolved;
          made_is = others_on.made_is ∙ append_assoc done (with_goal require goal ∷ []) others_on.resolved;
          each = (record { goal = more_goal (length mid.files) (length after.files) require.goal goal others_on.on.longer first.1; same = refl }, others_on.each);
        }

-- ---- the walk

more_resolved : (few many : ℕ) (required resolved : List Require) → few ≤ many → AllZip (IsResolved few) required resolved → AllZip (IsResolved many) required resolved
more_resolved few many [] [] le each = tt
more_resolved few many [] (f ∷ fs) le each = each
more_resolved few many (r ∷ rs) [] le each = each
more_resolved few many (r ∷ rs) (f ∷ fs) le each = (record { goal = more_goal few many r.goal f.goal le each.0.goal; same = each.0.same }, more_resolved few many rs fs le each.1)

more_packed : (profile : Profile) (few many : ℕ) (file : Bound) → few ≤ many → IsPacked profile few file → IsPacked profile many file
more_packed profile few many file le is = record { bound = is.bound; binds = is.binds; required = more_resolved few many is.bound.required file.required le is.required; same = is.same }

-- what is loaded is bound
loaded : (profile : Profile) (path : FilePath) (bytes : List ℕ) (r : Result Bound PackFault) (b : Bound) → Loads profile path bytes r → r ≡ Ok b → bindings.IsAnswer b.path b.tree profile (Ok b)
loaded profile path bytes (Err x) b l is = absurd cc
loaded profile path bytes (Ok x) b (loads_bound ts tree p f binds) is =
    let same : x ≡ b = cc in
    subst (λ (z : Bound). bindings.IsAnswer z.path z.tree profile (Ok z)) same
    (subst (λ t. bindings.IsAnswer x.path t profile (Ok x)) (sym binds.same_tree) (subst (λ z. bindings.IsAnswer z tree profile (Ok x)) (sym binds.same_path) binds))

split_get : {X : Type 0} (xs : List X) (y z : X) (n : ℕ) → slice_get (xs ++ y ∷ []) n ≡ Some z → (slice_get xs n ≡ Some z) ⊎ (y ≡ z)
split_get [] y z zero is = inr cc
split_get [] y z (suc n) is = absurd cc
split_get (x ∷ xs) y z zero is = inl is
split_get (x ∷ xs) y z (suc n) is = split_get xs y z n is

inside_get : {X : Type 0} (xs : List X) (n : ℕ) (x : X) → slice_get xs n ≡ Some x → n < length xs
inside_get [] n x is = absurd cc
inside_get (y ∷ ys) zero x is = omega arith
inside_get (y ∷ ys) (suc n) x is = let r = inside_get ys n x is in omega arith

past_get : {X : Type 0} (xs : List X) (n : ℕ) → slice_get xs n ≡ None → length xs ≤ n
past_get [] n is = omega arith
past_get (y ∷ ys) zero is = absurd cc
past_get (y ∷ ys) (suc n) is = let r = past_get ys n is in omega arith

record ArePacked (profile : Profile) (table : ModuleTable) (done : List Bound) : Type 0 where
  pub each : (number : ℕ) (file : Bound) → slice_get done number ≡ Some file → IsPacked profile (length table.files) file
  pub few : length done ≤ length table.files
  pub entry : 0 < length table.files

walks_packed : (given : Given) (profile : Profile) (table : ModuleTable) (done : List Bound) (outcome : Outcome) → IsNumbering table → ArePacked profile table done → Walks given profile table done outcome
    → (whole : Package) → outcome.result ≡ Ok whole → IsPackage profile whole
walks_packed given profile table done outcome numbers packed (finished none) whole is =
    let all = past_get table.files (length done) none in
    let few = packed.few in
    let size : length table.files ≡ length done = omega arith in
    let entry = packed.entry in
    let files : record { files = done } ≡ whole = cc in
    subst (λ p. IsPackage profile p) files (record { entry = omega arith; files = λ number file at. subst (λ n. IsPacked profile n file) size (packed.each number file at) })
walks_packed given profile table done outcome numbers packed (unread file at loads) whole is = absurd cc
walks_packed given profile table done outcome numbers packed (stopped file bound at loads ended) whole is = absurd cc
walks_packed given profile table done outcome numbers packed (further file bound required after at loads went rest) whole is =
    let on = requires_on given (folder_of bound.path) [] bound.required required table after numbers went in
    let longer = on.on.longer in
    let inside = inside_get table.files (length done) file at in
    let entry = packed.entry in
    let made : IsPacked profile (length after.files) (with_required bound required) = record {
      bound = bound;
      binds = loaded profile file.path file.bytes (Ok bound) bound loads refl;
      required = subst (λ rs. AllZip (IsResolved (length after.files)) bound.required rs) (sym on.made_is) on.each;
      same = refl;
    } in
    walks_packed given profile after (done ++ with_required bound required ∷ []) outcome on.on.numbers (record {
      each = λ number one there. elim (split_get done (with_required bound required) one number there) [
        | inl old ↦ more_packed profile (length table.files) (length after.files) one longer (packed.each number one old)
        | inr new ↦ subst (λ x. IsPacked profile (length after.files) x) new made
      ];
      few = omega (arith, length-append done (with_required bound required ∷ []));
      entry = omega arith;
    }) rest whole is

pub numbers_none : IsNumbering empty_table
numbers_none = record { few = omega arith; at = λ path number is. absurd cc }

starts_packed : (given : Given) (profile : Profile) (entry : List FilePath) (outcome : Outcome) → Starts given profile entry outcome → (whole : Package) → outcome.result ≡ Ok whole → IsPackage profile whole
unfolding resolved
starts_packed given profile entry outcome (no_entry ended) whole is = absurd cc
starts_packed given profile entry outcome (entered number table went walks) whole is =
    let on = resolved_on given (last_candidate entry) entry empty_table table number numbers_none went in
    let inside = on.inside in
    walks_packed given profile table [] outcome on.on.numbers (record { each = λ n file at. absurd cc; few = omega arith; entry = omega arith }) walks whole is

walk_packed : (given : Given) (profile : Profile) (outcome : Outcome) → WalkBy given profile outcome → (whole : Package) → outcome.result ≡ Ok whole → IsPackage profile whole
walk_packed given profile outcome (failed_manifest fails_is) whole is = absurd cc
walk_packed given profile outcome (no_manifest read read_is enters) whole is = absurd cc
walk_packed given profile outcome (manifested read entry {outcome = rest} read_is enters starts) whole is = starts_packed (later given) profile entry rest starts whole is

pub is_package : (profile : Profile) (whole : Package) → IsSomeWalk profile (Ok whole) → IsPackage profile whole
is_package profile whole some = walk_packed some.given profile (record { asked = some.asked; result = Ok whole }) some.walk whole refl
