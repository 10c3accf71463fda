-- A walk has at most one outcome.
use Rattle.std.proofs.Common.{◌≡◌, ℕ, List, [], ◌∷◌, ◌++◌, length, refl, sym, ◌∙◌, ap, ap₂, subst}
use Rattle.std.specs.Prelude.{Some, None, slice_get, Result, Ok, Err}
use Rattle.mdg_pack.specs.ModuleResolution.{ends}
use Rattle.mdg_pack.specs.ModuleTable.{paths}
use Rattle.mdg_pack.specs.RequireGoals.{resolved_requires_of}
use Rattle.mdg_pack.specs.Reads.{Given, gives, fails, later}
use Rattle.mdg_pack.specs.Load.{LoadsFile}
use Rattle.mdg_pack.specs.Manifest.{Enters, HasEntry, manifest, entry_of_value}
use Rattle.mdg_pack.specs.Paths.{FilePath}
use Rattle.mdg_pack.specs.Walk.{Outcome, refused, packed, Walks, finished, unread, stopped, further, with_required, Starts, no_entry, entered, WalkBy, failed_manifest, no_manifest, manifested, after_manifest}
use Rattle.mdg_pack.specs.declared.fault.PackFault.{PackFault}
use Rattle.mdg_pack.specs.declared.module_table.SourceFile.{SourceFile}
use Rattle.mdg_pack.specs.declared.module_table.ModuleTable.{ModuleTable}
use Rattle.mdg_port.specs.declared.folder.Fetched.{Fetched}
use Rattle.mdg_port.specs.declared.folder.Fetched.TheVariants.{Absent, TooLong, Bytes}
use Rattle.mdg_profile.specs.declared.entry.Profile.{Profile}
use Rattle.mdg_profile.specs.Format.{IsJson}
use Rattle.mdg_scope.specs.declared.bound.Bound.{Bound}
use Rattle.serde_json.specs.Data.{Data}
use Rattle.mdg_pack.proofs.OneLoad.{one_load}
use Rattle.mdg_pack.proofs.WalkLemmas.{next_loads}

module _ (given : Given) (profile : Profile) where
  -- no file is left
  one_finished : (table : ModuleTable) (done : List Bound) (outcome : Outcome) → slice_get table.files (length done) ≡ None → Walks given profile table done outcome → outcome ≡ packed (paths table) done
  one_finished table done outcome none (finished other) = refl
  one_finished table done outcome none (unread file at loads) = let no = sym none ∙ at in absurd cc
  one_finished table done outcome none (stopped file bound at loads is) = let no = sym none ∙ at in absurd cc
  one_finished table done outcome none (further file bound required after at loads is rest) = let no = sym none ∙ at in absurd cc

  module _ (table : ModuleTable) (done : List Bound) (file : SourceFile) (at : slice_get table.files (length done) ≡ Some file) where
    other_load : (other : SourceFile) (r s : Result Bound PackFault) → LoadsFile profile file r → slice_get table.files (length done) ≡ Some other → LoadsFile profile other s → s ≡ r
    other_load other r s loads there is =
        let both = sym there ∙ at in
        let same : other ≡ file = cc in
        one_load profile file.path file.bytes s r (subst (λ (f : SourceFile). LoadsFile profile f s) same is) loads

    one_unread : (refusal : PackFault) → LoadsFile profile file (Err refusal) → (outcome : Outcome) → Walks given profile table done outcome → outcome ≡ refused (paths table) refusal
    one_unread refusal loads outcome (finished none) = let no = sym none ∙ at in absurd cc
    one_unread refusal loads outcome (unread other {refusal = r} there is) =
        let both = other_load other (Err refusal) (Err r) loads there is in
        let same : r ≡ refusal = cc in ap (refused (paths table)) same
    one_unread refusal loads outcome (stopped other b there is ended) = let no = other_load other (Err refusal) (Ok b) loads there is in absurd cc
    one_unread refusal loads outcome (further other b required after there is went rest) = let no = other_load other (Err refusal) (Ok b) loads there is in absurd cc

    one_stopped : (bound : Bound) (asked : List FilePath) (refusal : PackFault) → LoadsFile profile file (Ok bound) → resolved_requires_of given bound table ≡ ends asked refusal → (outcome : Outcome) → Walks given profile table done outcome → outcome ≡ refused asked refusal
    one_stopped bound asked refusal loads ended outcome (finished none) = let no = sym none ∙ at in absurd cc
    one_stopped bound asked refusal loads ended outcome (unread other {refusal = r} there is) = let no = other_load other (Ok bound) (Err r) loads there is in absurd cc
    one_stopped bound asked refusal loads ended outcome (stopped other b {asked = asked'} {refusal = r} there is ended') =
        let both = other_load other (Ok bound) (Ok b) loads there is in
        let same : b ≡ bound = cc in
        let steps = sym ended' ∙ ap (λ x. resolved_requires_of given x table) same ∙ ended in
        let paths_same : asked' ≡ asked = cc in
        let refusal_same : r ≡ refusal = cc in
        ap₂ refused paths_same refusal_same
    one_stopped bound asked refusal loads ended outcome (further other b required after there is went rest) =
        let both = other_load other (Ok bound) (Ok b) loads there is in
        let same : b ≡ bound = cc in
        let no = sym went ∙ ap (λ x. resolved_requires_of given x table) same ∙ ended in absurd cc

  one_walks : (table : ModuleTable) (done : List Bound) (one other : Outcome) → Walks given profile table done one → Walks given profile table done other → other ≡ one
  one_walks table done one other (finished none) walks = one_finished table done other none walks
  one_walks table done one other (unread file {refusal = r} at loads) walks = one_unread table done file at r loads other walks
  one_walks table done one other (stopped file bound {asked = asked} {refusal = r} at loads is) walks = one_stopped table done file at bound asked r loads is other walks
  one_walks table done one other (further file bound required after at loads is rest) walks =
      one_walks after (done ++ with_required bound required ∷ []) one other rest (next_loads given profile table done file at bound loads required after is other walks)

  one_starts : (entry : List FilePath) (one other : Outcome) → Starts given profile entry one → Starts given profile entry other → other ≡ one
  one_starts entry one other (no_entry {asked = a} {refusal = r} is) (no_entry {asked = b} {refusal = s} other_is) =
      let both = sym other_is ∙ is in
      let paths_same : b ≡ a = cc in
      let refusal_same : s ≡ r = cc in
      ap₂ refused paths_same refusal_same
  one_starts entry one other (no_entry is) (entered n s other_is walks) = let no = sym is ∙ other_is in absurd cc
  one_starts entry one other (entered n s is walks) (no_entry other_is) = let no = sym is ∙ other_is in absurd cc
  one_starts entry one other (entered n s is walks) (entered m t other_is other_walks) =
      let both = sym other_is ∙ is in
      let same : t ≡ s = cc in
      one_walks s [] one other walks (subst (λ x. Walks given profile x [] other) same other_walks)

one_value : (bytes : List ℕ) (v w : Data) → IsJson bytes v → IsJson bytes w → v ≡ w
one_value bytes v w p q = let both = sym p.read_as ∙ q.read_as in cc

one_entry : (bytes : List ℕ) (a b : List FilePath) → HasEntry bytes a → HasEntry bytes b → a ≡ b
one_entry bytes a b p q =
    let both = sym p.says ∙ ap entry_of_value (one_value bytes p.value q.value p.json q.json) ∙ q.says in cc

one_enters : (read : Fetched) (a b : Result (List FilePath) PackFault) → Enters read a → Enters read b → a ≡ b
one_enters Absent (Ok a) (Ok b) p q = ap Ok (p ∙ sym q)
one_enters Absent (Ok a) (Err s) p q = absurd q
one_enters Absent (Err r) b p q = absurd p
one_enters TooLong (Ok a) b p q = absurd p
one_enters TooLong (Err r) (Ok b) p q = absurd q
one_enters TooLong (Err r) (Err s) p q = ap Err (p ∙ sym q)
one_enters (Bytes bytes) (Ok a) (Ok b) p q = ap Ok (one_entry bytes a b p q)
one_enters (Bytes bytes) (Ok a) (Err s) p q = absurd (q.1 a p)
one_enters (Bytes bytes) (Err r) (Ok b) p q = absurd (p.1 b q)
one_enters (Bytes bytes) (Err r) (Err s) p q = ap Err (p.0 ∙ sym q.0)

pub one_walk_by : (given : Given) (profile : Profile) (one other : Outcome) → WalkBy given profile one → WalkBy given profile other → one ≡ other
one_walk_by given profile one other (failed_manifest is) (failed_manifest other_is) = refl
one_walk_by given profile one other (failed_manifest is) (no_manifest read other_is enters) = let no : fails ≡ gives read = sym is ∙ other_is in absurd cc
one_walk_by given profile one other (failed_manifest is) (manifested read entry other_is enters starts) = let no : fails ≡ gives read = sym is ∙ other_is in absurd cc
one_walk_by given profile one other (no_manifest read is enters) (failed_manifest other_is) = let no : gives read ≡ fails = sym is ∙ other_is in absurd cc
one_walk_by given profile one other (no_manifest read {refusal = r} is enters) (no_manifest other_read {refusal = s} other_is other_enters) =
    let reads : gives other_read ≡ gives read = sym other_is ∙ is in
    let read_same : other_read ≡ read = cc in
    let both = one_enters read (Err r) (Err s) enters (subst (λ f. Enters f (Err s)) read_same other_enters) in
    let same : r ≡ s = cc in ap (refused (manifest ∷ [])) same
one_walk_by given profile one other (no_manifest read {refusal = r} is enters) (manifested other_read entry other_is other_enters starts) =
    let reads : gives other_read ≡ gives read = sym other_is ∙ is in
    let read_same : other_read ≡ read = cc in
    let no = one_enters read (Err r) (Ok entry) enters (subst (λ f. Enters f (Ok entry)) read_same other_enters) in absurd cc
one_walk_by given profile one other (manifested read entry is enters starts) (failed_manifest other_is) = let no : gives read ≡ fails = sym is ∙ other_is in absurd cc
one_walk_by given profile one other (manifested read entry is enters starts) (no_manifest other_read {refusal = s} other_is other_enters) =
    let reads : gives other_read ≡ gives read = sym other_is ∙ is in
    let read_same : other_read ≡ read = cc in
    let no = one_enters read (Ok entry) (Err s) enters (subst (λ f. Enters f (Err s)) read_same other_enters) in absurd cc
one_walk_by given profile one other (manifested read entry {outcome = first} is enters starts) (manifested other_read other_entry {outcome = second} other_is other_enters other_starts) =
    let reads : gives other_read ≡ gives read = sym other_is ∙ is in
    let read_same : other_read ≡ read = cc in
    let both = one_enters read (Ok other_entry) (Ok entry) (subst (λ f. Enters f (Ok other_entry)) read_same other_enters) enters in
    let same : other_entry ≡ entry = cc in
    ap after_manifest (sym (one_starts (later given) profile entry first second starts (subst (λ e. Starts (later given) profile e second) same other_starts)))
