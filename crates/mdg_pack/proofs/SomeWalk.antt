-- A walk has at least one outcome.
use Rattle.std.proofs.Common.{◌≡◌, ℕ, zero, suc, ◌+◌, ◌≤◌, Bool, true, false, List, [], ◌∷◌, ◌++◌, length, refl, sym, ◌∙◌, ap, arith, length-append}
use Rattle.std.specs.Prelude.{Option, Some, None, slice_get, Result, Ok, Err}
use Rattle.std.specs.Str.{IsUtf8, is_utf8}
use Rattle.std.proofs.lemmas.Option.{slice_get_within}
use Rattle.std.proofs.lemmas.Str.{IsUtf8-from_is_utf8, is_utf8-from_IsUtf8}
use Rattle.mdg_pack.specs.Load.{Loads, LoadsFile, no_tokens, no_tree, no_bindings, bound as loads_bound, text_line, read_line, scope_line}
use Rattle.mdg_pack.specs.Manifest.{Enters, HasEntry, manifest, index_alone, entry_of_value}
use Rattle.mdg_pack.specs.ModuleResolution.{Progress, goes, ends, most_files, resolved, last_candidate}
use Rattle.mdg_pack.specs.ModuleTable.{empty_table, paths}
use Rattle.mdg_base.specs.Segments.{folder_of}
use Rattle.mdg_pack.specs.Paths.{FilePath}
use Rattle.mdg_pack.specs.Answers.{HasSomeOutcome}
use Rattle.mdg_pack.specs.Reads.{Reading, Given, gives, fails, later, reads_of}
use Rattle.mdg_pack.specs.RequireGoals.{resolved_requires_of}
use Rattle.mdg_pack.specs.Walk.{Outcome, refused, packed, Walks, finished, unread, stopped, further, with_required, Starts, no_entry, entered, WalkBy, failed_manifest, no_manifest, manifested, after_manifest}
use Rattle.mdg_pack.specs.declared.fault.PackFault.{PackFault}
use Rattle.mdg_pack.specs.declared.fault.PackFault.TheVariants as fault
use Rattle.mdg_pack.specs.declared.module_table.ModuleTable.{ModuleTable}
use Rattle.mdg_pack.specs.declared.module_table.SourceFile.{SourceFile}
use Rattle.mdg_port.specs.declared.folder.Fetched.{Fetched}
use Rattle.mdg_port.specs.declared.folder.Fetched.TheVariants.{Absent, TooLong, Bytes}
use Rattle.mdg_profile.specs.declared.entry.Profile.{Profile}
use Rattle.mdg_read.specs.Files as files
use Rattle.mdg_read.specs.declared.refusal.ReadRefusal.{ReadRefusal}
use Rattle.mdg_scope.specs.Bindings as bindings
use Rattle.mdg_scope.specs.declared.bound.Bound.{Bound}
use Rattle.mdg_scope.specs.declared.bound.Require.{Require}
use Rattle.mdg_scope.specs.declared.refusal.ScopeRefusal.{ScopeRefusal}
use Rattle.mdg_text.specs.Causes as tokens
use Rattle.mdg_text.specs.declared.token.TextFault.{TextFault}
use Rattle.mdg_text.specs.declared.token.Token.{Token}
use Rattle.mdg_text.proofs.AnswerLemmas.{some_answer as some_text}
use Rattle.mdg_tree.specs.declared.tree.FileTree.{FileTree}
use Rattle.serde_json.specs.Data.{Data}
use Rattle.serde_json.specs.Read.{read as read_value}
use Rattle.mdg_pack.proofs.RefusalLemmas.{IsText, IsTree, IsBinding, text_refusal, tree_refusal, binding_refusal}
use Rattle.mdg_read.proofs.AnswerLemmas.{some_answer as some_tree}
use Rattle.mdg_scope.proofs.AnswerLemmas.{some_answer as some_binding}
use Rattle.mdg_pack.proofs.PackageLemmas.{IsNumbering, requires_on, resolved_on, numbers_none}

-- ---- the manifest

abbrev SomeEntry : Fetched → Type 0
SomeEntry got = (result : Result (List FilePath) PackFault) × Enters got result

no_entry_of : (bytes : List ℕ) → ((entry : List FilePath) → HasEntry bytes entry → ⊥) → SomeEntry (Bytes bytes)
no_entry_of bytes none = (Err fault.BadManifest, (refl, none))

entry_by : (bytes : List ℕ) (value : Data) (entry : Option (List FilePath)) → IsUtf8 bytes → read_value bytes ≡ Some value → entry_of_value value ≡ entry → SomeEntry (Bytes bytes)
entry_by bytes value (Some entry) utf8 is says = (Ok entry, record { value = value; json = record { utf8 = utf8; read_as = is }; says = says })
entry_by bytes value None utf8 is says = no_entry_of bytes (λ entry has.
    let same : value ≡ has.value = (let both = sym is ∙ has.json.read_as in cc) in
    let no = sym says ∙ ap entry_of_value same ∙ has.says in absurd cc)

value_by : (bytes : List ℕ) (value : Option Data) → IsUtf8 bytes → read_value bytes ≡ value → SomeEntry (Bytes bytes)
value_by bytes (Some value) utf8 is = entry_by bytes value (entry_of_value value) utf8 is refl
value_by bytes None utf8 is = no_entry_of bytes (λ entry has. let no = sym is ∙ has.json.read_as in absurd cc)

text_by : (bytes : List ℕ) (b : Bool) → is_utf8 bytes ≡ b → SomeEntry (Bytes bytes)
text_by bytes true is = value_by bytes (read_value bytes) (IsUtf8-from_is_utf8 bytes is) refl
text_by bytes false is = no_entry_of bytes (λ entry has. let no = sym is ∙ is_utf8-from_IsUtf8 bytes has.json.utf8 in absurd cc)

some_entry : (got : Fetched) → SomeEntry got
some_entry Absent = (Ok index_alone, refl)
some_entry TooLong = (Err (fault.TooLong manifest), refl)
some_entry (Bytes bytes) = text_by bytes (is_utf8 bytes) refl

-- ---- a file

module _ (profile : Profile) (path : FilePath) (bytes : List ℕ) where
  abbrev SomeLoad : Type 0
  SomeLoad = (result : Result Bound PackFault) × Loads profile path bytes result

  of_binding : (ts : List Token) (tree : FileTree) (answer : Result Bound ScopeRefusal) → tokens.HasCause bytes (Ok ts) → files.HasCause ts (Ok tree)
      → IsBinding answer → bindings.IsAnswer path tree profile answer → SomeLoad
  of_binding ts tree (Ok file) p f other is = (Ok file, loads_bound ts tree p f is)
  of_binding ts tree (Err r) p f other is = (Err (fault.Scope path r (scope_line bytes r)), no_bindings ts tree p f (binding_refusal r other) is)

  of_tree : (ts : List Token) (answer : Result FileTree ReadRefusal) → tokens.HasCause bytes (Ok ts) → IsTree answer → files.HasCause ts answer → SomeLoad
  of_tree ts (Ok tree) p other is = let b = some_binding path tree profile in of_binding ts tree b.0 p is b.1 b.2
  of_tree ts (Err r) p other is = (Err (fault.Read path r (read_line bytes r)), no_tree ts p (tree_refusal r other) is)

  of_text : (answer : Result (List Token) TextFault) → IsText answer → tokens.HasCause bytes answer → SomeLoad
  of_text (Ok ts) other is = let t = some_tree ts in of_tree ts t.0 is t.1 t.2
  of_text (Err r) other is = (Err (fault.Text path r (text_line bytes r)), no_tokens (text_refusal r other) is)

  some_load : SomeLoad
  some_load = let t = some_text bytes in of_text t.0 t.1 t.2

-- ---- the files

module _ (given : Given) (profile : Profile) where
  abbrev SomeWalks : ModuleTable → List Bound → Type 0
  SomeWalks table done = (outcome : Outcome) × Walks given profile table done outcome

  module _ (table : ModuleTable) (done : List Bound) (file : SourceFile) (at : slice_get table.files (length done) ≡ Some file)
      (rest : (bound : Bound) (required : List Require) (after : ModuleTable) → resolved_requires_of given bound table ≡ goes required after → SomeWalks after (done ++ with_required bound required ∷ [])) where
    requires_by : (bound : Bound) (progress : Progress (List Require)) → LoadsFile profile file (Ok bound) → resolved_requires_of given bound table ≡ progress → SomeWalks table done
    requires_by bound (ends asked refusal) loads is = (refused asked refusal, stopped file bound at loads is)
    requires_by bound (goes required after) loads is = let more = rest bound required after is in (more.0, further file bound required after at loads is more.1)

    file_by : (result : Result Bound PackFault) → LoadsFile profile file result → SomeWalks table done
    file_by (Err refusal) loads = (refused (paths table) refusal, unread file at loads)
    file_by (Ok bound) loads = requires_by bound (resolved_requires_of given bound table) loads refl

  -- The fuel is how many files a package may still have.
  some_walks : (fuel : ℕ) (table : ModuleTable) (done : List Bound) → IsNumbering table → most_files ≤ fuel + length done → SomeWalks table done
  some_walks zero table done numbers enough = by (slice_get table.files (length done)) refl
    where
      by : (file : Option SourceFile) → slice_get table.files (length done) ≡ file → SomeWalks table done
      by None none = (packed (paths table) done, finished none)
      by (Some file) at = let few = numbers.few in let inside = slice_get_within table.files (length done) file at in absurd (omega arith)
  some_walks (suc fuel) table done numbers enough = by (slice_get table.files (length done)) refl
      (λ bound required after is.
      let on = requires_on given (folder_of bound.path) [] bound.required required table after numbers is in
      some_walks fuel after (done ++ with_required bound required ∷ []) on.on.numbers (omega (arith, length-append done (with_required bound required ∷ []))))
    where
      by : (file : Option SourceFile) → slice_get table.files (length done) ≡ file
          → ((bound : Bound) (required : List Require) (after : ModuleTable) → resolved_requires_of given bound table ≡ goes required after → SomeWalks after (done ++ with_required bound required ∷ [])) → SomeWalks table done
      by None none rest = (packed (paths table) done, finished none)
      by (Some file) at rest = let loaded = some_load profile file.path file.bytes in file_by table done file at rest loaded.0 loaded.1

  -- ---- from the entry on

  abbrev SomeStart : List FilePath → Type 0
  SomeStart entry = (outcome : Outcome) × Starts given profile entry outcome

  entry_found : (entry : List FilePath) (progress : Progress ℕ) → resolved given entry empty_table ≡ progress → SomeStart entry
  unfolding resolved
  entry_found entry (ends asked refusal) is = (refused asked refusal, no_entry is)
  entry_found entry (goes number table) is =
      let on = resolved_on given (last_candidate entry) entry empty_table table number numbers_none is in
      let more = some_walks most_files table [] on.on.numbers (omega arith) in
      (more.0, entered number table is more.1)

  some_start : (entry : List FilePath) → SomeStart entry
  some_start entry = entry_found entry (resolved given entry empty_table) refl

module _ (given : Given) (profile : Profile) where
  abbrev SomeWalk : Type 0
  SomeWalk = (outcome : Outcome) × WalkBy given profile outcome

  enters_by : (got : Fetched) (entry : Result (List FilePath) PackFault) → given 0 manifest ≡ gives got → Enters got entry → SomeWalk
  enters_by got (Err refusal) is enters = (refused (manifest ∷ []) refusal, no_manifest got is enters)
  enters_by got (Ok entry) is enters = let more = some_start (later given) profile entry in (after_manifest more.0, manifested got entry is enters more.1)

  reading_by : (reading : Reading) → given 0 manifest ≡ reading → SomeWalk
  reading_by fails is = (refused (manifest ∷ []) (fault.FolderFailed manifest), failed_manifest is)
  reading_by (gives got) is = let entry = some_entry got in enters_by got entry.0 is entry.1

  pub some_walk_by : SomeWalk
  some_walk_by = reading_by (given 0 manifest) refl

pub some_outcome : HasSomeOutcome
some_outcome held profile failing = some_walk_by (reads_of held failing) profile
