-- There is always a candidate.
use Rattle.std.proofs.Common.{◌≡◌, ◌<◌, Bool, true, false, List, [], ◌∷◌, ◌++◌, length, sym, subst, arith, length-append}
use Rattle.std.specs.Prelude.{Option, Some, None, Ok}
use Rattle.mdg_pack.specs.Candidates.{as_it_is, candidates, candidates_from, names_folder}
use Rattle.mdg_pack.specs.Manifest.{Enters, index_alone, entry_of_value, entry_of_main, entry_of_text, is_wrong_main}
use Rattle.mdg_base.specs.Segments.{segments, followed}
use Rattle.mdg_pack.specs.Paths.{FilePath, path_of}
use Rattle.mdg_pack.specs.WalkAnswers.{EntryAnswer}
use Rattle.mdg_port.specs.declared.folder.Fetched.{Fetched}
use Rattle.mdg_port.specs.declared.folder.Fetched.TheVariants.{Absent, TooLong, Bytes}
use Rattle.serde_json.specs.Data.{Data, null, boolean, number, string, array, object}
use Rattle.serde_json.specs.Find.{get_member}
use Rattle.std.specs.Prelude.{codes, if◌then◌else◌, ◌==◌}

some_of_append : (xs ys : List FilePath) → 0 < length ys → 0 < length (xs ++ ys)
some_of_append xs ys some = omega (arith, length-append xs ys)

some_candidates : (is_folder : Bool) (path : FilePath) → 0 < length (candidates is_folder path)
unfolding candidates
some_candidates true path = omega arith
some_candidates false path = some_of_append (as_it_is path) (_ ∷ _ ∷ []) (omega arith)

some_from : (folder : List FilePath) (text : FilePath) → 0 < length (candidates_from folder text)
unfolding candidates_from
some_from folder text = some_candidates (names_folder text) (path_of (followed folder (segments text)))

pub some_required : (list : List FilePath) (folder : List FilePath) (text : FilePath) → list ≡ candidates_from folder text → 0 < length list
some_required list folder text is = subst (λ xs. 0 < length xs) (sym is) (some_from folder text)

-- ---- the entry

some_index : (entry : List FilePath) → Some index_alone ≡ Some entry → 0 < length entry
some_index entry is = let same : index_alone ≡ entry = cc in subst (λ (xs : List FilePath). 0 < length xs) same (omega arith)

some_text : (main : FilePath) (entry : List FilePath) → entry_of_text main ≡ Some entry → 0 < length entry
unfolding entry_of_text
some_text main entry is = by (length main == 0) (is_wrong_main main) is
  where
    by : (empty wrong : Bool) → (if empty then Some index_alone else (if wrong then None else Some (candidates_from [] main ++ index_alone))) ≡ Some entry → 0 < length entry
    by true wrong it = some_index entry it
    by false true it = absurd cc
    by false false it =
        let same : candidates_from [] main ++ index_alone ≡ entry = cc in
        subst (λ (xs : List FilePath). 0 < length xs) same (some_of_append (candidates_from [] main) index_alone (omega arith))

some_main : (main : Option Data) (entry : List FilePath) → entry_of_main main ≡ Some entry → 0 < length entry
some_main None entry is = some_index entry is
some_main (Some null) entry is = absurd cc
some_main (Some (boolean b)) entry is = absurd cc
some_main (Some (number n)) entry is = absurd cc
some_main (Some (string text)) entry is = some_text text entry is
some_main (Some (array items)) entry is = absurd cc
some_main (Some (object fields)) entry is = absurd cc

some_value : (value : Data) (entry : List FilePath) → entry_of_value value ≡ Some entry → 0 < length entry
some_value null entry is = absurd cc
some_value (boolean b) entry is = absurd cc
some_value (number n) entry is = absurd cc
some_value (string text) entry is = absurd cc
some_value (array items) entry is = absurd cc
some_value (object fields) entry is = some_main (get_member (codes "main") fields) entry is

some_entry : (read : Fetched) (entry : List FilePath) → Enters read (Ok entry) → 0 < length entry
some_entry Absent entry is = subst (λ (xs : List FilePath). 0 < length xs) (sym is) (omega arith)
some_entry TooLong entry is = absurd is
some_entry (Bytes bytes) entry is = some_value is.value entry is.says

pub some_entered : (read : Fetched) (entry shown : List FilePath) → shown ≡ entry → EntryAnswer read (Ok entry) → 0 < length shown
some_entered read entry shown same answer = subst (λ (xs : List FilePath). 0 < length xs) (sym same) (some_entry read entry answer)
