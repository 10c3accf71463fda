-- What names, keywords and calls of `require` stand for is in range in the scopes of files and their functions.
use Rattle.std.proofs.Common.{◌≡◌, ℕ, zero, suc, ◌+◌, ◌<◌, ◌≤◌, ◌==◌, Bool, true, false, List, [], ◌∷◌, ◌++◌, map, length, All, IfSome, Option, Some, None, slice_get, get_or, bytes_eq, codes, refl, arith, length-append, if◌then◌else◌}
use Rattle.std.specs.List.{position}
use Rattle.std.proofs.lemmas.List.Elements.{All-nil, All-cons, All-map}
use Rattle.std.proofs.lemmas.List.{length-map}
use Rattle.std.proofs.lemmas.List.Quantifiers.{position-Some}
use Rattle.std.proofs.lemmas.Option.{slice_get_within, IfSome_then}
use Rattle.mdg_base.specs.declared.number.CellId.{CellId}
use Rattle.mdg_base.specs.declared.number.FileId.{FileId}
use Rattle.mdg_tree.specs.declared.tree.Stmt.{Stmt}
use Rattle.mdg_profile.specs.declared.entry.Entry.{Entry}
use Rattle.mdg_scope.specs.declared.bound.Bound.{Bound}
use Rattle.mdg_scope.specs.declared.bound.BoundFunction.{BoundFunction}
use Rattle.mdg_scope.specs.declared.bound.Goal.{Goal}
use Rattle.mdg_scope.specs.declared.bound.Goal.TheVariants as goal
use Rattle.mdg_scope.specs.declared.bound.Require.{Require}
use Rattle.mdg_scope.specs.Resolution.{globals_from}
use Rattle.mdg_scope.specs.Names.{has_name, add_name, place_of}
use Rattle.mdg_lower.specs.declared.scope.Bindings.{Bindings}
use Rattle.mdg_lower.specs.declared.scope.Meaning.{Meaning}
use Rattle.mdg_lower.specs.declared.scope.Meaning.TheVariants as m
use Rattle.mdg_lower.specs.declared.scope.Dependency.{Dependency}
use Rattle.mdg_lower.specs.Columns.{add_names}
use Rattle.mdg_lower.specs.Offsets.{has_offset, add_offset, add_offsets, place_of_offset}
use Rattle.mdg_lower.specs.Environment.{bindings_of, bindings_from, cells_of, dependency_file, dependency_goal, dependency_of, file_scope, entered}
use Rattle.mdg_lower.specs.Tables.{in_function}
use Rattle.mdg_lower.specs.Lookup.{Name, cell_with, cell_in, local_with, local_in, or_else, enclosing_by, bindings_at, enclosing_cell, bound_by, meaning_by, meaning, function_number, function_at, dependency_by, dependency_at}
use Rattle.mdg_scope.specs.Resolution.{is_literal}
use Rattle.mdg_lower.specs.WellFormed.{Counts, IsMeaningThere, IsDependencyThere, ScopeFits}
use Rattle.mdg_lower.proofs.LayoutLists.{first_of, rest_of}

-- names that are added each once are no more than the names
pub names_within : (names more : List (List ℕ)) → length (add_names names more) ≤ length names + length more
names_within names [] = omega arith
names_within names (name ∷ more) =
    let rest : length (add_names (add_name names name) more) ≤ length (add_name names name) + length more = names_within (add_name names name) more in
    let here : length (add_name names name) ≤ length names + 1 = by (has_name names name) in
    omega (arith, rest, here)
  where
    by : (b : Bool) → length (if b then names else names ++ name ∷ []) ≤ length names + 1
    by true = omega arith
    by false = omega (arith, length-append names (name ∷ []))

-- offsets that are added each once are no more than the offsets
pub offsets_within : (offsets more : List ℕ) → length (add_offsets offsets more) ≤ length offsets + length more
offsets_within offsets [] = omega arith
offsets_within offsets (offset ∷ more) =
    let rest : length (add_offsets (add_offset offsets offset) more) ≤ length (add_offset offsets offset) + length more = offsets_within (add_offset offsets offset) more in
    let here : length (add_offset offsets offset) ≤ length offsets + 1 = by (has_offset offsets offset) in
    omega (arith, rest, here)
  where
    by : (b : Bool) → length (if b then offsets else offsets ++ offset ∷ []) ≤ length offsets + 1
    by true = omega arith
    by false = omega (arith, length-append offsets (offset ∷ []))

-- what holds of all holds of the one that is found
pub found_there : {X : Type 0} (P : X → Type 0) (xs : List X) (i : ℕ) → All P xs → IfSome (slice_get xs i) P
found_there P [] i all = tt
found_there P (x ∷ xs) zero all = first_of P x xs all
found_there P (x ∷ xs) (suc i) all = found_there P xs i (rest_of P x xs all)

-- a place that is found is one of the list
pub place_within : {X : Type 0} (p : X → Bool) (xs : List X) → X → IfSome (position p xs) (λ i. i < length xs)
place_within p xs x = by (position p xs) refl
  where
    by : (o : Option ℕ) → position p xs ≡ o → IfSome o (λ i. i < length xs)
    by None is = tt
    by (Some i) is = (position-Some p xs i x is).0

-- the cells of the frame are in range
abbrev pub AreBindingsThere : Counts → Bindings → Type 0
AreBindingsThere n bindings = bindings.first_cell + length bindings.cells ≤ n.cells

-- the cells of functions that are numbered through are in range
pub all_bindings_there : (n : Counts) (cell : ℕ) (fs : List BoundFunction) → cell + cells_of fs ≤ n.cells → All (AreBindingsThere n) (bindings_from cell fs)
all_bindings_there n cell [] within = All-nil (AreBindingsThere n)
all_bindings_there n cell (f ∷ fs) within =
    let few : length (add_names [] f.cells) ≤ length f.cells = omega (arith, names_within [] f.cells) in
    All-cons (AreBindingsThere n) (bindings_of cell f) (bindings_from (cell + length f.cells) fs) (omega (arith, few, within))
    (all_bindings_there n (cell + length f.cells) fs (omega (arith, within)))

-- what holds of either, where there is one, holds of the first that there is
else_there : (P : Meaning → Type 0) (one other : Option Meaning) → IfSome one P → IfSome other P → IfSome (or_else one other) P
else_there P None other a b = b
else_there P (Some meaning) other a b = a

-- the cell of a name is in range
cell_there : (n : Counts) (bindings : Bindings) (name : Name) → AreBindingsThere n bindings → IfSome (cell_in bindings name) (IsMeaningThere n)
cell_there n bindings name there = by (place_of bindings.cells name) (place_within (bytes_eq name) bindings.cells name)
  where
    by : (o : Option ℕ) → IfSome o (λ i. i < length bindings.cells) → IfSome (cell_with bindings name o) (IsMeaningThere n)
    by None within = tt
    by (Some i) within = omega (arith, within, there)

-- so is a local, which has no number of the package
local_there : (n : Counts) (bindings : Bindings) (name : Name) → IfSome (local_in bindings name) (IsMeaningThere n)
local_there n bindings name = by (place_of bindings.locals name)
  where
    by : (o : Option ℕ) → IfSome (local_with bindings name o) (IsMeaningThere n)
    by None = tt
    by (Some i) = tt

-- a function around has its cells in range
bindings_there : (n : Counts) (all_bindings : List Bindings) (function : Option ℕ) → All (AreBindingsThere n) all_bindings → IfSome (bindings_at all_bindings function) (AreBindingsThere n)
bindings_there n all_bindings None there = tt
bindings_there n all_bindings (Some function) there = found_there (AreBindingsThere n) all_bindings function there

-- so is what a function around or one further out gives
around_there : (n : Counts) (name : Name) (o : Option Bindings) (further : Option ℕ → Option Meaning) → IfSome o (AreBindingsThere n)
    → ((parent : Option ℕ) → IfSome (further parent) (IsMeaningThere n)) → IfSome (enclosing_by o name further) (IsMeaningThere n)
around_there n name None further there more = tt
around_there n name (Some bindings) further there more = else_there (IsMeaningThere n) (cell_in bindings name) (further bindings.parent) (cell_there n bindings name there) (more bindings.parent)

-- so is what the functions around give
enclosing_there : (n : Counts) (all_bindings : List Bindings) (name : Name) → All (AreBindingsThere n) all_bindings → (steps : ℕ) (function : Option ℕ) → IfSome (enclosing_cell all_bindings steps function name) (IsMeaningThere n)
unfolding enclosing_cell
enclosing_there n all_bindings name there zero function = tt
enclosing_there n all_bindings name there (suc steps) function =
    around_there n name (bindings_at all_bindings function) (λ parent. enclosing_cell all_bindings steps parent name) (bindings_there n all_bindings function there)
    (λ parent. enclosing_there n all_bindings name there steps parent)

-- so is what any binding gives
bound_there : (n : Counts) (all_bindings : List Bindings) (name : Name) → All (AreBindingsThere n) all_bindings → (o : Option Bindings) → IfSome o (AreBindingsThere n) → IfSome (bound_by all_bindings o name) (IsMeaningThere n)
bound_there n all_bindings name there None here = tt
bound_there n all_bindings name there (Some bindings) here =
    else_there (IsMeaningThere n) (cell_in bindings name) (or_else (local_in bindings name) (enclosing_cell all_bindings (length all_bindings) bindings.parent name)) (cell_there n bindings name here)
    (else_there (IsMeaningThere n) (local_in bindings name) (enclosing_cell all_bindings (length all_bindings) bindings.parent name) (local_there n bindings name)
    (enclosing_there n all_bindings name there (length all_bindings) bindings.parent))

-- a name that nothing binds names no cell
free_there : (n : Counts) (a b c : Bool) → IsMeaningThere n (if a then m.Require else (if b then m.Literal else (if c then m.Global else m.Nothing)))
free_there n true b c = tt
free_there n false true c = tt
free_there n false false true = tt
free_there n false false false = tt

-- what a name means is in range
meant_there : (n : Counts) (globals : List Name) (name : Name) (o : Option Meaning) → IfSome o (IsMeaningThere n) → IsMeaningThere n (meaning_by globals name o)
meant_there n globals name None there = free_there n (bytes_eq name (codes "require")) (is_literal name) (has_name globals name)
meant_there n globals name (Some meaning) there = there

-- a file that is asked for has a module object
asked_there : (n : Counts) (modules : List CellId) (text : Name) (file : FileId) → length modules ≤ n.files → All (λ (cell : CellId). cell.0 < n.cells) modules
    → IsDependencyThere n (dependency_file text file (slice_get modules file.0))
asked_there n modules text file few there = by (slice_get modules file.0) refl (found_there (λ (cell : CellId). cell.0 < n.cells) modules file.0 there)
  where
    by : (o : Option CellId) → slice_get modules file.0 ≡ o → IfSome o (λ cell. cell.0 < n.cells) → IsDependencyThere n (dependency_file text file o)
    by None is within = tt
    by (Some cell) is within = (omega (arith, few, slice_get_within modules file.0 cell is), within)

-- what is asked for is there
goal_there : (n : Counts) (modules : List CellId) (text : Name) (g : Goal) → length modules ≤ n.files → All (λ (cell : CellId). cell.0 < n.cells) modules → IsDependencyThere n (dependency_goal modules text g)
goal_there n modules text goal.Bare few there = tt
goal_there n modules text goal.Path few there = tt
goal_there n modules text (goal.File file) few there = asked_there n modules text file few there

-- so is all that is asked for
all_dependencies_there : (n : Counts) (modules : List CellId) (rs : List Require) → length modules ≤ n.files → All (λ (cell : CellId). cell.0 < n.cells) modules → All (IsDependencyThere n) (map (dependency_of modules) rs)
all_dependencies_there n modules rs few there = All-map (IsDependencyThere n) (dependency_of modules) rs (λ k r within. let r : Require = get_or rs k r in goal_there n modules r.text r.goal few there)

-- the number of a function of the file is in range
number_there : (n : Counts) (first count : ℕ) (o : Option ℕ) → 0 < count → first + count ≤ n.functions → IfSome o (λ i. i < count) → function_number first o < n.functions
number_there n first count None some few within = omega (arith, some, few)
number_there n first count (Some i) some few within = omega (arith, few, within)

-- what a call asks for is there, if it is known
dependency_there : (n : Counts) (dependencies : List Dependency) (o : Option ℕ) → All (IsDependencyThere n) dependencies → IfSome (dependency_by dependencies o) (IsDependencyThere n)
dependency_there n dependencies None there = tt
dependency_there n dependencies (Some i) there = found_there (IsDependencyThere n) dependencies i there

-- the scope of a function of a file
pub scope_fits : (n : Counts) (modules : List CellId) (entries : List Entry) (file function cell : ℕ) (b : Bound) (number : ℕ) (f : BoundFunction) (body : List Stmt)
    → 0 < length b.functions → function + length b.functions ≤ n.functions → cell + 1 + cells_of b.functions ≤ n.cells
    → length modules ≤ n.files → All (λ (one : CellId). one.0 < n.cells) modules
    → ScopeFits n (in_function (file_scope modules entries file function cell b) number f body)
unfolding meaning function_at dependency_at entered file_scope
scope_fits n modules entries file function cell b number f body some functions cells few there = record {
  meanings_there = λ name. meant_there n (globals_from [] entries) name (bound_by all_bindings (slice_get all_bindings number) name)
      (bound_there n all_bindings name bindings_fit (slice_get all_bindings number) (found_there (AreBindingsThere n) all_bindings number bindings_fit));
  functions_there = λ offset. number_there n function (length b.functions) (place_of_offset offsets offset) some functions (placed offset);
  dependencies_there = λ offset. dependency_there n (map (dependency_of modules) b.required) (place_of_offset (add_offsets [] (map (λ r. r.offset) b.required)) offset) (all_dependencies_there n modules b.required few there);
  module_there = omega (arith, cells);
}
  where
    all_bindings : List Bindings
    all_bindings = bindings_from (cell + 1) b.functions

    bindings_fit : All (AreBindingsThere n) all_bindings
    bindings_fit = all_bindings_there n (cell + 1) b.functions cells

    offsets : List ℕ
    offsets = add_offsets [] (map (λ f. f.offset) b.functions)

    counted : length offsets ≤ length b.functions
    counted = omega (arith, offsets_within [] (map (λ f. f.offset) b.functions), length-map b.functions (λ (g : BoundFunction). g.offset))

    placed : (offset : ℕ) → IfSome (place_of_offset offsets offset) (λ i. i < length b.functions)
    placed offset = IfSome_then (place_of_offset offsets offset) (place_within (λ other. offset == other) offsets 0) (λ i within. omega (arith, within, counted))
