-- What the names and offsets of a file stand for.
use Rattle.std.specs.Prelude.{ℕ, ◌+◌, Bool, true, false, List, [], ◌∷◌, length, map, slice_get, Option, Some, None}
use Rattle.mdg_base.specs.declared.number.CellId.{CellId}
use Rattle.mdg_base.specs.declared.number.FileId.{FileId}
use Rattle.mdg_profile.specs.declared.entry.Entry.{Entry}
use Rattle.mdg_scope.specs.declared.bound.Bound.{Bound}
use Rattle.mdg_scope.specs.declared.bound.BoundFunction.{BoundFunction}
use Rattle.mdg_scope.specs.declared.bound.Goal.{Goal}
use Rattle.mdg_scope.specs.declared.bound.Goal.TheVariants as goal
use Rattle.mdg_scope.specs.declared.bound.Require.{Require}
use Rattle.mdg_scope.specs.Resolution.{globals_from}
use Rattle.mdg_lower.specs.declared.scope.Bindings.{Bindings}
use Rattle.mdg_lower.specs.declared.scope.Scope.{Scope}
use Rattle.mdg_lower.specs.declared.scope.Dependency.{Dependency}
use Rattle.mdg_lower.specs.declared.scope.Dependency.TheVariants as w
use Rattle.mdg_lower.specs.Columns.{add_names}
use Rattle.mdg_lower.specs.Lookup.{Name}
use Rattle.mdg_lower.specs.Offsets.{add_offsets}

-- the name that means the function itself
abbrev pub own_names : Bool → Option Name → List Name
own_names true (Some name) = name ∷ []
own_names true None = []
own_names false name = []

-- the names of a function whose first cell has this number
abbrev pub bindings_of : ℕ → BoundFunction → Bindings
bindings_of cell f = record {
  locals = add_names (add_names [] f.parameters) f.locals;
  cells = add_names [] f.cells;
  own = own_names f.own_name f.name;
  first_cell = cell;
  parent = f.parent;
}

-- the names of functions whose cells are numbered through from this number on
abbrev pub bindings_from : ℕ → List BoundFunction → List Bindings
bindings_from cell [] = []
bindings_from cell (f ∷ fs) = bindings_of cell f ∷ bindings_from (cell + length f.cells) fs

-- how many cells the functions have
abbrev pub cells_of : List BoundFunction → ℕ
cells_of [] = 0
cells_of (f ∷ fs) = length f.cells + cells_of fs

-- The cell of the module object of each file. It is the file's first, before those of its functions.
abbrev pub modules_from : ℕ → List Bound → List CellId
modules_from cell [] = []
modules_from cell (b ∷ bs) = record { 0 = cell } ∷ modules_from (cell + 1 + cells_of b.functions) bs

abbrev pub dependency_file : Name → FileId → Option CellId → Dependency
dependency_file text file None = w.Module text
dependency_file text file (Some cell) = w.File file cell

abbrev pub dependency_goal : List CellId → Name → Goal → Dependency
dependency_goal modules text goal.Bare = w.Module text
dependency_goal modules text goal.Path = w.Module text
dependency_goal modules text (goal.File file) = dependency_file text file (slice_get modules file.0)

-- what a call of `require` asks for
abbrev pub dependency_of : List CellId → Require → Dependency
dependency_of modules r = dependency_goal modules r.text r.goal

-- a file with this number, whose functions and cells are numbered from these numbers on, before any of its functions
-- is entered
unfoldable pub file_scope : List CellId → List Entry → ℕ → ℕ → ℕ → Bound → Scope
file_scope modules entries file function cell b = record {
  file = record { 0 = file };
  «module» = record { 0 = cell };
  globals = globals_from [] entries;
  first_function = function;
  all_bindings = bindings_from (cell + 1) b.functions;
  functions = add_offsets [] (map (λ f. f.offset) b.functions);
  required = add_offsets [] (map (λ r. r.offset) b.required);
  dependencies = map (dependency_of modules) b.required;
  number = 0;
  function = record { 0 = function };
  loops = [];
  first_loop = 0;
  temporaries = 0;
}

-- Its function with this number is entered. Locals are its parameters, its other names, one for each loop with `in`,
-- and then temporaries.
unfoldable pub entered : ℕ → BoundFunction → List ℕ → Scope → Scope
entered number f loops scope = record {
  file = scope.file;
  «module» = scope.module;
  globals = scope.globals;
  first_function = scope.first_function;
  all_bindings = scope.all_bindings;
  functions = scope.functions;
  required = scope.required;
  dependencies = scope.dependencies;
  number = number;
  function = record { 0 = scope.first_function + number };
  loops = loops;
  first_loop = length f.parameters + length f.locals;
  temporaries = length f.parameters + length f.locals + length loops;
}
