-- The code of a package: its files are lowered one after another, function by function.
use Rattle.std.specs.Prelude.{ℕ, ◌+◌, ◌-◌, List, [], ◌∷◌, ◌++◌, length, Option, Some, None}
use Rattle.mdg_base.specs.declared.number.CellId.{CellId}
use Rattle.mdg_base.specs.declared.number.FunId.{FunId}
use Rattle.mdg_tree.specs.declared.tree.At.{At}
use Rattle.mdg_tree.specs.declared.tree.Stmt.{Stmt}
use Rattle.mdg_tree.specs.declared.tree.Function.{Function}
use Rattle.mdg_profile.specs.declared.entry.Entry.{Entry}
use Rattle.mdg_profile.specs.declared.entry.Profile.{Profile}
use Rattle.mdg_scope.specs.declared.bound.Bound.{Bound}
use Rattle.mdg_scope.specs.declared.bound.BoundFunction.{BoundFunction}
use Rattle.mdg_code.specs.declared.code.Code.{Code}
use Rattle.mdg_code.specs.declared.code.FunctionRow.{FunctionRow}
use Rattle.mdg_lower.specs.declared.draft.DraftLine.{DraftLine}
use Rattle.mdg_lower.specs.declared.tables.Tables.{Tables}
use Rattle.mdg_lower.specs.declared.scope.Scope.{Scope}
use Rattle.mdg_lower.specs.declared.link.Linked.{Linked}
use Rattle.mdg_lower.specs.Statements.{body_start, function_start, return_undefined}
use Rattle.mdg_lower.specs.Labels.{closed}
use Rattle.mdg_lower.specs.Builder.{Lines, ◌>>◌}
use Rattle.mdg_lower.specs.Environment.{entered, file_scope, modules_from}
use Rattle.mdg_lower.specs.Forms.{keyword_at}
use Rattle.mdg_lower.specs.Trees.{body_lines, hoisted_lines}
use Rattle.mdg_lower.specs.Offsets.{add_offsets}
use Rattle.mdg_lower.specs.FrameSize.{size_for_lines}
use Rattle.mdg_lower.specs.Link.{linked}
use Rattle.mdg_lower.specs.Nested.{functions_in, loops_in}

-- what stands between the start and the end of a function: its declared functions are made, and then its statements
unfoldable pub inner_lines : Scope → List Stmt → Lines
inner_lines scope body = do
  hoisted_lines body scope
  closed (body_lines body scope)

-- the lines of a function that was entered
unfoldable pub function_lines : Scope → BoundFunction → Function → Lines
function_lines scope f t = do
  function_start scope (keyword_at t) f.parameters f.own_name f.name
  inner_lines scope t.body
  return_undefined scope (keyword_at t)

-- the lines of the body of a file
unfoldable pub file_lines : Scope → At → List Stmt → Lines
file_lines scope at items = do
  body_start scope at
  inner_lines scope items
  return_undefined scope at

-- the drafts so far, and the tables of the functions, cells and files that they belong to
pub record PackageLowering : Type 0 where
  pub lines : List DraftLine
  pub tables : Tables

-- the function around one, in the package
abbrev pub parent_of : ℕ → Option ℕ → Option FunId
parent_of first None = None
parent_of first (Some number) = Some (record { 0 = first + number })

-- a function with these lines from a site on
abbrev pub function_row : Scope → BoundFunction → At → ℕ → List DraftLine → FunctionRow
function_row scope f at site lines = record {
  name = f.name;
  place = record { file = scope.file; line = at.line; offset = at.offset };
  parameters = f.parameters;
  locals = size_for_lines scope.temporaries lines;
  entry = record { 0 = site };
  end = record { 0 = site + length lines - 1 };
  parent = parent_of scope.first_function f.parent;
}

-- the function, once for each of so many cells
abbrev pub owned : {A : Type 0} → FunId → List A → List FunId
owned function [] = []
owned function (cell ∷ cells) = function ∷ owned function cells

abbrev pub with_function : Scope → BoundFunction → At → ℕ → List DraftLine → Tables → Tables
with_function scope f at site lines tables = record {
  functions = tables.functions ++ function_row scope f at site lines ∷ [];
  cells = tables.cells ++ owned scope.function f.cells;
  files = tables.files;
}

-- one more function, with these lines
unfoldable pub append_function : Scope → BoundFunction → At → Lines → PackageLowering → PackageLowering
append_function scope f at code lowering = record {
  lines = lowering.lines ++ code (length lowering.lines);
  tables = with_function scope f at (length lowering.lines) (code (length lowering.lines)) lowering.tables;
}

-- the function of a file with this number is entered
abbrev pub in_function : Scope → ℕ → BoundFunction → List Stmt → Scope
in_function scope number f body = entered number f (add_offsets [] (loops_in body)) scope

-- one more function of a file
unfoldable pub lower_function : Scope → ℕ → BoundFunction → Function → PackageLowering → PackageLowering
lower_function scope number f t lowering =
    append_function (in_function scope number f t.body) f (keyword_at t) (function_lines (in_function scope number f t.body) f t) lowering

-- the functions of a file from this number on, with their trees
unfoldable pub lower_nested : Scope → ℕ → List BoundFunction → List Function → PackageLowering → PackageLowering
lower_nested scope number [] ts lowering = lowering
lower_nested scope number (f ∷ fs) [] lowering = lowering
lower_nested scope number (f ∷ fs) (t ∷ ts) lowering =
    lower_nested scope (number + 1) fs ts (lower_function scope number f t lowering)

abbrev pub with_file : Scope → Bound → Tables → Tables
with_file scope b tables = record {
  functions = tables.functions;
  cells = tables.cells ++ record { 0 = scope.first_function } ∷ [];
  files = tables.files ++ record { path = b.path; body = record { 0 = scope.first_function }; «module» = scope.module } ∷ [];
}

-- the row of a file and the cell of its module object
abbrev pub begin_file : Scope → Bound → PackageLowering → PackageLowering
begin_file scope b lowering = record { lines = lowering.lines; tables = with_file scope b lowering.tables }

-- the body of a file
unfoldable pub lower_body : Scope → BoundFunction → Bound → PackageLowering → PackageLowering
lower_body scope f b lowering =
    append_function (in_function scope 0 f b.tree.items) f b.tree.at (file_lines (in_function scope 0 f b.tree.items) b.tree.at b.tree.items) lowering

abbrev pub lower_bound : Scope → Bound → List BoundFunction → PackageLowering → PackageLowering
lower_bound scope b [] lowering = lowering
lower_bound scope b (f ∷ fs) lowering =
    lower_nested scope 1 fs (functions_in b.tree.items) (lower_body scope f b lowering)

-- the scope of the file that comes next
abbrev pub scope_after : List CellId → List Entry → Tables → Bound → Scope
scope_after modules entries tables b =
    file_scope modules entries (length tables.files) (length tables.functions) (length tables.cells) b

-- one more file
unfoldable pub lower_file : List CellId → List Entry → Bound → PackageLowering → PackageLowering
lower_file modules entries b lowering =
    let scope = scope_after modules entries lowering.tables b in
    lower_bound scope b b.functions (begin_file scope b lowering)

unfoldable pub lower_files : List CellId → List Entry → List Bound → PackageLowering → PackageLowering
lower_files modules entries [] lowering = lowering
lower_files modules entries (b ∷ bs) lowering = lower_files modules entries bs (lower_file modules entries b lowering)

abbrev pub no_tables : Tables
no_tables = record { functions = []; cells = []; files = [] }

-- the drafts and tables of the files
unfoldable pub lowering : List Bound → Profile → PackageLowering
lowering files profile =
    lower_files (modules_from 0 files) profile.entries files (record { lines = []; tables = no_tables })

abbrev pub code_of : Linked → Tables → Code
code_of s tables = record {
  lines = s.lines;
  functions = tables.functions;
  cells = tables.cells;
  files = tables.files;
  columns = s.columns;
  shared = s.shared;
}

abbrev pub code_with : List Entry → PackageLowering → Code
code_with entries f = code_of (linked entries f.lines) f.tables

-- the statements that files become under a profile
unfoldable pub lowered : List Bound → Profile → Code
lowered files profile = code_with profile.entries (lowering files profile)
