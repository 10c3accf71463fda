-- The files of a package are added one after another, and lines and tables stay well-formed.
use Rattle.std.proofs.Common.{◌≡◌, ℕ, suc, ◌+◌, ◌<◌, ◌≤◌, List, [], ◌∷◌, length, All, IfSome, refl, ap, ◌∙◌, subst, arith, length-append}
use Rattle.std.proofs.lemmas.List.Elements.{All-nil, All-cons, All-append}
use Rattle.std.proofs.lemmas.Option.{IfSome_then}
use Rattle.mdg_base.specs.declared.number.CellId.{CellId}
use Rattle.mdg_base.specs.declared.number.FunId.{FunId}
use Rattle.mdg_code.specs.declared.code.FileRow.{FileRow}
use Rattle.mdg_profile.specs.declared.entry.Entry.{Entry}
use Rattle.mdg_profile.specs.declared.entry.Profile.{Profile}
use Rattle.mdg_scope.specs.declared.bound.Bound.{Bound}
use Rattle.mdg_scope.specs.declared.bound.BoundFunction.{BoundFunction}
use Rattle.mdg_lower.specs.declared.scope.Scope.{Scope}
use Rattle.mdg_lower.specs.Environment.{file_scope, cells_of, modules_from}
use Rattle.mdg_lower.specs.Tables.{PackageLowering, file_lines, in_function, lower_body, lower_bound, begin_file, scope_after, lower_file, lower_files, no_tables, lowering}
use Rattle.mdg_lower.specs.BoundFiles.{FileFits}
use Rattle.mdg_lower.specs.WellFormed.{Counts}
use Rattle.mdg_lower.specs.Nested.{functions_in}
use Rattle.mdg_lower.proofs.LayoutLists.{first_of, rest_of, all_then}
use Rattle.mdg_lower.proofs.LayoutRows.{laid_nothing}
use Rattle.mdg_lower.proofs.LayoutFiles.{IsFileThere, AreWellFormed, AreWhole, Grown, HasParent, FileReady, function_grown, grown_then, functions_grown}
use Rattle.mdg_lower.proofs.ScopeFacts.{scope_fits}

-- the body of a file
body_grown : (n : Counts) (scope : Scope) (f : BoundFunction) (b : Bound) (lowering : PackageLowering) → AreWellFormed n lowering → FileReady n scope
    → scope.first_function ≡ length lowering.tables.functions → scope.first_function < n.functions → HasParent n scope.first_function f
    → Grown n 1 (length f.cells) lowering (lower_body scope f b lowering)
unfolding lower_body
body_grown n scope f b lowering order ready numbered within parent =
    function_grown n scope 0 f b.tree.at b.tree.items (file_lines (in_function scope 0 f b.tree.items) b.tree.at b.tree.items) lowering order ready
    (ready.wholes.whole_body (in_function scope 0 f b.tree.items) (ready.fits 0 f b.tree.items) b.tree.at b.tree.items (length lowering.lines)) (omega (arith, numbered)) (omega (arith, within)) parent

-- the body of a file and its functions
bound_grown : (n : Counts) (scope : Scope) (b : Bound) (fs : List BoundFunction) (lowering : PackageLowering) → AreWellFormed n lowering → FileReady n scope
    → length fs ≡ 1 + length (functions_in b.tree.items) → scope.first_function ≡ length lowering.tables.functions
    → scope.first_function + length fs ≤ n.functions → All (HasParent n scope.first_function) fs
    → Grown n (length fs) (cells_of fs) lowering (lower_bound scope b fs lowering)
bound_grown n scope b [] lowering order ready counted numbered within parents = absurd (omega (arith, counted))
bound_grown n scope b (f ∷ fs) lowering order ready counted numbered within parents =
    let next : PackageLowering = lower_body scope f b lowering in
    let after : PackageLowering = lower_bound scope b (f ∷ fs) lowering in
    let one : Grown n 1 (length f.cells) lowering next =
    body_grown n scope f b lowering order ready numbered (omega (arith, within)) (first_of (HasParent n scope.first_function) f fs parents) in
    let rest : Grown n (length fs) (cells_of fs) next after =
    functions_grown n scope 1 fs (functions_in b.tree.items) next one.order ready (omega (arith, counted)) (omega (arith, numbered, one.functions_more)) (omega (arith, within))
    (rest_of (HasParent n scope.first_function) f fs parents) in
    let many : 1 + length fs ≡ length (f ∷ fs) = omega arith in
    subst (λ k. Grown n k (length f.cells + cells_of fs) lowering after) many
    (grown_then n 1 (length f.cells) (length fs) (cells_of fs) lowering next after one rest)

-- the functions of a file and its row are there
pub record FileGrown (n : Counts) (b : Bound) (before after : PackageLowering) : Type 0 where
  pub order : AreWellFormed n after
  pub functions_more : length after.tables.functions ≡ length before.tables.functions + length b.functions
  pub cells_more : length after.tables.cells ≡ length before.tables.cells + 1 + cells_of b.functions
  pub files_more : length after.tables.files ≡ length before.tables.files + 1

-- the row of a file and the cell of its module object
begun : (n : Counts) (scope : Scope) (b : Bound) (lowering : PackageLowering) → AreWellFormed n lowering → scope.first_function < n.functions → scope.module.0 < n.cells → AreWellFormed n (begin_file scope b lowering)
begun n scope b lowering order first cell = record {
  laid = order.laid;
  cells_there = All-append (λ (function : FunId). function.0 < n.functions) lowering.tables.cells ((record { 0 = scope.first_function }) ∷ []) order.cells_there
      (All-cons (λ (function : FunId). function.0 < n.functions) (record { 0 = scope.first_function }) [] first (All-nil (λ (function : FunId). function.0 < n.functions)));
  files_there = All-append (IsFileThere n) lowering.tables.files (row ∷ []) order.files_there (All-cons (IsFileThere n) row [] (first, cell) (All-nil (IsFileThere n)));
}
  where
    row : FileRow
    row = record { path = b.path; body = record { 0 = scope.first_function }; «module» = scope.module }

-- one more file
file_grown : (n : Counts) (modules : List CellId) (entries : List Entry) (b : Bound) (lowering : PackageLowering) → AreWhole n → AreWellFormed n lowering → FileFits b
    → length lowering.tables.functions + length b.functions ≤ n.functions → length lowering.tables.cells + 1 + cells_of b.functions ≤ n.cells → length lowering.tables.files < n.files
    → length modules ≤ n.files → All (λ (one : CellId). one.0 < n.cells) modules
    → FileGrown n b lowering (lower_file modules entries b lowering)
unfolding lower_file file_scope
file_grown n modules entries b lowering wholes order fits functions cells files few there = record {
  order = grown.order;
  functions_more = grown.functions_more;
  cells_more = omega (arith, grown.cells_more, length-append lowering.tables.cells (begin_cell ∷ []));
  files_more = grown.files_same ∙ length-append lowering.tables.files (row ∷ []);
}
  where
    scope : Scope
    scope = scope_after modules entries lowering.tables b

    begin_cell : FunId
    begin_cell = record { 0 = scope.first_function }

    row : FileRow
    row = record { path = b.path; body = record { 0 = scope.first_function }; «module» = scope.module }

    some : 0 < length b.functions
    some = omega (arith, fits.functions_counted)

    ready : FileReady n scope
    ready = record {
      wholes = wholes;
      fits = λ number f body. scope_fits n modules entries (length lowering.tables.files) (length lowering.tables.functions) (length lowering.tables.cells) b number f body some functions cells few there;
      file = files;
    }

    parents : All (HasParent n scope.first_function) b.functions
    parents = all_then (λ (f : BoundFunction). IfSome f.parent (λ parent. parent < length b.functions)) (HasParent n scope.first_function)
        (λ f parent. IfSome_then f.parent parent (λ number within. omega (arith, within, functions))) b.functions fits.parents_there

    grown : Grown n (length b.functions) (cells_of b.functions) (begin_file scope b lowering) (lower_bound scope b b.functions (begin_file scope b lowering))
    grown = bound_grown n scope b b.functions (begin_file scope b lowering) (begun n scope b lowering order (omega (arith, functions, some)) (omega (arith, cells))) ready
        fits.functions_counted refl functions parents

-- how many functions the files have
abbrev pub functions_of : List Bound → ℕ
functions_of [] = 0
functions_of (b ∷ bs) = length b.functions + functions_of bs

-- how many cells the files have, with those of their module objects
abbrev pub cells_of_all : List Bound → ℕ
cells_of_all [] = 0
cells_of_all (b ∷ bs) = 1 + cells_of b.functions + cells_of_all bs

-- the files are added up to these counts, and all is well-formed
pub record FilesGrown (n : Counts) (after : PackageLowering) : Type 0 where
  pub order : AreWellFormed n after
  pub functions_all : length after.tables.functions ≡ n.functions
  pub cells_all : length after.tables.cells ≡ n.cells
  pub files_all : length after.tables.files ≡ n.files

-- the files from here on
files_grown : (n : Counts) (modules : List CellId) (entries : List Entry) (bs : List Bound) (lowering : PackageLowering) → AreWhole n → AreWellFormed n lowering → All FileFits bs
    → length lowering.tables.functions + functions_of bs ≡ n.functions → length lowering.tables.cells + cells_of_all bs ≡ n.cells → length lowering.tables.files + length bs ≡ n.files
    → length modules ≤ n.files → All (λ (one : CellId). one.0 < n.cells) modules
    → FilesGrown n (lower_files modules entries bs lowering)
unfolding lower_files
files_grown n modules entries [] lowering wholes order fits functions cells files few there = record {
  order = order;
  functions_all = omega (arith, functions);
  cells_all = omega (arith, cells);
  files_all = omega (arith, files);
}
files_grown n modules entries (b ∷ bs) lowering wholes order fits functions cells files few there =
    let next : PackageLowering = lower_file modules entries b lowering in
    let one : FileGrown n b lowering next =
    file_grown n modules entries b lowering wholes order (first_of FileFits b bs fits) (omega (arith, functions)) (omega (arith, cells)) (omega (arith, files)) few there in
    files_grown n modules entries bs next wholes one.order (rest_of FileFits b bs fits)
    (omega (arith, functions, one.functions_more)) (omega (arith, cells, one.cells_more)) (omega (arith, files, one.files_more)) few there

-- each file has a module object
modules_many : (cell : ℕ) (bs : List Bound) → length (modules_from cell bs) ≡ length bs
modules_many cell [] = refl
modules_many cell (b ∷ bs) = ap suc (modules_many (cell + 1 + cells_of b.functions) bs)

-- and its cell is one of so many
modules_there : (cell last : ℕ) (bs : List Bound) → cell + cells_of_all bs ≤ last → All (λ (one : CellId). one.0 < last) (modules_from cell bs)
modules_there cell last [] within = All-nil (λ (one : CellId). one.0 < last)
modules_there cell last (b ∷ bs) within = All-cons (λ (one : CellId). one.0 < last) (record { 0 = cell }) (modules_from (cell + 1 + cells_of b.functions) bs) (omega (arith, within))
    (modules_there (cell + 1 + cells_of b.functions) last bs (omega (arith, within)))

-- how many functions, cells and files the package has
abbrev pub counts_of : List Bound → Counts
counts_of files = record { functions = functions_of files; cells = cells_of_all files; files = length files }

-- the drafts and tables of a package are well-formed
pub package_grown : (files : List Bound) (profile : Profile) → AreWhole (counts_of files) → All FileFits files → FilesGrown (counts_of files) (lowering files profile)
unfolding lowering
package_grown files profile wholes fits =
    files_grown (counts_of files) (modules_from 0 files) profile.entries files (record { lines = []; tables = no_tables }) wholes nothing fits (omega arith) (omega arith) (omega arith)
    (omega (arith, modules_many 0 files)) (modules_there 0 (cells_of_all files) files (omega arith))
  where
    nothing : AreWellFormed (counts_of files) (record { lines = []; tables = no_tables })
    nothing = record {
      laid = laid_nothing (counts_of files);
      cells_there = All-nil (λ (function : FunId). function.0 < functions_of files);
      files_there = All-nil (IsFileThere (counts_of files));
    }
