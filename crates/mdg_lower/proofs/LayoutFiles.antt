-- The functions of files are added one after another, and lines and tables stay well-formed.
use Rattle.std.proofs.Common.{◌≡◌, ℕ, suc, ◌+◌, ◌<◌, ◌≤◌, List, [], ◌∷◌, length, All, IfSome, refl, ap, ◌∙◌, subst, arith, length-append}
use Rattle.std.proofs.lemmas.List.Elements.{All-nil, All-cons, All-append}
use Rattle.mdg_base.specs.declared.number.FunId.{FunId}
use Rattle.mdg_code.specs.declared.code.FileRow.{FileRow}
use Rattle.mdg_tree.specs.declared.tree.At.{At}
use Rattle.mdg_tree.specs.declared.tree.Stmt.{Stmt}
use Rattle.mdg_tree.specs.declared.tree.Function.{Function}
use Rattle.mdg_scope.specs.declared.bound.BoundFunction.{BoundFunction}
use Rattle.mdg_lower.specs.declared.draft.DraftLine.{DraftLine}
use Rattle.mdg_lower.specs.declared.scope.Scope.{Scope}
use Rattle.mdg_lower.specs.Builder.{Lines}
use Rattle.mdg_lower.specs.Environment.{entered, cells_of}
use Rattle.mdg_lower.specs.Tables.{PackageLowering, function_lines, file_lines, function_row, owned, append_function, in_function, lower_function, lower_nested}
use Rattle.mdg_lower.specs.Forms.{keyword_at}
use Rattle.mdg_lower.specs.WellFormed.{Counts, WellFormedFunction, ScopeFits}
use Rattle.mdg_lower.proofs.LayoutLists.{first_of, rest_of}
use Rattle.mdg_lower.proofs.LayoutRows.{Laid}
use Rattle.mdg_lower.proofs.LayoutFunctions.{laid_function}

-- the body and the module's cell of the file are in range
abbrev pub IsFileThere : Counts → FileRow → Type 0
IsFileThere n row = (row.body.0 < n.functions) × (row.module.0 < n.cells)

-- all that was lowered so far is well-formed
pub record AreWellFormed (n : Counts) (f : PackageLowering) : Type 0 where
  pub laid : Laid n f.tables.functions f.lines
  pub cells_there : All (λ function. function.0 < n.functions) f.tables.cells
  pub files_there : All (IsFileThere n) f.tables.files

-- so many functions and cells more, and all well-formed
pub record Grown (n : Counts) (functions cells : ℕ) (before after : PackageLowering) : Type 0 where
  pub order : AreWellFormed n after
  pub functions_more : length after.tables.functions ≡ length before.tables.functions + functions
  pub cells_more : length after.tables.cells ≡ length before.tables.cells + cells
  pub files_same : length after.tables.files ≡ length before.tables.files

-- each of the cells has a function that is there
owned_there : (n : Counts) (function : FunId) (cells : List (List ℕ)) → function.0 < n.functions → All (λ (f : FunId). f.0 < n.functions) (owned function cells)
owned_there n function [] within = All-nil (λ (f : FunId). f.0 < n.functions)
owned_there n function (cell ∷ cells) within = All-cons (λ (f : FunId). f.0 < n.functions) function (owned function cells) within (owned_there n function cells within)

-- there are as many of them as cells
owned_many : (function : FunId) (cells : List (List ℕ)) → length (owned function cells) ≡ length cells
owned_many function [] = refl
owned_many function (cell ∷ cells) = ap suc (owned_many function cells)

-- the parent of the function is one of the file's
abbrev pub HasParent : Counts → ℕ → BoundFunction → Type 0
HasParent n first f = IfSome f.parent (λ number. first + number < n.functions)

-- the lines of each function and each body are well-formed where its scope is in range
pub record AreWhole (n : Counts) : Type 0 where
  pub whole_function : (scope : Scope) → ScopeFits n scope → (f : BoundFunction) (t : Function) (s : ℕ) → WellFormedFunction n scope s (function_lines scope f t s)
  pub whole_body : (scope : Scope) → ScopeFits n scope → (at : At) (items : List Stmt) (s : ℕ) → WellFormedFunction n scope s (file_lines scope at items s)

-- a file whose scope is in range for each of its functions
pub record FileReady (n : Counts) (scope : Scope) : Type 0 where
  pub wholes : AreWhole n
  pub fits : (number : ℕ) (f : BoundFunction) (body : List Stmt) → ScopeFits n (in_function scope number f body)
  pub file : scope.file.0 < n.files

-- one more function of a file
pub function_grown : (n : Counts) (scope : Scope) (number : ℕ) (f : BoundFunction) (at : At) (body : List Stmt) (code : Lines) (lowering : PackageLowering)
    → AreWellFormed n lowering → FileReady n scope → WellFormedFunction n (in_function scope number f body) (length lowering.lines) (code (length lowering.lines))
    → scope.first_function + number ≡ length lowering.tables.functions → scope.first_function + number < n.functions → HasParent n scope.first_function f
    → Grown n 1 (length f.cells) lowering (append_function (in_function scope number f body) f at code lowering)
unfolding append_function entered
function_grown n scope number f at body code lowering order ready whole numbered within parent = record {
  order = record {
    laid = laid_function n inner f at lowering.tables.functions lowering.lines block order.laid whole numbered ready.file (omega arith) parent;
    cells_there = All-append (λ (function : FunId). function.0 < n.functions) lowering.tables.cells (owned inner.function f.cells) order.cells_there (owned_there n inner.function f.cells within);
    files_there = order.files_there;
  };
  functions_more = length-append lowering.tables.functions (function_row inner f at (length lowering.lines) block ∷ []);
  cells_more = length-append lowering.tables.cells (owned inner.function f.cells) ∙ ap (λ k. length lowering.tables.cells + k) (owned_many inner.function f.cells);
  files_same = refl;
}
  where
    inner : Scope
    inner = in_function scope number f body

    block : List DraftLine
    block = code (length lowering.lines)

-- growth and then more of it
pub grown_then : (n : Counts) (a b c d : ℕ) (before middle after : PackageLowering) → Grown n a b before middle → Grown n c d middle after → Grown n (a + c) (b + d) before after
grown_then n a b c d before middle after one other = record {
  order = other.order;
  functions_more = omega (arith, one.functions_more, other.functions_more);
  cells_more = omega (arith, one.cells_more, other.cells_more);
  files_same = other.files_same ∙ one.files_same;
}

-- nothing more
grown_nothing : (n : Counts) (lowering : PackageLowering) → AreWellFormed n lowering → Grown n 0 0 lowering lowering
grown_nothing n lowering order = record { order = order; functions_more = omega arith; cells_more = omega arith; files_same = refl }

-- one more function with its own lines
numbered_grown : (n : Counts) (scope : Scope) (number : ℕ) (f : BoundFunction) (t : Function) (lowering : PackageLowering) → AreWellFormed n lowering → FileReady n scope
    → scope.first_function + number ≡ length lowering.tables.functions → scope.first_function + number < n.functions → HasParent n scope.first_function f
    → Grown n 1 (length f.cells) lowering (lower_function scope number f t lowering)
unfolding lower_function
numbered_grown n scope number f t lowering order ready numbered within parent =
    function_grown n scope number f (keyword_at t) t.body (function_lines (in_function scope number f t.body) f t) lowering order ready
    (ready.wholes.whole_function (in_function scope number f t.body) (ready.fits number f t.body) f t (length lowering.lines)) numbered within parent

-- the functions of a file after its body
pub functions_grown : (n : Counts) (scope : Scope) (number : ℕ) (fs : List BoundFunction) (ts : List Function) (lowering : PackageLowering) → AreWellFormed n lowering → FileReady n scope
    → length fs ≡ length ts → scope.first_function + number ≡ length lowering.tables.functions → scope.first_function + number + length fs ≤ n.functions
    → All (HasParent n scope.first_function) fs
    → Grown n (length fs) (cells_of fs) lowering (lower_nested scope number fs ts lowering)
unfolding lower_nested
functions_grown n scope number [] ts lowering order ready same numbered within parents = grown_nothing n lowering order
functions_grown n scope number (f ∷ fs) [] lowering order ready same numbered within parents = absurd (omega (arith, same))
functions_grown n scope number (f ∷ fs) (t ∷ ts) lowering order ready same numbered within parents =
    let next : PackageLowering = lower_function scope number f t lowering in
    let one : Grown n 1 (length f.cells) lowering next =
    numbered_grown n scope number f t lowering order ready numbered (omega (arith, within)) (first_of (HasParent n scope.first_function) f fs parents) in
    let rest : Grown n (length fs) (cells_of fs) next (lower_nested scope (number + 1) fs ts next) =
    functions_grown n scope (number + 1) fs ts next one.order ready (omega (arith, same)) (omega (arith, numbered, one.functions_more)) (omega (arith, within))
    (rest_of (HasParent n scope.first_function) f fs parents) in
    subst (λ k. Grown n k (length f.cells + cells_of fs) lowering (lower_nested scope (number + 1) fs ts next)) (omega arith)
    (grown_then n 1 (length f.cells) (length fs) (cells_of fs) lowering next (lower_nested scope (number + 1) fs ts next) one rest)
