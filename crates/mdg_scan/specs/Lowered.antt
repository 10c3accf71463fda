-- The code of a file of the first form: its statements, function by function.
use Rattle.std.specs.Prelude.{ℕ, ◌+◌, List, [], ◌∷◌, ◌++◌, length, codes, Option, Some, None}
use Rattle.mdg_base.specs.declared.number.Local.{Local}
use Rattle.mdg_base.specs.declared.number.FunId.{FunId}
use Rattle.mdg_base.specs.declared.profile_word.Kind.TheVariants.{Sink}
use Rattle.mdg_scan.specs.declared.first.code.Code.{Code}
use Rattle.mdg_scan.specs.declared.first.code.FunctionRow.{FunctionRow}
use Rattle.mdg_scan.specs.declared.first.code.SharedRow.{SharedRow}
use Rattle.mdg_scan.specs.declared.first.code.Line.{Line}
use Rattle.mdg_scan.specs.declared.first.code.Statement.{Statement}
use Rattle.mdg_scan.specs.declared.first.code.Statement.TheVariants as statement
use Rattle.mdg_scan.specs.declared.first.form.Form.{Form}
use Rattle.mdg_scan.specs.declared.first.form.FormFunction.{FormFunction}
use Rattle.mdg_scan.specs.declared.first.form.Export.{Export}

abbrev pub local : ℕ → Local
local n = record { 0 = n }

abbrev pub function_id : ℕ → FunId
function_id n = record { 0 = n }

abbrev pub statement_line : Statement → FunId → ℕ → Line
statement_line s f n = record { statement = s; function = f; line = n }

-- the primitive `undefined`
abbrev pub undefined : Local → Statement
undefined into = statement.Literal into (Some (codes "undefined"))

-- the function ends on this line, and gives `undefined`
abbrev pub end_lines : Local → FunId → ℕ → List Line
end_lines into f n = statement_line (undefined into) f n ∷ statement_line (statement.Return into) f n ∷ []

-- The body of a file is function 0. Its locals are `module`, `exports`, each declared function in order, and two
-- temporaries. These are the module object, its exports object, and the names for both, by the two temporaries.
abbrev pub start_lines : Local → Local → List Line
start_lines first second =
    statement_line (statement.Object first) (function_id 0) 1
    ∷ statement_line (statement.Object second) (function_id 0) 1
    ∷ statement_line (statement.Set first (record { 0 = 0 }) second) (function_id 0) 1
    ∷ statement_line (statement.SetCell (record { 0 = 0 }) first) (function_id 0) 1
    ∷ statement_line (statement.Copy (local 0) first) (function_id 0) 1
    ∷ statement_line (statement.Copy (local 1) second) (function_id 0) 1
    ∷ []

-- each declared function is made and stored; the first of these has the number `k`
abbrev pub declared_lines : Local → ℕ → List FormFunction → List Line
declared_lines first k [] = []
declared_lines first k (function ∷ functions) =
    (statement_line (statement.Function first (function_id k)) (function_id 0) function.line
    ∷ statement_line (statement.Copy (local (k + 1)) first) (function_id 0) function.line
    ∷ [])
    ++ declared_lines first (k + 1) functions

-- the exported function becomes the property `exports` of the module object
abbrev pub exported_lines : Local → Option Export → List Line
exported_lines first None = []
exported_lines first (Some export) =
    statement_line (statement.Copy first (local (export.function + 2))) (function_id 0) export.line
    ∷ statement_line (statement.Set (local 0) (record { 0 = 0 }) first) (function_id 0) export.line
    ∷ []

-- the statements of the file's body
abbrev pub body_lines : Form → List Line
body_lines form =
    let first = local (length form.functions + 2) in
    start_lines first (local (length form.functions + 3))
    ++ (declared_lines first 1 form.functions ++ (exported_lines first form.exported ++ end_lines first (function_id 0) 1))

-- In a declared function local 0 is its parameter, and locals 1 to 3 are temporaries.
-- What is handed to `eval` comes into local 2: the parameter, or the parameter and a text joined.
abbrev pub argument_lines : Option (List ℕ) → FunId → ℕ → List Line
argument_lines None f n = statement_line (statement.Copy (local 2) (local 0)) f n ∷ []
argument_lines (Some text) f n =
    statement_line (statement.Copy (local 2) (local 0)) f n
    ∷ statement_line (statement.Literal (local 3) (Some text)) f n
    ∷ statement_line (statement.Op (local 2) (local 2 ∷ local 3 ∷ [])) f n
    ∷ []

-- the statements of a declared function
abbrev pub function_lines : FunId → FormFunction → List Line
function_lines f function =
    let n = function.line in
    (statement_line (statement.Shared (local 1) (record { 0 = 0 })) f n ∷ [])
    ++ (argument_lines function.text f n
    ++ ((statement_line (statement.Call (local 1) (local 1) (local 2 ∷ [])) f n ∷ statement_line statement.Land f n ∷ [])
    ++ end_lines (local 1) f n))

-- the statements of the functions, the first of which has the number `k`
abbrev pub functions_lines : ℕ → List FormFunction → List Line
functions_lines k [] = []
functions_lines k (function ∷ functions) = function_lines (function_id k) function ++ functions_lines (k + 1) functions

-- the rows of the functions, the first of which has the number `k` and its first statement at `site`
abbrev pub function_rows : ℕ → ℕ → List FormFunction → List FunctionRow
function_rows k site [] = []
function_rows k site (function ∷ functions) =
    record { parameters = 1; entry = record { 0 = site } }
    ∷ function_rows (k + 1) (site + length (function_lines (function_id k) function)) functions

-- the shared things that a statement names: `eval`, which runs its first argument, where there is a function
abbrev pub shared_rows : List FormFunction → List SharedRow
shared_rows [] = []
shared_rows (function ∷ functions) = record { name = codes "eval"; kind = Sink (0 ∷ []) } ∷ []

abbrev pub lowered : Form → Code
lowered form = record {
  lines = body_lines form ++ functions_lines 1 form.functions;
  functions = record { parameters = 0; entry = record { 0 = 0 } } ∷ function_rows 1 (length (body_lines form)) form.functions;
  shared = shared_rows form.functions;
}
