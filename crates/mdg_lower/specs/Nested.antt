-- What stands in a body's statements: the functions that stand in it, and its `for` statements with `in`.
use Rattle.std.specs.Prelude.{◌≡◌, ℕ, List, [], ◌∷◌, ◌++◌, map, Option, Some, None}
use Rattle.std.specs.List.{flat_map}
use Rattle.std.specs.Borrow.{Bor}
use Rattle.mdg_tree.specs.declared.tree.Expr.{Expr}
use Rattle.mdg_tree.specs.declared.tree.Goal.{Goal}
use Rattle.mdg_tree.specs.declared.tree.Init.{Init}
use Rattle.mdg_tree.specs.declared.tree.Stmt.{Stmt}
use Rattle.mdg_tree.specs.declared.tree.Declaration.{Declaration}
use Rattle.mdg_tree.specs.declared.tree.Function.{Function}
use Rattle.mdg_tree.specs.declared.tree.Property.{Property}
use Rattle.mdg_tree.specs.declared.tree.Expr.TheOpen.{Expr-F, Goal-F, Init-F, Stmt-F, Declaration-F, Function-F, Property-F}
use Rattle.mdg_tree.specs.declared.tree.Expr.TheFolds.{para-Expr, para-Goal, para-Init, para-Stmt, para-Declaration, para-Function, para-Property, fold-Stmt}

-- Each form has beside each part the functions that stand in it.
abbrev pub Listed : Type 0
Listed = List Function

abbrev pub of_parts : {A : Type 0} → List (A × Listed) → Listed
of_parts ts = flat_map (λ t. t.1) ts

-- a part that may be absent
abbrev pub of_optional : Option (Expr × Listed) → Listed
of_optional None = []
of_optional (Some t) = t.1

-- the function of a form, with its body as it was
abbrev pub whole : Function-F (Expr × Listed) (Goal × Listed) (Init × Listed) (Stmt × Listed) (Declaration × Listed) (Function × Listed) (Property × Listed) → Function
whole f = record {
  name = f.name;
  name_offset = f.name_offset;
  parameters = f.parameters;
  parameter_offsets = f.parameter_offsets;
  body = map (λ t. t.0) f.body;
  line = f.line;
  offset = f.offset;
}

-- One case for each form.
abbrev pub expr_functions : Expr-F (Expr × Listed) (Goal × Listed) (Init × Listed) (Stmt × Listed) (Declaration × Listed) (Function × Listed) (Property × Listed) → Listed
expr_functions (Expr-F.Comma at es) = of_parts es
expr_functions (Expr-F.Assign at op target value) = target.1 ++ value.1
expr_functions (Expr-F.Conditional at test chosen other) = test.1 ++ chosen.1 ++ other.1
expr_functions (Expr-F.Binary at op left right) = left.1 ++ right.1
expr_functions (Expr-F.Unary at op value) = value.1
expr_functions (Expr-F.Prefix at step target) = target.1
expr_functions (Expr-F.Postfix at step target) = target.1
expr_functions (Expr-F.New at callee) = callee.1
expr_functions (Expr-F.NewWithArguments at callee es) = callee.1 ++ of_parts es
expr_functions (Expr-F.Call at callee es) = callee.1 ++ of_parts es
expr_functions (Expr-F.Index at object key) = object.1 ++ key.1
expr_functions (Expr-F.Member at object name) = object.1
expr_functions (Expr-F.FunctionExpression f) = f.1
expr_functions (Expr-F.Name at name) = []
expr_functions (Expr-F.Null at) = []
expr_functions (Expr-F.True at) = []
expr_functions (Expr-F.False at) = []
expr_functions (Expr-F.Numeral at text) = []
expr_functions (Expr-F.Text at text) = []
expr_functions (Expr-F.Paren at inner) = inner.1
expr_functions (Expr-F.Array at es) = of_parts es
expr_functions (Expr-F.Object at ps) = of_parts ps

abbrev pub stmt_functions : Stmt-F (Expr × Listed) (Goal × Listed) (Init × Listed) (Stmt × Listed) (Declaration × Listed) (Function × Listed) (Property × Listed) → Listed
stmt_functions (Stmt-F.Block at body) = of_parts body
stmt_functions (Stmt-F.Var at ds) = of_parts ds
stmt_functions (Stmt-F.Empty at) = []
stmt_functions (Stmt-F.Expression at value) = value.1
stmt_functions (Stmt-F.If at test body) = test.1 ++ body.1
stmt_functions (Stmt-F.IfElse at test body other) = test.1 ++ body.1 ++ other.1
stmt_functions (Stmt-F.DoWhile at body test) = body.1 ++ test.1
stmt_functions (Stmt-F.While at test body) = test.1 ++ body.1
stmt_functions (Stmt-F.For at init test update body) = init.1 ++ of_optional test ++ of_optional update ++ body.1
stmt_functions (Stmt-F.ForIn at goal object body) = goal.1 ++ object.1 ++ body.1
stmt_functions (Stmt-F.Continue at) = []
stmt_functions (Stmt-F.Break at) = []
stmt_functions (Stmt-F.Return at) = []
stmt_functions (Stmt-F.ReturnValue at value) = value.1
stmt_functions (Stmt-F.Throw at value) = value.1
stmt_functions (Stmt-F.FunctionDeclaration f) = f.1

abbrev pub init_functions : Init-F (Expr × Listed) (Goal × Listed) (Init × Listed) (Stmt × Listed) (Declaration × Listed) (Function × Listed) (Property × Listed) → Listed
init_functions Init-F.Absent = []
init_functions (Init-F.Declarations at ds) = of_parts ds
init_functions (Init-F.Initial value) = value.1

abbrev pub goal_functions : Goal-F (Expr × Listed) (Goal × Listed) (Init × Listed) (Stmt × Listed) (Declaration × Listed) (Function × Listed) (Property × Listed) → Listed
goal_functions (Goal-F.Variable at name_at name) = []
goal_functions (Goal-F.Target value) = value.1

abbrev pub property_functions : Property-F (Expr × Listed) (Goal × Listed) (Init × Listed) (Stmt × Listed) (Declaration × Listed) (Function × Listed) (Property × Listed) → Listed
property_functions x = x.value.1

-- the function itself comes before those that stand in its body
abbrev pub function_functions : Function-F (Expr × Listed) (Goal × Listed) (Init × Listed) (Stmt × Listed) (Declaration × Listed) (Function × Listed) (Property × Listed) → Listed
function_functions f = whole f ∷ of_parts f.body

abbrev pub declaration_functions : Declaration-F (Expr × Listed) (Goal × Listed) (Init × Listed) (Stmt × Listed) (Declaration × Listed) (Function × Listed) (Property × Listed) → Listed
declaration_functions d = of_optional d.value

-- The functions that stand in a part, in the order of the source.
unfoldable pub functions_of_expr : Expr → Listed
functions_of_expr = para-Expr Listed Listed Listed Listed Listed Listed Listed expr_functions goal_functions init_functions stmt_functions declaration_functions function_functions property_functions

unfoldable pub functions_of_goal : Goal → Listed
functions_of_goal = para-Goal Listed Listed Listed Listed Listed Listed Listed expr_functions goal_functions init_functions stmt_functions declaration_functions function_functions property_functions

unfoldable pub functions_of_init : Init → Listed
functions_of_init = para-Init Listed Listed Listed Listed Listed Listed Listed expr_functions goal_functions init_functions stmt_functions declaration_functions function_functions property_functions

unfoldable pub functions_of_stmt : Stmt → Listed
functions_of_stmt = para-Stmt Listed Listed Listed Listed Listed Listed Listed expr_functions goal_functions init_functions stmt_functions declaration_functions function_functions property_functions

unfoldable pub functions_of_declaration : Declaration → Listed
functions_of_declaration = para-Declaration Listed Listed Listed Listed Listed Listed Listed expr_functions goal_functions init_functions stmt_functions declaration_functions function_functions property_functions

unfoldable pub functions_of_function : Function → Listed
functions_of_function = para-Function Listed Listed Listed Listed Listed Listed Listed expr_functions goal_functions init_functions stmt_functions declaration_functions function_functions property_functions

unfoldable pub functions_of_property : Property → Listed
functions_of_property = para-Property Listed Listed Listed Listed Listed Listed Listed expr_functions goal_functions init_functions stmt_functions declaration_functions function_functions property_functions

abbrev pub functions_of_optional : Option Expr → Listed
functions_of_optional None = []
functions_of_optional (Some x) = functions_of_expr x

-- the functions that stand in these statements
abbrev pub functions_in : List Stmt → List Function
functions_in body = flat_map functions_of_stmt body

-- The list grew by these, at its end.
unfoldable pub GrewBy : Listed → Listed → Listed → Type 0
GrewBy more before now = now ≡ before ++ more

-- the same of references
abbrev pub Gathers : Listed → List (Bor Function) → List (Bor Function) → Type 0
Gathers more before now = GrewBy more (map (λ f. f.now) before) (map (λ f. f.now) now)

-- The offsets of the `for` statements with `in`, an outer one before those in its body.
abbrev pub Offsets : Type 0
Offsets = List ℕ

-- those of a nested function are its own
abbrev pub no_loops : {A : Type 0} → A → Offsets
no_loops x = []

abbrev pub stmt_loops : Stmt-F Offsets Offsets Offsets Offsets Offsets Offsets Offsets → Offsets
stmt_loops (Stmt-F.Block at body) = flat_map (λ x. x) body
stmt_loops (Stmt-F.Var at ds) = []
stmt_loops (Stmt-F.Empty at) = []
stmt_loops (Stmt-F.Expression at value) = []
stmt_loops (Stmt-F.If at test body) = body
stmt_loops (Stmt-F.IfElse at test body other) = body ++ other
stmt_loops (Stmt-F.DoWhile at body test) = body
stmt_loops (Stmt-F.While at test body) = body
stmt_loops (Stmt-F.For at init test update body) = body
stmt_loops (Stmt-F.ForIn at goal object body) = at.offset ∷ body
stmt_loops (Stmt-F.Continue at) = []
stmt_loops (Stmt-F.Break at) = []
stmt_loops (Stmt-F.Return at) = []
stmt_loops (Stmt-F.ReturnValue at value) = []
stmt_loops (Stmt-F.Throw at value) = []
stmt_loops (Stmt-F.FunctionDeclaration f) = []

unfoldable pub loops_of : Stmt → Offsets
loops_of = fold-Stmt Offsets Offsets Offsets Offsets Offsets Offsets Offsets no_loops no_loops no_loops stmt_loops no_loops no_loops no_loops

-- the offsets of the loops of these statements
abbrev pub loops_in : List Stmt → List ℕ
loops_in body = flat_map loops_of body
