-- The height of a tree. A form without parts has height 1, any other one more than its highest part.
use Rattle.std.specs.Prelude.{ℕ, ◌+◌, List, [], ◌∷◌, max, map, Option, Some, None, option_map}
use Rattle.mdg_tree.specs.declared.tree.FileTree.{FileTree}
use Rattle.mdg_tree.specs.declared.tree.Expr.{Expr}
use Rattle.mdg_tree.specs.declared.tree.Goal.{Goal}
use Rattle.mdg_tree.specs.declared.tree.Init.{Init}
use Rattle.mdg_tree.specs.declared.tree.Stmt.{Stmt}
use Rattle.mdg_tree.specs.declared.tree.Declaration.{Declaration}
use Rattle.mdg_tree.specs.declared.tree.Function.{Function}
use Rattle.mdg_tree.specs.declared.tree.Property.{Property}
use Rattle.mdg_tree.specs.declared.tree.Expr.TheOpen.{Expr-F, Goal-F, Init-F, Stmt-F, Declaration-F, Function-F, Property-F}
use Rattle.mdg_tree.specs.declared.tree.Expr.TheFolds.{fold-Expr, fold-Goal, fold-Init, fold-Stmt, fold-Declaration, fold-Function, fold-Property}

abbrev pub highest : List ℕ → ℕ
highest [] = 0
highest (h ∷ hs) = max h (highest hs)

-- a part that may be absent
abbrev pub optional : Option ℕ → ℕ
optional None = 0
optional (Some h) = h

-- Each step has the height of each part in its place. Forms that are no form of their own add nothing.
abbrev pub expr_step : Expr-F ℕ ℕ ℕ ℕ ℕ ℕ ℕ → ℕ
expr_step (Expr-F.Comma at es) = highest es + 1
expr_step (Expr-F.Assign at op target value) = max target value + 1
expr_step (Expr-F.Conditional at test chosen other) = max test (max chosen other) + 1
expr_step (Expr-F.Binary at op left right) = max left right + 1
expr_step (Expr-F.Unary at op value) = value + 1
expr_step (Expr-F.Prefix at step target) = target + 1
expr_step (Expr-F.Postfix at step target) = target + 1
expr_step (Expr-F.New at callee) = callee + 1
expr_step (Expr-F.NewWithArguments at callee es) = max callee (highest es) + 1
expr_step (Expr-F.Call at callee es) = max callee (highest es) + 1
expr_step (Expr-F.Index at object key) = max object key + 1
expr_step (Expr-F.Member at object name) = object + 1
expr_step (Expr-F.FunctionExpression f) = f
expr_step (Expr-F.Name at name) = 1
expr_step (Expr-F.Null at) = 1
expr_step (Expr-F.True at) = 1
expr_step (Expr-F.False at) = 1
expr_step (Expr-F.Numeral at text) = 1
expr_step (Expr-F.Text at text) = 1
expr_step (Expr-F.Paren at inner) = inner + 1
expr_step (Expr-F.Array at es) = highest es + 1
expr_step (Expr-F.Object at ps) = highest ps + 1

abbrev pub stmt_step : Stmt-F ℕ ℕ ℕ ℕ ℕ ℕ ℕ → ℕ
stmt_step (Stmt-F.Block at body) = highest body + 1
stmt_step (Stmt-F.Var at ds) = highest ds + 1
stmt_step (Stmt-F.Empty at) = 1
stmt_step (Stmt-F.Expression at value) = value + 1
stmt_step (Stmt-F.If at test body) = max test body + 1
stmt_step (Stmt-F.IfElse at test body other) = max test (max body other) + 1
stmt_step (Stmt-F.DoWhile at body test) = max body test + 1
stmt_step (Stmt-F.While at test body) = max test body + 1
stmt_step (Stmt-F.For at init test update body) = max (max init (max (optional test) (optional update))) body + 1
stmt_step (Stmt-F.ForIn at goal object body) = max goal (max object body) + 1
stmt_step (Stmt-F.Continue at) = 1
stmt_step (Stmt-F.Break at) = 1
stmt_step (Stmt-F.Return at) = 1
stmt_step (Stmt-F.ReturnValue at value) = value + 1
stmt_step (Stmt-F.Throw at value) = value + 1
stmt_step (Stmt-F.FunctionDeclaration f) = f

abbrev pub init_step : Init-F ℕ ℕ ℕ ℕ ℕ ℕ ℕ → ℕ
init_step Init-F.Absent = 0
init_step (Init-F.Declarations at ds) = highest ds + 1
init_step (Init-F.Initial value) = value

abbrev pub goal_step : Goal-F ℕ ℕ ℕ ℕ ℕ ℕ ℕ → ℕ
goal_step (Goal-F.Variable at name_at name) = 0
goal_step (Goal-F.Target value) = value

abbrev pub property_step : Property-F ℕ ℕ ℕ ℕ ℕ ℕ ℕ → ℕ
property_step p = p.value

-- The parts of a function are its items.
abbrev pub function_step : Function-F ℕ ℕ ℕ ℕ ℕ ℕ ℕ → ℕ
function_step f = highest f.body + 1

abbrev pub declaration_step : Declaration-F ℕ ℕ ℕ ℕ ℕ ℕ ℕ → ℕ
declaration_step d = optional d.value

unfoldable pub height : Expr → ℕ
height = fold-Expr ℕ ℕ ℕ ℕ ℕ ℕ ℕ expr_step goal_step init_step stmt_step declaration_step function_step property_step

unfoldable pub goal_height : Goal → ℕ
goal_height = fold-Goal ℕ ℕ ℕ ℕ ℕ ℕ ℕ expr_step goal_step init_step stmt_step declaration_step function_step property_step

unfoldable pub init_height : Init → ℕ
init_height = fold-Init ℕ ℕ ℕ ℕ ℕ ℕ ℕ expr_step goal_step init_step stmt_step declaration_step function_step property_step

unfoldable pub stmt_height : Stmt → ℕ
stmt_height = fold-Stmt ℕ ℕ ℕ ℕ ℕ ℕ ℕ expr_step goal_step init_step stmt_step declaration_step function_step property_step

unfoldable pub declaration_height : Declaration → ℕ
declaration_height = fold-Declaration ℕ ℕ ℕ ℕ ℕ ℕ ℕ expr_step goal_step init_step stmt_step declaration_step function_step property_step

unfoldable pub function_height : Function → ℕ
function_height = fold-Function ℕ ℕ ℕ ℕ ℕ ℕ ℕ expr_step goal_step init_step stmt_step declaration_step function_step property_step

unfoldable pub property_height : Property → ℕ
property_height = fold-Property ℕ ℕ ℕ ℕ ℕ ℕ ℕ expr_step goal_step init_step stmt_step declaration_step function_step property_step

-- The height of a file is one more than that of its highest item.
unfoldable pub file_height : FileTree → ℕ
file_height tree = highest (map stmt_height tree.items) + 1

-- what stands between the parentheses of a `for`
abbrev pub head_height : Init → Option Expr → Option Expr → ℕ
head_height init test update = max (init_height init) (max (optional (option_map height test)) (optional (option_map height update)))
