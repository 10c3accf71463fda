-- The occurrences of a file, in the order of its tokens. All parentheses are looked through.
use Rattle.std.specs.Prelude.{ℕ, List, [], map, codes, Option, Some, None}
use Rattle.mdg_tree.specs.declared.tree.FileTree.{FileTree}
use Rattle.mdg_tree.specs.declared.tree.Expr.{Expr}
use Rattle.mdg_tree.specs.declared.tree.Goal.{Goal}
use Rattle.mdg_tree.specs.declared.tree.Init.{Init}
use Rattle.mdg_tree.specs.declared.tree.Stmt.{Stmt}
use Rattle.mdg_tree.specs.declared.tree.Declaration.{Declaration}
use Rattle.mdg_tree.specs.declared.tree.Function.{Function}
use Rattle.mdg_tree.specs.declared.tree.Property.{Property}
use Rattle.mdg_tree.specs.declared.tree.Expr.TheOpen.{Expr-F, Goal-F, Init-F, Stmt-F, Declaration-F, Function-F, Property-F}
use Rattle.mdg_tree.specs.declared.tree.Expr.TheFolds.{fold-Expr, fold-Goal, fold-Init, fold-Stmt, fold-Declaration, fold-Function, fold-Property}
use Rattle.mdg_tree.specs.Views.{key_name}
use Rattle.mdg_scope.specs.declared.occurrence.Occurrences.{Occurrences}
use Rattle.mdg_scope.specs.declared.occurrence.Occurrence.{Occurrence}
use Rattle.mdg_scope.specs.declared.occurrence.Use.{Use}
use Rattle.mdg_scope.specs.declared.occurrence.Use.TheVariants as v
use Rattle.mdg_scope.specs.declared.occurrence.OccurrenceKind.TheVariants as r
use Rattle.mdg_scope.specs.Collectors.{Collector, ExprCollector, PropertyCollector, FunctionCollector, add, silent, plain, read, assigned, use_kind, read_all, collect_all, optional, call_occurrences, constructed_occurrence, operator_occurrence, operand_use, object_occurrences, inside, within_loop, expressed_occurrences, declared_occurrences, jump_occurrences}

-- One row for each form.
abbrev pub expr_step : Expr-F ExprCollector Collector Collector Collector Collector FunctionCollector PropertyCollector → ExprCollector
expr_step (Expr-F.Comma at es) = plain (read_all es)
expr_step (Expr-F.Assign at op target value) = plain (λ p c. read value p (assigned target p c))
expr_step (Expr-F.Conditional at test chosen other) = plain (λ p c. read other p (read chosen p (read test p c)))
expr_step (Expr-F.Binary at op left right) = plain (λ p c. read right p (read left p c))
expr_step (Expr-F.Unary at op value) = plain (λ p c. value.used (operand_use op) p (operator_occurrence op value.name at.offset p c))
expr_step (Expr-F.Prefix at step target) = plain (assigned target)
expr_step (Expr-F.Postfix at step target) = plain (assigned target)
expr_step (Expr-F.New at callee) = plain (λ p c. read callee p (constructed_occurrence callee.name at.offset p c))
expr_step (Expr-F.NewWithArguments at callee es) = plain (λ p c. read_all es p (read callee p (constructed_occurrence callee.name at.offset p c)))
expr_step (Expr-F.Call at callee es) = plain (call_occurrences callee es)
expr_step (Expr-F.Index at object key) = plain (λ p c. read key p (read object p c))
expr_step (Expr-F.Member at object name) = plain (read object)
expr_step (Expr-F.FunctionExpression f) = plain f.expressed
expr_step (Expr-F.Name at name) = record { used = λ usage p c. add (use_kind usage at.line) at.offset p.function name c; name = Some name; text = None }
expr_step (Expr-F.Null at) = plain silent
expr_step (Expr-F.True at) = plain silent
expr_step (Expr-F.False at) = plain silent
expr_step (Expr-F.Numeral at text) = plain silent
expr_step (Expr-F.Text at text) = record { used = λ usage. silent; name = None; text = Some text }
expr_step (Expr-F.Paren at inner) = inner
expr_step (Expr-F.Array at es) = plain (read_all es)
expr_step (Expr-F.Object at ps) = plain (object_occurrences ps)

abbrev pub stmt_step : Stmt-F ExprCollector Collector Collector Collector Collector FunctionCollector PropertyCollector → Collector
stmt_step (Stmt-F.Block at body) = collect_all body
stmt_step (Stmt-F.Var at ds) = collect_all ds
stmt_step (Stmt-F.Empty at) = silent
stmt_step (Stmt-F.Expression at value) = read value
stmt_step (Stmt-F.If at test body) = λ p c. body p (read test p c)
stmt_step (Stmt-F.IfElse at test body other) = λ p c. other p (body p (read test p c))
stmt_step (Stmt-F.DoWhile at body test) = λ p c. read test p (body (within_loop p) c)
stmt_step (Stmt-F.While at test body) = λ p c. body (within_loop p) (read test p c)
stmt_step (Stmt-F.For at init test update body) = λ p c. body (within_loop p) (optional update p (optional test p (init p c)))
stmt_step (Stmt-F.ForIn at goal object body) = λ p c. body (within_loop p) (read object p (goal p c))
stmt_step (Stmt-F.Continue at) = jump_occurrences at.offset
stmt_step (Stmt-F.Break at) = jump_occurrences at.offset
stmt_step (Stmt-F.Return at) = silent
stmt_step (Stmt-F.ReturnValue at value) = read value
stmt_step (Stmt-F.Throw at value) = read value
stmt_step (Stmt-F.FunctionDeclaration f) = f.declared

abbrev pub init_step : Init-F ExprCollector Collector Collector Collector Collector FunctionCollector PropertyCollector → Collector
init_step Init-F.Absent = silent
init_step (Init-F.Declarations at ds) = collect_all ds
init_step (Init-F.Initial value) = read value

abbrev pub goal_step : Goal-F ExprCollector Collector Collector Collector Collector FunctionCollector PropertyCollector → Collector
goal_step (Goal-F.Variable at name_at name) = λ p c. add r.Variable name_at.offset p.function name c
goal_step (Goal-F.Target value) = assigned value

abbrev pub property_step : Property-F ExprCollector Collector Collector Collector Collector FunctionCollector PropertyCollector → PropertyCollector
property_step x = record { offset = x.at.offset; key = key_name x.key; value = read x.value }

abbrev pub function_step : Function-F ExprCollector Collector Collector Collector Collector FunctionCollector PropertyCollector → FunctionCollector
function_step f = record {
  expressed = expressed_occurrences f.name f.name_offset f.parameters f.parameter_offsets f.body f.line f.offset;
  declared = declared_occurrences f.name f.name_offset f.parameters f.parameter_offsets f.body f.line f.offset;
}

abbrev pub declaration_step : Declaration-F ExprCollector Collector Collector Collector Collector FunctionCollector PropertyCollector → Collector
declaration_step d = λ p c. optional d.value p (add r.Variable d.at.offset p.function d.name c)

unfoldable pub expr_collector : Expr → ExprCollector
expr_collector = fold-Expr ExprCollector Collector Collector Collector Collector FunctionCollector PropertyCollector expr_step goal_step init_step stmt_step declaration_step function_step property_step

unfoldable pub goal_occurrences : Goal → Collector
goal_occurrences = fold-Goal ExprCollector Collector Collector Collector Collector FunctionCollector PropertyCollector expr_step goal_step init_step stmt_step declaration_step function_step property_step

unfoldable pub init_occurrences : Init → Collector
init_occurrences = fold-Init ExprCollector Collector Collector Collector Collector FunctionCollector PropertyCollector expr_step goal_step init_step stmt_step declaration_step function_step property_step

unfoldable pub stmt_occurrences : Stmt → Collector
stmt_occurrences = fold-Stmt ExprCollector Collector Collector Collector Collector FunctionCollector PropertyCollector expr_step goal_step init_step stmt_step declaration_step function_step property_step

unfoldable pub declaration_occurrences : Declaration → Collector
declaration_occurrences = fold-Declaration ExprCollector Collector Collector Collector Collector FunctionCollector PropertyCollector expr_step goal_step init_step stmt_step declaration_step function_step property_step

unfoldable pub function_occurrences : Function → FunctionCollector
function_occurrences = fold-Function ExprCollector Collector Collector Collector Collector FunctionCollector PropertyCollector expr_step goal_step init_step stmt_step declaration_step function_step property_step

unfoldable pub property_occurrences : Property → PropertyCollector
property_occurrences = fold-Property ExprCollector Collector Collector Collector Collector FunctionCollector PropertyCollector expr_step goal_step init_step stmt_step declaration_step function_step property_step

-- the names that the body of a file binds by itself
abbrev pub given : Occurrences
given = add r.Given 0 0 (codes "exports") (add r.Given 0 0 (codes "module") (record { all = []; begun = 0 }))

-- the occurrences of a file
abbrev pub file_occurrences : FileTree → List Occurrence
file_occurrences tree = (collect_all (map stmt_occurrences tree.items) (inside 0) given).all

abbrev pub used_of : Expr → Use → Collector
used_of x = (expr_collector x).used

abbrev pub read_of : Expr → Collector
read_of x = used_of x v.Read

abbrev pub assigned_of : Expr → Collector
assigned_of x = used_of x v.Assigned

abbrev pub name_of : Expr → Option (List ℕ)
name_of x = (expr_collector x).name

abbrev pub text_of : Expr → Option (List ℕ)
text_of x = (expr_collector x).text
