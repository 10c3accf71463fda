-- The height of each form, by those of its parts; and the equations of heights, for tactics.
use Rattle.std.proofs.Common.{◌≡◌, ℕ, zero, suc, ◌+◌, ◌<◌, List, [], ◌∷◌, length, take, get_or, arith, add-one, sym, ap, ◌∙◌}
use Rattle.std.specs.Prelude.{map, max, Option, Some, None, option_map}
use Rattle.mdg_tree.specs.declared.tree.Expr.{Expr}
use Rattle.mdg_tree.specs.declared.tree.Goal.{Goal}
use Rattle.mdg_tree.specs.declared.tree.Init.{Init}
use Rattle.mdg_tree.specs.declared.tree.Stmt.{Stmt}
use Rattle.mdg_tree.specs.declared.tree.Declaration.{Declaration}
use Rattle.mdg_tree.specs.declared.tree.Function.{Function}
use Rattle.mdg_tree.specs.declared.tree.Property.{Property}
use Rattle.mdg_tree.specs.declared.tree.Expr.TheVariants as e
use Rattle.mdg_tree.specs.declared.tree.Stmt.TheVariants as s
use Rattle.mdg_tree.specs.declared.tree.Init.TheVariants as i
use Rattle.mdg_tree.specs.declared.tree.Goal.TheVariants as g
use Rattle.mdg_tree.specs.declared.tree.Expr.TheOpen.{Expr-F, Goal-F, Init-F, Stmt-F}
use Rattle.mdg_tree.specs.declared.tree.Expr.TheFolds.{fold-roll-Expr, fold-roll-Stmt, fold-roll-Init, fold-roll-Goal, fold_out-Property, fold_out-Function, fold_out-Declaration}
use Rattle.mdg_tree.specs.Height.{highest, optional, head_height, expr_step, goal_step, init_step, stmt_step, declaration_step, function_step, property_step, height, goal_height, init_height, stmt_height, declaration_height, function_height, property_height}

pub height-Comma : (at : _) (es : List Expr) → height (e.Comma at es) ≡ highest (map height es) + 1
unfolding height goal_height init_height stmt_height declaration_height function_height property_height
height-Comma at es = ap height (sym (e.rolls-Comma at es)) ∙ fold-roll-Expr ℕ ℕ ℕ ℕ ℕ ℕ ℕ expr_step goal_step init_step stmt_step declaration_step function_step property_step (Expr-F.Comma at es)

pub height-Assign : (at : _) (op : _) (target : Expr) (value : Expr) → height (e.Assign at op target value) ≡ max (height target) (height value) + 1
unfolding height goal_height init_height stmt_height declaration_height function_height property_height
height-Assign at op target value = ap height (sym (e.rolls-Assign at op target value)) ∙ fold-roll-Expr ℕ ℕ ℕ ℕ ℕ ℕ ℕ expr_step goal_step init_step stmt_step declaration_step function_step property_step (Expr-F.Assign at op target value)

pub height-Conditional : (at : _) (test : Expr) (chosen : Expr) (other : Expr) → height (e.Conditional at test chosen other) ≡ max (height test) (max (height chosen) (height other)) + 1
unfolding height goal_height init_height stmt_height declaration_height function_height property_height
height-Conditional at test chosen other = ap height (sym (e.rolls-Conditional at test chosen other)) ∙ fold-roll-Expr ℕ ℕ ℕ ℕ ℕ ℕ ℕ expr_step goal_step init_step stmt_step declaration_step function_step property_step (Expr-F.Conditional at test chosen other)

pub height-Binary : (at : _) (op : _) (left : Expr) (right : Expr) → height (e.Binary at op left right) ≡ max (height left) (height right) + 1
unfolding height goal_height init_height stmt_height declaration_height function_height property_height
height-Binary at op left right = ap height (sym (e.rolls-Binary at op left right)) ∙ fold-roll-Expr ℕ ℕ ℕ ℕ ℕ ℕ ℕ expr_step goal_step init_step stmt_step declaration_step function_step property_step (Expr-F.Binary at op left right)

pub height-Unary : (at : _) (op : _) (value : Expr) → height (e.Unary at op value) ≡ height value + 1
unfolding height goal_height init_height stmt_height declaration_height function_height property_height
height-Unary at op value = ap height (sym (e.rolls-Unary at op value)) ∙ fold-roll-Expr ℕ ℕ ℕ ℕ ℕ ℕ ℕ expr_step goal_step init_step stmt_step declaration_step function_step property_step (Expr-F.Unary at op value)

pub height-Prefix : (at : _) (step : _) (target : Expr) → height (e.Prefix at step target) ≡ height target + 1
unfolding height goal_height init_height stmt_height declaration_height function_height property_height
height-Prefix at step target = ap height (sym (e.rolls-Prefix at step target)) ∙ fold-roll-Expr ℕ ℕ ℕ ℕ ℕ ℕ ℕ expr_step goal_step init_step stmt_step declaration_step function_step property_step (Expr-F.Prefix at step target)

pub height-Postfix : (at : _) (step : _) (target : Expr) → height (e.Postfix at step target) ≡ height target + 1
unfolding height goal_height init_height stmt_height declaration_height function_height property_height
height-Postfix at step target = ap height (sym (e.rolls-Postfix at step target)) ∙ fold-roll-Expr ℕ ℕ ℕ ℕ ℕ ℕ ℕ expr_step goal_step init_step stmt_step declaration_step function_step property_step (Expr-F.Postfix at step target)

pub height-New : (at : _) (callee : Expr) → height (e.New at callee) ≡ height callee + 1
unfolding height goal_height init_height stmt_height declaration_height function_height property_height
height-New at callee = ap height (sym (e.rolls-New at callee)) ∙ fold-roll-Expr ℕ ℕ ℕ ℕ ℕ ℕ ℕ expr_step goal_step init_step stmt_step declaration_step function_step property_step (Expr-F.New at callee)

pub height-NewWithArguments : (at : _) (callee : Expr) (es : List Expr) → height (e.NewWithArguments at callee es) ≡ max (height callee) (highest (map height es)) + 1
unfolding height goal_height init_height stmt_height declaration_height function_height property_height
height-NewWithArguments at callee es = ap height (sym (e.rolls-NewWithArguments at callee es)) ∙ fold-roll-Expr ℕ ℕ ℕ ℕ ℕ ℕ ℕ expr_step goal_step init_step stmt_step declaration_step function_step property_step (Expr-F.NewWithArguments at callee es)

pub height-Call : (at : _) (callee : Expr) (es : List Expr) → height (e.Call at callee es) ≡ max (height callee) (highest (map height es)) + 1
unfolding height goal_height init_height stmt_height declaration_height function_height property_height
height-Call at callee es = ap height (sym (e.rolls-Call at callee es)) ∙ fold-roll-Expr ℕ ℕ ℕ ℕ ℕ ℕ ℕ expr_step goal_step init_step stmt_step declaration_step function_step property_step (Expr-F.Call at callee es)

pub height-Index : (at : _) (object : Expr) (key : Expr) → height (e.Index at object key) ≡ max (height object) (height key) + 1
unfolding height goal_height init_height stmt_height declaration_height function_height property_height
height-Index at object key = ap height (sym (e.rolls-Index at object key)) ∙ fold-roll-Expr ℕ ℕ ℕ ℕ ℕ ℕ ℕ expr_step goal_step init_step stmt_step declaration_step function_step property_step (Expr-F.Index at object key)

pub height-Member : (at : _) (object : Expr) (name : List ℕ) → height (e.Member at object name) ≡ height object + 1
unfolding height goal_height init_height stmt_height declaration_height function_height property_height
height-Member at object name = ap height (sym (e.rolls-Member at object name)) ∙ fold-roll-Expr ℕ ℕ ℕ ℕ ℕ ℕ ℕ expr_step goal_step init_step stmt_step declaration_step function_step property_step (Expr-F.Member at object name)

pub height-FunctionExpression : (f : Function) → height (e.FunctionExpression f) ≡ function_height f
unfolding height goal_height init_height stmt_height declaration_height function_height property_height
height-FunctionExpression f = ap height (sym (e.rolls-FunctionExpression f)) ∙ fold-roll-Expr ℕ ℕ ℕ ℕ ℕ ℕ ℕ expr_step goal_step init_step stmt_step declaration_step function_step property_step (Expr-F.FunctionExpression f)

pub height-Name : (at : _) (name : List ℕ) → height (e.Name at name) ≡ 1
unfolding height goal_height init_height stmt_height declaration_height function_height property_height
height-Name at name = ap height (sym (e.rolls-Name at name)) ∙ fold-roll-Expr ℕ ℕ ℕ ℕ ℕ ℕ ℕ expr_step goal_step init_step stmt_step declaration_step function_step property_step (Expr-F.Name at name)

pub height-Null : (at : _) → height (e.Null at) ≡ 1
unfolding height goal_height init_height stmt_height declaration_height function_height property_height
height-Null at = ap height (sym (e.rolls-Null at)) ∙ fold-roll-Expr ℕ ℕ ℕ ℕ ℕ ℕ ℕ expr_step goal_step init_step stmt_step declaration_step function_step property_step (Expr-F.Null at)

pub height-True : (at : _) → height (e.True at) ≡ 1
unfolding height goal_height init_height stmt_height declaration_height function_height property_height
height-True at = ap height (sym (e.rolls-True at)) ∙ fold-roll-Expr ℕ ℕ ℕ ℕ ℕ ℕ ℕ expr_step goal_step init_step stmt_step declaration_step function_step property_step (Expr-F.True at)

pub height-False : (at : _) → height (e.False at) ≡ 1
unfolding height goal_height init_height stmt_height declaration_height function_height property_height
height-False at = ap height (sym (e.rolls-False at)) ∙ fold-roll-Expr ℕ ℕ ℕ ℕ ℕ ℕ ℕ expr_step goal_step init_step stmt_step declaration_step function_step property_step (Expr-F.False at)

pub height-Numeral : (at : _) (text : List ℕ) → height (e.Numeral at text) ≡ 1
unfolding height goal_height init_height stmt_height declaration_height function_height property_height
height-Numeral at text = ap height (sym (e.rolls-Numeral at text)) ∙ fold-roll-Expr ℕ ℕ ℕ ℕ ℕ ℕ ℕ expr_step goal_step init_step stmt_step declaration_step function_step property_step (Expr-F.Numeral at text)

pub height-Text : (at : _) (text : List ℕ) → height (e.Text at text) ≡ 1
unfolding height goal_height init_height stmt_height declaration_height function_height property_height
height-Text at text = ap height (sym (e.rolls-Text at text)) ∙ fold-roll-Expr ℕ ℕ ℕ ℕ ℕ ℕ ℕ expr_step goal_step init_step stmt_step declaration_step function_step property_step (Expr-F.Text at text)

pub height-Paren : (at : _) (inner : Expr) → height (e.Paren at inner) ≡ height inner + 1
unfolding height goal_height init_height stmt_height declaration_height function_height property_height
height-Paren at inner = ap height (sym (e.rolls-Paren at inner)) ∙ fold-roll-Expr ℕ ℕ ℕ ℕ ℕ ℕ ℕ expr_step goal_step init_step stmt_step declaration_step function_step property_step (Expr-F.Paren at inner)

pub height-Array : (at : _) (es : List Expr) → height (e.Array at es) ≡ highest (map height es) + 1
unfolding height goal_height init_height stmt_height declaration_height function_height property_height
height-Array at es = ap height (sym (e.rolls-Array at es)) ∙ fold-roll-Expr ℕ ℕ ℕ ℕ ℕ ℕ ℕ expr_step goal_step init_step stmt_step declaration_step function_step property_step (Expr-F.Array at es)

pub height-Object : (at : _) (ps : List Property) → height (e.Object at ps) ≡ highest (map property_height ps) + 1
unfolding height goal_height init_height stmt_height declaration_height function_height property_height
height-Object at ps = ap height (sym (e.rolls-Object at ps)) ∙ fold-roll-Expr ℕ ℕ ℕ ℕ ℕ ℕ ℕ expr_step goal_step init_step stmt_step declaration_step function_step property_step (Expr-F.Object at ps)

pub stmt_height-Block : (at : _) (body : List Stmt) → stmt_height (s.Block at body) ≡ highest (map stmt_height body) + 1
unfolding height goal_height init_height stmt_height declaration_height function_height property_height
stmt_height-Block at body = ap stmt_height (sym (s.rolls-Block at body)) ∙ fold-roll-Stmt ℕ ℕ ℕ ℕ ℕ ℕ ℕ expr_step goal_step init_step stmt_step declaration_step function_step property_step (Stmt-F.Block at body)

pub stmt_height-Var : (at : _) (ds : List Declaration) → stmt_height (s.Var at ds) ≡ highest (map declaration_height ds) + 1
unfolding height goal_height init_height stmt_height declaration_height function_height property_height
stmt_height-Var at ds = ap stmt_height (sym (s.rolls-Var at ds)) ∙ fold-roll-Stmt ℕ ℕ ℕ ℕ ℕ ℕ ℕ expr_step goal_step init_step stmt_step declaration_step function_step property_step (Stmt-F.Var at ds)

pub stmt_height-Empty : (at : _) → stmt_height (s.Empty at) ≡ 1
unfolding height goal_height init_height stmt_height declaration_height function_height property_height
stmt_height-Empty at = ap stmt_height (sym (s.rolls-Empty at)) ∙ fold-roll-Stmt ℕ ℕ ℕ ℕ ℕ ℕ ℕ expr_step goal_step init_step stmt_step declaration_step function_step property_step (Stmt-F.Empty at)

pub stmt_height-Expression : (at : _) (value : Expr) → stmt_height (s.Expression at value) ≡ height value + 1
unfolding height goal_height init_height stmt_height declaration_height function_height property_height
stmt_height-Expression at value = ap stmt_height (sym (s.rolls-Expression at value)) ∙ fold-roll-Stmt ℕ ℕ ℕ ℕ ℕ ℕ ℕ expr_step goal_step init_step stmt_step declaration_step function_step property_step (Stmt-F.Expression at value)

pub stmt_height-If : (at : _) (test : Expr) (body : Stmt) → stmt_height (s.If at test body) ≡ max (height test) (stmt_height body) + 1
unfolding height goal_height init_height stmt_height declaration_height function_height property_height
stmt_height-If at test body = ap stmt_height (sym (s.rolls-If at test body)) ∙ fold-roll-Stmt ℕ ℕ ℕ ℕ ℕ ℕ ℕ expr_step goal_step init_step stmt_step declaration_step function_step property_step (Stmt-F.If at test body)

pub stmt_height-IfElse : (at : _) (test : Expr) (body : Stmt) (other : Stmt) → stmt_height (s.IfElse at test body other) ≡ max (height test) (max (stmt_height body) (stmt_height other)) + 1
unfolding height goal_height init_height stmt_height declaration_height function_height property_height
stmt_height-IfElse at test body other = ap stmt_height (sym (s.rolls-IfElse at test body other)) ∙ fold-roll-Stmt ℕ ℕ ℕ ℕ ℕ ℕ ℕ expr_step goal_step init_step stmt_step declaration_step function_step property_step (Stmt-F.IfElse at test body other)

pub stmt_height-DoWhile : (at : _) (body : Stmt) (test : Expr) → stmt_height (s.DoWhile at body test) ≡ max (stmt_height body) (height test) + 1
unfolding height goal_height init_height stmt_height declaration_height function_height property_height
stmt_height-DoWhile at body test = ap stmt_height (sym (s.rolls-DoWhile at body test)) ∙ fold-roll-Stmt ℕ ℕ ℕ ℕ ℕ ℕ ℕ expr_step goal_step init_step stmt_step declaration_step function_step property_step (Stmt-F.DoWhile at body test)

pub stmt_height-While : (at : _) (test : Expr) (body : Stmt) → stmt_height (s.While at test body) ≡ max (height test) (stmt_height body) + 1
unfolding height goal_height init_height stmt_height declaration_height function_height property_height
stmt_height-While at test body = ap stmt_height (sym (s.rolls-While at test body)) ∙ fold-roll-Stmt ℕ ℕ ℕ ℕ ℕ ℕ ℕ expr_step goal_step init_step stmt_step declaration_step function_step property_step (Stmt-F.While at test body)

pub stmt_height-For : (at : _) (init : Init) (test : Option Expr) (update : Option Expr) (body : Stmt) → stmt_height (s.For at init test update body) ≡ max (head_height init test update) (stmt_height body) + 1
unfolding height goal_height init_height stmt_height declaration_height function_height property_height
stmt_height-For at init None None body = ap stmt_height (sym (s.rolls-For at init None None body)) ∙ fold-roll-Stmt ℕ ℕ ℕ ℕ ℕ ℕ ℕ expr_step goal_step init_step stmt_step declaration_step function_step property_step (Stmt-F.For at init None None body)
stmt_height-For at init None (Some y) body = ap stmt_height (sym (s.rolls-For at init None (Some y) body)) ∙ fold-roll-Stmt ℕ ℕ ℕ ℕ ℕ ℕ ℕ expr_step goal_step init_step stmt_step declaration_step function_step property_step (Stmt-F.For at init None (Some y) body)
stmt_height-For at init (Some x) None body = ap stmt_height (sym (s.rolls-For at init (Some x) None body)) ∙ fold-roll-Stmt ℕ ℕ ℕ ℕ ℕ ℕ ℕ expr_step goal_step init_step stmt_step declaration_step function_step property_step (Stmt-F.For at init (Some x) None body)
stmt_height-For at init (Some x) (Some y) body = ap stmt_height (sym (s.rolls-For at init (Some x) (Some y) body)) ∙ fold-roll-Stmt ℕ ℕ ℕ ℕ ℕ ℕ ℕ expr_step goal_step init_step stmt_step declaration_step function_step property_step (Stmt-F.For at init (Some x) (Some y) body)

pub stmt_height-ForIn : (at : _) (goal : Goal) (object : Expr) (body : Stmt) → stmt_height (s.ForIn at goal object body) ≡ max (goal_height goal) (max (height object) (stmt_height body)) + 1
unfolding height goal_height init_height stmt_height declaration_height function_height property_height
stmt_height-ForIn at goal object body = ap stmt_height (sym (s.rolls-ForIn at goal object body)) ∙ fold-roll-Stmt ℕ ℕ ℕ ℕ ℕ ℕ ℕ expr_step goal_step init_step stmt_step declaration_step function_step property_step (Stmt-F.ForIn at goal object body)

pub stmt_height-Continue : (at : _) → stmt_height (s.Continue at) ≡ 1
unfolding height goal_height init_height stmt_height declaration_height function_height property_height
stmt_height-Continue at = ap stmt_height (sym (s.rolls-Continue at)) ∙ fold-roll-Stmt ℕ ℕ ℕ ℕ ℕ ℕ ℕ expr_step goal_step init_step stmt_step declaration_step function_step property_step (Stmt-F.Continue at)

pub stmt_height-Break : (at : _) → stmt_height (s.Break at) ≡ 1
unfolding height goal_height init_height stmt_height declaration_height function_height property_height
stmt_height-Break at = ap stmt_height (sym (s.rolls-Break at)) ∙ fold-roll-Stmt ℕ ℕ ℕ ℕ ℕ ℕ ℕ expr_step goal_step init_step stmt_step declaration_step function_step property_step (Stmt-F.Break at)

pub stmt_height-Return : (at : _) → stmt_height (s.Return at) ≡ 1
unfolding height goal_height init_height stmt_height declaration_height function_height property_height
stmt_height-Return at = ap stmt_height (sym (s.rolls-Return at)) ∙ fold-roll-Stmt ℕ ℕ ℕ ℕ ℕ ℕ ℕ expr_step goal_step init_step stmt_step declaration_step function_step property_step (Stmt-F.Return at)

pub stmt_height-ReturnValue : (at : _) (value : Expr) → stmt_height (s.ReturnValue at value) ≡ height value + 1
unfolding height goal_height init_height stmt_height declaration_height function_height property_height
stmt_height-ReturnValue at value = ap stmt_height (sym (s.rolls-ReturnValue at value)) ∙ fold-roll-Stmt ℕ ℕ ℕ ℕ ℕ ℕ ℕ expr_step goal_step init_step stmt_step declaration_step function_step property_step (Stmt-F.ReturnValue at value)

pub stmt_height-Throw : (at : _) (value : Expr) → stmt_height (s.Throw at value) ≡ height value + 1
unfolding height goal_height init_height stmt_height declaration_height function_height property_height
stmt_height-Throw at value = ap stmt_height (sym (s.rolls-Throw at value)) ∙ fold-roll-Stmt ℕ ℕ ℕ ℕ ℕ ℕ ℕ expr_step goal_step init_step stmt_step declaration_step function_step property_step (Stmt-F.Throw at value)

pub stmt_height-FunctionDeclaration : (f : Function) → stmt_height (s.FunctionDeclaration f) ≡ function_height f
unfolding height goal_height init_height stmt_height declaration_height function_height property_height
stmt_height-FunctionDeclaration f = ap stmt_height (sym (s.rolls-FunctionDeclaration f)) ∙ fold-roll-Stmt ℕ ℕ ℕ ℕ ℕ ℕ ℕ expr_step goal_step init_step stmt_step declaration_step function_step property_step (Stmt-F.FunctionDeclaration f)

pub init_height-Absent : init_height i.Absent ≡ 0
unfolding height goal_height init_height stmt_height declaration_height function_height property_height
init_height-Absent = ap init_height (sym i.rolls-Absent) ∙ fold-roll-Init ℕ ℕ ℕ ℕ ℕ ℕ ℕ expr_step goal_step init_step stmt_step declaration_step function_step property_step Init-F.Absent

pub init_height-Declarations : (at : _) (ds : List Declaration) → init_height (i.Declarations at ds) ≡ highest (map declaration_height ds) + 1
unfolding height goal_height init_height stmt_height declaration_height function_height property_height
init_height-Declarations at ds = ap init_height (sym (i.rolls-Declarations at ds)) ∙ fold-roll-Init ℕ ℕ ℕ ℕ ℕ ℕ ℕ expr_step goal_step init_step stmt_step declaration_step function_step property_step (Init-F.Declarations at ds)

pub init_height-Initial : (value : Expr) → init_height (i.Initial value) ≡ height value
unfolding height goal_height init_height stmt_height declaration_height function_height property_height
init_height-Initial value = ap init_height (sym (i.rolls-Initial value)) ∙ fold-roll-Init ℕ ℕ ℕ ℕ ℕ ℕ ℕ expr_step goal_step init_step stmt_step declaration_step function_step property_step (Init-F.Initial value)

pub goal_height-Variable : (at : _) (name_at : _) (name : List ℕ) → goal_height (g.Variable at name_at name) ≡ 0
unfolding height goal_height init_height stmt_height declaration_height function_height property_height
goal_height-Variable at name_at name = ap goal_height (sym (g.rolls-Variable at name_at name)) ∙ fold-roll-Goal ℕ ℕ ℕ ℕ ℕ ℕ ℕ expr_step goal_step init_step stmt_step declaration_step function_step property_step (Goal-F.Variable at name_at name)

pub goal_height-Target : (value : Expr) → goal_height (g.Target value) ≡ height value
unfolding height goal_height init_height stmt_height declaration_height function_height property_height
goal_height-Target value = ap goal_height (sym (g.rolls-Target value)) ∙ fold-roll-Goal ℕ ℕ ℕ ℕ ℕ ℕ ℕ expr_step goal_step init_step stmt_step declaration_step function_step property_step (Goal-F.Target value)

pub property_height-is : (x : Property) → property_height x ≡ height x.value
unfolding height goal_height init_height stmt_height declaration_height function_height property_height
property_height-is x = fold_out-Property ℕ ℕ ℕ ℕ ℕ ℕ ℕ expr_step goal_step init_step stmt_step declaration_step function_step property_step x

pub function_height-is : (x : Function) → function_height x ≡ highest (map stmt_height x.body) + 1
unfolding height goal_height init_height stmt_height declaration_height function_height property_height
function_height-is x = fold_out-Function ℕ ℕ ℕ ℕ ℕ ℕ ℕ expr_step goal_step init_step stmt_step declaration_step function_step property_step x

declared : (at : _) (name : List ℕ) (v : Option Expr) → declaration_height (record { at = at; name = name; value = v }) ≡ optional (option_map height v)
unfolding height goal_height init_height stmt_height declaration_height function_height property_height
declared at name None = fold_out-Declaration ℕ ℕ ℕ ℕ ℕ ℕ ℕ expr_step goal_step init_step stmt_step declaration_step function_step property_step (record { at = at; name = name; value = None })
declared at name (Some x) = fold_out-Declaration ℕ ℕ ℕ ℕ ℕ ℕ ℕ expr_step goal_step init_step stmt_step declaration_step function_step property_step (record { at = at; name = name; value = Some x })

pub declaration_height-is : (x : Declaration) → declaration_height x ≡ optional (option_map height x.value)
declaration_height-is x = declared x.at x.name x.value

-- one more
highest_suc : {T : Type 0} (f : T → ℕ) (xs : List T) (i : ℕ) (d : T) → i < length xs → highest (map f (take (suc i) xs)) ≡ max (highest (map f (take i xs))) (f (get_or xs i d))
highest_suc f [] i d h = absurd (omega arith)
highest_suc f (x ∷ xs) zero d h = omega arith
highest_suc f (x ∷ xs) (suc i) d h = let r = highest_suc f xs i d (omega arith) in omega arith

pub highest_more : {T : Type 0} (f : T → ℕ) (xs : List T) (i : ℕ) (d : T) → i < length xs → highest (map f (take (i + 1) xs)) ≡ max (highest (map f (take i xs))) (f (get_or xs i d))
highest_more f xs i d h = rw add-one (highest_suc f xs i d h)

pub ruleset heights = (highest_more, height-Comma, height-Assign, height-Conditional, height-Binary, height-Unary, height-Prefix, height-Postfix, height-New, height-NewWithArguments, height-Call, height-Index, height-Member, height-FunctionExpression, height-Name, height-Null, height-True, height-False, height-Numeral, height-Text, height-Paren, height-Array, height-Object, stmt_height-Block, stmt_height-Var, stmt_height-Empty, stmt_height-Expression, stmt_height-If, stmt_height-IfElse, stmt_height-DoWhile, stmt_height-While, stmt_height-For, stmt_height-ForIn, stmt_height-Continue, stmt_height-Break, stmt_height-Return, stmt_height-ReturnValue, stmt_height-Throw, stmt_height-FunctionDeclaration, init_height-Absent, init_height-Declarations, init_height-Initial, goal_height-Variable, goal_height-Target, property_height-is, function_height-is, declaration_height-is)
