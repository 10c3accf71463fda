-- The extent of each form, by those of its parts.
use Rattle.std.proofs.Common.{◌≡◌, List, sym, ap, ◌∙◌}
use Rattle.std.specs.Prelude.{map, Option, Some, None, option_map}
use Rattle.mdg_tree.specs.declared.tree.Expr.{Expr}
use Rattle.mdg_tree.specs.declared.tree.Goal.{Goal}
use Rattle.mdg_tree.specs.declared.tree.Init.{Init}
use Rattle.mdg_tree.specs.declared.tree.Stmt.{Stmt}
use Rattle.mdg_tree.specs.declared.tree.Declaration.{Declaration}
use Rattle.mdg_tree.specs.declared.tree.Function.{Function}
use Rattle.mdg_tree.specs.declared.tree.Property.{Property}
use Rattle.mdg_tree.specs.declared.tree.Expr.TheVariants as e
use Rattle.mdg_tree.specs.declared.tree.Stmt.TheVariants as s
use Rattle.mdg_tree.specs.declared.tree.Init.TheVariants as i
use Rattle.mdg_tree.specs.declared.tree.Goal.TheVariants as g
use Rattle.mdg_tree.specs.declared.tree.Expr.TheOpen.{Expr-F, Goal-F, Init-F, Stmt-F}
use Rattle.mdg_tree.specs.declared.tree.Expr.TheFolds.{fold-roll-Expr, fold-roll-Stmt, fold-roll-Init, fold-roll-Goal, fold_out-Property, fold_out-Function, fold_out-Declaration}
use Rattle.mdg_tree.specs.Offsets.{Extent, point, in_turn, in_turn_all, in_turn_maybe, around, around_all, aligned, expr_step, goal_step, init_step, stmt_step, declaration_step, function_step, property_step, extent, goal_extent, init_extent, stmt_extent, declaration_extent, function_extent, property_extent}

pub extent-Comma : (at : _) (es : List Expr) → extent (e.Comma at es) ≡ around_all at.offset (map extent es)
unfolding extent goal_extent init_extent stmt_extent declaration_extent function_extent property_extent
extent-Comma at es = ap extent (sym (e.rolls-Comma at es)) ∙ fold-roll-Expr Extent Extent (Option Extent) Extent Extent Extent Extent expr_step goal_step init_step stmt_step declaration_step function_step property_step (Expr-F.Comma at es)

pub extent-Assign : (at : _) (op : _) (target : Expr) (value : Expr) → extent (e.Assign at op target value) ≡ around at.offset (in_turn (extent target) (extent value))
unfolding extent goal_extent init_extent stmt_extent declaration_extent function_extent property_extent
extent-Assign at op target value = ap extent (sym (e.rolls-Assign at op target value)) ∙ fold-roll-Expr Extent Extent (Option Extent) Extent Extent Extent Extent expr_step goal_step init_step stmt_step declaration_step function_step property_step (Expr-F.Assign at op target value)

pub extent-Conditional : (at : _) (test : Expr) (chosen : Expr) (other : Expr) → extent (e.Conditional at test chosen other) ≡ around at.offset (in_turn (in_turn (extent test) (extent chosen)) (extent other))
unfolding extent goal_extent init_extent stmt_extent declaration_extent function_extent property_extent
extent-Conditional at test chosen other = ap extent (sym (e.rolls-Conditional at test chosen other)) ∙ fold-roll-Expr Extent Extent (Option Extent) Extent Extent Extent Extent expr_step goal_step init_step stmt_step declaration_step function_step property_step (Expr-F.Conditional at test chosen other)

pub extent-Binary : (at : _) (op : _) (left : Expr) (right : Expr) → extent (e.Binary at op left right) ≡ around at.offset (in_turn (extent left) (extent right))
unfolding extent goal_extent init_extent stmt_extent declaration_extent function_extent property_extent
extent-Binary at op left right = ap extent (sym (e.rolls-Binary at op left right)) ∙ fold-roll-Expr Extent Extent (Option Extent) Extent Extent Extent Extent expr_step goal_step init_step stmt_step declaration_step function_step property_step (Expr-F.Binary at op left right)

pub extent-Unary : (at : _) (op : _) (value : Expr) → extent (e.Unary at op value) ≡ in_turn (point at.offset) (extent value)
unfolding extent goal_extent init_extent stmt_extent declaration_extent function_extent property_extent
extent-Unary at op value = ap extent (sym (e.rolls-Unary at op value)) ∙ fold-roll-Expr Extent Extent (Option Extent) Extent Extent Extent Extent expr_step goal_step init_step stmt_step declaration_step function_step property_step (Expr-F.Unary at op value)

pub extent-Prefix : (at : _) (step : _) (target : Expr) → extent (e.Prefix at step target) ≡ in_turn (point at.offset) (extent target)
unfolding extent goal_extent init_extent stmt_extent declaration_extent function_extent property_extent
extent-Prefix at step target = ap extent (sym (e.rolls-Prefix at step target)) ∙ fold-roll-Expr Extent Extent (Option Extent) Extent Extent Extent Extent expr_step goal_step init_step stmt_step declaration_step function_step property_step (Expr-F.Prefix at step target)

pub extent-Postfix : (at : _) (step : _) (target : Expr) → extent (e.Postfix at step target) ≡ around at.offset (extent target)
unfolding extent goal_extent init_extent stmt_extent declaration_extent function_extent property_extent
extent-Postfix at step target = ap extent (sym (e.rolls-Postfix at step target)) ∙ fold-roll-Expr Extent Extent (Option Extent) Extent Extent Extent Extent expr_step goal_step init_step stmt_step declaration_step function_step property_step (Expr-F.Postfix at step target)

pub extent-New : (at : _) (callee : Expr) → extent (e.New at callee) ≡ in_turn (point at.offset) (extent callee)
unfolding extent goal_extent init_extent stmt_extent declaration_extent function_extent property_extent
extent-New at callee = ap extent (sym (e.rolls-New at callee)) ∙ fold-roll-Expr Extent Extent (Option Extent) Extent Extent Extent Extent expr_step goal_step init_step stmt_step declaration_step function_step property_step (Expr-F.New at callee)

pub extent-NewWithArguments : (at : _) (callee : Expr) (es : List Expr) → extent (e.NewWithArguments at callee es) ≡ in_turn_all (in_turn (point at.offset) (extent callee)) (map extent es)
unfolding extent goal_extent init_extent stmt_extent declaration_extent function_extent property_extent
extent-NewWithArguments at callee es = ap extent (sym (e.rolls-NewWithArguments at callee es)) ∙ fold-roll-Expr Extent Extent (Option Extent) Extent Extent Extent Extent expr_step goal_step init_step stmt_step declaration_step function_step property_step (Expr-F.NewWithArguments at callee es)

pub extent-Call : (at : _) (callee : Expr) (es : List Expr) → extent (e.Call at callee es) ≡ in_turn_all (around at.offset (extent callee)) (map extent es)
unfolding extent goal_extent init_extent stmt_extent declaration_extent function_extent property_extent
extent-Call at callee es = ap extent (sym (e.rolls-Call at callee es)) ∙ fold-roll-Expr Extent Extent (Option Extent) Extent Extent Extent Extent expr_step goal_step init_step stmt_step declaration_step function_step property_step (Expr-F.Call at callee es)

pub extent-Index : (at : _) (object : Expr) (key : Expr) → extent (e.Index at object key) ≡ in_turn (around at.offset (extent object)) (extent key)
unfolding extent goal_extent init_extent stmt_extent declaration_extent function_extent property_extent
extent-Index at object key = ap extent (sym (e.rolls-Index at object key)) ∙ fold-roll-Expr Extent Extent (Option Extent) Extent Extent Extent Extent expr_step goal_step init_step stmt_step declaration_step function_step property_step (Expr-F.Index at object key)

pub extent-Member : (at : _) (object : Expr) (name : _) → extent (e.Member at object name) ≡ around at.offset (extent object)
unfolding extent goal_extent init_extent stmt_extent declaration_extent function_extent property_extent
extent-Member at object name = ap extent (sym (e.rolls-Member at object name)) ∙ fold-roll-Expr Extent Extent (Option Extent) Extent Extent Extent Extent expr_step goal_step init_step stmt_step declaration_step function_step property_step (Expr-F.Member at object name)

pub extent-FunctionExpression : (f : Function) → extent (e.FunctionExpression f) ≡ (function_extent f)
unfolding extent goal_extent init_extent stmt_extent declaration_extent function_extent property_extent
extent-FunctionExpression f = ap extent (sym (e.rolls-FunctionExpression f)) ∙ fold-roll-Expr Extent Extent (Option Extent) Extent Extent Extent Extent expr_step goal_step init_step stmt_step declaration_step function_step property_step (Expr-F.FunctionExpression f)

pub extent-Name : (at : _) (name : _) → extent (e.Name at name) ≡ point at.offset
unfolding extent goal_extent init_extent stmt_extent declaration_extent function_extent property_extent
extent-Name at name = ap extent (sym (e.rolls-Name at name)) ∙ fold-roll-Expr Extent Extent (Option Extent) Extent Extent Extent Extent expr_step goal_step init_step stmt_step declaration_step function_step property_step (Expr-F.Name at name)

pub extent-Null : (at : _) → extent (e.Null at) ≡ point at.offset
unfolding extent goal_extent init_extent stmt_extent declaration_extent function_extent property_extent
extent-Null at = ap extent (sym (e.rolls-Null at)) ∙ fold-roll-Expr Extent Extent (Option Extent) Extent Extent Extent Extent expr_step goal_step init_step stmt_step declaration_step function_step property_step (Expr-F.Null at)

pub extent-True : (at : _) → extent (e.True at) ≡ point at.offset
unfolding extent goal_extent init_extent stmt_extent declaration_extent function_extent property_extent
extent-True at = ap extent (sym (e.rolls-True at)) ∙ fold-roll-Expr Extent Extent (Option Extent) Extent Extent Extent Extent expr_step goal_step init_step stmt_step declaration_step function_step property_step (Expr-F.True at)

pub extent-False : (at : _) → extent (e.False at) ≡ point at.offset
unfolding extent goal_extent init_extent stmt_extent declaration_extent function_extent property_extent
extent-False at = ap extent (sym (e.rolls-False at)) ∙ fold-roll-Expr Extent Extent (Option Extent) Extent Extent Extent Extent expr_step goal_step init_step stmt_step declaration_step function_step property_step (Expr-F.False at)

pub extent-Numeral : (at : _) (text : _) → extent (e.Numeral at text) ≡ point at.offset
unfolding extent goal_extent init_extent stmt_extent declaration_extent function_extent property_extent
extent-Numeral at text = ap extent (sym (e.rolls-Numeral at text)) ∙ fold-roll-Expr Extent Extent (Option Extent) Extent Extent Extent Extent expr_step goal_step init_step stmt_step declaration_step function_step property_step (Expr-F.Numeral at text)

pub extent-Text : (at : _) (text : _) → extent (e.Text at text) ≡ point at.offset
unfolding extent goal_extent init_extent stmt_extent declaration_extent function_extent property_extent
extent-Text at text = ap extent (sym (e.rolls-Text at text)) ∙ fold-roll-Expr Extent Extent (Option Extent) Extent Extent Extent Extent expr_step goal_step init_step stmt_step declaration_step function_step property_step (Expr-F.Text at text)

pub extent-Paren : (at : _) (inner : Expr) → extent (e.Paren at inner) ≡ in_turn (point at.offset) (extent inner)
unfolding extent goal_extent init_extent stmt_extent declaration_extent function_extent property_extent
extent-Paren at inner = ap extent (sym (e.rolls-Paren at inner)) ∙ fold-roll-Expr Extent Extent (Option Extent) Extent Extent Extent Extent expr_step goal_step init_step stmt_step declaration_step function_step property_step (Expr-F.Paren at inner)

pub extent-Array : (at : _) (es : List Expr) → extent (e.Array at es) ≡ in_turn_all (point at.offset) (map extent es)
unfolding extent goal_extent init_extent stmt_extent declaration_extent function_extent property_extent
extent-Array at es = ap extent (sym (e.rolls-Array at es)) ∙ fold-roll-Expr Extent Extent (Option Extent) Extent Extent Extent Extent expr_step goal_step init_step stmt_step declaration_step function_step property_step (Expr-F.Array at es)

pub extent-Object : (at : _) (ps : List Property) → extent (e.Object at ps) ≡ in_turn_all (point at.offset) (map property_extent ps)
unfolding extent goal_extent init_extent stmt_extent declaration_extent function_extent property_extent
extent-Object at ps = ap extent (sym (e.rolls-Object at ps)) ∙ fold-roll-Expr Extent Extent (Option Extent) Extent Extent Extent Extent expr_step goal_step init_step stmt_step declaration_step function_step property_step (Expr-F.Object at ps)

pub stmt_extent-Block : (at : _) (body : List Stmt) → stmt_extent (s.Block at body) ≡ in_turn_all (point at.offset) (map stmt_extent body)
unfolding extent goal_extent init_extent stmt_extent declaration_extent function_extent property_extent
stmt_extent-Block at body = ap stmt_extent (sym (s.rolls-Block at body)) ∙ fold-roll-Stmt Extent Extent (Option Extent) Extent Extent Extent Extent expr_step goal_step init_step stmt_step declaration_step function_step property_step (Stmt-F.Block at body)

pub stmt_extent-Var : (at : _) (ds : List Declaration) → stmt_extent (s.Var at ds) ≡ in_turn_all (point at.offset) (map declaration_extent ds)
unfolding extent goal_extent init_extent stmt_extent declaration_extent function_extent property_extent
stmt_extent-Var at ds = ap stmt_extent (sym (s.rolls-Var at ds)) ∙ fold-roll-Stmt Extent Extent (Option Extent) Extent Extent Extent Extent expr_step goal_step init_step stmt_step declaration_step function_step property_step (Stmt-F.Var at ds)

pub stmt_extent-Empty : (at : _) → stmt_extent (s.Empty at) ≡ point at.offset
unfolding extent goal_extent init_extent stmt_extent declaration_extent function_extent property_extent
stmt_extent-Empty at = ap stmt_extent (sym (s.rolls-Empty at)) ∙ fold-roll-Stmt Extent Extent (Option Extent) Extent Extent Extent Extent expr_step goal_step init_step stmt_step declaration_step function_step property_step (Stmt-F.Empty at)

pub stmt_extent-Expression : (at : _) (value : Expr) → stmt_extent (s.Expression at value) ≡ around at.offset (extent value)
unfolding extent goal_extent init_extent stmt_extent declaration_extent function_extent property_extent
stmt_extent-Expression at value = ap stmt_extent (sym (s.rolls-Expression at value)) ∙ fold-roll-Stmt Extent Extent (Option Extent) Extent Extent Extent Extent expr_step goal_step init_step stmt_step declaration_step function_step property_step (Stmt-F.Expression at value)

pub stmt_extent-If : (at : _) (test : Expr) (body : Stmt) → stmt_extent (s.If at test body) ≡ in_turn (in_turn (point at.offset) (extent test)) (stmt_extent body)
unfolding extent goal_extent init_extent stmt_extent declaration_extent function_extent property_extent
stmt_extent-If at test body = ap stmt_extent (sym (s.rolls-If at test body)) ∙ fold-roll-Stmt Extent Extent (Option Extent) Extent Extent Extent Extent expr_step goal_step init_step stmt_step declaration_step function_step property_step (Stmt-F.If at test body)

pub stmt_extent-IfElse : (at : _) (test : Expr) (body : Stmt) (other : Stmt) → stmt_extent (s.IfElse at test body other) ≡ in_turn (in_turn (in_turn (point at.offset) (extent test)) (stmt_extent body)) (stmt_extent other)
unfolding extent goal_extent init_extent stmt_extent declaration_extent function_extent property_extent
stmt_extent-IfElse at test body other = ap stmt_extent (sym (s.rolls-IfElse at test body other)) ∙ fold-roll-Stmt Extent Extent (Option Extent) Extent Extent Extent Extent expr_step goal_step init_step stmt_step declaration_step function_step property_step (Stmt-F.IfElse at test body other)

pub stmt_extent-DoWhile : (at : _) (body : Stmt) (test : Expr) → stmt_extent (s.DoWhile at body test) ≡ in_turn (in_turn (point at.offset) (stmt_extent body)) (extent test)
unfolding extent goal_extent init_extent stmt_extent declaration_extent function_extent property_extent
stmt_extent-DoWhile at body test = ap stmt_extent (sym (s.rolls-DoWhile at body test)) ∙ fold-roll-Stmt Extent Extent (Option Extent) Extent Extent Extent Extent expr_step goal_step init_step stmt_step declaration_step function_step property_step (Stmt-F.DoWhile at body test)

pub stmt_extent-While : (at : _) (test : Expr) (body : Stmt) → stmt_extent (s.While at test body) ≡ in_turn (in_turn (point at.offset) (extent test)) (stmt_extent body)
unfolding extent goal_extent init_extent stmt_extent declaration_extent function_extent property_extent
stmt_extent-While at test body = ap stmt_extent (sym (s.rolls-While at test body)) ∙ fold-roll-Stmt Extent Extent (Option Extent) Extent Extent Extent Extent expr_step goal_step init_step stmt_step declaration_step function_step property_step (Stmt-F.While at test body)

pub stmt_extent-For : (at : _) (init : Init) (test : Option Expr) (update : Option Expr) (body : Stmt) → stmt_extent (s.For at init test update body) ≡ in_turn (in_turn_maybe (in_turn_maybe (in_turn_maybe (point at.offset) (init_extent init)) (option_map extent test)) (option_map extent update)) (stmt_extent body)
unfolding extent goal_extent init_extent stmt_extent declaration_extent function_extent property_extent
stmt_extent-For at init None None body = ap stmt_extent (sym (s.rolls-For at init None None body)) ∙ fold-roll-Stmt Extent Extent (Option Extent) Extent Extent Extent Extent expr_step goal_step init_step stmt_step declaration_step function_step property_step (Stmt-F.For at init None None body)
stmt_extent-For at init None (Some y) body = ap stmt_extent (sym (s.rolls-For at init None (Some y) body)) ∙ fold-roll-Stmt Extent Extent (Option Extent) Extent Extent Extent Extent expr_step goal_step init_step stmt_step declaration_step function_step property_step (Stmt-F.For at init None (Some y) body)
stmt_extent-For at init (Some x) None body = ap stmt_extent (sym (s.rolls-For at init (Some x) None body)) ∙ fold-roll-Stmt Extent Extent (Option Extent) Extent Extent Extent Extent expr_step goal_step init_step stmt_step declaration_step function_step property_step (Stmt-F.For at init (Some x) None body)
stmt_extent-For at init (Some x) (Some y) body = ap stmt_extent (sym (s.rolls-For at init (Some x) (Some y) body)) ∙ fold-roll-Stmt Extent Extent (Option Extent) Extent Extent Extent Extent expr_step goal_step init_step stmt_step declaration_step function_step property_step (Stmt-F.For at init (Some x) (Some y) body)

pub stmt_extent-ForIn : (at : _) (goal : Goal) (object : Expr) (body : Stmt) → stmt_extent (s.ForIn at goal object body) ≡ in_turn (in_turn (in_turn (point at.offset) (goal_extent goal)) (extent object)) (stmt_extent body)
unfolding extent goal_extent init_extent stmt_extent declaration_extent function_extent property_extent
stmt_extent-ForIn at goal object body = ap stmt_extent (sym (s.rolls-ForIn at goal object body)) ∙ fold-roll-Stmt Extent Extent (Option Extent) Extent Extent Extent Extent expr_step goal_step init_step stmt_step declaration_step function_step property_step (Stmt-F.ForIn at goal object body)

pub stmt_extent-Continue : (at : _) → stmt_extent (s.Continue at) ≡ point at.offset
unfolding extent goal_extent init_extent stmt_extent declaration_extent function_extent property_extent
stmt_extent-Continue at = ap stmt_extent (sym (s.rolls-Continue at)) ∙ fold-roll-Stmt Extent Extent (Option Extent) Extent Extent Extent Extent expr_step goal_step init_step stmt_step declaration_step function_step property_step (Stmt-F.Continue at)

pub stmt_extent-Break : (at : _) → stmt_extent (s.Break at) ≡ point at.offset
unfolding extent goal_extent init_extent stmt_extent declaration_extent function_extent property_extent
stmt_extent-Break at = ap stmt_extent (sym (s.rolls-Break at)) ∙ fold-roll-Stmt Extent Extent (Option Extent) Extent Extent Extent Extent expr_step goal_step init_step stmt_step declaration_step function_step property_step (Stmt-F.Break at)

pub stmt_extent-Return : (at : _) → stmt_extent (s.Return at) ≡ point at.offset
unfolding extent goal_extent init_extent stmt_extent declaration_extent function_extent property_extent
stmt_extent-Return at = ap stmt_extent (sym (s.rolls-Return at)) ∙ fold-roll-Stmt Extent Extent (Option Extent) Extent Extent Extent Extent expr_step goal_step init_step stmt_step declaration_step function_step property_step (Stmt-F.Return at)

pub stmt_extent-ReturnValue : (at : _) (value : Expr) → stmt_extent (s.ReturnValue at value) ≡ in_turn (point at.offset) (extent value)
unfolding extent goal_extent init_extent stmt_extent declaration_extent function_extent property_extent
stmt_extent-ReturnValue at value = ap stmt_extent (sym (s.rolls-ReturnValue at value)) ∙ fold-roll-Stmt Extent Extent (Option Extent) Extent Extent Extent Extent expr_step goal_step init_step stmt_step declaration_step function_step property_step (Stmt-F.ReturnValue at value)

pub stmt_extent-Throw : (at : _) (value : Expr) → stmt_extent (s.Throw at value) ≡ in_turn (point at.offset) (extent value)
unfolding extent goal_extent init_extent stmt_extent declaration_extent function_extent property_extent
stmt_extent-Throw at value = ap stmt_extent (sym (s.rolls-Throw at value)) ∙ fold-roll-Stmt Extent Extent (Option Extent) Extent Extent Extent Extent expr_step goal_step init_step stmt_step declaration_step function_step property_step (Stmt-F.Throw at value)

pub stmt_extent-FunctionDeclaration : (f : Function) → stmt_extent (s.FunctionDeclaration f) ≡ (function_extent f)
unfolding extent goal_extent init_extent stmt_extent declaration_extent function_extent property_extent
stmt_extent-FunctionDeclaration f = ap stmt_extent (sym (s.rolls-FunctionDeclaration f)) ∙ fold-roll-Stmt Extent Extent (Option Extent) Extent Extent Extent Extent expr_step goal_step init_step stmt_step declaration_step function_step property_step (Stmt-F.FunctionDeclaration f)

pub init_extent-Absent : init_extent i.Absent ≡ None
unfolding extent goal_extent init_extent stmt_extent declaration_extent function_extent property_extent
init_extent-Absent = ap init_extent (sym (i.rolls-Absent)) ∙ fold-roll-Init Extent Extent (Option Extent) Extent Extent Extent Extent expr_step goal_step init_step stmt_step declaration_step function_step property_step Init-F.Absent

pub init_extent-Declarations : (at : _) (ds : List Declaration) → init_extent (i.Declarations at ds) ≡ Some (in_turn_all (point at.offset) (map declaration_extent ds))
unfolding extent goal_extent init_extent stmt_extent declaration_extent function_extent property_extent
init_extent-Declarations at ds = ap init_extent (sym (i.rolls-Declarations at ds)) ∙ fold-roll-Init Extent Extent (Option Extent) Extent Extent Extent Extent expr_step goal_step init_step stmt_step declaration_step function_step property_step (Init-F.Declarations at ds)

pub init_extent-Initial : (value : Expr) → init_extent (i.Initial value) ≡ Some (extent value)
unfolding extent goal_extent init_extent stmt_extent declaration_extent function_extent property_extent
init_extent-Initial value = ap init_extent (sym (i.rolls-Initial value)) ∙ fold-roll-Init Extent Extent (Option Extent) Extent Extent Extent Extent expr_step goal_step init_step stmt_step declaration_step function_step property_step (Init-F.Initial value)

pub goal_extent-Variable : (at : _) (name_at : _) (name : _) → goal_extent (g.Variable at name_at name) ≡ in_turn (point at.offset) (point name_at.offset)
unfolding extent goal_extent init_extent stmt_extent declaration_extent function_extent property_extent
goal_extent-Variable at name_at name = ap goal_extent (sym (g.rolls-Variable at name_at name)) ∙ fold-roll-Goal Extent Extent (Option Extent) Extent Extent Extent Extent expr_step goal_step init_step stmt_step declaration_step function_step property_step (Goal-F.Variable at name_at name)

pub goal_extent-Target : (value : Expr) → goal_extent (g.Target value) ≡ (extent value)
unfolding extent goal_extent init_extent stmt_extent declaration_extent function_extent property_extent
goal_extent-Target value = ap goal_extent (sym (g.rolls-Target value)) ∙ fold-roll-Goal Extent Extent (Option Extent) Extent Extent Extent Extent expr_step goal_step init_step stmt_step declaration_step function_step property_step (Goal-F.Target value)

pub property_extent-is : (x : Property) → property_extent x ≡ in_turn (point x.at.offset) (extent x.value)
unfolding extent goal_extent init_extent stmt_extent declaration_extent function_extent property_extent
property_extent-is x = fold_out-Property Extent Extent (Option Extent) Extent Extent Extent Extent expr_step goal_step init_step stmt_step declaration_step function_step property_step x

pub function_extent-is : (x : Function) → function_extent x ≡ aligned x.parameters x.parameter_offsets (in_turn_all (in_turn_all (around x.offset (point x.name_offset)) (map point x.parameter_offsets)) (map stmt_extent x.body))
unfolding extent goal_extent init_extent stmt_extent declaration_extent function_extent property_extent
function_extent-is x = fold_out-Function Extent Extent (Option Extent) Extent Extent Extent Extent expr_step goal_step init_step stmt_step declaration_step function_step property_step x

declared : (at : _) (name : _) (value : Option Expr) → declaration_extent (record { at = at; name = name; value = value }) ≡ in_turn_maybe (point at.offset) (option_map extent value)
unfolding extent goal_extent init_extent stmt_extent declaration_extent function_extent property_extent
declared at name None = fold_out-Declaration Extent Extent (Option Extent) Extent Extent Extent Extent expr_step goal_step init_step stmt_step declaration_step function_step property_step (record { at = at; name = name; value = None })
declared at name (Some x) = fold_out-Declaration Extent Extent (Option Extent) Extent Extent Extent Extent expr_step goal_step init_step stmt_step declaration_step function_step property_step (record { at = at; name = name; value = Some x })

pub declaration_extent-is : (x : Declaration) → declaration_extent x ≡ in_turn_maybe (point x.at.offset) (option_map extent x.value)
declaration_extent-is x = declared x.at x.name x.value
