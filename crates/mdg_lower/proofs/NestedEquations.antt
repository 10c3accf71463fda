-- The functions and loops that stand in each form of tree: an equation for each form.
use Rattle.std.specs.Prelude.{◌≡◌, ℕ, List, [], ◌∷◌, ◌++◌, map, Option, Some, None}
use Rattle.std.specs.List.{flat_map}
use Rattle.std.proofs.Common.{refl, sym, ap, ◌∙◌}
use Rattle.mdg_tree.specs.declared.tree.At.{At}
use Rattle.mdg_tree.specs.declared.tree.Expr.{Expr}
use Rattle.mdg_tree.specs.declared.tree.Goal.{Goal}
use Rattle.mdg_tree.specs.declared.tree.Init.{Init}
use Rattle.mdg_tree.specs.declared.tree.Stmt.{Stmt}
use Rattle.mdg_tree.specs.declared.tree.Declaration.{Declaration}
use Rattle.mdg_tree.specs.declared.tree.Function.{Function, out-Function, roll-out-Function}
use Rattle.mdg_tree.specs.declared.tree.Property.{Property, out-Property, roll-out-Property}
use Rattle.mdg_tree.specs.declared.tree.Expr.TheVariants as e
use Rattle.mdg_tree.specs.declared.tree.Stmt.TheVariants as s
use Rattle.mdg_tree.specs.declared.tree.Init.TheVariants as i
use Rattle.mdg_tree.specs.declared.tree.Goal.TheVariants as g
use Rattle.mdg_tree.specs.declared.tree.Expr.TheOpen.{Expr-F, Goal-F, Init-F, Stmt-F}
use Rattle.mdg_tree.specs.declared.tree.Expr.TheFolds.{para-roll-Expr, para-roll-Goal, para-roll-Init, para-roll-Stmt, para-roll-Declaration, para-roll-Function, para-roll-Property, fold-roll-Stmt}
use Rattle.mdg_lower.specs.Nested.{Listed, of_parts, expr_functions, stmt_functions, init_functions, goal_functions, property_functions, function_functions, declaration_functions, functions_of_expr, functions_of_goal, functions_of_init, functions_of_stmt, functions_of_declaration, functions_of_function, functions_of_property, functions_of_optional, Offsets, no_loops, stmt_loops, loops_of}

parts_are : {A : Type 0} (f : A → Listed) (xs : List A) → of_parts (map (λ x. (x, f x)) xs) ≡ flat_map f xs
parts_are f [] = refl
parts_are f (x ∷ xs) = ap (λ rest. f x ++ rest) (parts_are f xs)

whole_are : {A : Type 0} (f : A → Listed) (xs : List A) → map (λ (t : A × Listed). t.0) (map (λ x. (x, f x)) xs) ≡ xs
whole_are f [] = refl
whole_are f (x ∷ xs) = ap (λ rest. x ∷ rest) (whole_are f xs)

pub expr_lists-Comma : (at : _) (es : List Expr) → functions_of_expr (e.Comma at es) ≡ flat_map functions_of_expr es
unfolding functions_of_expr functions_of_goal functions_of_init functions_of_stmt functions_of_declaration functions_of_function functions_of_property
expr_lists-Comma at es = ap functions_of_expr (sym (e.rolls-Comma at es)) ∙ para-roll-Expr Listed Listed Listed Listed Listed Listed Listed expr_functions goal_functions init_functions stmt_functions declaration_functions function_functions property_functions (Expr-F.Comma at es) ∙ parts_are functions_of_expr es

pub expr_lists-Assign : (at : _) (op : _) (target : Expr) (value : Expr) → functions_of_expr (e.Assign at op target value) ≡ functions_of_expr target ++ functions_of_expr value
unfolding functions_of_expr functions_of_goal functions_of_init functions_of_stmt functions_of_declaration functions_of_function functions_of_property
expr_lists-Assign at op target value = ap functions_of_expr (sym (e.rolls-Assign at op target value)) ∙ para-roll-Expr Listed Listed Listed Listed Listed Listed Listed expr_functions goal_functions init_functions stmt_functions declaration_functions function_functions property_functions (Expr-F.Assign at op target value)

pub expr_lists-Conditional : (at : _) (test : Expr) (chosen : Expr) (other : Expr) → functions_of_expr (e.Conditional at test chosen other) ≡ functions_of_expr test ++ functions_of_expr chosen ++ functions_of_expr other
unfolding functions_of_expr functions_of_goal functions_of_init functions_of_stmt functions_of_declaration functions_of_function functions_of_property
expr_lists-Conditional at test chosen other = ap functions_of_expr (sym (e.rolls-Conditional at test chosen other)) ∙ para-roll-Expr Listed Listed Listed Listed Listed Listed Listed expr_functions goal_functions init_functions stmt_functions declaration_functions function_functions property_functions (Expr-F.Conditional at test chosen other)

pub expr_lists-Binary : (at : _) (op : _) (left : Expr) (right : Expr) → functions_of_expr (e.Binary at op left right) ≡ functions_of_expr left ++ functions_of_expr right
unfolding functions_of_expr functions_of_goal functions_of_init functions_of_stmt functions_of_declaration functions_of_function functions_of_property
expr_lists-Binary at op left right = ap functions_of_expr (sym (e.rolls-Binary at op left right)) ∙ para-roll-Expr Listed Listed Listed Listed Listed Listed Listed expr_functions goal_functions init_functions stmt_functions declaration_functions function_functions property_functions (Expr-F.Binary at op left right)

pub expr_lists-Unary : (at : _) (op : _) (value : Expr) → functions_of_expr (e.Unary at op value) ≡ functions_of_expr value
unfolding functions_of_expr functions_of_goal functions_of_init functions_of_stmt functions_of_declaration functions_of_function functions_of_property
expr_lists-Unary at op value = ap functions_of_expr (sym (e.rolls-Unary at op value)) ∙ para-roll-Expr Listed Listed Listed Listed Listed Listed Listed expr_functions goal_functions init_functions stmt_functions declaration_functions function_functions property_functions (Expr-F.Unary at op value)

pub expr_lists-Prefix : (at : _) (step : _) (target : Expr) → functions_of_expr (e.Prefix at step target) ≡ functions_of_expr target
unfolding functions_of_expr functions_of_goal functions_of_init functions_of_stmt functions_of_declaration functions_of_function functions_of_property
expr_lists-Prefix at step target = ap functions_of_expr (sym (e.rolls-Prefix at step target)) ∙ para-roll-Expr Listed Listed Listed Listed Listed Listed Listed expr_functions goal_functions init_functions stmt_functions declaration_functions function_functions property_functions (Expr-F.Prefix at step target)

pub expr_lists-Postfix : (at : _) (step : _) (target : Expr) → functions_of_expr (e.Postfix at step target) ≡ functions_of_expr target
unfolding functions_of_expr functions_of_goal functions_of_init functions_of_stmt functions_of_declaration functions_of_function functions_of_property
expr_lists-Postfix at step target = ap functions_of_expr (sym (e.rolls-Postfix at step target)) ∙ para-roll-Expr Listed Listed Listed Listed Listed Listed Listed expr_functions goal_functions init_functions stmt_functions declaration_functions function_functions property_functions (Expr-F.Postfix at step target)

pub expr_lists-New : (at : _) (callee : Expr) → functions_of_expr (e.New at callee) ≡ functions_of_expr callee
unfolding functions_of_expr functions_of_goal functions_of_init functions_of_stmt functions_of_declaration functions_of_function functions_of_property
expr_lists-New at callee = ap functions_of_expr (sym (e.rolls-New at callee)) ∙ para-roll-Expr Listed Listed Listed Listed Listed Listed Listed expr_functions goal_functions init_functions stmt_functions declaration_functions function_functions property_functions (Expr-F.New at callee)

pub expr_lists-NewWithArguments : (at : _) (callee : Expr) (es : List Expr) → functions_of_expr (e.NewWithArguments at callee es) ≡ functions_of_expr callee ++ flat_map functions_of_expr es
unfolding functions_of_expr functions_of_goal functions_of_init functions_of_stmt functions_of_declaration functions_of_function functions_of_property
expr_lists-NewWithArguments at callee es = ap functions_of_expr (sym (e.rolls-NewWithArguments at callee es)) ∙ para-roll-Expr Listed Listed Listed Listed Listed Listed Listed expr_functions goal_functions init_functions stmt_functions declaration_functions function_functions property_functions (Expr-F.NewWithArguments at callee es) ∙ ap (λ rest. functions_of_expr callee ++ rest) (parts_are functions_of_expr es)

pub expr_lists-Call : (at : _) (callee : Expr) (es : List Expr) → functions_of_expr (e.Call at callee es) ≡ functions_of_expr callee ++ flat_map functions_of_expr es
unfolding functions_of_expr functions_of_goal functions_of_init functions_of_stmt functions_of_declaration functions_of_function functions_of_property
expr_lists-Call at callee es = ap functions_of_expr (sym (e.rolls-Call at callee es)) ∙ para-roll-Expr Listed Listed Listed Listed Listed Listed Listed expr_functions goal_functions init_functions stmt_functions declaration_functions function_functions property_functions (Expr-F.Call at callee es) ∙ ap (λ rest. functions_of_expr callee ++ rest) (parts_are functions_of_expr es)

pub expr_lists-Index : (at : _) (object : Expr) (key : Expr) → functions_of_expr (e.Index at object key) ≡ functions_of_expr object ++ functions_of_expr key
unfolding functions_of_expr functions_of_goal functions_of_init functions_of_stmt functions_of_declaration functions_of_function functions_of_property
expr_lists-Index at object key = ap functions_of_expr (sym (e.rolls-Index at object key)) ∙ para-roll-Expr Listed Listed Listed Listed Listed Listed Listed expr_functions goal_functions init_functions stmt_functions declaration_functions function_functions property_functions (Expr-F.Index at object key)

pub expr_lists-Member : (at : _) (object : Expr) (name : List ℕ) → functions_of_expr (e.Member at object name) ≡ functions_of_expr object
unfolding functions_of_expr functions_of_goal functions_of_init functions_of_stmt functions_of_declaration functions_of_function functions_of_property
expr_lists-Member at object name = ap functions_of_expr (sym (e.rolls-Member at object name)) ∙ para-roll-Expr Listed Listed Listed Listed Listed Listed Listed expr_functions goal_functions init_functions stmt_functions declaration_functions function_functions property_functions (Expr-F.Member at object name)

pub expr_lists-FunctionExpression : (f : Function) → functions_of_expr (e.FunctionExpression f) ≡ functions_of_function f
unfolding functions_of_expr functions_of_goal functions_of_init functions_of_stmt functions_of_declaration functions_of_function functions_of_property
expr_lists-FunctionExpression f = ap functions_of_expr (sym (e.rolls-FunctionExpression f)) ∙ para-roll-Expr Listed Listed Listed Listed Listed Listed Listed expr_functions goal_functions init_functions stmt_functions declaration_functions function_functions property_functions (Expr-F.FunctionExpression f)

pub expr_lists-Name : (at : _) (name : List ℕ) → functions_of_expr (e.Name at name) ≡ []
unfolding functions_of_expr functions_of_goal functions_of_init functions_of_stmt functions_of_declaration functions_of_function functions_of_property
expr_lists-Name at name = ap functions_of_expr (sym (e.rolls-Name at name)) ∙ para-roll-Expr Listed Listed Listed Listed Listed Listed Listed expr_functions goal_functions init_functions stmt_functions declaration_functions function_functions property_functions (Expr-F.Name at name)

pub expr_lists-Null : (at : _) → functions_of_expr (e.Null at) ≡ []
unfolding functions_of_expr functions_of_goal functions_of_init functions_of_stmt functions_of_declaration functions_of_function functions_of_property
expr_lists-Null at = ap functions_of_expr (sym (e.rolls-Null at)) ∙ para-roll-Expr Listed Listed Listed Listed Listed Listed Listed expr_functions goal_functions init_functions stmt_functions declaration_functions function_functions property_functions (Expr-F.Null at)

pub expr_lists-True : (at : _) → functions_of_expr (e.True at) ≡ []
unfolding functions_of_expr functions_of_goal functions_of_init functions_of_stmt functions_of_declaration functions_of_function functions_of_property
expr_lists-True at = ap functions_of_expr (sym (e.rolls-True at)) ∙ para-roll-Expr Listed Listed Listed Listed Listed Listed Listed expr_functions goal_functions init_functions stmt_functions declaration_functions function_functions property_functions (Expr-F.True at)

pub expr_lists-False : (at : _) → functions_of_expr (e.False at) ≡ []
unfolding functions_of_expr functions_of_goal functions_of_init functions_of_stmt functions_of_declaration functions_of_function functions_of_property
expr_lists-False at = ap functions_of_expr (sym (e.rolls-False at)) ∙ para-roll-Expr Listed Listed Listed Listed Listed Listed Listed expr_functions goal_functions init_functions stmt_functions declaration_functions function_functions property_functions (Expr-F.False at)

pub expr_lists-Numeral : (at : _) (text : List ℕ) → functions_of_expr (e.Numeral at text) ≡ []
unfolding functions_of_expr functions_of_goal functions_of_init functions_of_stmt functions_of_declaration functions_of_function functions_of_property
expr_lists-Numeral at text = ap functions_of_expr (sym (e.rolls-Numeral at text)) ∙ para-roll-Expr Listed Listed Listed Listed Listed Listed Listed expr_functions goal_functions init_functions stmt_functions declaration_functions function_functions property_functions (Expr-F.Numeral at text)

pub expr_lists-Text : (at : _) (text : List ℕ) → functions_of_expr (e.Text at text) ≡ []
unfolding functions_of_expr functions_of_goal functions_of_init functions_of_stmt functions_of_declaration functions_of_function functions_of_property
expr_lists-Text at text = ap functions_of_expr (sym (e.rolls-Text at text)) ∙ para-roll-Expr Listed Listed Listed Listed Listed Listed Listed expr_functions goal_functions init_functions stmt_functions declaration_functions function_functions property_functions (Expr-F.Text at text)

pub expr_lists-Paren : (at : _) (inner : Expr) → functions_of_expr (e.Paren at inner) ≡ functions_of_expr inner
unfolding functions_of_expr functions_of_goal functions_of_init functions_of_stmt functions_of_declaration functions_of_function functions_of_property
expr_lists-Paren at inner = ap functions_of_expr (sym (e.rolls-Paren at inner)) ∙ para-roll-Expr Listed Listed Listed Listed Listed Listed Listed expr_functions goal_functions init_functions stmt_functions declaration_functions function_functions property_functions (Expr-F.Paren at inner)

pub expr_lists-Array : (at : _) (es : List Expr) → functions_of_expr (e.Array at es) ≡ flat_map functions_of_expr es
unfolding functions_of_expr functions_of_goal functions_of_init functions_of_stmt functions_of_declaration functions_of_function functions_of_property
expr_lists-Array at es = ap functions_of_expr (sym (e.rolls-Array at es)) ∙ para-roll-Expr Listed Listed Listed Listed Listed Listed Listed expr_functions goal_functions init_functions stmt_functions declaration_functions function_functions property_functions (Expr-F.Array at es) ∙ parts_are functions_of_expr es

pub expr_lists-Object : (at : _) (ps : List Property) → functions_of_expr (e.Object at ps) ≡ flat_map functions_of_property ps
unfolding functions_of_expr functions_of_goal functions_of_init functions_of_stmt functions_of_declaration functions_of_function functions_of_property
expr_lists-Object at ps = ap functions_of_expr (sym (e.rolls-Object at ps)) ∙ para-roll-Expr Listed Listed Listed Listed Listed Listed Listed expr_functions goal_functions init_functions stmt_functions declaration_functions function_functions property_functions (Expr-F.Object at ps) ∙ parts_are functions_of_property ps

pub stmt_lists-Block : (at : _) (body : List Stmt) → functions_of_stmt (s.Block at body) ≡ flat_map functions_of_stmt body
unfolding functions_of_expr functions_of_goal functions_of_init functions_of_stmt functions_of_declaration functions_of_function functions_of_property
stmt_lists-Block at body = ap functions_of_stmt (sym (s.rolls-Block at body)) ∙ para-roll-Stmt Listed Listed Listed Listed Listed Listed Listed expr_functions goal_functions init_functions stmt_functions declaration_functions function_functions property_functions (Stmt-F.Block at body) ∙ parts_are functions_of_stmt body

pub stmt_lists-Var : (at : _) (ds : List Declaration) → functions_of_stmt (s.Var at ds) ≡ flat_map functions_of_declaration ds
unfolding functions_of_expr functions_of_goal functions_of_init functions_of_stmt functions_of_declaration functions_of_function functions_of_property
stmt_lists-Var at ds = ap functions_of_stmt (sym (s.rolls-Var at ds)) ∙ para-roll-Stmt Listed Listed Listed Listed Listed Listed Listed expr_functions goal_functions init_functions stmt_functions declaration_functions function_functions property_functions (Stmt-F.Var at ds) ∙ parts_are functions_of_declaration ds

pub stmt_lists-Empty : (at : _) → functions_of_stmt (s.Empty at) ≡ []
unfolding functions_of_expr functions_of_goal functions_of_init functions_of_stmt functions_of_declaration functions_of_function functions_of_property
stmt_lists-Empty at = ap functions_of_stmt (sym (s.rolls-Empty at)) ∙ para-roll-Stmt Listed Listed Listed Listed Listed Listed Listed expr_functions goal_functions init_functions stmt_functions declaration_functions function_functions property_functions (Stmt-F.Empty at)

pub stmt_lists-Expression : (at : _) (value : Expr) → functions_of_stmt (s.Expression at value) ≡ functions_of_expr value
unfolding functions_of_expr functions_of_goal functions_of_init functions_of_stmt functions_of_declaration functions_of_function functions_of_property
stmt_lists-Expression at value = ap functions_of_stmt (sym (s.rolls-Expression at value)) ∙ para-roll-Stmt Listed Listed Listed Listed Listed Listed Listed expr_functions goal_functions init_functions stmt_functions declaration_functions function_functions property_functions (Stmt-F.Expression at value)

pub stmt_lists-If : (at : _) (test : Expr) (body : Stmt) → functions_of_stmt (s.If at test body) ≡ functions_of_expr test ++ functions_of_stmt body
unfolding functions_of_expr functions_of_goal functions_of_init functions_of_stmt functions_of_declaration functions_of_function functions_of_property
stmt_lists-If at test body = ap functions_of_stmt (sym (s.rolls-If at test body)) ∙ para-roll-Stmt Listed Listed Listed Listed Listed Listed Listed expr_functions goal_functions init_functions stmt_functions declaration_functions function_functions property_functions (Stmt-F.If at test body)

pub stmt_lists-IfElse : (at : _) (test : Expr) (body : Stmt) (other : Stmt) → functions_of_stmt (s.IfElse at test body other) ≡ functions_of_expr test ++ functions_of_stmt body ++ functions_of_stmt other
unfolding functions_of_expr functions_of_goal functions_of_init functions_of_stmt functions_of_declaration functions_of_function functions_of_property
stmt_lists-IfElse at test body other = ap functions_of_stmt (sym (s.rolls-IfElse at test body other)) ∙ para-roll-Stmt Listed Listed Listed Listed Listed Listed Listed expr_functions goal_functions init_functions stmt_functions declaration_functions function_functions property_functions (Stmt-F.IfElse at test body other)

pub stmt_lists-DoWhile : (at : _) (body : Stmt) (test : Expr) → functions_of_stmt (s.DoWhile at body test) ≡ functions_of_stmt body ++ functions_of_expr test
unfolding functions_of_expr functions_of_goal functions_of_init functions_of_stmt functions_of_declaration functions_of_function functions_of_property
stmt_lists-DoWhile at body test = ap functions_of_stmt (sym (s.rolls-DoWhile at body test)) ∙ para-roll-Stmt Listed Listed Listed Listed Listed Listed Listed expr_functions goal_functions init_functions stmt_functions declaration_functions function_functions property_functions (Stmt-F.DoWhile at body test)

pub stmt_lists-While : (at : _) (test : Expr) (body : Stmt) → functions_of_stmt (s.While at test body) ≡ functions_of_expr test ++ functions_of_stmt body
unfolding functions_of_expr functions_of_goal functions_of_init functions_of_stmt functions_of_declaration functions_of_function functions_of_property
stmt_lists-While at test body = ap functions_of_stmt (sym (s.rolls-While at test body)) ∙ para-roll-Stmt Listed Listed Listed Listed Listed Listed Listed expr_functions goal_functions init_functions stmt_functions declaration_functions function_functions property_functions (Stmt-F.While at test body)

pub stmt_lists-For : (at : _) (init : Init) (test : Option Expr) (update : Option Expr) (body : Stmt) → functions_of_stmt (s.For at init test update body) ≡ functions_of_init init ++ functions_of_optional test ++ functions_of_optional update ++ functions_of_stmt body
unfolding functions_of_expr functions_of_goal functions_of_init functions_of_stmt functions_of_declaration functions_of_function functions_of_property
stmt_lists-For at init None None body = ap functions_of_stmt (sym (s.rolls-For at init None None body)) ∙ para-roll-Stmt Listed Listed Listed Listed Listed Listed Listed expr_functions goal_functions init_functions stmt_functions declaration_functions function_functions property_functions (Stmt-F.For at init None None body)
stmt_lists-For at init None (Some update_tree) body = ap functions_of_stmt (sym (s.rolls-For at init None (Some update_tree) body)) ∙ para-roll-Stmt Listed Listed Listed Listed Listed Listed Listed expr_functions goal_functions init_functions stmt_functions declaration_functions function_functions property_functions (Stmt-F.For at init None (Some update_tree) body)
stmt_lists-For at init (Some test_tree) None body = ap functions_of_stmt (sym (s.rolls-For at init (Some test_tree) None body)) ∙ para-roll-Stmt Listed Listed Listed Listed Listed Listed Listed expr_functions goal_functions init_functions stmt_functions declaration_functions function_functions property_functions (Stmt-F.For at init (Some test_tree) None body)
stmt_lists-For at init (Some test_tree) (Some update_tree) body = ap functions_of_stmt (sym (s.rolls-For at init (Some test_tree) (Some update_tree) body)) ∙ para-roll-Stmt Listed Listed Listed Listed Listed Listed Listed expr_functions goal_functions init_functions stmt_functions declaration_functions function_functions property_functions (Stmt-F.For at init (Some test_tree) (Some update_tree) body)

pub stmt_lists-ForIn : (at : At) (goal : Goal) (object : Expr) (body : Stmt) → functions_of_stmt (s.ForIn at goal object body) ≡ functions_of_goal goal ++ functions_of_expr object ++ functions_of_stmt body
unfolding functions_of_expr functions_of_goal functions_of_init functions_of_stmt functions_of_declaration functions_of_function functions_of_property
stmt_lists-ForIn at goal object body = ap functions_of_stmt (sym (s.rolls-ForIn at goal object body)) ∙ para-roll-Stmt Listed Listed Listed Listed Listed Listed Listed expr_functions goal_functions init_functions stmt_functions declaration_functions function_functions property_functions (Stmt-F.ForIn at goal object body)

pub stmt_lists-Continue : (at : _) → functions_of_stmt (s.Continue at) ≡ []
unfolding functions_of_expr functions_of_goal functions_of_init functions_of_stmt functions_of_declaration functions_of_function functions_of_property
stmt_lists-Continue at = ap functions_of_stmt (sym (s.rolls-Continue at)) ∙ para-roll-Stmt Listed Listed Listed Listed Listed Listed Listed expr_functions goal_functions init_functions stmt_functions declaration_functions function_functions property_functions (Stmt-F.Continue at)

pub stmt_lists-Break : (at : _) → functions_of_stmt (s.Break at) ≡ []
unfolding functions_of_expr functions_of_goal functions_of_init functions_of_stmt functions_of_declaration functions_of_function functions_of_property
stmt_lists-Break at = ap functions_of_stmt (sym (s.rolls-Break at)) ∙ para-roll-Stmt Listed Listed Listed Listed Listed Listed Listed expr_functions goal_functions init_functions stmt_functions declaration_functions function_functions property_functions (Stmt-F.Break at)

pub stmt_lists-Return : (at : _) → functions_of_stmt (s.Return at) ≡ []
unfolding functions_of_expr functions_of_goal functions_of_init functions_of_stmt functions_of_declaration functions_of_function functions_of_property
stmt_lists-Return at = ap functions_of_stmt (sym (s.rolls-Return at)) ∙ para-roll-Stmt Listed Listed Listed Listed Listed Listed Listed expr_functions goal_functions init_functions stmt_functions declaration_functions function_functions property_functions (Stmt-F.Return at)

pub stmt_lists-ReturnValue : (at : _) (value : Expr) → functions_of_stmt (s.ReturnValue at value) ≡ functions_of_expr value
unfolding functions_of_expr functions_of_goal functions_of_init functions_of_stmt functions_of_declaration functions_of_function functions_of_property
stmt_lists-ReturnValue at value = ap functions_of_stmt (sym (s.rolls-ReturnValue at value)) ∙ para-roll-Stmt Listed Listed Listed Listed Listed Listed Listed expr_functions goal_functions init_functions stmt_functions declaration_functions function_functions property_functions (Stmt-F.ReturnValue at value)

pub stmt_lists-Throw : (at : _) (value : Expr) → functions_of_stmt (s.Throw at value) ≡ functions_of_expr value
unfolding functions_of_expr functions_of_goal functions_of_init functions_of_stmt functions_of_declaration functions_of_function functions_of_property
stmt_lists-Throw at value = ap functions_of_stmt (sym (s.rolls-Throw at value)) ∙ para-roll-Stmt Listed Listed Listed Listed Listed Listed Listed expr_functions goal_functions init_functions stmt_functions declaration_functions function_functions property_functions (Stmt-F.Throw at value)

pub stmt_lists-FunctionDeclaration : (f : Function) → functions_of_stmt (s.FunctionDeclaration f) ≡ functions_of_function f
unfolding functions_of_expr functions_of_goal functions_of_init functions_of_stmt functions_of_declaration functions_of_function functions_of_property
stmt_lists-FunctionDeclaration f = ap functions_of_stmt (sym (s.rolls-FunctionDeclaration f)) ∙ para-roll-Stmt Listed Listed Listed Listed Listed Listed Listed expr_functions goal_functions init_functions stmt_functions declaration_functions function_functions property_functions (Stmt-F.FunctionDeclaration f)

pub init_lists-Absent : functions_of_init i.Absent ≡ []
unfolding functions_of_expr functions_of_goal functions_of_init functions_of_stmt functions_of_declaration functions_of_function functions_of_property
init_lists-Absent = ap functions_of_init (sym i.rolls-Absent) ∙ para-roll-Init Listed Listed Listed Listed Listed Listed Listed expr_functions goal_functions init_functions stmt_functions declaration_functions function_functions property_functions Init-F.Absent

pub init_lists-Declarations : (at : _) (ds : List Declaration) → functions_of_init (i.Declarations at ds) ≡ flat_map functions_of_declaration ds
unfolding functions_of_expr functions_of_goal functions_of_init functions_of_stmt functions_of_declaration functions_of_function functions_of_property
init_lists-Declarations at ds = ap functions_of_init (sym (i.rolls-Declarations at ds)) ∙ para-roll-Init Listed Listed Listed Listed Listed Listed Listed expr_functions goal_functions init_functions stmt_functions declaration_functions function_functions property_functions (Init-F.Declarations at ds) ∙ parts_are functions_of_declaration ds

pub init_lists-Initial : (value : Expr) → functions_of_init (i.Initial value) ≡ functions_of_expr value
unfolding functions_of_expr functions_of_goal functions_of_init functions_of_stmt functions_of_declaration functions_of_function functions_of_property
init_lists-Initial value = ap functions_of_init (sym (i.rolls-Initial value)) ∙ para-roll-Init Listed Listed Listed Listed Listed Listed Listed expr_functions goal_functions init_functions stmt_functions declaration_functions function_functions property_functions (Init-F.Initial value)

pub goal_lists-Variable : (at : _) (name_at : _) (name : List ℕ) → functions_of_goal (g.Variable at name_at name) ≡ []
unfolding functions_of_expr functions_of_goal functions_of_init functions_of_stmt functions_of_declaration functions_of_function functions_of_property
goal_lists-Variable at name_at name = ap functions_of_goal (sym (g.rolls-Variable at name_at name)) ∙ para-roll-Goal Listed Listed Listed Listed Listed Listed Listed expr_functions goal_functions init_functions stmt_functions declaration_functions function_functions property_functions (Goal-F.Variable at name_at name)

pub goal_lists-Target : (value : Expr) → functions_of_goal (g.Target value) ≡ functions_of_expr value
unfolding functions_of_expr functions_of_goal functions_of_init functions_of_stmt functions_of_declaration functions_of_function functions_of_property
goal_lists-Target value = ap functions_of_goal (sym (g.rolls-Target value)) ∙ para-roll-Goal Listed Listed Listed Listed Listed Listed Listed expr_functions goal_functions init_functions stmt_functions declaration_functions function_functions property_functions (Goal-F.Target value)

pub property_lists : (x : Property) → functions_of_property x ≡ functions_of_expr x.value
unfolding functions_of_expr functions_of_goal functions_of_init functions_of_stmt functions_of_declaration functions_of_function functions_of_property
property_lists x = ap functions_of_property (sym (roll-out-Property x)) ∙ para-roll-Property Listed Listed Listed Listed Listed Listed Listed expr_functions goal_functions init_functions stmt_functions declaration_functions function_functions property_functions (out-Property x)

pub function_lists : (f : Function) → functions_of_function f ≡ f ∷ flat_map functions_of_stmt f.body
unfolding functions_of_expr functions_of_goal functions_of_init functions_of_stmt functions_of_declaration functions_of_function functions_of_property
function_lists f = ap functions_of_function (sym (roll-out-Function f)) ∙ para-roll-Function Listed Listed Listed Listed Listed Listed Listed expr_functions goal_functions init_functions stmt_functions declaration_functions function_functions property_functions (out-Function f) ∙ ap (λ body. record f { body = body } ∷ of_parts (map (λ x. (x, functions_of_stmt x)) f.body)) (whole_are functions_of_stmt f.body) ∙ ap (λ rest. f ∷ rest) (parts_are functions_of_stmt f.body)

declaration_of : (at : At) (name : List ℕ) (v : Option Expr) → functions_of_declaration (record { at = at; name = name; value = v }) ≡ functions_of_optional v
unfolding functions_of_expr functions_of_goal functions_of_init functions_of_stmt functions_of_declaration functions_of_function functions_of_property
declaration_of at name None = para-roll-Declaration Listed Listed Listed Listed Listed Listed Listed expr_functions goal_functions init_functions stmt_functions declaration_functions function_functions property_functions (record { at = at; name = name; value = None })
declaration_of at name (Some x) = para-roll-Declaration Listed Listed Listed Listed Listed Listed Listed expr_functions goal_functions init_functions stmt_functions declaration_functions function_functions property_functions (record { at = at; name = name; value = Some x })

pub declaration_lists : (d : Declaration) → functions_of_declaration d ≡ functions_of_optional d.value
declaration_lists d = declaration_of d.at d.name d.value

loops_are : (f : Stmt → Offsets) (xs : List Stmt) → flat_map (λ x. x) (map f xs) ≡ flat_map f xs
loops_are f [] = refl
loops_are f (x ∷ xs) = ap (λ rest. f x ++ rest) (loops_are f xs)

pub loops-Block : (at : _) (body : List Stmt) → loops_of (s.Block at body) ≡ flat_map loops_of body
unfolding loops_of
loops-Block at body = ap loops_of (sym (s.rolls-Block at body)) ∙ fold-roll-Stmt Offsets Offsets Offsets Offsets Offsets Offsets Offsets no_loops no_loops no_loops stmt_loops no_loops no_loops no_loops (Stmt-F.Block at body) ∙ loops_are loops_of body

pub loops-Var : (at : _) (ds : List Declaration) → loops_of (s.Var at ds) ≡ []
unfolding loops_of
loops-Var at ds = ap loops_of (sym (s.rolls-Var at ds)) ∙ fold-roll-Stmt Offsets Offsets Offsets Offsets Offsets Offsets Offsets no_loops no_loops no_loops stmt_loops no_loops no_loops no_loops (Stmt-F.Var at ds)

pub loops-Empty : (at : _) → loops_of (s.Empty at) ≡ []
unfolding loops_of
loops-Empty at = ap loops_of (sym (s.rolls-Empty at)) ∙ fold-roll-Stmt Offsets Offsets Offsets Offsets Offsets Offsets Offsets no_loops no_loops no_loops stmt_loops no_loops no_loops no_loops (Stmt-F.Empty at)

pub loops-Expression : (at : _) (value : Expr) → loops_of (s.Expression at value) ≡ []
unfolding loops_of
loops-Expression at value = ap loops_of (sym (s.rolls-Expression at value)) ∙ fold-roll-Stmt Offsets Offsets Offsets Offsets Offsets Offsets Offsets no_loops no_loops no_loops stmt_loops no_loops no_loops no_loops (Stmt-F.Expression at value)

pub loops-If : (at : _) (test : Expr) (body : Stmt) → loops_of (s.If at test body) ≡ loops_of body
unfolding loops_of
loops-If at test body = ap loops_of (sym (s.rolls-If at test body)) ∙ fold-roll-Stmt Offsets Offsets Offsets Offsets Offsets Offsets Offsets no_loops no_loops no_loops stmt_loops no_loops no_loops no_loops (Stmt-F.If at test body)

pub loops-IfElse : (at : _) (test : Expr) (body : Stmt) (other : Stmt) → loops_of (s.IfElse at test body other) ≡ loops_of body ++ loops_of other
unfolding loops_of
loops-IfElse at test body other = ap loops_of (sym (s.rolls-IfElse at test body other)) ∙ fold-roll-Stmt Offsets Offsets Offsets Offsets Offsets Offsets Offsets no_loops no_loops no_loops stmt_loops no_loops no_loops no_loops (Stmt-F.IfElse at test body other)

pub loops-DoWhile : (at : _) (body : Stmt) (test : Expr) → loops_of (s.DoWhile at body test) ≡ loops_of body
unfolding loops_of
loops-DoWhile at body test = ap loops_of (sym (s.rolls-DoWhile at body test)) ∙ fold-roll-Stmt Offsets Offsets Offsets Offsets Offsets Offsets Offsets no_loops no_loops no_loops stmt_loops no_loops no_loops no_loops (Stmt-F.DoWhile at body test)

pub loops-While : (at : _) (test : Expr) (body : Stmt) → loops_of (s.While at test body) ≡ loops_of body
unfolding loops_of
loops-While at test body = ap loops_of (sym (s.rolls-While at test body)) ∙ fold-roll-Stmt Offsets Offsets Offsets Offsets Offsets Offsets Offsets no_loops no_loops no_loops stmt_loops no_loops no_loops no_loops (Stmt-F.While at test body)

pub loops-For : (at : _) (init : Init) (test : Option Expr) (update : Option Expr) (body : Stmt) → loops_of (s.For at init test update body) ≡ loops_of body
unfolding loops_of
loops-For at init None None body = ap loops_of (sym (s.rolls-For at init None None body)) ∙ fold-roll-Stmt Offsets Offsets Offsets Offsets Offsets Offsets Offsets no_loops no_loops no_loops stmt_loops no_loops no_loops no_loops (Stmt-F.For at init None None body)
loops-For at init None (Some update_tree) body = ap loops_of (sym (s.rolls-For at init None (Some update_tree) body)) ∙ fold-roll-Stmt Offsets Offsets Offsets Offsets Offsets Offsets Offsets no_loops no_loops no_loops stmt_loops no_loops no_loops no_loops (Stmt-F.For at init None (Some update_tree) body)
loops-For at init (Some test_tree) None body = ap loops_of (sym (s.rolls-For at init (Some test_tree) None body)) ∙ fold-roll-Stmt Offsets Offsets Offsets Offsets Offsets Offsets Offsets no_loops no_loops no_loops stmt_loops no_loops no_loops no_loops (Stmt-F.For at init (Some test_tree) None body)
loops-For at init (Some test_tree) (Some update_tree) body = ap loops_of (sym (s.rolls-For at init (Some test_tree) (Some update_tree) body)) ∙ fold-roll-Stmt Offsets Offsets Offsets Offsets Offsets Offsets Offsets no_loops no_loops no_loops stmt_loops no_loops no_loops no_loops (Stmt-F.For at init (Some test_tree) (Some update_tree) body)

pub loops-ForIn : (at : At) (goal : Goal) (object : Expr) (body : Stmt) → loops_of (s.ForIn at goal object body) ≡ at.offset ∷ loops_of body
unfolding loops_of
loops-ForIn at goal object body = ap loops_of (sym (s.rolls-ForIn at goal object body)) ∙ fold-roll-Stmt Offsets Offsets Offsets Offsets Offsets Offsets Offsets no_loops no_loops no_loops stmt_loops no_loops no_loops no_loops (Stmt-F.ForIn at goal object body)

pub loops-Continue : (at : _) → loops_of (s.Continue at) ≡ []
unfolding loops_of
loops-Continue at = ap loops_of (sym (s.rolls-Continue at)) ∙ fold-roll-Stmt Offsets Offsets Offsets Offsets Offsets Offsets Offsets no_loops no_loops no_loops stmt_loops no_loops no_loops no_loops (Stmt-F.Continue at)

pub loops-Break : (at : _) → loops_of (s.Break at) ≡ []
unfolding loops_of
loops-Break at = ap loops_of (sym (s.rolls-Break at)) ∙ fold-roll-Stmt Offsets Offsets Offsets Offsets Offsets Offsets Offsets no_loops no_loops no_loops stmt_loops no_loops no_loops no_loops (Stmt-F.Break at)

pub loops-Return : (at : _) → loops_of (s.Return at) ≡ []
unfolding loops_of
loops-Return at = ap loops_of (sym (s.rolls-Return at)) ∙ fold-roll-Stmt Offsets Offsets Offsets Offsets Offsets Offsets Offsets no_loops no_loops no_loops stmt_loops no_loops no_loops no_loops (Stmt-F.Return at)

pub loops-ReturnValue : (at : _) (value : Expr) → loops_of (s.ReturnValue at value) ≡ []
unfolding loops_of
loops-ReturnValue at value = ap loops_of (sym (s.rolls-ReturnValue at value)) ∙ fold-roll-Stmt Offsets Offsets Offsets Offsets Offsets Offsets Offsets no_loops no_loops no_loops stmt_loops no_loops no_loops no_loops (Stmt-F.ReturnValue at value)

pub loops-Throw : (at : _) (value : Expr) → loops_of (s.Throw at value) ≡ []
unfolding loops_of
loops-Throw at value = ap loops_of (sym (s.rolls-Throw at value)) ∙ fold-roll-Stmt Offsets Offsets Offsets Offsets Offsets Offsets Offsets no_loops no_loops no_loops stmt_loops no_loops no_loops no_loops (Stmt-F.Throw at value)

pub loops-FunctionDeclaration : (f : Function) → loops_of (s.FunctionDeclaration f) ≡ []
unfolding loops_of
loops-FunctionDeclaration f = ap loops_of (sym (s.rolls-FunctionDeclaration f)) ∙ fold-roll-Stmt Offsets Offsets Offsets Offsets Offsets Offsets Offsets no_loops no_loops no_loops stmt_loops no_loops no_loops no_loops (Stmt-F.FunctionDeclaration f)
