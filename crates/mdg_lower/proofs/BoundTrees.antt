-- The occurrences of a part begin the functions that stand in it, by induction over the part.
use Rattle.std.specs.Prelude.{◌≡◌, ℕ, List, [], ◌∷◌, ◌++◌, map, Option, Some, None, option_map}
use Rattle.std.specs.List.{flat_map}
use Rattle.std.proofs.Common.{sym, subst}
use Rattle.mdg_tree.specs.declared.tree.At.{At}
use Rattle.mdg_tree.specs.declared.tree.Expr.{Expr}
use Rattle.mdg_tree.specs.declared.tree.Goal.{Goal}
use Rattle.mdg_tree.specs.declared.tree.Init.{Init}
use Rattle.mdg_tree.specs.declared.tree.Stmt.{Stmt}
use Rattle.mdg_tree.specs.declared.tree.Declaration.{Declaration}
use Rattle.mdg_tree.specs.declared.tree.Function.{Function}
use Rattle.mdg_tree.specs.declared.tree.Property.{Property}
use Rattle.mdg_tree.specs.declared.tree.Expr.TheVariants as e
use Rattle.mdg_tree.specs.declared.tree.Stmt.TheVariants as s
use Rattle.mdg_tree.specs.declared.tree.Init.TheVariants as i
use Rattle.mdg_tree.specs.declared.tree.Goal.TheVariants as g
use Rattle.mdg_tree.specs.declared.tree.Expr.TheOpen.{Expr-F, Goal-F, Init-F, Stmt-F, Declaration-F, Function-F, Property-F}
use Rattle.mdg_tree.specs.declared.tree.Expr.TheViews.{roll-Expr, roll-Goal, roll-Init, roll-Stmt, roll-Declaration, roll-Function, roll-Property}
use Rattle.mdg_tree.specs.declared.tree.Expr.TheFolds.{ind-Stmt, map-Expr, map-Goal, map-Init, map-Stmt, map-Declaration, map-Function, map-Property}
use Rattle.mdg_tree.specs.Views.{name_of}
use Rattle.mdg_scope.specs.declared.function.Uses.{Uses}
use Rattle.mdg_scope.specs.declared.resolution.Scopes.{Scopes}
use Rattle.mdg_scope.specs.declared.occurrence.Occurrences.{Occurrences}
use Rattle.mdg_scope.specs.declared.occurrence.OccurrenceKind.TheVariants as r
use Rattle.mdg_scope.specs.declared.occurrence.Context.{Context}
use Rattle.mdg_scope.specs.declared.occurrence.Use.{Use}
use Rattle.mdg_scope.specs.declared.occurrence.Use.TheVariants as v
use Rattle.mdg_scope.specs.Collectors.{Collector, add, read_all, collect_all, all_values, callee_use, constructed_occurrence, expressed_occurrences, declared_occurrences, within_loop, jump_occurrences, object_occurrences, only_text, operand_use, operator_occurrence, optional, repeated_keys, silent, use_kind}
use Rattle.mdg_scope.specs.Occurrences.{declaration_occurrences, function_occurrences, goal_occurrences, init_occurrences, property_occurrences, read_of, assigned_of, expr_collector, stmt_occurrences, used_of}
use Rattle.mdg_scope.proofs.Equations as w
use Rattle.mdg_lower.specs.Nested.{functions_of_expr, functions_of_goal, functions_of_init, functions_of_stmt, functions_of_declaration, functions_of_function, functions_of_property, functions_of_optional}
use Rattle.mdg_lower.proofs.NestedEquations as equations
use Rattle.mdg_lower.proofs.BoundOccurrences as b

module _ (scopes : Scopes) (uses : Uses) where
  -- the occurrences begin these functions
  abbrev Adds : List Function → Collector → Type 0
  Adds = b.Adds scopes uses

  -- an expression's occurrences begin its functions, however it is used
  abbrev AddsExpr : Expr → Type 0
  AddsExpr x = (manner : Use) → Adds (functions_of_expr x) (used_of x manner)

  -- a goal's occurrences begin its functions
  abbrev AddsGoal : Goal → Type 0
  AddsGoal x = Adds (functions_of_goal x) (goal_occurrences x)

  -- those of a loop's start do
  abbrev AddsInit : Init → Type 0
  AddsInit x = Adds (functions_of_init x) (init_occurrences x)

  -- those of a statement do
  abbrev AddsStmt : Stmt → Type 0
  AddsStmt x = Adds (functions_of_stmt x) (stmt_occurrences x)

  -- those of a declaration do
  abbrev AddsDeclaration : Declaration → Type 0
  AddsDeclaration x = Adds (functions_of_declaration x) (declaration_occurrences x)

  -- those of a function do, as an expression and as a declaration
  abbrev AddsFunction : Function → Type 0
  AddsFunction x = Adds (functions_of_function x) (function_occurrences x).expressed × Adds (functions_of_function x) (function_occurrences x).declared

  -- those of a property's value do
  abbrev AddsProperty : Property → Type 0
  AddsProperty x = Adds (functions_of_property x) (property_occurrences x).value

  -- an expression of which it is shown
  abbrev ShownExpr : Type 0
  ShownExpr = (x : Expr) × AddsExpr x

  -- a goal
  abbrev ShownGoal : Type 0
  ShownGoal = (x : Goal) × AddsGoal x

  -- a loop's start
  abbrev ShownInit : Type 0
  ShownInit = (x : Init) × AddsInit x

  -- a statement
  abbrev ShownStmt : Type 0
  ShownStmt = (x : Stmt) × AddsStmt x

  -- a declaration
  abbrev ShownDeclaration : Type 0
  ShownDeclaration = (x : Declaration) × AddsDeclaration x

  -- a function
  abbrev ShownFunction : Type 0
  ShownFunction = (x : Function) × AddsFunction x

  -- a property
  abbrev ShownProperty : Type 0
  ShownProperty = (x : Property) × AddsProperty x

  -- one layer of a part, with what is shown of the parts in it
  abbrev Layer : (Type 0 → Type 0 → Type 0 → Type 0 → Type 0 → Type 0 → Type 0 → Type 0) → Type 0
  Layer form = form ShownExpr ShownGoal ShownInit ShownStmt ShownDeclaration ShownFunction ShownProperty

  -- expressions one after the other
  shown_read : (xs : List ShownExpr) → Adds (flat_map functions_of_expr (map (λ x. x.0) xs)) (read_all (map expr_collector (map (λ x. x.0) xs)))
  shown_read [] = b.adds_none scopes uses _ (b.keeps_silent scopes uses)
  shown_read (x ∷ xs) = b.adds_then scopes uses (functions_of_expr x.0) (flat_map functions_of_expr (map (λ x. x.0) xs)) (read_of x.0) (read_all (map expr_collector (map (λ x. x.0) xs))) (x.1 v.Read) (shown_read xs)

  -- statements
  shown_body : (xs : List ShownStmt) → Adds (flat_map functions_of_stmt (map (λ x. x.0) xs)) (collect_all (map stmt_occurrences (map (λ x. x.0) xs)))
  shown_body [] = b.adds_none scopes uses _ (b.keeps_silent scopes uses)
  shown_body (x ∷ xs) = b.adds_then scopes uses (functions_of_stmt x.0) (flat_map functions_of_stmt (map (λ x. x.0) xs)) (stmt_occurrences x.0) (collect_all (map stmt_occurrences (map (λ x. x.0) xs))) x.1 (shown_body xs)

  -- declarations
  shown_declarations : (xs : List ShownDeclaration) → Adds (flat_map functions_of_declaration (map (λ x. x.0) xs)) (collect_all (map declaration_occurrences (map (λ x. x.0) xs)))
  shown_declarations [] = b.adds_none scopes uses _ (b.keeps_silent scopes uses)
  shown_declarations (x ∷ xs) = b.adds_then scopes uses (functions_of_declaration x.0) (flat_map functions_of_declaration (map (λ x. x.0) xs)) (declaration_occurrences x.0) (collect_all (map declaration_occurrences (map (λ x. x.0) xs))) x.1 (shown_declarations xs)

  -- properties
  shown_values : (xs : List ShownProperty) → Adds (flat_map functions_of_property (map (λ x. x.0) xs)) (all_values (map property_occurrences (map (λ x. x.0) xs)))
  shown_values [] = b.adds_none scopes uses _ (b.keeps_silent scopes uses)
  shown_values (x ∷ xs) = b.adds_then scopes uses (functions_of_property x.0) (flat_map functions_of_property (map (λ x. x.0) xs)) (property_occurrences x.0).value (all_values (map property_occurrences (map (λ x. x.0) xs))) x.1 (shown_values xs)

  -- an expression with these functions and these occurrences
  expr_shown : (x made : Expr) (fs : List Function) (ws : Use → Collector) → x ≡ made → functions_of_expr made ≡ fs → ((manner : Use) (p : Context) (c : Occurrences) → used_of made manner p c ≡ ws manner p c)
      → ((manner : Use) → Adds fs (ws manner)) → AddsExpr x
  expr_shown x made fs ws is lists occurrences adds = subst AddsExpr (sym is) (λ manner. b.adds_as scopes uses fs (functions_of_expr made) (ws manner) (used_of made manner) lists (occurrences manner) (adds manner))

  -- a statement with these functions and these occurrences
  stmt_shown : (x made : Stmt) (fs : List Function) (ws : Collector) → x ≡ made → functions_of_stmt made ≡ fs → ((p : Context) (c : Occurrences) → stmt_occurrences made p c ≡ ws p c) → Adds fs ws → AddsStmt x
  stmt_shown x made fs ws is lists occurrences adds = subst AddsStmt (sym is) (b.adds_as scopes uses fs (functions_of_stmt made) ws (stmt_occurrences made) lists occurrences adds)

  -- the expression without what is shown of its parts
  abbrev bare_expr : Layer Expr-F → Expr-F Expr Goal Init Stmt Declaration Function Property
  bare_expr = map-Expr ShownExpr ShownGoal ShownInit ShownStmt ShownDeclaration ShownFunction ShownProperty
      Expr Goal Init Stmt Declaration Function Property (λ x. x.0) (λ x. x.0) (λ x. x.0) (λ x. x.0) (λ x. x.0) (λ x. x.0) (λ x. x.0)

  -- two parts, one after the other
  two : (x y : ShownExpr) (one other : Use) → Adds (functions_of_expr x.0 ++ functions_of_expr y.0) (λ p c. used_of y.0 other p (used_of x.0 one p c))
  two x y one other = b.adds_then scopes uses (functions_of_expr x.0) (functions_of_expr y.0) (used_of x.0 one) (used_of y.0 other) (x.1 one) (y.1 other)

  -- a part, and then a list of them
  listed : (x : ShownExpr) (xs : List ShownExpr) (manner : Use) → Adds (functions_of_expr x.0 ++ flat_map functions_of_expr (map (λ x. x.0) xs)) (λ p c. read_all (map expr_collector (map (λ x. x.0) xs)) p (used_of x.0 manner p c))
  listed x xs manner = b.adds_then scopes uses (functions_of_expr x.0) (flat_map functions_of_expr (map (λ x. x.0) xs)) (used_of x.0 manner) (read_all (map expr_collector (map (λ x. x.0) xs))) (x.1 manner) (shown_read xs)

  -- three parts
  three : (x y z : ShownExpr) → Adds (functions_of_expr x.0 ++ functions_of_expr y.0 ++ functions_of_expr z.0) (λ p c. read_of z.0 p (read_of y.0 p (read_of x.0 p c)))
  three x y z = b.adds_then scopes uses (functions_of_expr x.0 ++ functions_of_expr y.0) (functions_of_expr z.0) (λ p c. read_of y.0 p (read_of x.0 p c)) (read_of z.0) (two x y v.Read v.Read) (z.1 v.Read)

  -- the properties of an object, after their keys
  object_shown : (xs : List ShownProperty) → Adds (flat_map functions_of_property (map (λ x. x.0) xs)) (object_occurrences (map property_occurrences (map (λ x. x.0) xs)))
  object_shown xs = b.adds_after scopes uses (flat_map functions_of_property (map (λ x. x.0) xs)) (λ p c. repeated_keys p.function [] (map property_occurrences (map (λ x. x.0) xs)) c) (all_values (map property_occurrences (map (λ x. x.0) xs)))
      (λ n p c le s. b.stands_keys scopes uses p.function [] (map property_occurrences (map (λ x. x.0) xs)) n c s) (shown_values xs)

  -- a literal
  literal : Adds [] silent
  literal = b.adds_none scopes uses silent (b.keeps_silent scopes uses)

  -- of each form of an expression
  expr_layer : (y : Layer Expr-F) → AddsExpr (roll-Expr (bare_expr y))
  expr_layer (Expr-F.Comma at es) = expr_shown _ _ _ _
      (e.rolls-Comma at (map (λ x. x.0) es)) (equations.expr_lists-Comma at (map (λ x. x.0) es)) (w.used-Comma at (map (λ x. x.0) es))
      (λ manner. shown_read es)
  expr_layer (Expr-F.Assign at op target value) = expr_shown _ _ _ _
      (e.rolls-Assign at op target.0 value.0) (equations.expr_lists-Assign at op target.0 value.0) (w.used-Assign at op target.0 value.0)
      (λ manner. two target value v.Assigned v.Read)
  expr_layer (Expr-F.Conditional at test chosen otherwise) = expr_shown _ _ _ _
      (e.rolls-Conditional at test.0 chosen.0 otherwise.0) (equations.expr_lists-Conditional at test.0 chosen.0 otherwise.0) (w.used-Conditional at test.0 chosen.0 otherwise.0)
      (λ manner. three test chosen otherwise)
  expr_layer (Expr-F.Binary at op left right) = expr_shown _ _ _ _
      (e.rolls-Binary at op left.0 right.0) (equations.expr_lists-Binary at op left.0 right.0) (w.used-Binary at op left.0 right.0)
      (λ manner. two left right v.Read v.Read)
  expr_layer (Expr-F.Unary at op value) = expr_shown _ _ _ _
      (e.rolls-Unary at op value.0) (equations.expr_lists-Unary at op value.0) (w.used-Unary at op value.0)
      (λ manner. b.adds_after scopes uses (functions_of_expr value.0) (operator_occurrence op (name_of value.0) at.offset) (used_of value.0 (operand_use op)) (b.keeps_operator scopes uses op (name_of value.0) at.offset) (value.1 (operand_use op)))
  expr_layer (Expr-F.Prefix at step target) = expr_shown _ _ _ _
      (e.rolls-Prefix at step target.0) (equations.expr_lists-Prefix at step target.0) (w.used-Prefix at step target.0)
      (λ manner. target.1 v.Assigned)
  expr_layer (Expr-F.Postfix at step target) = expr_shown _ _ _ _
      (e.rolls-Postfix at step target.0) (equations.expr_lists-Postfix at step target.0) (w.used-Postfix at step target.0)
      (λ manner. target.1 v.Assigned)
  expr_layer (Expr-F.New at callee) = expr_shown _ _ _ _
      (e.rolls-New at callee.0) (equations.expr_lists-New at callee.0) (w.used-New at callee.0)
      (λ manner. b.adds_after scopes uses (functions_of_expr callee.0) (constructed_occurrence (name_of callee.0) at.offset) (read_of callee.0) (b.keeps_constructed scopes uses (name_of callee.0) at.offset) (callee.1 v.Read))
  expr_layer (Expr-F.NewWithArguments at callee es) = expr_shown _ _ _ _
      (e.rolls-NewWithArguments at callee.0 (map (λ x. x.0) es)) (equations.expr_lists-NewWithArguments at callee.0 (map (λ x. x.0) es)) (w.used-NewWithArguments at callee.0 (map (λ x. x.0) es))
      (λ manner. b.adds_after scopes uses (functions_of_expr callee.0 ++ flat_map functions_of_expr (map (λ x. x.0) es)) (constructed_occurrence (name_of callee.0) at.offset) (λ p c. read_all (map expr_collector (map (λ x. x.0) es)) p (read_of callee.0 p c)) (b.keeps_constructed scopes uses (name_of callee.0) at.offset) (listed callee es v.Read))
  expr_layer (Expr-F.Call at callee es) = expr_shown _ _ _ _
      (e.rolls-Call at callee.0 (map (λ x. x.0) es)) (equations.expr_lists-Call at callee.0 (map (λ x. x.0) es)) (w.used-Call at callee.0 (map (λ x. x.0) es))
      (λ manner. listed callee es (callee_use (only_text (map expr_collector (map (λ x. x.0) es)))))
  expr_layer (Expr-F.Index at object key) = expr_shown _ _ _ _
      (e.rolls-Index at object.0 key.0) (equations.expr_lists-Index at object.0 key.0) (w.used-Index at object.0 key.0)
      (λ manner. two object key v.Read v.Read)
  expr_layer (Expr-F.Member at object name) = expr_shown _ _ _ _
      (e.rolls-Member at object.0 name) (equations.expr_lists-Member at object.0 name) (w.used-Member at object.0 name)
      (λ manner. object.1 v.Read)
  expr_layer (Expr-F.FunctionExpression f) = expr_shown _ _ _ _
      (e.rolls-FunctionExpression f.0) (equations.expr_lists-FunctionExpression f.0) (w.used-FunctionExpression f.0)
      (λ manner. f.1.0)
  expr_layer (Expr-F.Name at name) = expr_shown _ _ _ _
      (e.rolls-Name at name) (equations.expr_lists-Name at name) (w.used-Name at name)
      (λ manner. b.adds_none scopes uses (λ p c. add (use_kind manner at.line) at.offset p.function name c) (b.keeps_use scopes uses manner at.line at.offset name))
  expr_layer (Expr-F.Null at) = expr_shown _ _ _ _
      (e.rolls-Null at) (equations.expr_lists-Null at) (w.used-Null at)
      (λ manner. literal)
  expr_layer (Expr-F.True at) = expr_shown _ _ _ _
      (e.rolls-True at) (equations.expr_lists-True at) (w.used-True at)
      (λ manner. literal)
  expr_layer (Expr-F.False at) = expr_shown _ _ _ _
      (e.rolls-False at) (equations.expr_lists-False at) (w.used-False at)
      (λ manner. literal)
  expr_layer (Expr-F.Numeral at text) = expr_shown _ _ _ _
      (e.rolls-Numeral at text) (equations.expr_lists-Numeral at text) (w.used-Numeral at text)
      (λ manner. literal)
  expr_layer (Expr-F.Text at text) = expr_shown _ _ _ _
      (e.rolls-Text at text) (equations.expr_lists-Text at text) (w.used-Text at text)
      (λ manner. literal)
  expr_layer (Expr-F.Paren at inner) = expr_shown _ _ _ _
      (e.rolls-Paren at inner.0) (equations.expr_lists-Paren at inner.0) (w.used-Paren at inner.0)
      (λ manner. inner.1 manner)
  expr_layer (Expr-F.Array at es) = expr_shown _ _ _ _
      (e.rolls-Array at (map (λ x. x.0) es)) (equations.expr_lists-Array at (map (λ x. x.0) es)) (w.used-Array at (map (λ x. x.0) es))
      (λ manner. shown_read es)
  expr_layer (Expr-F.Object at ps) = expr_shown _ _ _ _
      (e.rolls-Object at (map (λ x. x.0) ps)) (equations.expr_lists-Object at (map (λ x. x.0) ps)) (w.used-Object at (map (λ x. x.0) ps))
      (λ manner. object_shown ps)

  -- an expression that may be absent
  optional_shown : (o : Option ShownExpr) → Adds (functions_of_optional (option_map (λ x. x.0) o)) (optional (option_map expr_collector (option_map (λ x. x.0) o)))
  optional_shown None = literal
  optional_shown (Some x) = x.1 v.Read

  -- a statement in a loop
  in_loop : (x : ShownStmt) → Adds (functions_of_stmt x.0) (λ p. stmt_occurrences x.0 (within_loop p))
  in_loop x = b.adds_looped scopes uses (functions_of_stmt x.0) (stmt_occurrences x.0) x.1

  -- the parts of a `for`
  for_shown : (init : ShownInit) (test update : Option ShownExpr) (body : ShownStmt)
      → Adds (functions_of_init init.0 ++ functions_of_optional (option_map (λ x. x.0) test) ++ functions_of_optional (option_map (λ x. x.0) update) ++ functions_of_stmt body.0)
      (λ p c. stmt_occurrences body.0 (within_loop p) (optional (option_map expr_collector (option_map (λ x. x.0) update)) p (optional (option_map expr_collector (option_map (λ x. x.0) test)) p (init_occurrences init.0 p c))))
  for_shown init test update body =
      let one : List Function = functions_of_optional (option_map (λ x. x.0) test) in
      let other : List Function = functions_of_optional (option_map (λ x. x.0) update) in
      let test_words : Collector = optional (option_map expr_collector (option_map (λ x. x.0) test)) in
      let update_words : Collector = optional (option_map expr_collector (option_map (λ x. x.0) update)) in
      let turn : Collector = λ p. stmt_occurrences body.0 (within_loop p) in
      let head : Collector = λ p c. test_words p (init_occurrences init.0 p c) in
      b.adds_then scopes uses (functions_of_init init.0 ++ one ++ other) (functions_of_stmt body.0) (λ p c. update_words p (head p c)) turn
      (b.adds_then scopes uses (functions_of_init init.0 ++ one) other head update_words
      (b.adds_then scopes uses (functions_of_init init.0) one (init_occurrences init.0) test_words init.1 (optional_shown test)) (optional_shown update))
      (in_loop body)

  -- the statement without what is shown of its parts
  abbrev bare_stmt : Layer Stmt-F → Stmt-F Expr Goal Init Stmt Declaration Function Property
  bare_stmt = map-Stmt ShownExpr ShownGoal ShownInit ShownStmt ShownDeclaration ShownFunction ShownProperty
      Expr Goal Init Stmt Declaration Function Property (λ x. x.0) (λ x. x.0) (λ x. x.0) (λ x. x.0) (λ x. x.0) (λ x. x.0) (λ x. x.0)

  -- of each form of a statement
  stmt_layer : (y : Layer Stmt-F) → AddsStmt (roll-Stmt (bare_stmt y))
  stmt_layer (Stmt-F.Block at body) = stmt_shown _ _ _ _
      (s.rolls-Block at (map (λ x. x.0) body)) (equations.stmt_lists-Block at (map (λ x. x.0) body)) (w.stmt-Block at (map (λ x. x.0) body))
      (shown_body body)
  stmt_layer (Stmt-F.Var at ds) = stmt_shown _ _ _ _
      (s.rolls-Var at (map (λ x. x.0) ds)) (equations.stmt_lists-Var at (map (λ x. x.0) ds)) (w.stmt-Var at (map (λ x. x.0) ds))
      (shown_declarations ds)
  stmt_layer (Stmt-F.Empty at) = stmt_shown _ _ _ _
      (s.rolls-Empty at) (equations.stmt_lists-Empty at) (w.stmt-Empty at)
      literal
  stmt_layer (Stmt-F.Expression at value) = stmt_shown _ _ _ _
      (s.rolls-Expression at value.0) (equations.stmt_lists-Expression at value.0) (w.stmt-Expression at value.0)
      (value.1 v.Read)
  stmt_layer (Stmt-F.If at test body) = stmt_shown _ _ _ _
      (s.rolls-If at test.0 body.0) (equations.stmt_lists-If at test.0 body.0) (w.stmt-If at test.0 body.0)
      (b.adds_then scopes uses (functions_of_expr test.0) (functions_of_stmt body.0) (read_of test.0) (stmt_occurrences body.0) (test.1 v.Read) body.1)
  stmt_layer (Stmt-F.IfElse at test body otherwise) = stmt_shown _ _ _ _
      (s.rolls-IfElse at test.0 body.0 otherwise.0) (equations.stmt_lists-IfElse at test.0 body.0 otherwise.0) (w.stmt-IfElse at test.0 body.0 otherwise.0)
      (b.adds_then scopes uses (functions_of_expr test.0 ++ functions_of_stmt body.0) (functions_of_stmt otherwise.0) (λ p c. stmt_occurrences body.0 p (read_of test.0 p c)) (stmt_occurrences otherwise.0)
      (b.adds_then scopes uses (functions_of_expr test.0) (functions_of_stmt body.0) (read_of test.0) (stmt_occurrences body.0) (test.1 v.Read) body.1) otherwise.1)
  stmt_layer (Stmt-F.DoWhile at body test) = stmt_shown _ _ _ _
      (s.rolls-DoWhile at body.0 test.0) (equations.stmt_lists-DoWhile at body.0 test.0) (w.stmt-DoWhile at body.0 test.0)
      (b.adds_then scopes uses (functions_of_stmt body.0) (functions_of_expr test.0) (λ p. stmt_occurrences body.0 (within_loop p)) (read_of test.0) (in_loop body) (test.1 v.Read))
  stmt_layer (Stmt-F.While at test body) = stmt_shown _ _ _ _
      (s.rolls-While at test.0 body.0) (equations.stmt_lists-While at test.0 body.0) (w.stmt-While at test.0 body.0)
      (b.adds_then scopes uses (functions_of_expr test.0) (functions_of_stmt body.0) (read_of test.0) (λ p. stmt_occurrences body.0 (within_loop p)) (test.1 v.Read) (in_loop body))
  stmt_layer (Stmt-F.For at init None None body) = stmt_shown _ _ _ _
      (s.rolls-For at init.0 None None body.0) (equations.stmt_lists-For at init.0 None None body.0) (w.stmt-For at init.0 None None body.0)
      (for_shown init None None body)
  stmt_layer (Stmt-F.For at init None (Some update) body) = stmt_shown _ _ _ _
      (s.rolls-For at init.0 None (Some update.0) body.0) (equations.stmt_lists-For at init.0 None (Some update.0) body.0) (w.stmt-For at init.0 None (Some update.0) body.0)
      (for_shown init None (Some update) body)
  stmt_layer (Stmt-F.For at init (Some test) None body) = stmt_shown _ _ _ _
      (s.rolls-For at init.0 (Some test.0) None body.0) (equations.stmt_lists-For at init.0 (Some test.0) None body.0) (w.stmt-For at init.0 (Some test.0) None body.0)
      (for_shown init (Some test) None body)
  stmt_layer (Stmt-F.For at init (Some test) (Some update) body) = stmt_shown _ _ _ _
      (s.rolls-For at init.0 (Some test.0) (Some update.0) body.0) (equations.stmt_lists-For at init.0 (Some test.0) (Some update.0) body.0) (w.stmt-For at init.0 (Some test.0) (Some update.0) body.0)
      (for_shown init (Some test) (Some update) body)
  stmt_layer (Stmt-F.ForIn at goal object body) = stmt_shown _ _ _ _
      (s.rolls-ForIn at goal.0 object.0 body.0) (equations.stmt_lists-ForIn at goal.0 object.0 body.0) (w.stmt-ForIn at goal.0 object.0 body.0)
      (b.adds_then scopes uses (functions_of_goal goal.0 ++ functions_of_expr object.0) (functions_of_stmt body.0) (λ p c. read_of object.0 p (goal_occurrences goal.0 p c)) (λ p. stmt_occurrences body.0 (within_loop p))
      (b.adds_then scopes uses (functions_of_goal goal.0) (functions_of_expr object.0) (goal_occurrences goal.0) (read_of object.0) goal.1 (object.1 v.Read)) (in_loop body))
  stmt_layer (Stmt-F.Continue at) = stmt_shown _ _ _ _
      (s.rolls-Continue at) (equations.stmt_lists-Continue at) (w.stmt-Continue at)
      (b.adds_none scopes uses (jump_occurrences at.offset) (b.keeps_jump scopes uses at.offset))
  stmt_layer (Stmt-F.Break at) = stmt_shown _ _ _ _
      (s.rolls-Break at) (equations.stmt_lists-Break at) (w.stmt-Break at)
      (b.adds_none scopes uses (jump_occurrences at.offset) (b.keeps_jump scopes uses at.offset))
  stmt_layer (Stmt-F.Return at) = stmt_shown _ _ _ _
      (s.rolls-Return at) (equations.stmt_lists-Return at) (w.stmt-Return at)
      literal
  stmt_layer (Stmt-F.ReturnValue at value) = stmt_shown _ _ _ _
      (s.rolls-ReturnValue at value.0) (equations.stmt_lists-ReturnValue at value.0) (w.stmt-ReturnValue at value.0)
      (value.1 v.Read)
  stmt_layer (Stmt-F.Throw at value) = stmt_shown _ _ _ _
      (s.rolls-Throw at value.0) (equations.stmt_lists-Throw at value.0) (w.stmt-Throw at value.0)
      (value.1 v.Read)
  stmt_layer (Stmt-F.FunctionDeclaration f) = stmt_shown _ _ _ _
      (s.rolls-FunctionDeclaration f.0) (equations.stmt_lists-FunctionDeclaration f.0) (w.stmt-FunctionDeclaration f.0)
      f.1.1

  -- the start without what is shown of its parts
  abbrev bare_init : Layer Init-F → Init-F Expr Goal Init Stmt Declaration Function Property
  bare_init = map-Init ShownExpr ShownGoal ShownInit ShownStmt ShownDeclaration ShownFunction ShownProperty
      Expr Goal Init Stmt Declaration Function Property (λ x. x.0) (λ x. x.0) (λ x. x.0) (λ x. x.0) (λ x. x.0) (λ x. x.0) (λ x. x.0)

  -- a loop's start with these functions and these occurrences
  init_shown : (x made : Init) (fs : List Function) (ws : Collector) → x ≡ made → functions_of_init made ≡ fs → ((p : Context) (c : Occurrences) → init_occurrences made p c ≡ ws p c) → Adds fs ws → AddsInit x
  init_shown x made fs ws is lists occurrences adds = subst AddsInit (sym is) (b.adds_as scopes uses fs (functions_of_init made) ws (init_occurrences made) lists occurrences adds)

  -- of each start
  init_layer : (y : Layer Init-F) → AddsInit (roll-Init (bare_init y))
  init_layer Init-F.Absent = init_shown _ _ _ _ i.rolls-Absent equations.init_lists-Absent w.init-Absent literal
  init_layer (Init-F.Declarations at ds) = init_shown _ _ _ _
      (i.rolls-Declarations at (map (λ x. x.0) ds)) (equations.init_lists-Declarations at (map (λ x. x.0) ds)) (w.init-Declarations at (map (λ x. x.0) ds)) (shown_declarations ds)
  init_layer (Init-F.Initial value) = init_shown _ _ _ _ (i.rolls-Initial value.0) (equations.init_lists-Initial value.0) (w.init-Initial value.0) (value.1 v.Read)

  -- the goal without what is shown of its parts
  abbrev bare_goal : Layer Goal-F → Goal-F Expr Goal Init Stmt Declaration Function Property
  bare_goal = map-Goal ShownExpr ShownGoal ShownInit ShownStmt ShownDeclaration ShownFunction ShownProperty
      Expr Goal Init Stmt Declaration Function Property (λ x. x.0) (λ x. x.0) (λ x. x.0) (λ x. x.0) (λ x. x.0) (λ x. x.0) (λ x. x.0)

  -- a goal with these functions and these occurrences
  goal_shown : (x made : Goal) (fs : List Function) (ws : Collector) → x ≡ made → functions_of_goal made ≡ fs → ((p : Context) (c : Occurrences) → goal_occurrences made p c ≡ ws p c) → Adds fs ws → AddsGoal x
  goal_shown x made fs ws is lists occurrences adds = subst AddsGoal (sym is) (b.adds_as scopes uses fs (functions_of_goal made) ws (goal_occurrences made) lists occurrences adds)

  -- of each goal
  goal_layer : (y : Layer Goal-F) → AddsGoal (roll-Goal (bare_goal y))
  goal_layer (Goal-F.Variable at name_at name) = goal_shown _ _ _ _ (g.rolls-Variable at name_at name) (equations.goal_lists-Variable at name_at name) (w.goal-Variable at name_at name)
      (b.adds_none scopes uses _ (b.keeps_occurrence scopes uses r.Variable name_at.offset name tt))
  goal_layer (Goal-F.Target value) = goal_shown _ _ _ _ (g.rolls-Target value.0) (equations.goal_lists-Target value.0) (w.goal-Target value.0) (value.1 v.Assigned)

  -- the property without what is shown of its parts
  abbrev bare_property : Layer Property-F → Property-F Expr Goal Init Stmt Declaration Function Property
  bare_property = map-Property ShownExpr ShownGoal ShownInit ShownStmt ShownDeclaration ShownFunction ShownProperty
      Expr Goal Init Stmt Declaration Function Property (λ x. x.0) (λ x. x.0) (λ x. x.0) (λ x. x.0) (λ x. x.0) (λ x. x.0) (λ x. x.0)

  -- a property whose value is shown
  property_layer : (y : Layer Property-F) → AddsProperty (roll-Property (bare_property y))
  property_layer y =
      let x : Property = roll-Property (bare_property y) in
      b.adds_as scopes uses (functions_of_expr y.value.0) (functions_of_property x) (read_of y.value.0) (property_occurrences x).value (equations.property_lists x) (w.property-value x) (y.value.1 v.Read)

  -- the function without what is shown of its parts
  abbrev bare_function : Layer Function-F → Function-F Expr Goal Init Stmt Declaration Function Property
  bare_function = map-Function ShownExpr ShownGoal ShownInit ShownStmt ShownDeclaration ShownFunction ShownProperty
      Expr Goal Init Stmt Declaration Function Property (λ x. x.0) (λ x. x.0) (λ x. x.0) (λ x. x.0) (λ x. x.0) (λ x. x.0) (λ x. x.0)

  -- a function whose body is shown
  function_layer : (y : Layer Function-F) → AddsFunction (roll-Function (bare_function y))
  function_layer y =
      let f : Function = roll-Function (bare_function y) in
      let fs : List Function = flat_map functions_of_stmt f.body in (
        b.adds_as scopes uses (f ∷ fs) (functions_of_function f) _ (function_occurrences f).expressed (equations.function_lists f) (w.function-expressed f)
            (b.adds_expressed scopes uses f fs f.name f.name_offset f.parameters f.parameter_offsets (map stmt_occurrences f.body) f.line f.offset (shown_body y.body)),
        b.adds_as scopes uses (f ∷ fs) (functions_of_function f) _ (function_occurrences f).declared (equations.function_lists f) (w.function-declared f)
            (b.adds_declared scopes uses f fs f.name f.name_offset f.parameters f.parameter_offsets (map stmt_occurrences f.body) f.line f.offset (shown_body y.body)),
      )

  -- the declaration without what is shown of its parts
  abbrev bare_declaration : Layer Declaration-F → Declaration-F Expr Goal Init Stmt Declaration Function Property
  bare_declaration = map-Declaration ShownExpr ShownGoal ShownInit ShownStmt ShownDeclaration ShownFunction ShownProperty
      Expr Goal Init Stmt Declaration Function Property (λ x. x.0) (λ x. x.0) (λ x. x.0) (λ x. x.0) (λ x. x.0) (λ x. x.0) (λ x. x.0)

  -- a declaration whose value is shown
  declaration_shown : (d : Declaration) → Adds (functions_of_optional d.value) (optional (option_map expr_collector d.value)) → AddsDeclaration d
  declaration_shown d adds = b.adds_as scopes uses (functions_of_optional d.value) (functions_of_declaration d) _ (declaration_occurrences d) (equations.declaration_lists d) (w.declaration-is d)
      (b.adds_after scopes uses (functions_of_optional d.value) (λ p c. add r.Variable d.at.offset p.function d.name c) (optional (option_map expr_collector d.value)) (b.keeps_occurrence scopes uses r.Variable d.at.offset d.name tt) adds)

  -- with a value or without
  declaration_of : (at : At) (name : List ℕ) (value : Option ShownExpr) → AddsDeclaration (roll-Declaration (bare_declaration (record { at = at; name = name; value = value })))
  declaration_of at name None = declaration_shown (roll-Declaration (bare_declaration (record { at = at; name = name; value = None }))) literal
  declaration_of at name (Some x) = declaration_shown (roll-Declaration (bare_declaration (record { at = at; name = name; value = Some x }))) (x.1 v.Read)

  -- of each declaration
  declaration_layer : (y : Layer Declaration-F) → AddsDeclaration (roll-Declaration (bare_declaration y))
  declaration_layer y = declaration_of y.at y.name y.value

  -- of each statement
  pub adds_stmt : (x : Stmt) → AddsStmt x
  adds_stmt = ind-Stmt AddsExpr AddsGoal AddsInit AddsStmt AddsDeclaration AddsFunction AddsProperty
      (λ x y is. subst (λ z. AddsExpr (roll-Expr z)) is (expr_layer y))
      (λ x y is. subst (λ z. AddsGoal (roll-Goal z)) is (goal_layer y))
      (λ x y is. subst (λ z. AddsInit (roll-Init z)) is (init_layer y))
      (λ x y is. subst (λ z. AddsStmt (roll-Stmt z)) is (stmt_layer y))
      (λ x y is. subst (λ z. AddsDeclaration (roll-Declaration z)) is (declaration_layer y))
      (λ x y is. subst (λ z. AddsFunction (roll-Function z)) is (function_layer y))
      (λ x y is. subst (λ z. AddsProperty (roll-Property z)) is (property_layer y))

  -- of the statements of a body
  pub adds_body : (xs : List Stmt) → Adds (flat_map functions_of_stmt xs) (collect_all (map stmt_occurrences xs))
  adds_body [] = literal
  adds_body (x ∷ xs) = b.adds_then scopes uses (functions_of_stmt x) (flat_map functions_of_stmt xs) (stmt_occurrences x) (collect_all (map stmt_occurrences xs)) (adds_stmt x) (adds_body xs)
