-- What each form adds to the occurrences stands within its extent, by induction over the tree.
use Rattle.std.specs.Prelude.{◌≡◌, ℕ, ◌+◌, List, [], ◌∷◌, map, Option, Some, None, option_map}
use Rattle.std.proofs.Common.{refl, sym, subst}
use Rattle.mdg_tree.specs.declared.tree.At.{At}
use Rattle.mdg_tree.specs.declared.tree.Expr.{Expr}
use Rattle.mdg_tree.specs.declared.tree.Goal.{Goal}
use Rattle.mdg_tree.specs.declared.tree.Init.{Init}
use Rattle.mdg_tree.specs.declared.tree.Stmt.{Stmt}
use Rattle.mdg_tree.specs.declared.tree.Declaration.{Declaration}
use Rattle.mdg_tree.specs.declared.tree.Function.{Function}
use Rattle.mdg_tree.specs.declared.tree.Property.{Property}
use Rattle.mdg_tree.specs.declared.tree.Expr.TheVariants as e
use Rattle.mdg_tree.specs.declared.tree.Stmt.TheVariants as s
use Rattle.mdg_tree.specs.declared.tree.Init.TheVariants as i
use Rattle.mdg_tree.specs.declared.tree.Goal.TheVariants as g
use Rattle.mdg_tree.specs.declared.tree.Expr.TheOpen.{Expr-F, Goal-F, Init-F, Stmt-F, Declaration-F, Function-F, Property-F}
use Rattle.mdg_tree.specs.declared.tree.Expr.TheViews.{roll-Expr, roll-Goal, roll-Init, roll-Stmt, roll-Declaration, roll-Function, roll-Property}
use Rattle.mdg_tree.specs.declared.tree.Expr.TheFolds.{ind-Stmt, map-Expr, map-Goal, map-Init, map-Stmt, map-Declaration, map-Function, map-Property}
use Rattle.mdg_tree.specs.Views.{name_of}
use Rattle.mdg_tree.specs.Offsets.{Extent, point, in_turn, in_turn_all, in_turn_maybe, around, extent, goal_extent, init_extent, stmt_extent, declaration_extent, function_extent, property_extent}
use Rattle.mdg_tree.proofs.OffsetEquations as o
use Rattle.mdg_scope.specs.declared.occurrence.Occurrences.{Occurrences}
use Rattle.mdg_scope.specs.declared.occurrence.OccurrenceKind.TheVariants as r
use Rattle.mdg_scope.specs.declared.occurrence.Context.{Context}
use Rattle.mdg_scope.specs.declared.occurrence.Use.{Use}
use Rattle.mdg_scope.specs.declared.occurrence.Use.TheVariants as v
use Rattle.mdg_scope.specs.Collectors.{Collector, add, silent, inside, use_kind, read_all, collect_all, all_values, callee_use, constructed_occurrence, within_loop, only_text, operand_use, operator_occurrence, optional, begin_occurrence, name_occurrence}
use Rattle.mdg_scope.specs.Occurrences.{declaration_occurrences, function_occurrences, goal_occurrences, init_occurrences, property_occurrences, read_of, assigned_of, expr_collector, stmt_occurrences, used_of}
use Rattle.mdg_scope.proofs.Equations as w
use Rattle.mdg_scope.proofs.OffsetLemmas.{Adds, adds_as, adds_then, adds_then_in, adds_around, adds_silent, adds_one, adds_constructed, adds_operator, adds_jump, adds_after_keys, adds_parameters, adds_begin, adds_declared_begin, adds_own_name, adds_aligned}

-- what each kind of part adds stands within its extent
abbrev AddsExpr : Expr → Type 0
AddsExpr x = (manner : Use) → Adds (extent x) (used_of x manner)

abbrev AddsGoal : Goal → Type 0
AddsGoal x = Adds (goal_extent x) (goal_occurrences x)

-- what may be absent
abbrev AddsMaybe : Option Extent → Collector → Type 0
AddsMaybe None w = (p : Context) (c : Occurrences) → w p c ≡ c
AddsMaybe (Some x) w = Adds x w

abbrev AddsInit : Init → Type 0
AddsInit x = AddsMaybe (init_extent x) (init_occurrences x)

abbrev AddsStmt : Stmt → Type 0
AddsStmt x = Adds (stmt_extent x) (stmt_occurrences x)

abbrev AddsDeclaration : Declaration → Type 0
AddsDeclaration x = Adds (declaration_extent x) (declaration_occurrences x)

-- as an expression and as a declaration
abbrev AddsFunction : Function → Type 0
AddsFunction x = Adds (function_extent x) (function_occurrences x).expressed × Adds (function_extent x) (function_occurrences x).declared

abbrev AddsProperty : Property → Type 0
AddsProperty x = Adds (property_extent x) (property_occurrences x).value

-- parts of which it is shown
abbrev ShownExpr : Type 0
ShownExpr = (x : Expr) × AddsExpr x

abbrev ShownGoal : Type 0
ShownGoal = (x : Goal) × AddsGoal x

abbrev ShownInit : Type 0
ShownInit = (x : Init) × AddsInit x

abbrev ShownStmt : Type 0
ShownStmt = (x : Stmt) × AddsStmt x

abbrev ShownDeclaration : Type 0
ShownDeclaration = (x : Declaration) × AddsDeclaration x

abbrev ShownFunction : Type 0
ShownFunction = (x : Function) × AddsFunction x

abbrev ShownProperty : Type 0
ShownProperty = (x : Property) × AddsProperty x

-- one layer of a part, with what is shown of the parts in it
abbrev Layer : (Type 0 → Type 0 → Type 0 → Type 0 → Type 0 → Type 0 → Type 0 → Type 0) → Type 0
Layer form = form ShownExpr ShownGoal ShownInit ShownStmt ShownDeclaration ShownFunction ShownProperty

-- ---- lists of parts after a part

after_read : (a : Extent) (w : Collector) → Adds a w → (xs : List ShownExpr)
    → Adds (in_turn_all a (map extent (map (λ x. x.0) xs))) (λ p c. read_all (map expr_collector (map (λ x. x.0) xs)) p (w p c))
after_read a w h [] = h
after_read a w h (x ∷ xs) = after_read (in_turn a (extent x.0)) (λ p c. read_of x.0 p (w p c)) (adds_then a (extent x.0) w (read_of x.0) h (x.1 v.Read)) xs

-- statements, in a context of their own
after_body : (context : Context → Occurrences → Context) (a : Extent) (w : Collector) → Adds a w → (xs : List ShownStmt)
    → Adds (in_turn_all a (map stmt_extent (map (λ x. x.0) xs))) (λ p c. collect_all (map stmt_occurrences (map (λ x. x.0) xs)) (context p c) (w p c))
after_body context a w h [] = h
after_body context a w h (x ∷ xs) = after_body context (in_turn a (stmt_extent x.0)) (λ p c. stmt_occurrences x.0 (context p c) (w p c))
    (adds_then_in a (stmt_extent x.0) w (stmt_occurrences x.0) context h x.1) xs

after_declarations : (a : Extent) (w : Collector) → Adds a w → (xs : List ShownDeclaration)
    → Adds (in_turn_all a (map declaration_extent (map (λ x. x.0) xs))) (λ p c. collect_all (map declaration_occurrences (map (λ x. x.0) xs)) p (w p c))
after_declarations a w h [] = h
after_declarations a w h (x ∷ xs) = after_declarations (in_turn a (declaration_extent x.0)) (λ p c. declaration_occurrences x.0 p (w p c))
    (adds_then a (declaration_extent x.0) w (declaration_occurrences x.0) h x.1) xs

after_values : (a : Extent) (w : Collector) → Adds a w → (xs : List ShownProperty)
    → Adds (in_turn_all a (map property_extent (map (λ x. x.0) xs))) (λ p c. all_values (map property_occurrences (map (λ x. x.0) xs)) p (w p c))
after_values a w h [] = h
after_values a w h (x ∷ xs) = after_values (in_turn a (property_extent x.0)) (λ p c. (property_occurrences x.0).value p (w p c))
    (adds_then a (property_extent x.0) w (property_occurrences x.0).value h x.1) xs

-- an expression that may be absent
after_optional : (a : Extent) (w : Collector) → Adds a w → (x : Option ShownExpr)
    → Adds (in_turn_maybe a (option_map extent (option_map (λ x. x.0) x))) (λ p c. optional (option_map expr_collector (option_map (λ x. x.0) x)) p (w p c))
after_optional a w h None = h
after_optional a w h (Some x) = adds_then a (extent x.0) w (read_of x.0) h (x.1 v.Read)

-- a loop's start
after_init : (a : Extent) (w : Collector) → Adds a w → (x : Option Extent) (u : Collector) → AddsMaybe x u → Adds (in_turn_maybe a x) (λ p c. u p (w p c))
after_init a w h None u same = adds_as a a w (λ p c. u p (w p c)) refl (λ p c. same p (w p c)) h
after_init a w h (Some x) u adds = adds_then a x w u h adds

-- ---- each form

expr_shown : (x made : Expr) (a : Extent) (ws : Use → Collector) → x ≡ made → extent made ≡ a → ((manner : Use) (p : Context) (c : Occurrences) → used_of made manner p c ≡ ws manner p c)
    → ((manner : Use) → Adds a (ws manner)) → AddsExpr x
expr_shown x made a ws is extents occurrences adds = subst AddsExpr (sym is) (λ manner. adds_as a (extent made) (ws manner) (used_of made manner) extents (occurrences manner) (adds manner))

stmt_shown : (x made : Stmt) (a : Extent) (ws : Collector) → x ≡ made → stmt_extent made ≡ a → ((p : Context) (c : Occurrences) → stmt_occurrences made p c ≡ ws p c) → Adds a ws → AddsStmt x
stmt_shown x made a ws is extents occurrences adds = subst AddsStmt (sym is) (adds_as a (stmt_extent made) ws (stmt_occurrences made) extents occurrences adds)

-- the expression without what is shown of its parts
abbrev bare_expr : Layer Expr-F → Expr-F Expr Goal Init Stmt Declaration Function Property
bare_expr = map-Expr ShownExpr ShownGoal ShownInit ShownStmt ShownDeclaration ShownFunction ShownProperty
    Expr Goal Init Stmt Declaration Function Property (λ x. x.0) (λ x. x.0) (λ x. x.0) (λ x. x.0) (λ x. x.0) (λ x. x.0) (λ x. x.0)

-- two parts
two : (x y : ShownExpr) (one other : Use) → Adds (in_turn (extent x.0) (extent y.0)) (λ p c. used_of y.0 other p (used_of x.0 one p c))
two x y one other = adds_then (extent x.0) (extent y.0) (used_of x.0 one) (used_of y.0 other) (x.1 one) (y.1 other)

three : (x y z : ShownExpr) → Adds (in_turn (in_turn (extent x.0) (extent y.0)) (extent z.0)) (λ p c. read_of z.0 p (read_of y.0 p (read_of x.0 p c)))
three x y z = adds_then (in_turn (extent x.0) (extent y.0)) (extent z.0) (λ p c. read_of y.0 p (read_of x.0 p c)) (read_of z.0) (two x y v.Read v.Read) (z.1 v.Read)

expr_layer : (y : Layer Expr-F) → AddsExpr (roll-Expr (bare_expr y))
expr_layer (Expr-F.Comma at []) = expr_shown _ _ _ _
    (e.rolls-Comma at []) (o.extent-Comma at []) (w.used-Comma at [])
    (λ manner. adds_silent at.offset)
expr_layer (Expr-F.Comma at (x ∷ xs)) = expr_shown _ _ _ _
    (e.rolls-Comma at (x.0 ∷ map (λ x. x.0) xs)) (o.extent-Comma at (x.0 ∷ map (λ x. x.0) xs)) (w.used-Comma at (x.0 ∷ map (λ x. x.0) xs))
    (λ manner. adds_around at.offset _ _ (after_read (extent x.0) (read_of x.0) (x.1 v.Read) xs))
expr_layer (Expr-F.Assign at op target value) = expr_shown _ _ _ _
    (e.rolls-Assign at op target.0 value.0) (o.extent-Assign at op target.0 value.0) (w.used-Assign at op target.0 value.0)
    (λ manner. adds_around at.offset _ _ (two target value v.Assigned v.Read))
expr_layer (Expr-F.Conditional at test chosen otherwise) = expr_shown _ _ _ _
    (e.rolls-Conditional at test.0 chosen.0 otherwise.0) (o.extent-Conditional at test.0 chosen.0 otherwise.0) (w.used-Conditional at test.0 chosen.0 otherwise.0)
    (λ manner. adds_around at.offset _ _ (three test chosen otherwise))
expr_layer (Expr-F.Binary at op left right) = expr_shown _ _ _ _
    (e.rolls-Binary at op left.0 right.0) (o.extent-Binary at op left.0 right.0) (w.used-Binary at op left.0 right.0)
    (λ manner. adds_around at.offset _ _ (two left right v.Read v.Read))
expr_layer (Expr-F.Unary at op value) = expr_shown _ _ _ _
    (e.rolls-Unary at op value.0) (o.extent-Unary at op value.0) (w.used-Unary at op value.0)
    (λ manner. adds_then (point at.offset) (extent value.0) (operator_occurrence op (name_of value.0) at.offset) (used_of value.0 (operand_use op)) (adds_operator op (name_of value.0) at.offset) (value.1 (operand_use op)))
expr_layer (Expr-F.Prefix at step target) = expr_shown _ _ _ _
    (e.rolls-Prefix at step target.0) (o.extent-Prefix at step target.0) (w.used-Prefix at step target.0)
    (λ manner. adds_then (point at.offset) (extent target.0) silent (assigned_of target.0) (adds_silent at.offset) (target.1 v.Assigned))
expr_layer (Expr-F.Postfix at step target) = expr_shown _ _ _ _
    (e.rolls-Postfix at step target.0) (o.extent-Postfix at step target.0) (w.used-Postfix at step target.0)
    (λ manner. adds_around at.offset _ _ (target.1 v.Assigned))
expr_layer (Expr-F.New at callee) = expr_shown _ _ _ _
    (e.rolls-New at callee.0) (o.extent-New at callee.0) (w.used-New at callee.0)
    (λ manner. adds_then (point at.offset) (extent callee.0) (constructed_occurrence (name_of callee.0) at.offset) (read_of callee.0) (adds_constructed (name_of callee.0) at.offset) (callee.1 v.Read))
expr_layer (Expr-F.NewWithArguments at callee es) = expr_shown _ _ _ _
    (e.rolls-NewWithArguments at callee.0 (map (λ x. x.0) es)) (o.extent-NewWithArguments at callee.0 (map (λ x. x.0) es)) (w.used-NewWithArguments at callee.0 (map (λ x. x.0) es))
    (λ manner. after_read (in_turn (point at.offset) (extent callee.0)) (λ p c. read_of callee.0 p (constructed_occurrence (name_of callee.0) at.offset p c))
    (adds_then (point at.offset) (extent callee.0) (constructed_occurrence (name_of callee.0) at.offset) (read_of callee.0) (adds_constructed (name_of callee.0) at.offset) (callee.1 v.Read)) es)
expr_layer (Expr-F.Call at callee es) = expr_shown _ _ _ _
    (e.rolls-Call at callee.0 (map (λ x. x.0) es)) (o.extent-Call at callee.0 (map (λ x. x.0) es)) (w.used-Call at callee.0 (map (λ x. x.0) es))
    (λ manner. after_read (around at.offset (extent callee.0)) (used_of callee.0 (callee_use (only_text (map expr_collector (map (λ x. x.0) es)))))
    (adds_around at.offset _ _ (callee.1 (callee_use (only_text (map expr_collector (map (λ x. x.0) es)))))) es)
expr_layer (Expr-F.Index at object key) = expr_shown _ _ _ _
    (e.rolls-Index at object.0 key.0) (o.extent-Index at object.0 key.0) (w.used-Index at object.0 key.0)
    (λ manner. adds_then (around at.offset (extent object.0)) (extent key.0) (read_of object.0) (read_of key.0) (adds_around at.offset _ _ (object.1 v.Read)) (key.1 v.Read))
expr_layer (Expr-F.Member at object name) = expr_shown _ _ _ _
    (e.rolls-Member at object.0 name) (o.extent-Member at object.0 name) (w.used-Member at object.0 name)
    (λ manner. adds_around at.offset _ _ (object.1 v.Read))
expr_layer (Expr-F.FunctionExpression f) = expr_shown _ _ _ _
    (e.rolls-FunctionExpression f.0) (o.extent-FunctionExpression f.0) (w.used-FunctionExpression f.0)
    (λ manner. f.1.0)
expr_layer (Expr-F.Name at name) = expr_shown _ _ _ _
    (e.rolls-Name at name) (o.extent-Name at name) (w.used-Name at name)
    (λ manner. adds_one (use_kind manner at.line) at.offset name)
expr_layer (Expr-F.Null at) = expr_shown _ _ _ _
    (e.rolls-Null at) (o.extent-Null at) (w.used-Null at)
    (λ manner. adds_silent at.offset)
expr_layer (Expr-F.True at) = expr_shown _ _ _ _
    (e.rolls-True at) (o.extent-True at) (w.used-True at)
    (λ manner. adds_silent at.offset)
expr_layer (Expr-F.False at) = expr_shown _ _ _ _
    (e.rolls-False at) (o.extent-False at) (w.used-False at)
    (λ manner. adds_silent at.offset)
expr_layer (Expr-F.Numeral at text) = expr_shown _ _ _ _
    (e.rolls-Numeral at text) (o.extent-Numeral at text) (w.used-Numeral at text)
    (λ manner. adds_silent at.offset)
expr_layer (Expr-F.Text at text) = expr_shown _ _ _ _
    (e.rolls-Text at text) (o.extent-Text at text) (w.used-Text at text)
    (λ manner. adds_silent at.offset)
expr_layer (Expr-F.Paren at inner) = expr_shown _ _ _ _
    (e.rolls-Paren at inner.0) (o.extent-Paren at inner.0) (w.used-Paren at inner.0)
    (λ manner. adds_then (point at.offset) (extent inner.0) silent (used_of inner.0 manner) (adds_silent at.offset) (inner.1 manner))
expr_layer (Expr-F.Array at es) = expr_shown _ _ _ _
    (e.rolls-Array at (map (λ x. x.0) es)) (o.extent-Array at (map (λ x. x.0) es)) (w.used-Array at (map (λ x. x.0) es))
    (λ manner. after_read (point at.offset) silent (adds_silent at.offset) es)
expr_layer (Expr-F.Object at ps) = expr_shown _ _ _ _
    (e.rolls-Object at (map (λ x. x.0) ps)) (o.extent-Object at (map (λ x. x.0) ps)) (w.used-Object at (map (λ x. x.0) ps))
    (λ manner. adds_after_keys _ (λ p c. all_values (map property_occurrences (map (λ x. x.0) ps)) p c) (map property_occurrences (map (λ x. x.0) ps)) (after_values (point at.offset) silent (adds_silent at.offset) ps))

-- the statement without what is shown of its parts
abbrev bare_stmt : Layer Stmt-F → Stmt-F Expr Goal Init Stmt Declaration Function Property
bare_stmt = map-Stmt ShownExpr ShownGoal ShownInit ShownStmt ShownDeclaration ShownFunction ShownProperty
    Expr Goal Init Stmt Declaration Function Property (λ x. x.0) (λ x. x.0) (λ x. x.0) (λ x. x.0) (λ x. x.0) (λ x. x.0) (λ x. x.0)

-- a place, and a part after it
after_word : (offset : ℕ) (x : Extent) (w : Collector) → Adds x w → Adds (in_turn (point offset) x) w
after_word offset x w h = adds_then (point offset) x silent w (adds_silent offset) h

-- the body of a loop, after other parts
after_loop_body : (a : Extent) (w : Collector) → Adds a w → (body : ShownStmt) → Adds (in_turn a (stmt_extent body.0)) (λ p c. stmt_occurrences body.0 (within_loop p) (w p c))
after_loop_body a w h body = adds_then_in a (stmt_extent body.0) w (stmt_occurrences body.0) (λ p c. within_loop p) h body.1

-- the parts of a `for`
for_shown : (offset : ℕ) (init : ShownInit) (test update : Option ShownExpr) (body : ShownStmt)
    → Adds (in_turn (in_turn_maybe (in_turn_maybe (in_turn_maybe (point offset) (init_extent init.0)) (option_map extent (option_map (λ x. x.0) test))) (option_map extent (option_map (λ x. x.0) update))) (stmt_extent body.0))
    (λ p c. stmt_occurrences body.0 (within_loop p) (optional (option_map expr_collector (option_map (λ x. x.0) update)) p (optional (option_map expr_collector (option_map (λ x. x.0) test)) p (init_occurrences init.0 p c))))
for_shown offset init test update body =
    after_loop_body _ _
    (after_optional _ _
    (after_optional _ _
    (after_init (point offset) silent (adds_silent offset) (init_extent init.0) (init_occurrences init.0) init.1) test) update) body

stmt_layer : (y : Layer Stmt-F) → AddsStmt (roll-Stmt (bare_stmt y))
stmt_layer (Stmt-F.Block at body) = stmt_shown _ _ _ _
    (s.rolls-Block at (map (λ x. x.0) body)) (o.stmt_extent-Block at (map (λ x. x.0) body)) (w.stmt-Block at (map (λ x. x.0) body))
    (after_body (λ p c. p) (point at.offset) silent (adds_silent at.offset) body)
stmt_layer (Stmt-F.Var at ds) = stmt_shown _ _ _ _
    (s.rolls-Var at (map (λ x. x.0) ds)) (o.stmt_extent-Var at (map (λ x. x.0) ds)) (w.stmt-Var at (map (λ x. x.0) ds))
    (after_declarations (point at.offset) silent (adds_silent at.offset) ds)
stmt_layer (Stmt-F.Empty at) = stmt_shown _ _ _ _
    (s.rolls-Empty at) (o.stmt_extent-Empty at) (w.stmt-Empty at)
    (adds_silent at.offset)
stmt_layer (Stmt-F.Expression at value) = stmt_shown _ _ _ _
    (s.rolls-Expression at value.0) (o.stmt_extent-Expression at value.0) (w.stmt-Expression at value.0)
    (adds_around at.offset _ _ (value.1 v.Read))
stmt_layer (Stmt-F.If at test body) = stmt_shown _ _ _ _
    (s.rolls-If at test.0 body.0) (o.stmt_extent-If at test.0 body.0) (w.stmt-If at test.0 body.0)
    (adds_then _ (stmt_extent body.0) (read_of test.0) (stmt_occurrences body.0) (after_word at.offset (extent test.0) (read_of test.0) (test.1 v.Read)) body.1)
stmt_layer (Stmt-F.IfElse at test body otherwise) = stmt_shown _ _ _ _
    (s.rolls-IfElse at test.0 body.0 otherwise.0) (o.stmt_extent-IfElse at test.0 body.0 otherwise.0) (w.stmt-IfElse at test.0 body.0 otherwise.0)
    (adds_then _ (stmt_extent otherwise.0) (λ p c. stmt_occurrences body.0 p (read_of test.0 p c)) (stmt_occurrences otherwise.0)
    (adds_then _ (stmt_extent body.0) (read_of test.0) (stmt_occurrences body.0) (after_word at.offset (extent test.0) (read_of test.0) (test.1 v.Read)) body.1) otherwise.1)
stmt_layer (Stmt-F.DoWhile at body test) = stmt_shown _ _ _ _
    (s.rolls-DoWhile at body.0 test.0) (o.stmt_extent-DoWhile at body.0 test.0) (w.stmt-DoWhile at body.0 test.0)
    (adds_then _ (extent test.0) (λ p c. stmt_occurrences body.0 (within_loop p) c) (read_of test.0) (after_loop_body (point at.offset) silent (adds_silent at.offset) body) (test.1 v.Read))
stmt_layer (Stmt-F.While at test body) = stmt_shown _ _ _ _
    (s.rolls-While at test.0 body.0) (o.stmt_extent-While at test.0 body.0) (w.stmt-While at test.0 body.0)
    (after_loop_body _ (read_of test.0) (after_word at.offset (extent test.0) (read_of test.0) (test.1 v.Read)) body)
stmt_layer (Stmt-F.For at init None None body) = stmt_shown _ _ _ _
    (s.rolls-For at init.0 None None body.0) (o.stmt_extent-For at init.0 None None body.0) (w.stmt-For at init.0 None None body.0)
    (for_shown at.offset init None None body)
stmt_layer (Stmt-F.For at init None (Some update) body) = stmt_shown _ _ _ _
    (s.rolls-For at init.0 None (Some update.0) body.0) (o.stmt_extent-For at init.0 None (Some update.0) body.0) (w.stmt-For at init.0 None (Some update.0) body.0)
    (for_shown at.offset init None (Some update) body)
stmt_layer (Stmt-F.For at init (Some test) None body) = stmt_shown _ _ _ _
    (s.rolls-For at init.0 (Some test.0) None body.0) (o.stmt_extent-For at init.0 (Some test.0) None body.0) (w.stmt-For at init.0 (Some test.0) None body.0)
    (for_shown at.offset init (Some test) None body)
stmt_layer (Stmt-F.For at init (Some test) (Some update) body) = stmt_shown _ _ _ _
    (s.rolls-For at init.0 (Some test.0) (Some update.0) body.0) (o.stmt_extent-For at init.0 (Some test.0) (Some update.0) body.0) (w.stmt-For at init.0 (Some test.0) (Some update.0) body.0)
    (for_shown at.offset init (Some test) (Some update) body)
stmt_layer (Stmt-F.ForIn at goal object body) = stmt_shown _ _ _ _
    (s.rolls-ForIn at goal.0 object.0 body.0) (o.stmt_extent-ForIn at goal.0 object.0 body.0) (w.stmt-ForIn at goal.0 object.0 body.0)
    (after_loop_body _ (λ p c. read_of object.0 p (goal_occurrences goal.0 p c))
    (adds_then _ (extent object.0) (goal_occurrences goal.0) (read_of object.0) (after_word at.offset (goal_extent goal.0) (goal_occurrences goal.0) goal.1) (object.1 v.Read)) body)
stmt_layer (Stmt-F.Continue at) = stmt_shown _ _ _ _
    (s.rolls-Continue at) (o.stmt_extent-Continue at) (w.stmt-Continue at)
    (adds_jump at.offset)
stmt_layer (Stmt-F.Break at) = stmt_shown _ _ _ _
    (s.rolls-Break at) (o.stmt_extent-Break at) (w.stmt-Break at)
    (adds_jump at.offset)
stmt_layer (Stmt-F.Return at) = stmt_shown _ _ _ _
    (s.rolls-Return at) (o.stmt_extent-Return at) (w.stmt-Return at)
    (adds_silent at.offset)
stmt_layer (Stmt-F.ReturnValue at value) = stmt_shown _ _ _ _
    (s.rolls-ReturnValue at value.0) (o.stmt_extent-ReturnValue at value.0) (w.stmt-ReturnValue at value.0)
    (after_word at.offset (extent value.0) (read_of value.0) (value.1 v.Read))
stmt_layer (Stmt-F.Throw at value) = stmt_shown _ _ _ _
    (s.rolls-Throw at value.0) (o.stmt_extent-Throw at value.0) (w.stmt-Throw at value.0)
    (after_word at.offset (extent value.0) (read_of value.0) (value.1 v.Read))
stmt_layer (Stmt-F.FunctionDeclaration f) = stmt_shown _ _ _ _
    (s.rolls-FunctionDeclaration f.0) (o.stmt_extent-FunctionDeclaration f.0) (w.stmt-FunctionDeclaration f.0)
    (f.1.1)

-- the start without what is shown of its parts
abbrev bare_init : Layer Init-F → Init-F Expr Goal Init Stmt Declaration Function Property
bare_init = map-Init ShownExpr ShownGoal ShownInit ShownStmt ShownDeclaration ShownFunction ShownProperty
    Expr Goal Init Stmt Declaration Function Property (λ x. x.0) (λ x. x.0) (λ x. x.0) (λ x. x.0) (λ x. x.0) (λ x. x.0) (λ x. x.0)

-- a start that is there
init_shown : (x made : Init) (a : Extent) (ws : Collector) → x ≡ made → init_extent made ≡ Some a → ((p : Context) (c : Occurrences) → init_occurrences made p c ≡ ws p c) → Adds a ws → AddsInit x
init_shown x made a ws is extents occurrences adds =
    subst AddsInit (sym is) (subst (λ z. AddsMaybe z (init_occurrences made)) (sym extents) (adds_as a a ws (init_occurrences made) refl occurrences adds))

-- one that is absent
init_none : (x made : Init) → x ≡ made → init_extent made ≡ None → ((p : Context) (c : Occurrences) → init_occurrences made p c ≡ c) → AddsInit x
init_none x made is extents occurrences = subst AddsInit (sym is) (subst (λ z. AddsMaybe z (init_occurrences made)) (sym extents) occurrences)

init_layer : (y : Layer Init-F) → AddsInit (roll-Init (bare_init y))
init_layer Init-F.Absent = init_none _ _ i.rolls-Absent o.init_extent-Absent w.init-Absent
init_layer (Init-F.Declarations at ds) = init_shown _ _ _ _
    (i.rolls-Declarations at (map (λ x. x.0) ds)) (o.init_extent-Declarations at (map (λ x. x.0) ds)) (w.init-Declarations at (map (λ x. x.0) ds))
    (after_declarations (point at.offset) silent (adds_silent at.offset) ds)
init_layer (Init-F.Initial value) = init_shown _ _ _ _ (i.rolls-Initial value.0) (o.init_extent-Initial value.0) (w.init-Initial value.0) (value.1 v.Read)

-- the goal without what is shown of its parts
abbrev bare_goal : Layer Goal-F → Goal-F Expr Goal Init Stmt Declaration Function Property
bare_goal = map-Goal ShownExpr ShownGoal ShownInit ShownStmt ShownDeclaration ShownFunction ShownProperty
    Expr Goal Init Stmt Declaration Function Property (λ x. x.0) (λ x. x.0) (λ x. x.0) (λ x. x.0) (λ x. x.0) (λ x. x.0) (λ x. x.0)

goal_shown : (x made : Goal) (a : Extent) (ws : Collector) → x ≡ made → goal_extent made ≡ a → ((p : Context) (c : Occurrences) → goal_occurrences made p c ≡ ws p c) → Adds a ws → AddsGoal x
goal_shown x made a ws is extents occurrences adds = subst AddsGoal (sym is) (adds_as a (goal_extent made) ws (goal_occurrences made) extents occurrences adds)

goal_layer : (y : Layer Goal-F) → AddsGoal (roll-Goal (bare_goal y))
goal_layer (Goal-F.Variable at name_at name) = goal_shown _ _ _ _ (g.rolls-Variable at name_at name) (o.goal_extent-Variable at name_at name) (w.goal-Variable at name_at name)
    (after_word at.offset (point name_at.offset) _ (adds_one r.Variable name_at.offset name))
goal_layer (Goal-F.Target value) = goal_shown _ _ _ _ (g.rolls-Target value.0) (o.goal_extent-Target value.0) (w.goal-Target value.0) (value.1 v.Assigned)

-- the property without what is shown of its parts
abbrev bare_property : Layer Property-F → Property-F Expr Goal Init Stmt Declaration Function Property
bare_property = map-Property ShownExpr ShownGoal ShownInit ShownStmt ShownDeclaration ShownFunction ShownProperty
    Expr Goal Init Stmt Declaration Function Property (λ x. x.0) (λ x. x.0) (λ x. x.0) (λ x. x.0) (λ x. x.0) (λ x. x.0) (λ x. x.0)

property_layer : (y : Layer Property-F) → AddsProperty (roll-Property (bare_property y))
property_layer y =
    let x : Property = roll-Property (bare_property y) in
    adds_as (in_turn (point y.at.offset) (extent y.value.0)) (property_extent x) (read_of y.value.0) (property_occurrences x).value (o.property_extent-is x) (w.property-value x)
    (after_word y.at.offset (extent y.value.0) (read_of y.value.0) (y.value.1 v.Read))

-- the function without what is shown of its parts
abbrev bare_function : Layer Function-F → Function-F Expr Goal Init Stmt Declaration Function Property
bare_function = map-Function ShownExpr ShownGoal ShownInit ShownStmt ShownDeclaration ShownFunction ShownProperty
    Expr Goal Init Stmt Declaration Function Property (λ x. x.0) (λ x. x.0) (λ x. x.0) (λ x. x.0) (λ x. x.0) (λ x. x.0) (λ x. x.0)

function_layer : (y : Layer Function-F) → AddsFunction (roll-Function (bare_function y))
function_layer y =
    let f : Function = roll-Function (bare_function y) in
    let start : Extent = around f.offset (point f.name_offset) in (
      adds_as _ (function_extent f) _ (function_occurrences f).expressed (o.function_extent-is f) (w.function-expressed f)
          (adds_aligned f.parameters f.parameter_offsets _ _ (λ same.
          after_body (λ p c. inside (c.begun + 1)) (in_turn_all start (map point f.parameter_offsets)) _
          (adds_own_name _ _ f.name f.name_offset (λ p c. c.begun + 1)
          (adds_parameters [] f.parameter_offsets f.offset (λ p c. c.begun + 1) [] f.parameters start (λ p c. begin_occurrence f.name f.parameters f.line f.offset p.function c) same
          (adds_begin f.name f.parameters f.line f.offset f.name_offset))) y.body)),
      adds_as _ (function_extent f) _ (function_occurrences f).declared (o.function_extent-is f) (w.function-declared f)
          (adds_aligned f.parameters f.parameter_offsets _ _ (λ same.
          after_body (λ p c. inside (c.begun + 1)) (in_turn_all start (map point f.parameter_offsets)) _
          (adds_parameters [] f.parameter_offsets f.offset (λ p c. (name_occurrence r.Declared f.name f.name_offset p.function c).begun + 1) [] f.parameters start
          (λ p c. begin_occurrence f.name f.parameters f.line f.offset p.function (name_occurrence r.Declared f.name f.name_offset p.function c)) same
          (adds_declared_begin f.name f.parameters f.line f.offset f.name_offset)) y.body)),
    )

-- the declaration without what is shown of its parts
abbrev bare_declaration : Layer Declaration-F → Declaration-F Expr Goal Init Stmt Declaration Function Property
bare_declaration = map-Declaration ShownExpr ShownGoal ShownInit ShownStmt ShownDeclaration ShownFunction ShownProperty
    Expr Goal Init Stmt Declaration Function Property (λ x. x.0) (λ x. x.0) (λ x. x.0) (λ x. x.0) (λ x. x.0) (λ x. x.0) (λ x. x.0)

-- with a value or without
declaration_of : (at : At) (name : List ℕ) (value : Option ShownExpr) → AddsDeclaration (roll-Declaration (bare_declaration (record { at = at; name = name; value = value })))
declaration_of at name None =
    let d : Declaration = roll-Declaration (bare_declaration (record { at = at; name = name; value = None })) in
    adds_as (point at.offset) (declaration_extent d) _ (declaration_occurrences d) (o.declaration_extent-is d) (w.declaration-is d) (adds_one r.Variable at.offset name)
declaration_of at name (Some x) =
    let d : Declaration = roll-Declaration (bare_declaration (record { at = at; name = name; value = Some x })) in
    adds_as (in_turn (point at.offset) (extent x.0)) (declaration_extent d) _ (declaration_occurrences d) (o.declaration_extent-is d) (w.declaration-is d)
    (adds_then (point at.offset) (extent x.0) (λ p c. add r.Variable at.offset p.function name c) (read_of x.0) (adds_one r.Variable at.offset name) (x.1 v.Read))

declaration_layer : (y : Layer Declaration-F) → AddsDeclaration (roll-Declaration (bare_declaration y))
declaration_layer y = declaration_of y.at y.name y.value

-- of each statement
pub adds_stmt : (x : Stmt) → Adds (stmt_extent x) (stmt_occurrences x)
adds_stmt = ind-Stmt AddsExpr AddsGoal AddsInit AddsStmt AddsDeclaration AddsFunction AddsProperty
    (λ x y is. subst (λ z. AddsExpr (roll-Expr z)) is (expr_layer y))
    (λ x y is. subst (λ z. AddsGoal (roll-Goal z)) is (goal_layer y))
    (λ x y is. subst (λ z. AddsInit (roll-Init z)) is (init_layer y))
    (λ x y is. subst (λ z. AddsStmt (roll-Stmt z)) is (stmt_layer y))
    (λ x y is. subst (λ z. AddsDeclaration (roll-Declaration z)) is (declaration_layer y))
    (λ x y is. subst (λ z. AddsFunction (roll-Function z)) is (function_layer y))
    (λ x y is. subst (λ z. AddsProperty (roll-Property z)) is (property_layer y))
