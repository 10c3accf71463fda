-- What the lowering gives for each form of tree: an equation for each field of each form.
use Rattle.std.specs.Prelude.{◌≡◌, ℕ, true, false, ◌||◌, List, [], map, codes, Option, Some, None, option_map}
use Rattle.std.proofs.Common.{refl, sym, ap, ◌∙◌}
use Rattle.mdg_tree.specs.declared.tree.At.{At}
use Rattle.mdg_tree.specs.declared.tree.Expr.{Expr}
use Rattle.mdg_tree.specs.declared.tree.Goal.{Goal}
use Rattle.mdg_tree.specs.declared.tree.Init.{Init}
use Rattle.mdg_tree.specs.declared.tree.Stmt.{Stmt}
use Rattle.mdg_tree.specs.declared.tree.Declaration.{Declaration}
use Rattle.mdg_tree.specs.declared.tree.Function.{Function}
use Rattle.mdg_tree.specs.declared.tree.Property.{Property}
use Rattle.mdg_tree.specs.Views.{key_name}
use Rattle.mdg_tree.specs.declared.tree.Expr.TheVariants as e
use Rattle.mdg_tree.specs.declared.tree.Stmt.TheVariants as s
use Rattle.mdg_tree.specs.declared.tree.Init.TheVariants as i
use Rattle.mdg_tree.specs.declared.tree.Goal.TheVariants as g
use Rattle.mdg_tree.specs.declared.operator.AssignOperator.{AssignOperator}
use Rattle.mdg_tree.specs.declared.operator.BinaryOperator.{BinaryOperator}
use Rattle.mdg_tree.specs.declared.operator.UnaryOperator.{UnaryOperator}
use Rattle.mdg_tree.specs.declared.operator.Step.{Step}
use Rattle.mdg_tree.specs.declared.tree.Expr.TheOpen.{Expr-F, Goal-F, Init-F, Stmt-F}
use Rattle.mdg_tree.specs.declared.tree.Expr.TheFolds.{fold-roll-Expr, fold-roll-Stmt, fold-roll-Init, fold-roll-Goal, fold_out-Property, fold_out-Function, fold_out-Declaration}
use Rattle.mdg_lower.specs.declared.draft.Label.TheVariants as to
use Rattle.mdg_lower.specs.declared.scope.Scope.{Scope}
use Rattle.mdg_lower.specs.Lookup.{Name}
use Rattle.mdg_lower.specs.Builder.{nothing}
use Rattle.mdg_lower.specs.Operands.{named, member, other, PropertyPart, any_assigns, any_property_assigns}
use Rattle.mdg_lower.specs.Instructions.{literal, load_name, function_value}
use Rattle.mdg_lower.specs.Access.{get, call_of, plain_call}
use Rattle.mdg_lower.specs.Operators.{binary_of, conditional, unary_of}
use Rattle.mdg_lower.specs.Assignments.{assigned_with, prefix_of, postfix_of}
use Rattle.mdg_lower.specs.Initialisers.{comma, array, initialiser}
use Rattle.mdg_lower.specs.Statements.{DeclarationPart, FunctionPart, expression, declarations, if_then, if_else, do_while, while_of, for_of, for_in, goal_of, leave, return_undefined, return_value, throw_value, hoisted_function, store_goal}
use Rattle.mdg_lower.specs.Forms.{ScopedLines, ExprLowering, StmtLowering, sequence, assigned_by, numeral_text, index_reference, index_value, keyword_at, lower_expr, lower_stmt, lower_init, lower_goal, lower_property, function_head, lower_declaration}
use Rattle.mdg_lower.specs.Trees.{expr_lowering, goal_lines, init_lines, stmt_lowering, declaration_part, function_part, property_part, operand_of, name_of, assigns_of, value_of, at_of, key_of, reference_of, operands_of, lines_of_stmt, hoisted_of, lines_of_stmts}

function_part-is : (f : Function) → function_part f ≡ record { at = keyword_at f; name = f.name }
unfolding expr_lowering goal_lines init_lines stmt_lowering declaration_part function_part property_part
function_part-is f = fold_out-Function ExprLowering ScopedLines ScopedLines StmtLowering DeclarationPart FunctionPart PropertyPart lower_expr lower_goal lower_init lower_stmt lower_declaration function_head lower_property f

property_part-is : (x : Property) → property_part x ≡ record { key = key_name x.key; operand = operand_of x.value }
unfolding expr_lowering goal_lines init_lines stmt_lowering declaration_part function_part property_part
property_part-is x = fold_out-Property ExprLowering ScopedLines ScopedLines StmtLowering DeclarationPart FunctionPart PropertyPart lower_expr lower_goal lower_init lower_stmt lower_declaration function_head lower_property x

pub property-key : (x : Property) → (property_part x).key ≡ key_name x.key
property-key x = ap (λ w. w.key) (property_part-is x)

pub property-operand : (x : Property) → (property_part x).operand ≡ operand_of x.value
property-operand x = ap (λ w. w.operand) (property_part-is x)

declaration_is : (at : At) (name : Name) (v : Option Expr) → declaration_part (record { at = at; name = name; value = v }) ≡ record { name = name; value = option_map (λ e. operand_of e) v }
unfolding expr_lowering goal_lines init_lines stmt_lowering declaration_part function_part property_part
declaration_is at name None = fold_out-Declaration ExprLowering ScopedLines ScopedLines StmtLowering DeclarationPart FunctionPart PropertyPart lower_expr lower_goal lower_init lower_stmt lower_declaration function_head lower_property (record { at = at; name = name; value = None })
declaration_is at name (Some x) = fold_out-Declaration ExprLowering ScopedLines ScopedLines StmtLowering DeclarationPart FunctionPart PropertyPart lower_expr lower_goal lower_init lower_stmt lower_declaration function_head lower_property (record { at = at; name = name; value = Some x })

pub declaration-name : (d : Declaration) → (declaration_part d).name ≡ d.name
declaration-name d = ap (λ w. w.name) (declaration_is d.at d.name d.value)

pub declaration-value : (d : Declaration) → (declaration_part d).value ≡ option_map (λ e. operand_of e) d.value
declaration-value d = ap (λ w. w.value) (declaration_is d.at d.name d.value)

expr_lowering-Comma : (at : At) (es : List Expr) → expr_lowering (e.Comma at es) ≡ lower_expr (Expr-F.Comma at (map expr_lowering es))
unfolding expr_lowering goal_lines init_lines stmt_lowering declaration_part function_part property_part
expr_lowering-Comma at es = ap expr_lowering (sym (e.rolls-Comma at es)) ∙ fold-roll-Expr ExprLowering ScopedLines ScopedLines StmtLowering DeclarationPart FunctionPart PropertyPart lower_expr lower_goal lower_init lower_stmt lower_declaration function_head lower_property (Expr-F.Comma at es)

pub name-Comma : (at : At) (es : List Expr) → name_of (e.Comma at es) ≡ None
name-Comma at es = ap (λ w. w.operand.name) (expr_lowering-Comma at es)

pub assigns-Comma : (at : At) (es : List Expr) (x : Name) → assigns_of (e.Comma at es) x ≡ (any_assigns (operands_of es) x)
assigns-Comma at es x = ap (λ w. w.operand.assigns x) (expr_lowering-Comma at es)

pub value-Comma : (at : At) (es : List Expr) (scope : Scope) (d : ℕ) → value_of (e.Comma at es) scope d ≡ comma scope (operands_of es) d
value-Comma at es scope d = ap (λ w. w.operand.value scope d) (expr_lowering-Comma at es)

pub at-Comma : (at : At) (es : List Expr) → at_of (e.Comma at es) ≡ at
at-Comma at es = ap (λ w. w.at) (expr_lowering-Comma at es)

pub key-Comma : (at : At) (es : List Expr) → key_of (e.Comma at es) ≡ None
key-Comma at es = ap (λ w. w.key) (expr_lowering-Comma at es)

pub reference-Comma : (at : At) (es : List Expr) → reference_of (e.Comma at es) ≡ other
reference-Comma at es = ap (λ w. w.reference) (expr_lowering-Comma at es)

expr_lowering-Assign : (at : At) (op : AssignOperator) (target : Expr) (value : Expr) → expr_lowering (e.Assign at op target value) ≡ lower_expr (Expr-F.Assign at op (expr_lowering target) (expr_lowering value))
unfolding expr_lowering goal_lines init_lines stmt_lowering declaration_part function_part property_part
expr_lowering-Assign at op target value = ap expr_lowering (sym (e.rolls-Assign at op target value)) ∙ fold-roll-Expr ExprLowering ScopedLines ScopedLines StmtLowering DeclarationPart FunctionPart PropertyPart lower_expr lower_goal lower_init lower_stmt lower_declaration function_head lower_property (Expr-F.Assign at op target value)

pub name-Assign : (at : At) (op : AssignOperator) (target : Expr) (value : Expr) → name_of (e.Assign at op target value) ≡ None
name-Assign at op target value = ap (λ w. w.operand.name) (expr_lowering-Assign at op target value)

pub assigns-Assign : (at : At) (op : AssignOperator) (target : Expr) (value : Expr) (x : Name) → assigns_of (e.Assign at op target value) x ≡ (assigned_by (reference_of target) x || assigns_of value x)
assigns-Assign at op target value x = ap (λ w. w.operand.assigns x) (expr_lowering-Assign at op target value)

pub value-Assign : (at : At) (op : AssignOperator) (target : Expr) (value : Expr) (scope : Scope) (d : ℕ) → value_of (e.Assign at op target value) scope d ≡ assigned_with scope at op (reference_of target) (operand_of value) d
value-Assign at op target value scope d = ap (λ w. w.operand.value scope d) (expr_lowering-Assign at op target value)

pub at-Assign : (at : At) (op : AssignOperator) (target : Expr) (value : Expr) → at_of (e.Assign at op target value) ≡ at
at-Assign at op target value = ap (λ w. w.at) (expr_lowering-Assign at op target value)

pub key-Assign : (at : At) (op : AssignOperator) (target : Expr) (value : Expr) → key_of (e.Assign at op target value) ≡ None
key-Assign at op target value = ap (λ w. w.key) (expr_lowering-Assign at op target value)

pub reference-Assign : (at : At) (op : AssignOperator) (target : Expr) (value : Expr) → reference_of (e.Assign at op target value) ≡ other
reference-Assign at op target value = ap (λ w. w.reference) (expr_lowering-Assign at op target value)

expr_lowering-Conditional : (at : At) (test : Expr) (chosen : Expr) (otherwise : Expr) → expr_lowering (e.Conditional at test chosen otherwise) ≡ lower_expr (Expr-F.Conditional at (expr_lowering test) (expr_lowering chosen) (expr_lowering otherwise))
unfolding expr_lowering goal_lines init_lines stmt_lowering declaration_part function_part property_part
expr_lowering-Conditional at test chosen otherwise = ap expr_lowering (sym (e.rolls-Conditional at test chosen otherwise)) ∙ fold-roll-Expr ExprLowering ScopedLines ScopedLines StmtLowering DeclarationPart FunctionPart PropertyPart lower_expr lower_goal lower_init lower_stmt lower_declaration function_head lower_property (Expr-F.Conditional at test chosen otherwise)

pub name-Conditional : (at : At) (test : Expr) (chosen : Expr) (otherwise : Expr) → name_of (e.Conditional at test chosen otherwise) ≡ None
name-Conditional at test chosen otherwise = ap (λ w. w.operand.name) (expr_lowering-Conditional at test chosen otherwise)

pub assigns-Conditional : (at : At) (test : Expr) (chosen : Expr) (otherwise : Expr) (x : Name) → assigns_of (e.Conditional at test chosen otherwise) x ≡ (assigns_of test x || (assigns_of chosen x || assigns_of otherwise x))
assigns-Conditional at test chosen otherwise x = ap (λ w. w.operand.assigns x) (expr_lowering-Conditional at test chosen otherwise)

pub value-Conditional : (at : At) (test : Expr) (chosen : Expr) (otherwise : Expr) (scope : Scope) (d : ℕ) → value_of (e.Conditional at test chosen otherwise) scope d ≡ conditional scope at (operand_of test) (operand_of chosen) (operand_of otherwise) d
value-Conditional at test chosen otherwise scope d = ap (λ w. w.operand.value scope d) (expr_lowering-Conditional at test chosen otherwise)

pub at-Conditional : (at : At) (test : Expr) (chosen : Expr) (otherwise : Expr) → at_of (e.Conditional at test chosen otherwise) ≡ at
at-Conditional at test chosen otherwise = ap (λ w. w.at) (expr_lowering-Conditional at test chosen otherwise)

pub key-Conditional : (at : At) (test : Expr) (chosen : Expr) (otherwise : Expr) → key_of (e.Conditional at test chosen otherwise) ≡ None
key-Conditional at test chosen otherwise = ap (λ w. w.key) (expr_lowering-Conditional at test chosen otherwise)

pub reference-Conditional : (at : At) (test : Expr) (chosen : Expr) (otherwise : Expr) → reference_of (e.Conditional at test chosen otherwise) ≡ other
reference-Conditional at test chosen otherwise = ap (λ w. w.reference) (expr_lowering-Conditional at test chosen otherwise)

expr_lowering-Binary : (at : At) (op : BinaryOperator) (left : Expr) (right : Expr) → expr_lowering (e.Binary at op left right) ≡ lower_expr (Expr-F.Binary at op (expr_lowering left) (expr_lowering right))
unfolding expr_lowering goal_lines init_lines stmt_lowering declaration_part function_part property_part
expr_lowering-Binary at op left right = ap expr_lowering (sym (e.rolls-Binary at op left right)) ∙ fold-roll-Expr ExprLowering ScopedLines ScopedLines StmtLowering DeclarationPart FunctionPart PropertyPart lower_expr lower_goal lower_init lower_stmt lower_declaration function_head lower_property (Expr-F.Binary at op left right)

pub name-Binary : (at : At) (op : BinaryOperator) (left : Expr) (right : Expr) → name_of (e.Binary at op left right) ≡ None
name-Binary at op left right = ap (λ w. w.operand.name) (expr_lowering-Binary at op left right)

pub assigns-Binary : (at : At) (op : BinaryOperator) (left : Expr) (right : Expr) (x : Name) → assigns_of (e.Binary at op left right) x ≡ (assigns_of left x || assigns_of right x)
assigns-Binary at op left right x = ap (λ w. w.operand.assigns x) (expr_lowering-Binary at op left right)

pub value-Binary : (at : At) (op : BinaryOperator) (left : Expr) (right : Expr) (scope : Scope) (d : ℕ) → value_of (e.Binary at op left right) scope d ≡ binary_of scope at op (operand_of left) (operand_of right) d
value-Binary at op left right scope d = ap (λ w. w.operand.value scope d) (expr_lowering-Binary at op left right)

pub at-Binary : (at : At) (op : BinaryOperator) (left : Expr) (right : Expr) → at_of (e.Binary at op left right) ≡ at
at-Binary at op left right = ap (λ w. w.at) (expr_lowering-Binary at op left right)

pub key-Binary : (at : At) (op : BinaryOperator) (left : Expr) (right : Expr) → key_of (e.Binary at op left right) ≡ None
key-Binary at op left right = ap (λ w. w.key) (expr_lowering-Binary at op left right)

pub reference-Binary : (at : At) (op : BinaryOperator) (left : Expr) (right : Expr) → reference_of (e.Binary at op left right) ≡ other
reference-Binary at op left right = ap (λ w. w.reference) (expr_lowering-Binary at op left right)

expr_lowering-Unary : (at : At) (op : UnaryOperator) (value : Expr) → expr_lowering (e.Unary at op value) ≡ lower_expr (Expr-F.Unary at op (expr_lowering value))
unfolding expr_lowering goal_lines init_lines stmt_lowering declaration_part function_part property_part
expr_lowering-Unary at op value = ap expr_lowering (sym (e.rolls-Unary at op value)) ∙ fold-roll-Expr ExprLowering ScopedLines ScopedLines StmtLowering DeclarationPart FunctionPart PropertyPart lower_expr lower_goal lower_init lower_stmt lower_declaration function_head lower_property (Expr-F.Unary at op value)

pub name-Unary : (at : At) (op : UnaryOperator) (value : Expr) → name_of (e.Unary at op value) ≡ None
name-Unary at op value = ap (λ w. w.operand.name) (expr_lowering-Unary at op value)

pub assigns-Unary : (at : At) (op : UnaryOperator) (value : Expr) (x : Name) → assigns_of (e.Unary at op value) x ≡ (assigns_of value x)
assigns-Unary at op value x = ap (λ w. w.operand.assigns x) (expr_lowering-Unary at op value)

pub value-Unary : (at : At) (op : UnaryOperator) (value : Expr) (scope : Scope) (d : ℕ) → value_of (e.Unary at op value) scope d ≡ unary_of scope at op (reference_of value) (operand_of value) d
value-Unary at op value scope d = ap (λ w. w.operand.value scope d) (expr_lowering-Unary at op value)

pub at-Unary : (at : At) (op : UnaryOperator) (value : Expr) → at_of (e.Unary at op value) ≡ at
at-Unary at op value = ap (λ w. w.at) (expr_lowering-Unary at op value)

pub key-Unary : (at : At) (op : UnaryOperator) (value : Expr) → key_of (e.Unary at op value) ≡ None
key-Unary at op value = ap (λ w. w.key) (expr_lowering-Unary at op value)

pub reference-Unary : (at : At) (op : UnaryOperator) (value : Expr) → reference_of (e.Unary at op value) ≡ other
reference-Unary at op value = ap (λ w. w.reference) (expr_lowering-Unary at op value)

expr_lowering-Prefix : (at : At) (step : Step) (target : Expr) → expr_lowering (e.Prefix at step target) ≡ lower_expr (Expr-F.Prefix at step (expr_lowering target))
unfolding expr_lowering goal_lines init_lines stmt_lowering declaration_part function_part property_part
expr_lowering-Prefix at step target = ap expr_lowering (sym (e.rolls-Prefix at step target)) ∙ fold-roll-Expr ExprLowering ScopedLines ScopedLines StmtLowering DeclarationPart FunctionPart PropertyPart lower_expr lower_goal lower_init lower_stmt lower_declaration function_head lower_property (Expr-F.Prefix at step target)

pub name-Prefix : (at : At) (step : Step) (target : Expr) → name_of (e.Prefix at step target) ≡ None
name-Prefix at step target = ap (λ w. w.operand.name) (expr_lowering-Prefix at step target)

pub assigns-Prefix : (at : At) (step : Step) (target : Expr) (x : Name) → assigns_of (e.Prefix at step target) x ≡ (assigned_by (reference_of target) x)
assigns-Prefix at step target x = ap (λ w. w.operand.assigns x) (expr_lowering-Prefix at step target)

pub value-Prefix : (at : At) (step : Step) (target : Expr) (scope : Scope) (d : ℕ) → value_of (e.Prefix at step target) scope d ≡ prefix_of scope at (reference_of target) (operand_of target) d
value-Prefix at step target scope d = ap (λ w. w.operand.value scope d) (expr_lowering-Prefix at step target)

pub at-Prefix : (at : At) (step : Step) (target : Expr) → at_of (e.Prefix at step target) ≡ at
at-Prefix at step target = ap (λ w. w.at) (expr_lowering-Prefix at step target)

pub key-Prefix : (at : At) (step : Step) (target : Expr) → key_of (e.Prefix at step target) ≡ None
key-Prefix at step target = ap (λ w. w.key) (expr_lowering-Prefix at step target)

pub reference-Prefix : (at : At) (step : Step) (target : Expr) → reference_of (e.Prefix at step target) ≡ other
reference-Prefix at step target = ap (λ w. w.reference) (expr_lowering-Prefix at step target)

expr_lowering-Postfix : (at : At) (step : Step) (target : Expr) → expr_lowering (e.Postfix at step target) ≡ lower_expr (Expr-F.Postfix at step (expr_lowering target))
unfolding expr_lowering goal_lines init_lines stmt_lowering declaration_part function_part property_part
expr_lowering-Postfix at step target = ap expr_lowering (sym (e.rolls-Postfix at step target)) ∙ fold-roll-Expr ExprLowering ScopedLines ScopedLines StmtLowering DeclarationPart FunctionPart PropertyPart lower_expr lower_goal lower_init lower_stmt lower_declaration function_head lower_property (Expr-F.Postfix at step target)

pub name-Postfix : (at : At) (step : Step) (target : Expr) → name_of (e.Postfix at step target) ≡ None
name-Postfix at step target = ap (λ w. w.operand.name) (expr_lowering-Postfix at step target)

pub assigns-Postfix : (at : At) (step : Step) (target : Expr) (x : Name) → assigns_of (e.Postfix at step target) x ≡ (assigned_by (reference_of target) x)
assigns-Postfix at step target x = ap (λ w. w.operand.assigns x) (expr_lowering-Postfix at step target)

pub value-Postfix : (at : At) (step : Step) (target : Expr) (scope : Scope) (d : ℕ) → value_of (e.Postfix at step target) scope d ≡ postfix_of scope at (reference_of target) (operand_of target) d
value-Postfix at step target scope d = ap (λ w. w.operand.value scope d) (expr_lowering-Postfix at step target)

pub at-Postfix : (at : At) (step : Step) (target : Expr) → at_of (e.Postfix at step target) ≡ at
at-Postfix at step target = ap (λ w. w.at) (expr_lowering-Postfix at step target)

pub key-Postfix : (at : At) (step : Step) (target : Expr) → key_of (e.Postfix at step target) ≡ None
key-Postfix at step target = ap (λ w. w.key) (expr_lowering-Postfix at step target)

pub reference-Postfix : (at : At) (step : Step) (target : Expr) → reference_of (e.Postfix at step target) ≡ other
reference-Postfix at step target = ap (λ w. w.reference) (expr_lowering-Postfix at step target)

expr_lowering-New : (at : At) (callee : Expr) → expr_lowering (e.New at callee) ≡ lower_expr (Expr-F.New at (expr_lowering callee))
unfolding expr_lowering goal_lines init_lines stmt_lowering declaration_part function_part property_part
expr_lowering-New at callee = ap expr_lowering (sym (e.rolls-New at callee)) ∙ fold-roll-Expr ExprLowering ScopedLines ScopedLines StmtLowering DeclarationPart FunctionPart PropertyPart lower_expr lower_goal lower_init lower_stmt lower_declaration function_head lower_property (Expr-F.New at callee)

pub name-New : (at : At) (callee : Expr) → name_of (e.New at callee) ≡ None
name-New at callee = ap (λ w. w.operand.name) (expr_lowering-New at callee)

pub assigns-New : (at : At) (callee : Expr) (x : Name) → assigns_of (e.New at callee) x ≡ (assigns_of callee x)
assigns-New at callee x = ap (λ w. w.operand.assigns x) (expr_lowering-New at callee)

pub value-New : (at : At) (callee : Expr) (scope : Scope) (d : ℕ) → value_of (e.New at callee) scope d ≡ plain_call scope at (operand_of callee) [] d
value-New at callee scope d = ap (λ w. w.operand.value scope d) (expr_lowering-New at callee)

pub at-New : (at : At) (callee : Expr) → at_of (e.New at callee) ≡ at
at-New at callee = ap (λ w. w.at) (expr_lowering-New at callee)

pub key-New : (at : At) (callee : Expr) → key_of (e.New at callee) ≡ None
key-New at callee = ap (λ w. w.key) (expr_lowering-New at callee)

pub reference-New : (at : At) (callee : Expr) → reference_of (e.New at callee) ≡ other
reference-New at callee = ap (λ w. w.reference) (expr_lowering-New at callee)

expr_lowering-NewWithArguments : (at : At) (callee : Expr) (es : List Expr) → expr_lowering (e.NewWithArguments at callee es) ≡ lower_expr (Expr-F.NewWithArguments at (expr_lowering callee) (map expr_lowering es))
unfolding expr_lowering goal_lines init_lines stmt_lowering declaration_part function_part property_part
expr_lowering-NewWithArguments at callee es = ap expr_lowering (sym (e.rolls-NewWithArguments at callee es)) ∙ fold-roll-Expr ExprLowering ScopedLines ScopedLines StmtLowering DeclarationPart FunctionPart PropertyPart lower_expr lower_goal lower_init lower_stmt lower_declaration function_head lower_property (Expr-F.NewWithArguments at callee es)

pub name-NewWithArguments : (at : At) (callee : Expr) (es : List Expr) → name_of (e.NewWithArguments at callee es) ≡ None
name-NewWithArguments at callee es = ap (λ w. w.operand.name) (expr_lowering-NewWithArguments at callee es)

pub assigns-NewWithArguments : (at : At) (callee : Expr) (es : List Expr) (x : Name) → assigns_of (e.NewWithArguments at callee es) x ≡ (assigns_of callee x || any_assigns (operands_of es) x)
assigns-NewWithArguments at callee es x = ap (λ w. w.operand.assigns x) (expr_lowering-NewWithArguments at callee es)

pub value-NewWithArguments : (at : At) (callee : Expr) (es : List Expr) (scope : Scope) (d : ℕ) → value_of (e.NewWithArguments at callee es) scope d ≡ plain_call scope at (operand_of callee) (operands_of es) d
value-NewWithArguments at callee es scope d = ap (λ w. w.operand.value scope d) (expr_lowering-NewWithArguments at callee es)

pub at-NewWithArguments : (at : At) (callee : Expr) (es : List Expr) → at_of (e.NewWithArguments at callee es) ≡ at
at-NewWithArguments at callee es = ap (λ w. w.at) (expr_lowering-NewWithArguments at callee es)

pub key-NewWithArguments : (at : At) (callee : Expr) (es : List Expr) → key_of (e.NewWithArguments at callee es) ≡ None
key-NewWithArguments at callee es = ap (λ w. w.key) (expr_lowering-NewWithArguments at callee es)

pub reference-NewWithArguments : (at : At) (callee : Expr) (es : List Expr) → reference_of (e.NewWithArguments at callee es) ≡ other
reference-NewWithArguments at callee es = ap (λ w. w.reference) (expr_lowering-NewWithArguments at callee es)

expr_lowering-Call : (at : At) (callee : Expr) (es : List Expr) → expr_lowering (e.Call at callee es) ≡ lower_expr (Expr-F.Call at (expr_lowering callee) (map expr_lowering es))
unfolding expr_lowering goal_lines init_lines stmt_lowering declaration_part function_part property_part
expr_lowering-Call at callee es = ap expr_lowering (sym (e.rolls-Call at callee es)) ∙ fold-roll-Expr ExprLowering ScopedLines ScopedLines StmtLowering DeclarationPart FunctionPart PropertyPart lower_expr lower_goal lower_init lower_stmt lower_declaration function_head lower_property (Expr-F.Call at callee es)

pub name-Call : (at : At) (callee : Expr) (es : List Expr) → name_of (e.Call at callee es) ≡ None
name-Call at callee es = ap (λ w. w.operand.name) (expr_lowering-Call at callee es)

pub assigns-Call : (at : At) (callee : Expr) (es : List Expr) (x : Name) → assigns_of (e.Call at callee es) x ≡ (assigns_of callee x || any_assigns (operands_of es) x)
assigns-Call at callee es x = ap (λ w. w.operand.assigns x) (expr_lowering-Call at callee es)

pub value-Call : (at : At) (callee : Expr) (es : List Expr) (scope : Scope) (d : ℕ) → value_of (e.Call at callee es) scope d ≡ call_of scope at (reference_of callee) (operand_of callee) (operands_of es) d
value-Call at callee es scope d = ap (λ w. w.operand.value scope d) (expr_lowering-Call at callee es)

pub at-Call : (at : At) (callee : Expr) (es : List Expr) → at_of (e.Call at callee es) ≡ at
at-Call at callee es = ap (λ w. w.at) (expr_lowering-Call at callee es)

pub key-Call : (at : At) (callee : Expr) (es : List Expr) → key_of (e.Call at callee es) ≡ None
key-Call at callee es = ap (λ w. w.key) (expr_lowering-Call at callee es)

pub reference-Call : (at : At) (callee : Expr) (es : List Expr) → reference_of (e.Call at callee es) ≡ other
reference-Call at callee es = ap (λ w. w.reference) (expr_lowering-Call at callee es)

expr_lowering-Index : (at : At) (object : Expr) (key : Expr) → expr_lowering (e.Index at object key) ≡ lower_expr (Expr-F.Index at (expr_lowering object) (expr_lowering key))
unfolding expr_lowering goal_lines init_lines stmt_lowering declaration_part function_part property_part
expr_lowering-Index at object key = ap expr_lowering (sym (e.rolls-Index at object key)) ∙ fold-roll-Expr ExprLowering ScopedLines ScopedLines StmtLowering DeclarationPart FunctionPart PropertyPart lower_expr lower_goal lower_init lower_stmt lower_declaration function_head lower_property (Expr-F.Index at object key)

pub name-Index : (at : At) (object : Expr) (key : Expr) → name_of (e.Index at object key) ≡ None
name-Index at object key = ap (λ w. w.operand.name) (expr_lowering-Index at object key)

pub assigns-Index : (at : At) (object : Expr) (key : Expr) (x : Name) → assigns_of (e.Index at object key) x ≡ (assigns_of object x || assigns_of key x)
assigns-Index at object key x = ap (λ w. w.operand.assigns x) (expr_lowering-Index at object key)

pub value-Index : (at : At) (object : Expr) (key : Expr) (scope : Scope) (d : ℕ) → value_of (e.Index at object key) scope d ≡ index_value scope at (key_of key) (operand_of object) (operand_of key) d
value-Index at object key scope d = ap (λ w. w.operand.value scope d) (expr_lowering-Index at object key)

pub at-Index : (at : At) (object : Expr) (key : Expr) → at_of (e.Index at object key) ≡ at
at-Index at object key = ap (λ w. w.at) (expr_lowering-Index at object key)

pub key-Index : (at : At) (object : Expr) (key : Expr) → key_of (e.Index at object key) ≡ None
key-Index at object key = ap (λ w. w.key) (expr_lowering-Index at object key)

pub reference-Index : (at : At) (object : Expr) (key : Expr) → reference_of (e.Index at object key) ≡ index_reference (key_of key) (operand_of object) (operand_of key)
reference-Index at object key = ap (λ w. w.reference) (expr_lowering-Index at object key)

expr_lowering-Member : (at : At) (object : Expr) (name : Name) → expr_lowering (e.Member at object name) ≡ lower_expr (Expr-F.Member at (expr_lowering object) name)
unfolding expr_lowering goal_lines init_lines stmt_lowering declaration_part function_part property_part
expr_lowering-Member at object name = ap expr_lowering (sym (e.rolls-Member at object name)) ∙ fold-roll-Expr ExprLowering ScopedLines ScopedLines StmtLowering DeclarationPart FunctionPart PropertyPart lower_expr lower_goal lower_init lower_stmt lower_declaration function_head lower_property (Expr-F.Member at object name)

pub name-Member : (at : At) (object : Expr) (name : Name) → name_of (e.Member at object name) ≡ None
name-Member at object name = ap (λ w. w.operand.name) (expr_lowering-Member at object name)

pub assigns-Member : (at : At) (object : Expr) (name : Name) (x : Name) → assigns_of (e.Member at object name) x ≡ (assigns_of object x)
assigns-Member at object name x = ap (λ w. w.operand.assigns x) (expr_lowering-Member at object name)

pub value-Member : (at : At) (object : Expr) (name : Name) (scope : Scope) (d : ℕ) → value_of (e.Member at object name) scope d ≡ get scope at (operand_of object) name d
value-Member at object name scope d = ap (λ w. w.operand.value scope d) (expr_lowering-Member at object name)

pub at-Member : (at : At) (object : Expr) (name : Name) → at_of (e.Member at object name) ≡ at
at-Member at object name = ap (λ w. w.at) (expr_lowering-Member at object name)

pub key-Member : (at : At) (object : Expr) (name : Name) → key_of (e.Member at object name) ≡ None
key-Member at object name = ap (λ w. w.key) (expr_lowering-Member at object name)

pub reference-Member : (at : At) (object : Expr) (name : Name) → reference_of (e.Member at object name) ≡ member (operand_of object) name
reference-Member at object name = ap (λ w. w.reference) (expr_lowering-Member at object name)

expr_lowering-FunctionExpression : (f : Function) → expr_lowering (e.FunctionExpression f) ≡ lower_expr (Expr-F.FunctionExpression (record { at = keyword_at f; name = f.name }))
unfolding expr_lowering goal_lines init_lines stmt_lowering declaration_part function_part property_part
expr_lowering-FunctionExpression f = ap expr_lowering (sym (e.rolls-FunctionExpression f)) ∙ fold-roll-Expr ExprLowering ScopedLines ScopedLines StmtLowering DeclarationPart FunctionPart PropertyPart lower_expr lower_goal lower_init lower_stmt lower_declaration function_head lower_property (Expr-F.FunctionExpression f) ∙ ap (λ w. lower_expr (Expr-F.FunctionExpression w)) (function_part-is f)

pub name-FunctionExpression : (f : Function) → name_of (e.FunctionExpression f) ≡ None
name-FunctionExpression f = ap (λ w. w.operand.name) (expr_lowering-FunctionExpression f)

pub assigns-FunctionExpression : (f : Function) (x : Name) → assigns_of (e.FunctionExpression f) x ≡ (false)
assigns-FunctionExpression f x = ap (λ w. w.operand.assigns x) (expr_lowering-FunctionExpression f)

pub value-FunctionExpression : (f : Function) (scope : Scope) (d : ℕ) → value_of (e.FunctionExpression f) scope d ≡ function_value scope (keyword_at f) (keyword_at f) d
value-FunctionExpression f scope d = ap (λ w. w.operand.value scope d) (expr_lowering-FunctionExpression f)

pub at-FunctionExpression : (f : Function) → at_of (e.FunctionExpression f) ≡ keyword_at f
at-FunctionExpression f = ap (λ w. w.at) (expr_lowering-FunctionExpression f)

pub key-FunctionExpression : (f : Function) → key_of (e.FunctionExpression f) ≡ None
key-FunctionExpression f = ap (λ w. w.key) (expr_lowering-FunctionExpression f)

pub reference-FunctionExpression : (f : Function) → reference_of (e.FunctionExpression f) ≡ other
reference-FunctionExpression f = ap (λ w. w.reference) (expr_lowering-FunctionExpression f)

expr_lowering-Name : (at : At) (name : Name) → expr_lowering (e.Name at name) ≡ lower_expr (Expr-F.Name at name)
unfolding expr_lowering goal_lines init_lines stmt_lowering declaration_part function_part property_part
expr_lowering-Name at name = ap expr_lowering (sym (e.rolls-Name at name)) ∙ fold-roll-Expr ExprLowering ScopedLines ScopedLines StmtLowering DeclarationPart FunctionPart PropertyPart lower_expr lower_goal lower_init lower_stmt lower_declaration function_head lower_property (Expr-F.Name at name)

pub name-Name : (at : At) (name : Name) → name_of (e.Name at name) ≡ Some name
name-Name at name = ap (λ w. w.operand.name) (expr_lowering-Name at name)

pub assigns-Name : (at : At) (name : Name) (x : Name) → assigns_of (e.Name at name) x ≡ (false)
assigns-Name at name x = ap (λ w. w.operand.assigns x) (expr_lowering-Name at name)

pub value-Name : (at : At) (name : Name) (scope : Scope) (d : ℕ) → value_of (e.Name at name) scope d ≡ load_name scope at name d
value-Name at name scope d = ap (λ w. w.operand.value scope d) (expr_lowering-Name at name)

pub at-Name : (at : At) (name : Name) → at_of (e.Name at name) ≡ at
at-Name at name = ap (λ w. w.at) (expr_lowering-Name at name)

pub key-Name : (at : At) (name : Name) → key_of (e.Name at name) ≡ None
key-Name at name = ap (λ w. w.key) (expr_lowering-Name at name)

pub reference-Name : (at : At) (name : Name) → reference_of (e.Name at name) ≡ named at name
reference-Name at name = ap (λ w. w.reference) (expr_lowering-Name at name)

expr_lowering-Null : (at : At) → expr_lowering (e.Null at) ≡ lower_expr (Expr-F.Null at)
unfolding expr_lowering goal_lines init_lines stmt_lowering declaration_part function_part property_part
expr_lowering-Null at = ap expr_lowering (sym (e.rolls-Null at)) ∙ fold-roll-Expr ExprLowering ScopedLines ScopedLines StmtLowering DeclarationPart FunctionPart PropertyPart lower_expr lower_goal lower_init lower_stmt lower_declaration function_head lower_property (Expr-F.Null at)

pub name-Null : (at : At) → name_of (e.Null at) ≡ None
name-Null at = ap (λ w. w.operand.name) (expr_lowering-Null at)

pub assigns-Null : (at : At) (x : Name) → assigns_of (e.Null at) x ≡ (false)
assigns-Null at x = ap (λ w. w.operand.assigns x) (expr_lowering-Null at)

pub value-Null : (at : At) (scope : Scope) (d : ℕ) → value_of (e.Null at) scope d ≡ literal scope at (Some (codes "null")) d
value-Null at scope d = ap (λ w. w.operand.value scope d) (expr_lowering-Null at)

pub at-Null : (at : At) → at_of (e.Null at) ≡ at
at-Null at = ap (λ w. w.at) (expr_lowering-Null at)

pub key-Null : (at : At) → key_of (e.Null at) ≡ None
key-Null at = ap (λ w. w.key) (expr_lowering-Null at)

pub reference-Null : (at : At) → reference_of (e.Null at) ≡ other
reference-Null at = ap (λ w. w.reference) (expr_lowering-Null at)

expr_lowering-True : (at : At) → expr_lowering (e.True at) ≡ lower_expr (Expr-F.True at)
unfolding expr_lowering goal_lines init_lines stmt_lowering declaration_part function_part property_part
expr_lowering-True at = ap expr_lowering (sym (e.rolls-True at)) ∙ fold-roll-Expr ExprLowering ScopedLines ScopedLines StmtLowering DeclarationPart FunctionPart PropertyPart lower_expr lower_goal lower_init lower_stmt lower_declaration function_head lower_property (Expr-F.True at)

pub name-True : (at : At) → name_of (e.True at) ≡ None
name-True at = ap (λ w. w.operand.name) (expr_lowering-True at)

pub assigns-True : (at : At) (x : Name) → assigns_of (e.True at) x ≡ (false)
assigns-True at x = ap (λ w. w.operand.assigns x) (expr_lowering-True at)

pub value-True : (at : At) (scope : Scope) (d : ℕ) → value_of (e.True at) scope d ≡ literal scope at (Some (codes "true")) d
value-True at scope d = ap (λ w. w.operand.value scope d) (expr_lowering-True at)

pub at-True : (at : At) → at_of (e.True at) ≡ at
at-True at = ap (λ w. w.at) (expr_lowering-True at)

pub key-True : (at : At) → key_of (e.True at) ≡ None
key-True at = ap (λ w. w.key) (expr_lowering-True at)

pub reference-True : (at : At) → reference_of (e.True at) ≡ other
reference-True at = ap (λ w. w.reference) (expr_lowering-True at)

expr_lowering-False : (at : At) → expr_lowering (e.False at) ≡ lower_expr (Expr-F.False at)
unfolding expr_lowering goal_lines init_lines stmt_lowering declaration_part function_part property_part
expr_lowering-False at = ap expr_lowering (sym (e.rolls-False at)) ∙ fold-roll-Expr ExprLowering ScopedLines ScopedLines StmtLowering DeclarationPart FunctionPart PropertyPart lower_expr lower_goal lower_init lower_stmt lower_declaration function_head lower_property (Expr-F.False at)

pub name-False : (at : At) → name_of (e.False at) ≡ None
name-False at = ap (λ w. w.operand.name) (expr_lowering-False at)

pub assigns-False : (at : At) (x : Name) → assigns_of (e.False at) x ≡ (false)
assigns-False at x = ap (λ w. w.operand.assigns x) (expr_lowering-False at)

pub value-False : (at : At) (scope : Scope) (d : ℕ) → value_of (e.False at) scope d ≡ literal scope at (Some (codes "false")) d
value-False at scope d = ap (λ w. w.operand.value scope d) (expr_lowering-False at)

pub at-False : (at : At) → at_of (e.False at) ≡ at
at-False at = ap (λ w. w.at) (expr_lowering-False at)

pub key-False : (at : At) → key_of (e.False at) ≡ None
key-False at = ap (λ w. w.key) (expr_lowering-False at)

pub reference-False : (at : At) → reference_of (e.False at) ≡ other
reference-False at = ap (λ w. w.reference) (expr_lowering-False at)

expr_lowering-Numeral : (at : At) (text : Name) → expr_lowering (e.Numeral at text) ≡ lower_expr (Expr-F.Numeral at text)
unfolding expr_lowering goal_lines init_lines stmt_lowering declaration_part function_part property_part
expr_lowering-Numeral at text = ap expr_lowering (sym (e.rolls-Numeral at text)) ∙ fold-roll-Expr ExprLowering ScopedLines ScopedLines StmtLowering DeclarationPart FunctionPart PropertyPart lower_expr lower_goal lower_init lower_stmt lower_declaration function_head lower_property (Expr-F.Numeral at text)

pub name-Numeral : (at : At) (text : Name) → name_of (e.Numeral at text) ≡ None
name-Numeral at text = ap (λ w. w.operand.name) (expr_lowering-Numeral at text)

pub assigns-Numeral : (at : At) (text : Name) (x : Name) → assigns_of (e.Numeral at text) x ≡ (false)
assigns-Numeral at text x = ap (λ w. w.operand.assigns x) (expr_lowering-Numeral at text)

pub value-Numeral : (at : At) (text : Name) (scope : Scope) (d : ℕ) → value_of (e.Numeral at text) scope d ≡ literal scope at (numeral_text text) d
value-Numeral at text scope d = ap (λ w. w.operand.value scope d) (expr_lowering-Numeral at text)

pub at-Numeral : (at : At) (text : Name) → at_of (e.Numeral at text) ≡ at
at-Numeral at text = ap (λ w. w.at) (expr_lowering-Numeral at text)

pub key-Numeral : (at : At) (text : Name) → key_of (e.Numeral at text) ≡ numeral_text text
key-Numeral at text = ap (λ w. w.key) (expr_lowering-Numeral at text)

pub reference-Numeral : (at : At) (text : Name) → reference_of (e.Numeral at text) ≡ other
reference-Numeral at text = ap (λ w. w.reference) (expr_lowering-Numeral at text)

expr_lowering-Text : (at : At) (text : Name) → expr_lowering (e.Text at text) ≡ lower_expr (Expr-F.Text at text)
unfolding expr_lowering goal_lines init_lines stmt_lowering declaration_part function_part property_part
expr_lowering-Text at text = ap expr_lowering (sym (e.rolls-Text at text)) ∙ fold-roll-Expr ExprLowering ScopedLines ScopedLines StmtLowering DeclarationPart FunctionPart PropertyPart lower_expr lower_goal lower_init lower_stmt lower_declaration function_head lower_property (Expr-F.Text at text)

pub name-Text : (at : At) (text : Name) → name_of (e.Text at text) ≡ None
name-Text at text = ap (λ w. w.operand.name) (expr_lowering-Text at text)

pub assigns-Text : (at : At) (text : Name) (x : Name) → assigns_of (e.Text at text) x ≡ (false)
assigns-Text at text x = ap (λ w. w.operand.assigns x) (expr_lowering-Text at text)

pub value-Text : (at : At) (text : Name) (scope : Scope) (d : ℕ) → value_of (e.Text at text) scope d ≡ literal scope at (Some text) d
value-Text at text scope d = ap (λ w. w.operand.value scope d) (expr_lowering-Text at text)

pub at-Text : (at : At) (text : Name) → at_of (e.Text at text) ≡ at
at-Text at text = ap (λ w. w.at) (expr_lowering-Text at text)

pub key-Text : (at : At) (text : Name) → key_of (e.Text at text) ≡ Some text
key-Text at text = ap (λ w. w.key) (expr_lowering-Text at text)

pub reference-Text : (at : At) (text : Name) → reference_of (e.Text at text) ≡ other
reference-Text at text = ap (λ w. w.reference) (expr_lowering-Text at text)

expr_lowering-Paren : (at : At) (inner : Expr) → expr_lowering (e.Paren at inner) ≡ lower_expr (Expr-F.Paren at (expr_lowering inner))
unfolding expr_lowering goal_lines init_lines stmt_lowering declaration_part function_part property_part
expr_lowering-Paren at inner = ap expr_lowering (sym (e.rolls-Paren at inner)) ∙ fold-roll-Expr ExprLowering ScopedLines ScopedLines StmtLowering DeclarationPart FunctionPart PropertyPart lower_expr lower_goal lower_init lower_stmt lower_declaration function_head lower_property (Expr-F.Paren at inner)

pub name-Paren : (at : At) (inner : Expr) → name_of (e.Paren at inner) ≡ name_of inner
name-Paren at inner = ap (λ w. w.operand.name) (expr_lowering-Paren at inner)

pub assigns-Paren : (at : At) (inner : Expr) (x : Name) → assigns_of (e.Paren at inner) x ≡ (assigns_of inner x)
assigns-Paren at inner x = ap (λ w. w.operand.assigns x) (expr_lowering-Paren at inner)

pub value-Paren : (at : At) (inner : Expr) (scope : Scope) (d : ℕ) → value_of (e.Paren at inner) scope d ≡ value_of inner scope d
value-Paren at inner scope d = ap (λ w. w.operand.value scope d) (expr_lowering-Paren at inner)

pub at-Paren : (at : At) (inner : Expr) → at_of (e.Paren at inner) ≡ at
at-Paren at inner = ap (λ w. w.at) (expr_lowering-Paren at inner)

pub key-Paren : (at : At) (inner : Expr) → key_of (e.Paren at inner) ≡ key_of inner
key-Paren at inner = ap (λ w. w.key) (expr_lowering-Paren at inner)

pub reference-Paren : (at : At) (inner : Expr) → reference_of (e.Paren at inner) ≡ reference_of inner
reference-Paren at inner = ap (λ w. w.reference) (expr_lowering-Paren at inner)

expr_lowering-Array : (at : At) (es : List Expr) → expr_lowering (e.Array at es) ≡ lower_expr (Expr-F.Array at (map expr_lowering es))
unfolding expr_lowering goal_lines init_lines stmt_lowering declaration_part function_part property_part
expr_lowering-Array at es = ap expr_lowering (sym (e.rolls-Array at es)) ∙ fold-roll-Expr ExprLowering ScopedLines ScopedLines StmtLowering DeclarationPart FunctionPart PropertyPart lower_expr lower_goal lower_init lower_stmt lower_declaration function_head lower_property (Expr-F.Array at es)

pub name-Array : (at : At) (es : List Expr) → name_of (e.Array at es) ≡ None
name-Array at es = ap (λ w. w.operand.name) (expr_lowering-Array at es)

pub assigns-Array : (at : At) (es : List Expr) (x : Name) → assigns_of (e.Array at es) x ≡ (any_assigns (operands_of es) x)
assigns-Array at es x = ap (λ w. w.operand.assigns x) (expr_lowering-Array at es)

pub value-Array : (at : At) (es : List Expr) (scope : Scope) (d : ℕ) → value_of (e.Array at es) scope d ≡ array scope at (operands_of es) d
value-Array at es scope d = ap (λ w. w.operand.value scope d) (expr_lowering-Array at es)

pub at-Array : (at : At) (es : List Expr) → at_of (e.Array at es) ≡ at
at-Array at es = ap (λ w. w.at) (expr_lowering-Array at es)

pub key-Array : (at : At) (es : List Expr) → key_of (e.Array at es) ≡ None
key-Array at es = ap (λ w. w.key) (expr_lowering-Array at es)

pub reference-Array : (at : At) (es : List Expr) → reference_of (e.Array at es) ≡ other
reference-Array at es = ap (λ w. w.reference) (expr_lowering-Array at es)

expr_lowering-Object : (at : At) (ps : List Property) → expr_lowering (e.Object at ps) ≡ lower_expr (Expr-F.Object at (map property_part ps))
unfolding expr_lowering goal_lines init_lines stmt_lowering declaration_part function_part property_part
expr_lowering-Object at ps = ap expr_lowering (sym (e.rolls-Object at ps)) ∙ fold-roll-Expr ExprLowering ScopedLines ScopedLines StmtLowering DeclarationPart FunctionPart PropertyPart lower_expr lower_goal lower_init lower_stmt lower_declaration function_head lower_property (Expr-F.Object at ps)

pub name-Object : (at : At) (ps : List Property) → name_of (e.Object at ps) ≡ None
name-Object at ps = ap (λ w. w.operand.name) (expr_lowering-Object at ps)

pub assigns-Object : (at : At) (ps : List Property) (x : Name) → assigns_of (e.Object at ps) x ≡ (any_property_assigns (map property_part ps) x)
assigns-Object at ps x = ap (λ w. w.operand.assigns x) (expr_lowering-Object at ps)

pub value-Object : (at : At) (ps : List Property) (scope : Scope) (d : ℕ) → value_of (e.Object at ps) scope d ≡ initialiser scope at (map property_part ps) d
value-Object at ps scope d = ap (λ w. w.operand.value scope d) (expr_lowering-Object at ps)

pub at-Object : (at : At) (ps : List Property) → at_of (e.Object at ps) ≡ at
at-Object at ps = ap (λ w. w.at) (expr_lowering-Object at ps)

pub key-Object : (at : At) (ps : List Property) → key_of (e.Object at ps) ≡ None
key-Object at ps = ap (λ w. w.key) (expr_lowering-Object at ps)

pub reference-Object : (at : At) (ps : List Property) → reference_of (e.Object at ps) ≡ other
reference-Object at ps = ap (λ w. w.reference) (expr_lowering-Object at ps)

stmt_lowering-Block : (at : At) (body : List Stmt) → stmt_lowering (s.Block at body) ≡ lower_stmt (Stmt-F.Block at (map stmt_lowering body))
unfolding expr_lowering goal_lines init_lines stmt_lowering declaration_part function_part property_part
stmt_lowering-Block at body = ap stmt_lowering (sym (s.rolls-Block at body)) ∙ fold-roll-Stmt ExprLowering ScopedLines ScopedLines StmtLowering DeclarationPart FunctionPart PropertyPart lower_expr lower_goal lower_init lower_stmt lower_declaration function_head lower_property (Stmt-F.Block at body)

pub lines-Block : (at : At) (body : List Stmt) (scope : Scope) → lines_of_stmt (s.Block at body) scope ≡ sequence (lines_of_stmts body) scope
lines-Block at body scope = ap (λ w. w.lines scope) (stmt_lowering-Block at body)

pub hoisted-Block : (at : At) (body : List Stmt) (scope : Scope) → hoisted_of (s.Block at body) scope ≡ nothing
hoisted-Block at body scope = ap (λ w. w.hoisted scope) (stmt_lowering-Block at body)

stmt_lowering-Var : (at : At) (ds : List Declaration) → stmt_lowering (s.Var at ds) ≡ lower_stmt (Stmt-F.Var at (map declaration_part ds))
unfolding expr_lowering goal_lines init_lines stmt_lowering declaration_part function_part property_part
stmt_lowering-Var at ds = ap stmt_lowering (sym (s.rolls-Var at ds)) ∙ fold-roll-Stmt ExprLowering ScopedLines ScopedLines StmtLowering DeclarationPart FunctionPart PropertyPart lower_expr lower_goal lower_init lower_stmt lower_declaration function_head lower_property (Stmt-F.Var at ds)

pub lines-Var : (at : At) (ds : List Declaration) (scope : Scope) → lines_of_stmt (s.Var at ds) scope ≡ declarations scope at (map declaration_part ds)
lines-Var at ds scope = ap (λ w. w.lines scope) (stmt_lowering-Var at ds)

pub hoisted-Var : (at : At) (ds : List Declaration) (scope : Scope) → hoisted_of (s.Var at ds) scope ≡ nothing
hoisted-Var at ds scope = ap (λ w. w.hoisted scope) (stmt_lowering-Var at ds)

stmt_lowering-Empty : (at : At) → stmt_lowering (s.Empty at) ≡ lower_stmt (Stmt-F.Empty at)
unfolding expr_lowering goal_lines init_lines stmt_lowering declaration_part function_part property_part
stmt_lowering-Empty at = ap stmt_lowering (sym (s.rolls-Empty at)) ∙ fold-roll-Stmt ExprLowering ScopedLines ScopedLines StmtLowering DeclarationPart FunctionPart PropertyPart lower_expr lower_goal lower_init lower_stmt lower_declaration function_head lower_property (Stmt-F.Empty at)

pub lines-Empty : (at : At) (scope : Scope) → lines_of_stmt (s.Empty at) scope ≡ nothing
lines-Empty at scope = ap (λ w. w.lines scope) (stmt_lowering-Empty at)

pub hoisted-Empty : (at : At) (scope : Scope) → hoisted_of (s.Empty at) scope ≡ nothing
hoisted-Empty at scope = ap (λ w. w.hoisted scope) (stmt_lowering-Empty at)

stmt_lowering-Expression : (at : At) (value : Expr) → stmt_lowering (s.Expression at value) ≡ lower_stmt (Stmt-F.Expression at (expr_lowering value))
unfolding expr_lowering goal_lines init_lines stmt_lowering declaration_part function_part property_part
stmt_lowering-Expression at value = ap stmt_lowering (sym (s.rolls-Expression at value)) ∙ fold-roll-Stmt ExprLowering ScopedLines ScopedLines StmtLowering DeclarationPart FunctionPart PropertyPart lower_expr lower_goal lower_init lower_stmt lower_declaration function_head lower_property (Stmt-F.Expression at value)

pub lines-Expression : (at : At) (value : Expr) (scope : Scope) → lines_of_stmt (s.Expression at value) scope ≡ expression scope (operand_of value)
lines-Expression at value scope = ap (λ w. w.lines scope) (stmt_lowering-Expression at value)

pub hoisted-Expression : (at : At) (value : Expr) (scope : Scope) → hoisted_of (s.Expression at value) scope ≡ nothing
hoisted-Expression at value scope = ap (λ w. w.hoisted scope) (stmt_lowering-Expression at value)

stmt_lowering-If : (at : At) (test : Expr) (body : Stmt) → stmt_lowering (s.If at test body) ≡ lower_stmt (Stmt-F.If at (expr_lowering test) (stmt_lowering body))
unfolding expr_lowering goal_lines init_lines stmt_lowering declaration_part function_part property_part
stmt_lowering-If at test body = ap stmt_lowering (sym (s.rolls-If at test body)) ∙ fold-roll-Stmt ExprLowering ScopedLines ScopedLines StmtLowering DeclarationPart FunctionPart PropertyPart lower_expr lower_goal lower_init lower_stmt lower_declaration function_head lower_property (Stmt-F.If at test body)

pub lines-If : (at : At) (test : Expr) (body : Stmt) (scope : Scope) → lines_of_stmt (s.If at test body) scope ≡ if_then scope at (operand_of test) (lines_of_stmt body scope)
lines-If at test body scope = ap (λ w. w.lines scope) (stmt_lowering-If at test body)

pub hoisted-If : (at : At) (test : Expr) (body : Stmt) (scope : Scope) → hoisted_of (s.If at test body) scope ≡ nothing
hoisted-If at test body scope = ap (λ w. w.hoisted scope) (stmt_lowering-If at test body)

stmt_lowering-IfElse : (at : At) (test : Expr) (body : Stmt) (otherwise : Stmt) → stmt_lowering (s.IfElse at test body otherwise) ≡ lower_stmt (Stmt-F.IfElse at (expr_lowering test) (stmt_lowering body) (stmt_lowering otherwise))
unfolding expr_lowering goal_lines init_lines stmt_lowering declaration_part function_part property_part
stmt_lowering-IfElse at test body otherwise = ap stmt_lowering (sym (s.rolls-IfElse at test body otherwise)) ∙ fold-roll-Stmt ExprLowering ScopedLines ScopedLines StmtLowering DeclarationPart FunctionPart PropertyPart lower_expr lower_goal lower_init lower_stmt lower_declaration function_head lower_property (Stmt-F.IfElse at test body otherwise)

pub lines-IfElse : (at : At) (test : Expr) (body : Stmt) (otherwise : Stmt) (scope : Scope) → lines_of_stmt (s.IfElse at test body otherwise) scope ≡ if_else scope at (operand_of test) (lines_of_stmt body scope) (lines_of_stmt otherwise scope)
lines-IfElse at test body otherwise scope = ap (λ w. w.lines scope) (stmt_lowering-IfElse at test body otherwise)

pub hoisted-IfElse : (at : At) (test : Expr) (body : Stmt) (otherwise : Stmt) (scope : Scope) → hoisted_of (s.IfElse at test body otherwise) scope ≡ nothing
hoisted-IfElse at test body otherwise scope = ap (λ w. w.hoisted scope) (stmt_lowering-IfElse at test body otherwise)

stmt_lowering-DoWhile : (at : At) (body : Stmt) (test : Expr) → stmt_lowering (s.DoWhile at body test) ≡ lower_stmt (Stmt-F.DoWhile at (stmt_lowering body) (expr_lowering test))
unfolding expr_lowering goal_lines init_lines stmt_lowering declaration_part function_part property_part
stmt_lowering-DoWhile at body test = ap stmt_lowering (sym (s.rolls-DoWhile at body test)) ∙ fold-roll-Stmt ExprLowering ScopedLines ScopedLines StmtLowering DeclarationPart FunctionPart PropertyPart lower_expr lower_goal lower_init lower_stmt lower_declaration function_head lower_property (Stmt-F.DoWhile at body test)

pub lines-DoWhile : (at : At) (body : Stmt) (test : Expr) (scope : Scope) → lines_of_stmt (s.DoWhile at body test) scope ≡ do_while scope at (lines_of_stmt body scope) (operand_of test)
lines-DoWhile at body test scope = ap (λ w. w.lines scope) (stmt_lowering-DoWhile at body test)

pub hoisted-DoWhile : (at : At) (body : Stmt) (test : Expr) (scope : Scope) → hoisted_of (s.DoWhile at body test) scope ≡ nothing
hoisted-DoWhile at body test scope = ap (λ w. w.hoisted scope) (stmt_lowering-DoWhile at body test)

stmt_lowering-While : (at : At) (test : Expr) (body : Stmt) → stmt_lowering (s.While at test body) ≡ lower_stmt (Stmt-F.While at (expr_lowering test) (stmt_lowering body))
unfolding expr_lowering goal_lines init_lines stmt_lowering declaration_part function_part property_part
stmt_lowering-While at test body = ap stmt_lowering (sym (s.rolls-While at test body)) ∙ fold-roll-Stmt ExprLowering ScopedLines ScopedLines StmtLowering DeclarationPart FunctionPart PropertyPart lower_expr lower_goal lower_init lower_stmt lower_declaration function_head lower_property (Stmt-F.While at test body)

pub lines-While : (at : At) (test : Expr) (body : Stmt) (scope : Scope) → lines_of_stmt (s.While at test body) scope ≡ while_of scope at (operand_of test) (lines_of_stmt body scope)
lines-While at test body scope = ap (λ w. w.lines scope) (stmt_lowering-While at test body)

pub hoisted-While : (at : At) (test : Expr) (body : Stmt) (scope : Scope) → hoisted_of (s.While at test body) scope ≡ nothing
hoisted-While at test body scope = ap (λ w. w.hoisted scope) (stmt_lowering-While at test body)

stmt_lowering-ForIn : (at : At) (goal : Goal) (object : Expr) (body : Stmt) → stmt_lowering (s.ForIn at goal object body) ≡ lower_stmt (Stmt-F.ForIn at (goal_lines goal) (expr_lowering object) (stmt_lowering body))
unfolding expr_lowering goal_lines init_lines stmt_lowering declaration_part function_part property_part
stmt_lowering-ForIn at goal object body = ap stmt_lowering (sym (s.rolls-ForIn at goal object body)) ∙ fold-roll-Stmt ExprLowering ScopedLines ScopedLines StmtLowering DeclarationPart FunctionPart PropertyPart lower_expr lower_goal lower_init lower_stmt lower_declaration function_head lower_property (Stmt-F.ForIn at goal object body)

pub lines-ForIn : (at : At) (goal : Goal) (object : Expr) (body : Stmt) (scope : Scope) → lines_of_stmt (s.ForIn at goal object body) scope ≡ for_in scope at (goal_lines goal scope) (at_of object) (operand_of object) (lines_of_stmt body scope)
lines-ForIn at goal object body scope = ap (λ w. w.lines scope) (stmt_lowering-ForIn at goal object body)

pub hoisted-ForIn : (at : At) (goal : Goal) (object : Expr) (body : Stmt) (scope : Scope) → hoisted_of (s.ForIn at goal object body) scope ≡ nothing
hoisted-ForIn at goal object body scope = ap (λ w. w.hoisted scope) (stmt_lowering-ForIn at goal object body)

stmt_lowering-Continue : (at : At) → stmt_lowering (s.Continue at) ≡ lower_stmt (Stmt-F.Continue at)
unfolding expr_lowering goal_lines init_lines stmt_lowering declaration_part function_part property_part
stmt_lowering-Continue at = ap stmt_lowering (sym (s.rolls-Continue at)) ∙ fold-roll-Stmt ExprLowering ScopedLines ScopedLines StmtLowering DeclarationPart FunctionPart PropertyPart lower_expr lower_goal lower_init lower_stmt lower_declaration function_head lower_property (Stmt-F.Continue at)

pub lines-Continue : (at : At) (scope : Scope) → lines_of_stmt (s.Continue at) scope ≡ leave scope at to.Continue
lines-Continue at scope = ap (λ w. w.lines scope) (stmt_lowering-Continue at)

pub hoisted-Continue : (at : At) (scope : Scope) → hoisted_of (s.Continue at) scope ≡ nothing
hoisted-Continue at scope = ap (λ w. w.hoisted scope) (stmt_lowering-Continue at)

stmt_lowering-Break : (at : At) → stmt_lowering (s.Break at) ≡ lower_stmt (Stmt-F.Break at)
unfolding expr_lowering goal_lines init_lines stmt_lowering declaration_part function_part property_part
stmt_lowering-Break at = ap stmt_lowering (sym (s.rolls-Break at)) ∙ fold-roll-Stmt ExprLowering ScopedLines ScopedLines StmtLowering DeclarationPart FunctionPart PropertyPart lower_expr lower_goal lower_init lower_stmt lower_declaration function_head lower_property (Stmt-F.Break at)

pub lines-Break : (at : At) (scope : Scope) → lines_of_stmt (s.Break at) scope ≡ leave scope at to.Break
lines-Break at scope = ap (λ w. w.lines scope) (stmt_lowering-Break at)

pub hoisted-Break : (at : At) (scope : Scope) → hoisted_of (s.Break at) scope ≡ nothing
hoisted-Break at scope = ap (λ w. w.hoisted scope) (stmt_lowering-Break at)

stmt_lowering-Return : (at : At) → stmt_lowering (s.Return at) ≡ lower_stmt (Stmt-F.Return at)
unfolding expr_lowering goal_lines init_lines stmt_lowering declaration_part function_part property_part
stmt_lowering-Return at = ap stmt_lowering (sym (s.rolls-Return at)) ∙ fold-roll-Stmt ExprLowering ScopedLines ScopedLines StmtLowering DeclarationPart FunctionPart PropertyPart lower_expr lower_goal lower_init lower_stmt lower_declaration function_head lower_property (Stmt-F.Return at)

pub lines-Return : (at : At) (scope : Scope) → lines_of_stmt (s.Return at) scope ≡ return_undefined scope at
lines-Return at scope = ap (λ w. w.lines scope) (stmt_lowering-Return at)

pub hoisted-Return : (at : At) (scope : Scope) → hoisted_of (s.Return at) scope ≡ nothing
hoisted-Return at scope = ap (λ w. w.hoisted scope) (stmt_lowering-Return at)

stmt_lowering-ReturnValue : (at : At) (value : Expr) → stmt_lowering (s.ReturnValue at value) ≡ lower_stmt (Stmt-F.ReturnValue at (expr_lowering value))
unfolding expr_lowering goal_lines init_lines stmt_lowering declaration_part function_part property_part
stmt_lowering-ReturnValue at value = ap stmt_lowering (sym (s.rolls-ReturnValue at value)) ∙ fold-roll-Stmt ExprLowering ScopedLines ScopedLines StmtLowering DeclarationPart FunctionPart PropertyPart lower_expr lower_goal lower_init lower_stmt lower_declaration function_head lower_property (Stmt-F.ReturnValue at value)

pub lines-ReturnValue : (at : At) (value : Expr) (scope : Scope) → lines_of_stmt (s.ReturnValue at value) scope ≡ return_value scope at (operand_of value)
lines-ReturnValue at value scope = ap (λ w. w.lines scope) (stmt_lowering-ReturnValue at value)

pub hoisted-ReturnValue : (at : At) (value : Expr) (scope : Scope) → hoisted_of (s.ReturnValue at value) scope ≡ nothing
hoisted-ReturnValue at value scope = ap (λ w. w.hoisted scope) (stmt_lowering-ReturnValue at value)

stmt_lowering-Throw : (at : At) (value : Expr) → stmt_lowering (s.Throw at value) ≡ lower_stmt (Stmt-F.Throw at (expr_lowering value))
unfolding expr_lowering goal_lines init_lines stmt_lowering declaration_part function_part property_part
stmt_lowering-Throw at value = ap stmt_lowering (sym (s.rolls-Throw at value)) ∙ fold-roll-Stmt ExprLowering ScopedLines ScopedLines StmtLowering DeclarationPart FunctionPart PropertyPart lower_expr lower_goal lower_init lower_stmt lower_declaration function_head lower_property (Stmt-F.Throw at value)

pub lines-Throw : (at : At) (value : Expr) (scope : Scope) → lines_of_stmt (s.Throw at value) scope ≡ throw_value scope at (operand_of value)
lines-Throw at value scope = ap (λ w. w.lines scope) (stmt_lowering-Throw at value)

pub hoisted-Throw : (at : At) (value : Expr) (scope : Scope) → hoisted_of (s.Throw at value) scope ≡ nothing
hoisted-Throw at value scope = ap (λ w. w.hoisted scope) (stmt_lowering-Throw at value)

stmt_lowering-FunctionDeclaration : (f : Function) → stmt_lowering (s.FunctionDeclaration f) ≡ lower_stmt (Stmt-F.FunctionDeclaration (record { at = keyword_at f; name = f.name }))
unfolding expr_lowering goal_lines init_lines stmt_lowering declaration_part function_part property_part
stmt_lowering-FunctionDeclaration f = ap stmt_lowering (sym (s.rolls-FunctionDeclaration f)) ∙ fold-roll-Stmt ExprLowering ScopedLines ScopedLines StmtLowering DeclarationPart FunctionPart PropertyPart lower_expr lower_goal lower_init lower_stmt lower_declaration function_head lower_property (Stmt-F.FunctionDeclaration f) ∙ ap (λ w. lower_stmt (Stmt-F.FunctionDeclaration w)) (function_part-is f)

pub lines-FunctionDeclaration : (f : Function) (scope : Scope) → lines_of_stmt (s.FunctionDeclaration f) scope ≡ nothing
lines-FunctionDeclaration f scope = ap (λ w. w.lines scope) (stmt_lowering-FunctionDeclaration f)

pub hoisted-FunctionDeclaration : (f : Function) (scope : Scope) → hoisted_of (s.FunctionDeclaration f) scope ≡ hoisted_function scope (keyword_at f) f.name
hoisted-FunctionDeclaration f scope = ap (λ w. w.hoisted scope) (stmt_lowering-FunctionDeclaration f)

stmt_lowering-For : (at : At) (init : Init) (test : Option Expr) (update : Option Expr) (body : Stmt) → stmt_lowering (s.For at init test update body) ≡ lower_stmt (Stmt-F.For at (init_lines init) (option_map expr_lowering test) (option_map expr_lowering update) (stmt_lowering body))
unfolding expr_lowering goal_lines init_lines stmt_lowering declaration_part function_part property_part
stmt_lowering-For at init None None body = ap stmt_lowering (sym (s.rolls-For at init None None body)) ∙ fold-roll-Stmt ExprLowering ScopedLines ScopedLines StmtLowering DeclarationPart FunctionPart PropertyPart lower_expr lower_goal lower_init lower_stmt lower_declaration function_head lower_property (Stmt-F.For at init None None body)
stmt_lowering-For at init None (Some y) body = ap stmt_lowering (sym (s.rolls-For at init None (Some y) body)) ∙ fold-roll-Stmt ExprLowering ScopedLines ScopedLines StmtLowering DeclarationPart FunctionPart PropertyPart lower_expr lower_goal lower_init lower_stmt lower_declaration function_head lower_property (Stmt-F.For at init None (Some y) body)
stmt_lowering-For at init (Some x) None body = ap stmt_lowering (sym (s.rolls-For at init (Some x) None body)) ∙ fold-roll-Stmt ExprLowering ScopedLines ScopedLines StmtLowering DeclarationPart FunctionPart PropertyPart lower_expr lower_goal lower_init lower_stmt lower_declaration function_head lower_property (Stmt-F.For at init (Some x) None body)
stmt_lowering-For at init (Some x) (Some y) body = ap stmt_lowering (sym (s.rolls-For at init (Some x) (Some y) body)) ∙ fold-roll-Stmt ExprLowering ScopedLines ScopedLines StmtLowering DeclarationPart FunctionPart PropertyPart lower_expr lower_goal lower_init lower_stmt lower_declaration function_head lower_property (Stmt-F.For at init (Some x) (Some y) body)

operand_mapped : (t : Option Expr) → option_map (λ e. e.operand) (option_map expr_lowering t) ≡ option_map (λ e. operand_of e) t
operand_mapped None = refl
operand_mapped (Some t) = refl

pub lines-For : (at : At) (init : Init) (test : Option Expr) (update : Option Expr) (body : Stmt) (scope : Scope) → lines_of_stmt (s.For at init test update body) scope ≡ for_of scope at (init_lines init scope) (option_map (λ e. operand_of e) test) (option_map (λ e. operand_of e) update) (lines_of_stmt body scope)
lines-For at init test update body scope = ap (λ w. w.lines scope) (stmt_lowering-For at init test update body)
    ∙ ap (λ t. for_of scope at (init_lines init scope) t (option_map (λ e. e.operand) (option_map expr_lowering update)) (lines_of_stmt body scope)) (operand_mapped test)
    ∙ ap (λ t. for_of scope at (init_lines init scope) (option_map (λ e. operand_of e) test) t (lines_of_stmt body scope)) (operand_mapped update)

pub hoisted-For : (at : At) (init : Init) (test : Option Expr) (update : Option Expr) (body : Stmt) (scope : Scope) → hoisted_of (s.For at init test update body) scope ≡ nothing
hoisted-For at init test update body scope = ap (λ w. w.hoisted scope) (stmt_lowering-For at init test update body)

init_is-Absent : init_lines i.Absent ≡ lower_init Init-F.Absent
unfolding expr_lowering goal_lines init_lines stmt_lowering declaration_part function_part property_part
init_is-Absent = ap init_lines (sym i.rolls-Absent) ∙ fold-roll-Init ExprLowering ScopedLines ScopedLines StmtLowering DeclarationPart FunctionPart PropertyPart lower_expr lower_goal lower_init lower_stmt lower_declaration function_head lower_property Init-F.Absent

pub init-Absent : (scope : Scope) → init_lines i.Absent scope ≡ nothing
init-Absent scope = ap (λ w. w scope) init_is-Absent

init_is-Declarations : (at : At) (ds : List Declaration) → init_lines (i.Declarations at ds) ≡ lower_init (Init-F.Declarations at (map declaration_part ds))
unfolding expr_lowering goal_lines init_lines stmt_lowering declaration_part function_part property_part
init_is-Declarations at ds = ap init_lines (sym (i.rolls-Declarations at ds)) ∙ fold-roll-Init ExprLowering ScopedLines ScopedLines StmtLowering DeclarationPart FunctionPart PropertyPart lower_expr lower_goal lower_init lower_stmt lower_declaration function_head lower_property (Init-F.Declarations at ds)

pub init-Declarations : (at : At) (ds : List Declaration) (scope : Scope) → init_lines (i.Declarations at ds) scope ≡ declarations scope at (map declaration_part ds)
init-Declarations at ds scope = ap (λ w. w scope) (init_is-Declarations at ds)

init_is-Initial : (value : Expr) → init_lines (i.Initial value) ≡ lower_init (Init-F.Initial (expr_lowering value))
unfolding expr_lowering goal_lines init_lines stmt_lowering declaration_part function_part property_part
init_is-Initial value = ap init_lines (sym (i.rolls-Initial value)) ∙ fold-roll-Init ExprLowering ScopedLines ScopedLines StmtLowering DeclarationPart FunctionPart PropertyPart lower_expr lower_goal lower_init lower_stmt lower_declaration function_head lower_property (Init-F.Initial value)

pub init-Initial : (value : Expr) (scope : Scope) → init_lines (i.Initial value) scope ≡ expression scope (operand_of value)
init-Initial value scope = ap (λ w. w scope) (init_is-Initial value)

goal_is-Variable : (at : At) (name_at : At) (name : Name) → goal_lines (g.Variable at name_at name) ≡ lower_goal (Goal-F.Variable at name_at name)
unfolding expr_lowering goal_lines init_lines stmt_lowering declaration_part function_part property_part
goal_is-Variable at name_at name = ap goal_lines (sym (g.rolls-Variable at name_at name)) ∙ fold-roll-Goal ExprLowering ScopedLines ScopedLines StmtLowering DeclarationPart FunctionPart PropertyPart lower_expr lower_goal lower_init lower_stmt lower_declaration function_head lower_property (Goal-F.Variable at name_at name)

pub goal-Variable : (at : At) (name_at : At) (name : Name) (scope : Scope) → goal_lines (g.Variable at name_at name) scope ≡ store_goal scope at name
goal-Variable at name_at name scope = ap (λ w. w scope) (goal_is-Variable at name_at name)

goal_is-Target : (value : Expr) → goal_lines (g.Target value) ≡ lower_goal (Goal-F.Target (expr_lowering value))
unfolding expr_lowering goal_lines init_lines stmt_lowering declaration_part function_part property_part
goal_is-Target value = ap goal_lines (sym (g.rolls-Target value)) ∙ fold-roll-Goal ExprLowering ScopedLines ScopedLines StmtLowering DeclarationPart FunctionPart PropertyPart lower_expr lower_goal lower_init lower_stmt lower_declaration function_head lower_property (Goal-F.Target value)

pub goal-Target : (value : Expr) (scope : Scope) → goal_lines (g.Target value) scope ≡ goal_of scope (at_of value) (reference_of value)
goal-Target value scope = ap (λ w. w scope) (goal_is-Target value)
