-- What each form of expression and of statement gives, from what its parts give: one case for each form.
use Rattle.std.specs.Prelude.{ℕ, Bool, true, false, ◌||◌, List, [], ◌∷◌, map, codes, Option, Some, None, option_map}
use Rattle.std.specs.Str.{bytes_eq}
use Rattle.mdg_tree.specs.declared.tree.At.{At}
use Rattle.mdg_tree.specs.declared.tree.Function.{Function}
use Rattle.mdg_tree.specs.Views.{key_name}
use Rattle.mdg_tree.specs.declared.tree.Expr.TheVariants as e
use Rattle.mdg_tree.specs.declared.tree.Expr.TheOpen.{Expr-F, Goal-F, Init-F, Stmt-F, Declaration-F, Function-F, Property-F}
use Rattle.mdg_lower.specs.declared.draft.Label.TheVariants as to
use Rattle.mdg_lower.specs.declared.scope.Scope.{Scope}
use Rattle.mdg_lower.specs.Lookup.{Name}
use Rattle.mdg_lower.specs.Columns.{is_plain}
use Rattle.mdg_lower.specs.Builder.{Lines, ◌>>◌, nothing}
use Rattle.mdg_lower.specs.Operands.{Operand, Reference, named, member, keyed, other, PropertyPart, any_assigns, any_property_assigns}
use Rattle.mdg_lower.specs.Instructions.{literal, load_name, function_value}
use Rattle.mdg_lower.specs.Access.{get, get_at, call_of, plain_call}
use Rattle.mdg_lower.specs.Operators.{binary_of, conditional, unary_of}
use Rattle.mdg_lower.specs.Assignments.{assigned_with, prefix_of, postfix_of}
use Rattle.mdg_lower.specs.Initialisers.{comma, array, initialiser}
use Rattle.mdg_lower.specs.Statements.{DeclarationPart, FunctionPart, expression, declarations, if_then, if_else, do_while, while_of, for_of, for_in, goal_of, leave, return_undefined, return_value, throw_value, hoisted_function, store_goal}

abbrev pub ScopedLines : Type 0
ScopedLines = Scope → Lines

-- an expression
pub record ExprLowering : Type 0 where
  -- what it is as a part of others
  pub operand : Operand
  -- where its first token stands
  pub at : At
  -- the property name that it spells as a key
  pub key : Option Name
  -- what it is as a target or as a callee
  pub reference : Reference

-- a statement
pub record StmtLowering : Type 0 where
  -- what it gives in its place
  pub lines : ScopedLines
  -- what it gives at the start of the function around it
  pub hoisted : ScopedLines

abbrev pub unhoisted : ScopedLines → StmtLowering
unhoisted lines = record { lines = lines; hoisted = λ scope. nothing }

abbrev pub operands : List ExprLowering → List Operand
operands = map (λ e. e.operand)

abbrev pub sequence : List ScopedLines → ScopedLines
sequence [] scope = nothing
sequence (one ∷ rest) scope = one scope >> sequence rest scope

-- a name, or a part of an expression that is assigned, assigns
abbrev pub assigned_by : Reference → Name → Bool
assigned_by (named at name) x = bytes_eq name x
assigned_by (member e p) x = e.assigns x
assigned_by (keyed e key) x = e.assigns x || key.assigns x
assigned_by other x = false

-- a numeral that is no plain one has no text
abbrev pub text_if : Bool → Name → Option Name
text_if true text = Some text
text_if false text = None

abbrev pub numeral_text : Name → Option Name
numeral_text text = text_if (is_plain text) text

-- e[k], whose key may be a property name that is spelled
abbrev pub index_reference : Option Name → Operand → Operand → Reference
index_reference None e key = keyed e key
index_reference (Some p) e key = member e p

abbrev pub index_value : Scope → At → Option Name → Operand → Operand → ℕ → Lines
index_value scope at None e key d = get_at scope at e key d
index_value scope at (Some p) e key d = get scope at e p d

-- where the keyword of a function stands
abbrev pub keyword_at : Function → At
keyword_at f = record { line = f.line; offset = f.offset }

-- a value that is no name, no reference and no key: what it assigns, and the lines of its value
abbrev pub computed : At → (Name → Bool) → (Scope → ℕ → Lines) → ExprLowering
computed at assigns value = record {
  operand = record { name = None; assigns = assigns; value = value };
  at = at;
  key = None;
  reference = other;
}

-- a literal that spells a property name as a key, where it has this text
abbrev pub spelled : At → Option Name → ExprLowering
spelled at text = record {
  operand = record { name = None; assigns = λ x. false; value = λ scope d. literal scope at text d };
  at = at;
  key = text;
  reference = other;
}

-- One case for each form.
abbrev pub lower_expr : Expr-F ExprLowering ScopedLines ScopedLines StmtLowering DeclarationPart FunctionPart PropertyPart → ExprLowering
lower_expr (Expr-F.Comma at es) =
    computed at (λ x. any_assigns (operands es) x) (λ scope d. comma scope (operands es) d)
lower_expr (Expr-F.Assign at op target value) =
    computed at (λ x. assigned_by target.reference x || value.operand.assigns x)
    (λ scope d. assigned_with scope at op target.reference value.operand d)
lower_expr (Expr-F.Conditional at test chosen otherwise) =
    computed at (λ x. test.operand.assigns x || (chosen.operand.assigns x || otherwise.operand.assigns x))
    (λ scope d. conditional scope at test.operand chosen.operand otherwise.operand d)
lower_expr (Expr-F.Binary at op left right) =
    computed at (λ x. left.operand.assigns x || right.operand.assigns x)
    (λ scope d. binary_of scope at op left.operand right.operand d)
lower_expr (Expr-F.Unary at op value) =
    computed at (λ x. value.operand.assigns x) (λ scope d. unary_of scope at op value.reference value.operand d)
lower_expr (Expr-F.Prefix at step target) =
    computed at (λ x. assigned_by target.reference x) (λ scope d. prefix_of scope at target.reference target.operand d)
lower_expr (Expr-F.Postfix at step target) =
    computed at (λ x. assigned_by target.reference x) (λ scope d. postfix_of scope at target.reference target.operand d)
lower_expr (Expr-F.New at callee) =
    computed at (λ x. callee.operand.assigns x) (λ scope d. plain_call scope at callee.operand [] d)
lower_expr (Expr-F.NewWithArguments at callee es) =
    computed at (λ x. callee.operand.assigns x || any_assigns (operands es) x)
    (λ scope d. plain_call scope at callee.operand (operands es) d)
lower_expr (Expr-F.Call at callee es) =
    computed at (λ x. callee.operand.assigns x || any_assigns (operands es) x)
    (λ scope d. call_of scope at callee.reference callee.operand (operands es) d)
lower_expr (Expr-F.Index at object key) = record {
  operand = record {
    name = None;
    assigns = λ x. object.operand.assigns x || key.operand.assigns x;
    value = λ scope d. index_value scope at key.key object.operand key.operand d;
  };
  at = at;
  key = None;
  reference = index_reference key.key object.operand key.operand;
}
lower_expr (Expr-F.Member at object name) = record {
  operand = record {
    name = None;
    assigns = λ x. object.operand.assigns x;
    value = λ scope d. get scope at object.operand name d;
  };
  at = at;
  key = None;
  reference = member object.operand name;
}
lower_expr (Expr-F.FunctionExpression f) = computed f.at (λ x. false) (λ scope d. function_value scope f.at f.at d)
lower_expr (Expr-F.Name at name) = record {
  operand = record {
    name = Some name;
    assigns = λ x. false;
    value = λ scope d. load_name scope at name d;
  };
  at = at;
  key = None;
  reference = named at name;
}
lower_expr (Expr-F.Null at) = computed at (λ x. false) (λ scope d. literal scope at (Some (codes "null")) d)
lower_expr (Expr-F.True at) = computed at (λ x. false) (λ scope d. literal scope at (Some (codes "true")) d)
lower_expr (Expr-F.False at) = computed at (λ x. false) (λ scope d. literal scope at (Some (codes "false")) d)
lower_expr (Expr-F.Numeral at text) = spelled at (numeral_text text)
lower_expr (Expr-F.Text at text) = spelled at (Some text)
lower_expr (Expr-F.Paren at inner) = record {
  operand = inner.operand;
  at = at;
  key = inner.key;
  reference = inner.reference;
}
lower_expr (Expr-F.Array at es) =
    computed at (λ x. any_assigns (operands es) x) (λ scope d. array scope at (operands es) d)
lower_expr (Expr-F.Object at ps) = computed at (λ x. any_property_assigns ps x) (λ scope d. initialiser scope at ps d)

abbrev pub lower_stmt : Stmt-F ExprLowering ScopedLines ScopedLines StmtLowering DeclarationPart FunctionPart PropertyPart → StmtLowering
lower_stmt (Stmt-F.Block at body) = unhoisted (λ scope. sequence (map (λ a. a.lines) body) scope)
lower_stmt (Stmt-F.Var at ds) = unhoisted (λ scope. declarations scope at ds)
lower_stmt (Stmt-F.Empty at) = unhoisted (λ scope. nothing)
lower_stmt (Stmt-F.Expression at value) = unhoisted (λ scope. expression scope value.operand)
lower_stmt (Stmt-F.If at test body) = unhoisted (λ scope. if_then scope at test.operand (body.lines scope))
lower_stmt (Stmt-F.IfElse at test body otherwise) =
    unhoisted (λ scope. if_else scope at test.operand (body.lines scope) (otherwise.lines scope))
lower_stmt (Stmt-F.DoWhile at body test) = unhoisted (λ scope. do_while scope at (body.lines scope) test.operand)
lower_stmt (Stmt-F.While at test body) = unhoisted (λ scope. while_of scope at test.operand (body.lines scope))
lower_stmt (Stmt-F.ForIn at goal object body) =
    unhoisted (λ scope. for_in scope at (goal scope) object.at object.operand (body.lines scope))
lower_stmt (Stmt-F.Continue at) = unhoisted (λ scope. leave scope at to.Continue)
lower_stmt (Stmt-F.Break at) = unhoisted (λ scope. leave scope at to.Break)
lower_stmt (Stmt-F.Return at) = unhoisted (λ scope. return_undefined scope at)
lower_stmt (Stmt-F.ReturnValue at value) = unhoisted (λ scope. return_value scope at value.operand)
lower_stmt (Stmt-F.Throw at value) = unhoisted (λ scope. throw_value scope at value.operand)
lower_stmt (Stmt-F.FunctionDeclaration f) = record {
  lines = λ scope. nothing;
  hoisted = λ scope. hoisted_function scope f.at f.name;
}
lower_stmt (Stmt-F.For at init test update body) =
    unhoisted
    (λ scope. for_of scope at (init scope) (option_map (λ e. e.operand) test) (option_map (λ e. e.operand) update) (body.lines scope))

abbrev pub lower_init : Init-F ExprLowering ScopedLines ScopedLines StmtLowering DeclarationPart FunctionPart PropertyPart → ScopedLines
lower_init Init-F.Absent scope = nothing
lower_init (Init-F.Declarations at ds) scope = declarations scope at ds
lower_init (Init-F.Initial value) scope = expression scope value.operand

abbrev pub lower_goal : Goal-F ExprLowering ScopedLines ScopedLines StmtLowering DeclarationPart FunctionPart PropertyPart → ScopedLines
lower_goal (Goal-F.Variable at name_at name) scope = store_goal scope at name
lower_goal (Goal-F.Target value) scope = goal_of scope value.at value.reference

abbrev pub lower_property : Property-F ExprLowering ScopedLines ScopedLines StmtLowering DeclarationPart FunctionPart PropertyPart → PropertyPart
lower_property x = record { key = key_name x.key; operand = x.value.operand }

abbrev pub function_head : Function-F ExprLowering ScopedLines ScopedLines StmtLowering DeclarationPart FunctionPart PropertyPart → FunctionPart
function_head f = record { at = record { line = f.line; offset = f.offset }; name = f.name }

abbrev pub lower_declaration : Declaration-F ExprLowering ScopedLines ScopedLines StmtLowering DeclarationPart FunctionPart PropertyPart → DeclarationPart
lower_declaration d = record { name = d.name; value = option_map (λ e. e.operand) d.value }
