-- Serves only the proof: the rules of the reference reader where it reads the parts itself, at a depth.
use Rattle.std.specs.Prelude.{ℕ, Bool, List, Option}
use Rattle.mdg_text.specs.declared.token.Token.{Token}
use Rattle.mdg_tree.specs.declared.operator.AssignOperator.{AssignOperator}
use Rattle.mdg_tree.specs.declared.operator.BinaryOperator.{BinaryOperator}
use Rattle.mdg_tree.specs.declared.operator.Step.{Step}
use Rattle.mdg_tree.specs.declared.operator.UnaryOperator.{UnaryOperator}
use Rattle.mdg_tree.specs.declared.tree.Declaration.{Declaration}
use Rattle.mdg_tree.specs.declared.tree.Expr.{Expr}
use Rattle.mdg_tree.specs.declared.tree.Function.{Function}
use Rattle.mdg_tree.specs.declared.tree.Goal.{Goal}
use Rattle.mdg_tree.specs.declared.tree.Init.{Init}
use Rattle.mdg_tree.specs.declared.tree.Property.{Property}
use Rattle.mdg_tree.specs.declared.tree.Stmt.{Stmt}
use Rattle.mdg_read.specs.declared.production.Production.{Production}
use Rattle.mdg_read.specs.declared.parsed.Parsed.{Parsed}
use Rattle.mdg_read.specs.declared.terminal.Terminal.{Terminal}
use Rattle.mdg_read.specs.ReferenceOperands as operands
use Rattle.mdg_read.specs.ReferenceExpressions as expressions
use Rattle.mdg_read.specs.ReferenceStatements as statements
use Rattle.mdg_read.specs.Reference.{expr_at, stmt_at}

module _ (ts : List Token) (n : ℕ) where
  abbrev pub items_from : Bool → ℕ → List Stmt → ℕ → ℕ → Option (Parsed (List Stmt))
  items_from = operands.items_from ts n (expr_at ts n) (stmt_at ts n)

  abbrev pub items : Bool → ℕ → Option (Parsed (List Stmt))
  items = operands.items ts n (expr_at ts n) (stmt_at ts n)

  abbrev pub paren : ℕ → Option (Parsed Expr)
  paren = operands.paren ts n (expr_at ts n) (stmt_at ts n)

  abbrev pub sequence_from : Bool → ℕ → List Expr → ℕ → ℕ → Option (Parsed (List Expr))
  sequence_from = operands.sequence_from ts n (expr_at ts n) (stmt_at ts n)

  abbrev pub some_arguments : ℕ → Option (Parsed (List Expr))
  some_arguments = operands.some_arguments ts n (expr_at ts n) (stmt_at ts n)

  abbrev pub arguments : ℕ → Option (Parsed (List Expr))
  arguments = operands.arguments ts n (expr_at ts n) (stmt_at ts n)

  abbrev pub elements_from : ℕ → List Expr → ℕ → ℕ → Option (Parsed (List Expr))
  elements_from = operands.elements_from ts n (expr_at ts n) (stmt_at ts n)

  abbrev pub array : ℕ → Option (Parsed Expr)
  array = operands.array ts n (expr_at ts n) (stmt_at ts n)

  abbrev pub property : ℕ → Option (Parsed Property)
  property = operands.property ts n (expr_at ts n) (stmt_at ts n)

  abbrev pub properties_from : ℕ → List Property → ℕ → ℕ → Option (Parsed (List Property))
  properties_from = operands.properties_from ts n (expr_at ts n) (stmt_at ts n)

  abbrev pub object : ℕ → Option (Parsed Expr)
  object = operands.object ts n (expr_at ts n) (stmt_at ts n)

  abbrev pub primary : ℕ → Option (Parsed Expr)
  primary = operands.primary ts n (expr_at ts n) (stmt_at ts n)

  abbrev pub function_from : Option (List ℕ) → ℕ → ℕ → ℕ → Option (Parsed Function)
  function_from = operands.function_from ts n (expr_at ts n) (stmt_at ts n)

  abbrev pub named_function : ℕ → Option (Parsed Function)
  named_function = operands.named_function ts n (expr_at ts n) (stmt_at ts n)

  abbrev pub any_function : ℕ → Option (Parsed Function)
  any_function = operands.any_function ts n (expr_at ts n) (stmt_at ts n)

  abbrev pub function : ℕ → Option (Parsed Expr)
  function = operands.function ts n (expr_at ts n) (stmt_at ts n)

  abbrev pub member : ℕ → Parsed Expr → Option (Parsed Expr)
  member = operands.member ts n (expr_at ts n) (stmt_at ts n)

  abbrev pub index : ℕ → Parsed Expr → Option (Parsed Expr)
  index = operands.index ts n (expr_at ts n) (stmt_at ts n)

  abbrev pub call : ℕ → Parsed Expr → Option (Parsed Expr)
  call = operands.call ts n (expr_at ts n) (stmt_at ts n)

  abbrev pub link : ℕ → Parsed Expr → Option (Parsed Expr)
  link = operands.link ts n (expr_at ts n) (stmt_at ts n)

  abbrev pub links_from : ℕ → ℕ → Parsed Expr → Option (Parsed Expr)
  links_from = operands.links_from ts n (expr_at ts n) (stmt_at ts n)

  abbrev pub built_with : ℕ → Parsed Expr → Option (Parsed Expr)
  built_with = operands.built_with ts n (expr_at ts n) (stmt_at ts n)

  abbrev pub built : ℕ → Option (Parsed Expr)
  built = operands.built ts n (expr_at ts n) (stmt_at ts n)

  abbrev pub head_by : Terminal → ℕ → Option (Parsed Expr)
  head_by = operands.head_by ts n (expr_at ts n) (stmt_at ts n)

  abbrev pub members_from : ℕ → ℕ → Parsed Expr → Option (Parsed Expr)
  members_from = operands.members_from ts n (expr_at ts n) (stmt_at ts n)

  abbrev pub operand : ℕ → Option (Parsed Expr)
  operand = operands.operand ts n (expr_at ts n) (stmt_at ts n)

  abbrev pub left_hand_side : ℕ → Option (Parsed Expr)
  left_hand_side = operands.left_hand_side ts n (expr_at ts n) (stmt_at ts n)

  abbrev pub stepped : ℕ → Step → Parsed Expr → Option (Parsed Expr)
  stepped = expressions.stepped ts n (expr_at ts n) (stmt_at ts n)

  abbrev pub postfix : ℕ → Option (Parsed Expr)
  postfix = expressions.postfix ts n (expr_at ts n) (stmt_at ts n)

  abbrev pub unary_value : UnaryOperator → ℕ → Option (Parsed Expr)
  unary_value = expressions.unary_value ts n (expr_at ts n) (stmt_at ts n)

  abbrev pub prefix : Step → ℕ → Option (Parsed Expr)
  prefix = expressions.prefix ts n (expr_at ts n) (stmt_at ts n)

  abbrev pub unary : ℕ → Option (Parsed Expr)
  unary = expressions.unary ts n (expr_at ts n) (stmt_at ts n)

  abbrev pub operation : Bool → ℕ → BinaryOperator → Parsed Expr → Option (Parsed Expr)
  operation = expressions.operation ts n (expr_at ts n) (stmt_at ts n)

  abbrev pub climb_from : Bool → ℕ → ℕ → ℕ → Parsed Expr → Option (Parsed Expr)
  climb_from = expressions.climb_from ts n (expr_at ts n) (stmt_at ts n)

  abbrev pub climb : Bool → ℕ → ℕ → Option (Parsed Expr)
  climb = expressions.climb ts n (expr_at ts n) (stmt_at ts n)

  abbrev pub choice : Bool → ℕ → Parsed Expr → Option (Parsed Expr)
  choice = expressions.choice ts n (expr_at ts n) (stmt_at ts n)

  abbrev pub conditional : Bool → ℕ → Option (Parsed Expr)
  conditional = expressions.conditional ts n (expr_at ts n) (stmt_at ts n)

  abbrev pub assigned : Bool → ℕ → AssignOperator → Parsed Expr → Option (Parsed Expr)
  assigned = expressions.assigned ts n (expr_at ts n) (stmt_at ts n)

  abbrev pub assignment : Bool → ℕ → Option (Parsed Expr)
  assignment = expressions.assignment ts n (expr_at ts n) (stmt_at ts n)

  abbrev pub commas : Bool → ℕ → Parsed Expr → Option (Parsed Expr)
  commas = expressions.commas ts n (expr_at ts n) (stmt_at ts n)

  abbrev pub comma_expression : Bool → ℕ → Option (Parsed Expr)
  comma_expression = expressions.comma_expression ts n (expr_at ts n) (stmt_at ts n)

  abbrev pub any_expression : Production → ℕ → Option (Parsed Expr)
  any_expression = expressions.any_expression ts n (expr_at ts n) (stmt_at ts n)

  abbrev pub declared_function : ℕ → Option (Parsed Stmt)
  declared_function = statements.declared_function ts n (expr_at ts n) (stmt_at ts n)

  abbrev pub block : ℕ → Option (Parsed Stmt)
  block = statements.block ts n (expr_at ts n) (stmt_at ts n)

  abbrev pub declaration : Bool → ℕ → Option (Parsed Declaration)
  declaration = statements.declaration ts n (expr_at ts n) (stmt_at ts n)

  abbrev pub declarations_from : Bool → ℕ → List Declaration → ℕ → ℕ → Option (Parsed (List Declaration))
  declarations_from = statements.declarations_from ts n (expr_at ts n) (stmt_at ts n)

  abbrev pub declarations : Bool → ℕ → Option (Parsed (List Declaration))
  declarations = statements.declarations ts n (expr_at ts n) (stmt_at ts n)

  abbrev pub var_statement : ℕ → Option (Parsed Stmt)
  var_statement = statements.var_statement ts n (expr_at ts n) (stmt_at ts n)

  abbrev pub expression : ℕ → Option (Parsed Stmt)
  expression = statements.expression ts n (expr_at ts n) (stmt_at ts n)

  abbrev pub otherwise : ℕ → Parsed Expr → Parsed Stmt → Option (Parsed Stmt)
  otherwise = statements.otherwise ts n (expr_at ts n) (stmt_at ts n)

  abbrev pub test : ℕ → Option (Parsed Expr)
  test = statements.condition ts n (expr_at ts n) (stmt_at ts n)

  abbrev pub if_statement : ℕ → Option (Parsed Stmt)
  if_statement = statements.if_statement ts n (expr_at ts n) (stmt_at ts n)

  abbrev pub do_while : ℕ → Option (Parsed Stmt)
  do_while = statements.do_while ts n (expr_at ts n) (stmt_at ts n)

  abbrev pub while_statement : ℕ → Option (Parsed Stmt)
  while_statement = statements.while_statement ts n (expr_at ts n) (stmt_at ts n)

  abbrev pub optional_expression : Terminal → ℕ → Option (Parsed (Option Expr))
  optional_expression = statements.optional_expression ts n (expr_at ts n) (stmt_at ts n)

  abbrev pub for_rest : ℕ → Parsed Init → Option (Parsed Stmt)
  for_rest = statements.for_rest ts n (expr_at ts n) (stmt_at ts n)

  abbrev pub for_in_rest : ℕ → Parsed Goal → Option (Parsed Stmt)
  for_in_rest = statements.for_in_rest ts n (expr_at ts n) (stmt_at ts n)

  abbrev pub for_var : ℕ → ℕ → Option (Parsed Stmt)
  for_var = statements.for_var ts n (expr_at ts n) (stmt_at ts n)

  abbrev pub for_left : ℕ → Parsed Expr → Option (Parsed Stmt)
  for_left = statements.for_left ts n (expr_at ts n) (stmt_at ts n)

  abbrev pub for_expression : ℕ → ℕ → Option (Parsed Stmt)
  for_expression = statements.for_expression ts n (expr_at ts n) (stmt_at ts n)

  abbrev pub for_statement : ℕ → Option (Parsed Stmt)
  for_statement = statements.for_statement ts n (expr_at ts n) (stmt_at ts n)

  abbrev pub continue_statement : ℕ → Option (Parsed Stmt)
  continue_statement = statements.continue_statement ts n (expr_at ts n) (stmt_at ts n)

  abbrev pub break_statement : ℕ → Option (Parsed Stmt)
  break_statement = statements.break_statement ts n (expr_at ts n) (stmt_at ts n)

  abbrev pub return_alone : ℕ → Option (Parsed Stmt)
  return_alone = statements.return_alone ts n (expr_at ts n) (stmt_at ts n)

  abbrev pub return_value : ℕ → Option (Parsed Stmt)
  return_value = statements.return_value ts n (expr_at ts n) (stmt_at ts n)

  abbrev pub return_statement : ℕ → Option (Parsed Stmt)
  return_statement = statements.return_statement ts n (expr_at ts n) (stmt_at ts n)

  abbrev pub throw_value : ℕ → Option (Parsed Stmt)
  throw_value = statements.throw_value ts n (expr_at ts n) (stmt_at ts n)

  abbrev pub throw_statement : ℕ → Option (Parsed Stmt)
  throw_statement = statements.throw_statement ts n (expr_at ts n) (stmt_at ts n)

  abbrev pub empty : ℕ → Option (Parsed Stmt)
  empty = statements.empty ts n (expr_at ts n) (stmt_at ts n)

  abbrev pub function_by : Bool → ℕ → Option (Parsed Stmt)
  function_by = statements.function_by ts n (expr_at ts n) (stmt_at ts n)

  abbrev pub statement : Bool → ℕ → Option (Parsed Stmt)
  statement = statements.statement ts n (expr_at ts n) (stmt_at ts n)
