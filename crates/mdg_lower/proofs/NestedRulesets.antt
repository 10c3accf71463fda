-- The equations of what stands in a body, for tactics.
use Rattle.mdg_lower.proofs.NestedEquations.{expr_lists-Comma, expr_lists-Assign, expr_lists-Conditional, expr_lists-Binary, expr_lists-Unary, expr_lists-Prefix, expr_lists-Postfix, expr_lists-New, expr_lists-NewWithArguments, expr_lists-Call, expr_lists-Index, expr_lists-Member, expr_lists-FunctionExpression, expr_lists-Name, expr_lists-Null, expr_lists-True, expr_lists-False, expr_lists-Numeral, expr_lists-Text, expr_lists-Paren, expr_lists-Array, expr_lists-Object, stmt_lists-Block, stmt_lists-Var, stmt_lists-Empty, stmt_lists-Expression, stmt_lists-If, stmt_lists-IfElse, stmt_lists-DoWhile, stmt_lists-While, stmt_lists-For, stmt_lists-ForIn, stmt_lists-Continue, stmt_lists-Break, stmt_lists-Return, stmt_lists-ReturnValue, stmt_lists-Throw, stmt_lists-FunctionDeclaration, init_lists-Absent, init_lists-Declarations, init_lists-Initial, goal_lists-Variable, goal_lists-Target, property_lists, function_lists, declaration_lists, loops-Block, loops-Var, loops-Empty, loops-Expression, loops-If, loops-IfElse, loops-DoWhile, loops-While, loops-For, loops-ForIn, loops-Continue, loops-Break, loops-Return, loops-ReturnValue, loops-Throw, loops-FunctionDeclaration}

pub ruleset expressions = (expr_lists-Comma, expr_lists-Assign, expr_lists-Conditional, expr_lists-Binary, expr_lists-Unary, expr_lists-Prefix, expr_lists-Postfix, expr_lists-New, expr_lists-NewWithArguments, expr_lists-Call, expr_lists-Index, expr_lists-Member, expr_lists-FunctionExpression, expr_lists-Name, expr_lists-Null, expr_lists-True, expr_lists-False, expr_lists-Numeral, expr_lists-Text, expr_lists-Paren, expr_lists-Array, expr_lists-Object)

pub ruleset statements = (stmt_lists-Block, stmt_lists-Var, stmt_lists-Empty, stmt_lists-Expression, stmt_lists-If, stmt_lists-IfElse, stmt_lists-DoWhile, stmt_lists-While, stmt_lists-For, stmt_lists-ForIn, stmt_lists-Continue, stmt_lists-Break, stmt_lists-Return, stmt_lists-ReturnValue, stmt_lists-Throw, stmt_lists-FunctionDeclaration)

pub ruleset heads = (init_lists-Absent, init_lists-Declarations, init_lists-Initial, goal_lists-Variable, goal_lists-Target)

pub ruleset parts = (property_lists, function_lists, declaration_lists)

pub ruleset loops = (loops-Block, loops-Var, loops-Empty, loops-Expression, loops-If, loops-IfElse, loops-DoWhile, loops-While, loops-For, loops-ForIn, loops-Continue, loops-Break, loops-Return, loops-ReturnValue, loops-Throw, loops-FunctionDeclaration)
