-- The equations of the lowering, for tactics.
use Rattle.mdg_lower.proofs.FormEquations.{lines-Block, lines-Break, lines-Continue, lines-DoWhile, lines-Empty, lines-Expression, lines-For, lines-ForIn, lines-FunctionDeclaration, lines-If, lines-IfElse, lines-Return, lines-ReturnValue, lines-Throw, lines-Var, lines-While, assigns-Array, assigns-Assign, assigns-Binary, assigns-Call, assigns-Comma, assigns-Conditional, assigns-False, assigns-FunctionExpression, assigns-Index, assigns-Member, assigns-Name, assigns-New, assigns-NewWithArguments, assigns-Null, assigns-Numeral, assigns-Object, assigns-Paren, assigns-Postfix, assigns-Prefix, assigns-Text, assigns-True, assigns-Unary, at-Array, at-Assign, at-Binary, at-Call, at-Comma, at-Conditional, at-False, at-FunctionExpression, at-Index, at-Member, at-Name, at-New, at-NewWithArguments, at-Null, at-Numeral, at-Object, at-Paren, at-Postfix, at-Prefix, at-Text, at-True, at-Unary, declaration-name, declaration-value, goal-Target, goal-Variable, hoisted-Block, hoisted-Break, hoisted-Continue, hoisted-DoWhile, hoisted-Empty, hoisted-Expression, hoisted-For, hoisted-ForIn, hoisted-FunctionDeclaration, hoisted-If, hoisted-IfElse, hoisted-Return, hoisted-ReturnValue, hoisted-Throw, hoisted-Var, hoisted-While, init-Absent, init-Declarations, init-Initial, key-Array, key-Assign, key-Binary, key-Call, key-Comma, key-Conditional, key-False, key-FunctionExpression, key-Index, key-Member, key-Name, key-New, key-NewWithArguments, key-Null, key-Numeral, key-Object, key-Paren, key-Postfix, key-Prefix, key-Text, key-True, key-Unary, name-Array, name-Assign, name-Binary, name-Call, name-Comma, name-Conditional, name-False, name-FunctionExpression, name-Index, name-Member, name-Name, name-New, name-NewWithArguments, name-Null, name-Numeral, name-Object, name-Paren, name-Postfix, name-Prefix, name-Text, name-True, name-Unary, property-key, property-operand, reference-Array, reference-Assign, reference-Binary, reference-Call, reference-Comma, reference-Conditional, reference-False, reference-FunctionExpression, reference-Index, reference-Member, reference-Name, reference-New, reference-NewWithArguments, reference-Null, reference-Numeral, reference-Object, reference-Paren, reference-Postfix, reference-Prefix, reference-Text, reference-True, reference-Unary, value-Array, value-Assign, value-Binary, value-Call, value-Comma, value-Conditional, value-False, value-FunctionExpression, value-Index, value-Member, value-Name, value-New, value-NewWithArguments, value-Null, value-Numeral, value-Object, value-Paren, value-Postfix, value-Prefix, value-Text, value-True, value-Unary}

pub ruleset values = (value-Comma, value-Assign, value-Conditional, value-Binary, value-Unary, value-Prefix, value-Postfix, value-New, value-NewWithArguments, value-Call, value-Index, value-Member, value-FunctionExpression, value-Name, value-Null, value-True, value-False, value-Numeral, value-Text, value-Paren, value-Array, value-Object)

pub ruleset assigned = (assigns-Comma, assigns-Assign, assigns-Conditional, assigns-Binary, assigns-Unary, assigns-Prefix, assigns-Postfix, assigns-New, assigns-NewWithArguments, assigns-Call, assigns-Index, assigns-Member, assigns-FunctionExpression, assigns-Name, assigns-Null, assigns-True, assigns-False, assigns-Numeral, assigns-Text, assigns-Paren, assigns-Array, assigns-Object)

pub ruleset names = (name-Comma, name-Assign, name-Conditional, name-Binary, name-Unary, name-Prefix, name-Postfix, name-New, name-NewWithArguments, name-Call, name-Index, name-Member, name-FunctionExpression, name-Name, name-Null, name-True, name-False, name-Numeral, name-Text, name-Paren, name-Array, name-Object)

pub ruleset keys = (key-Comma, key-Assign, key-Conditional, key-Binary, key-Unary, key-Prefix, key-Postfix, key-New, key-NewWithArguments, key-Call, key-Index, key-Member, key-FunctionExpression, key-Name, key-Null, key-True, key-False, key-Numeral, key-Text, key-Paren, key-Array, key-Object)

pub ruleset places = (at-Comma, at-Assign, at-Conditional, at-Binary, at-Unary, at-Prefix, at-Postfix, at-New, at-NewWithArguments, at-Call, at-Index, at-Member, at-FunctionExpression, at-Name, at-Null, at-True, at-False, at-Numeral, at-Text, at-Paren, at-Array, at-Object)

pub ruleset references = (reference-Comma, reference-Assign, reference-Conditional, reference-Binary, reference-Unary, reference-Prefix, reference-Postfix, reference-New, reference-NewWithArguments, reference-Call, reference-Index, reference-Member, reference-FunctionExpression, reference-Name, reference-Null, reference-True, reference-False, reference-Numeral, reference-Text, reference-Paren, reference-Array, reference-Object)

pub ruleset stmt_lines = (lines-Block, lines-Var, lines-Empty, lines-Expression, lines-If, lines-IfElse, lines-DoWhile, lines-While, lines-ForIn, lines-Continue, lines-Break, lines-Return, lines-ReturnValue, lines-Throw, lines-FunctionDeclaration, lines-For)

pub ruleset hoists = (hoisted-Block, hoisted-Var, hoisted-Empty, hoisted-Expression, hoisted-If, hoisted-IfElse, hoisted-DoWhile, hoisted-While, hoisted-ForIn, hoisted-Continue, hoisted-Break, hoisted-Return, hoisted-ReturnValue, hoisted-Throw, hoisted-FunctionDeclaration, hoisted-For)

pub ruleset inits = (init-Absent, init-Declarations, init-Initial)

pub ruleset goals = (goal-Variable, goal-Target)

pub ruleset properties = (property-key, property-operand)

pub ruleset declared = (declaration-name, declaration-value)
