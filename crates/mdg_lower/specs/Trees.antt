-- The lowering of whole trees: the cases of all forms, folded over a tree, and what is asked of an expression or a body.
use Rattle.std.specs.Prelude.{ℕ, Bool, List, map, Option}
use Rattle.mdg_tree.specs.declared.tree.At.{At}
use Rattle.mdg_tree.specs.declared.tree.Expr.{Expr}
use Rattle.mdg_tree.specs.declared.tree.Goal.{Goal}
use Rattle.mdg_tree.specs.declared.tree.Init.{Init}
use Rattle.mdg_tree.specs.declared.tree.Stmt.{Stmt}
use Rattle.mdg_tree.specs.declared.tree.Declaration.{Declaration}
use Rattle.mdg_tree.specs.declared.tree.Function.{Function}
use Rattle.mdg_tree.specs.declared.tree.Property.{Property}
use Rattle.mdg_tree.specs.declared.tree.Expr.TheFolds.{fold-Expr, fold-Goal, fold-Init, fold-Stmt, fold-Declaration, fold-Function, fold-Property}
use Rattle.mdg_lower.specs.declared.scope.Scope.{Scope}
use Rattle.mdg_lower.specs.Lookup.{Name}
use Rattle.mdg_lower.specs.Builder.{Lines}
use Rattle.mdg_lower.specs.Operands.{Operand, Reference, PropertyPart}
use Rattle.mdg_lower.specs.Statements.{DeclarationPart, FunctionPart}
use Rattle.mdg_lower.specs.Forms.{ScopedLines, ExprLowering, StmtLowering, operands, sequence, lower_expr, lower_stmt, lower_init, lower_goal, lower_property, function_head, lower_declaration}

unfoldable pub expr_lowering : Expr → ExprLowering
expr_lowering =
    fold-Expr ExprLowering ScopedLines ScopedLines StmtLowering DeclarationPart FunctionPart PropertyPart lower_expr lower_goal lower_init lower_stmt lower_declaration function_head lower_property

unfoldable pub goal_lines : Goal → ScopedLines
goal_lines =
    fold-Goal ExprLowering ScopedLines ScopedLines StmtLowering DeclarationPart FunctionPart PropertyPart lower_expr lower_goal lower_init lower_stmt lower_declaration function_head lower_property

unfoldable pub init_lines : Init → ScopedLines
init_lines =
    fold-Init ExprLowering ScopedLines ScopedLines StmtLowering DeclarationPart FunctionPart PropertyPart lower_expr lower_goal lower_init lower_stmt lower_declaration function_head lower_property

unfoldable pub stmt_lowering : Stmt → StmtLowering
stmt_lowering =
    fold-Stmt ExprLowering ScopedLines ScopedLines StmtLowering DeclarationPart FunctionPart PropertyPart lower_expr lower_goal lower_init lower_stmt lower_declaration function_head lower_property

unfoldable pub declaration_part : Declaration → DeclarationPart
declaration_part =
    fold-Declaration ExprLowering ScopedLines ScopedLines StmtLowering DeclarationPart FunctionPart PropertyPart lower_expr lower_goal lower_init lower_stmt lower_declaration function_head lower_property

unfoldable pub function_part : Function → FunctionPart
function_part =
    fold-Function ExprLowering ScopedLines ScopedLines StmtLowering DeclarationPart FunctionPart PropertyPart lower_expr lower_goal lower_init lower_stmt lower_declaration function_head lower_property

unfoldable pub property_part : Property → PropertyPart
property_part =
    fold-Property ExprLowering ScopedLines ScopedLines StmtLowering DeclarationPart FunctionPart PropertyPart lower_expr lower_goal lower_init lower_stmt lower_declaration function_head lower_property

abbrev pub operand_of : Expr → Operand
operand_of t = (expr_lowering t).operand

abbrev pub name_of : Expr → Option Name
name_of t = (expr_lowering t).operand.name

abbrev pub assigns_of : Expr → Name → Bool
assigns_of t = (expr_lowering t).operand.assigns

abbrev pub value_of : Expr → Scope → ℕ → Lines
value_of t = (expr_lowering t).operand.value

abbrev pub at_of : Expr → At
at_of t = (expr_lowering t).at

abbrev pub key_of : Expr → Option Name
key_of t = (expr_lowering t).key

abbrev pub reference_of : Expr → Reference
reference_of t = (expr_lowering t).reference

abbrev pub operands_of : List Expr → List Operand
operands_of ts = operands (map expr_lowering ts)

abbrev pub lines_of_stmt : Stmt → ScopedLines
lines_of_stmt t = (stmt_lowering t).lines

abbrev pub hoisted_of : Stmt → ScopedLines
hoisted_of t = (stmt_lowering t).hoisted

abbrev pub lines_of_stmts : List Stmt → List ScopedLines
lines_of_stmts body = map (λ a. a.lines) (map stmt_lowering body)

-- the statements of a body
abbrev pub body_lines : List Stmt → ScopedLines
body_lines body = sequence (lines_of_stmts body)

abbrev pub hoisted_in : List Stmt → List ScopedLines
hoisted_in body = map (λ a. a.hoisted) (map stmt_lowering body)

-- the functions that a body declares
abbrev pub hoisted_lines : List Stmt → ScopedLines
hoisted_lines body = sequence (hoisted_in body)
