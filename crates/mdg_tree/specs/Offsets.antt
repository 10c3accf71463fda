-- The offsets of a tree: they ascend in the order of its tokens.
use Rattle.std.specs.Prelude.{◌≡◌, ℕ, Bool, true, ◌&&◌, nat_lt, nat_le, nat_eq, length, List, [], ◌∷◌, map, Option, Some, None}
use Rattle.mdg_tree.specs.declared.tree.FileTree.{FileTree}
use Rattle.mdg_tree.specs.declared.tree.Expr.{Expr}
use Rattle.mdg_tree.specs.declared.tree.Goal.{Goal}
use Rattle.mdg_tree.specs.declared.tree.Init.{Init}
use Rattle.mdg_tree.specs.declared.tree.Stmt.{Stmt}
use Rattle.mdg_tree.specs.declared.tree.Declaration.{Declaration}
use Rattle.mdg_tree.specs.declared.tree.Function.{Function}
use Rattle.mdg_tree.specs.declared.tree.Property.{Property}
use Rattle.mdg_tree.specs.declared.tree.Expr.TheOpen.{Expr-F, Goal-F, Init-F, Stmt-F, Declaration-F, Function-F, Property-F}
use Rattle.mdg_tree.specs.declared.tree.Expr.TheFolds.{fold-Expr, fold-Goal, fold-Init, fold-Stmt, fold-Declaration, fold-Function, fold-Property}

-- Where the places of a form stand.
pub record Extent : Type 0 where
  -- the offset of its first token
  pub first : ℕ
  -- the greatest offset of a place in it
  pub last : ℕ
  -- each place in it stands after those of the parts before it
  pub ascends : Bool

-- one place
abbrev pub point : ℕ → Extent
point offset = record { first = offset; last = offset; ascends = true }

-- a part, and one after it
abbrev pub in_turn : Extent → Extent → Extent
in_turn a b = record { first = a.first; last = b.last; ascends = a.ascends && (nat_lt a.last b.first && b.ascends) }

-- a part, and others after it
abbrev pub in_turn_all : Extent → List Extent → Extent
in_turn_all a [] = a
in_turn_all a (b ∷ rest) = in_turn_all (in_turn a b) rest

-- a part, and another one where there is one
abbrev pub in_turn_maybe : Extent → Option Extent → Extent
in_turn_maybe a None = a
in_turn_maybe a (Some b) = in_turn a b

-- A form whose first part begins where it begins, or after a token of its own.
abbrev pub around : ℕ → Extent → Extent
around offset a = record { first = offset; last = a.last; ascends = nat_le offset a.first && a.ascends }

-- the same where there may be no part
abbrev pub around_all : ℕ → List Extent → Extent
around_all offset [] = point offset
around_all offset (a ∷ rest) = around offset (in_turn_all a rest)

-- each parameter has an offset
abbrev pub aligned : List (List ℕ) → List ℕ → Extent → Extent
aligned names offsets a = record { first = a.first; last = a.last; ascends = nat_eq (length names) (length offsets) && a.ascends }

-- One row for each form.
abbrev pub expr_step : Expr-F Extent Extent (Option Extent) Extent Extent Extent Extent → Extent
expr_step (Expr-F.Comma at es) = around_all at.offset es
expr_step (Expr-F.Assign at op target value) = around at.offset (in_turn target value)
expr_step (Expr-F.Conditional at test chosen other) = around at.offset (in_turn (in_turn test chosen) other)
expr_step (Expr-F.Binary at op left right) = around at.offset (in_turn left right)
expr_step (Expr-F.Unary at op value) = in_turn (point at.offset) value
expr_step (Expr-F.Prefix at step target) = in_turn (point at.offset) target
expr_step (Expr-F.Postfix at step target) = around at.offset target
expr_step (Expr-F.New at callee) = in_turn (point at.offset) callee
expr_step (Expr-F.NewWithArguments at callee es) = in_turn_all (in_turn (point at.offset) callee) es
expr_step (Expr-F.Call at callee es) = in_turn_all (around at.offset callee) es
expr_step (Expr-F.Index at object key) = in_turn (around at.offset object) key
expr_step (Expr-F.Member at object name) = around at.offset object
expr_step (Expr-F.FunctionExpression f) = f
expr_step (Expr-F.Name at name) = point at.offset
expr_step (Expr-F.Null at) = point at.offset
expr_step (Expr-F.True at) = point at.offset
expr_step (Expr-F.False at) = point at.offset
expr_step (Expr-F.Numeral at text) = point at.offset
expr_step (Expr-F.Text at text) = point at.offset
expr_step (Expr-F.Paren at inner) = in_turn (point at.offset) inner
expr_step (Expr-F.Array at es) = in_turn_all (point at.offset) es
expr_step (Expr-F.Object at ps) = in_turn_all (point at.offset) ps

abbrev pub stmt_step : Stmt-F Extent Extent (Option Extent) Extent Extent Extent Extent → Extent
stmt_step (Stmt-F.Block at body) = in_turn_all (point at.offset) body
stmt_step (Stmt-F.Var at ds) = in_turn_all (point at.offset) ds
stmt_step (Stmt-F.Empty at) = point at.offset
stmt_step (Stmt-F.Expression at value) = around at.offset value
stmt_step (Stmt-F.If at test body) = in_turn (in_turn (point at.offset) test) body
stmt_step (Stmt-F.IfElse at test body other) = in_turn (in_turn (in_turn (point at.offset) test) body) other
stmt_step (Stmt-F.DoWhile at body test) = in_turn (in_turn (point at.offset) body) test
stmt_step (Stmt-F.While at test body) = in_turn (in_turn (point at.offset) test) body
stmt_step (Stmt-F.For at init test update body) = in_turn (in_turn_maybe (in_turn_maybe (in_turn_maybe (point at.offset) init) test) update) body
stmt_step (Stmt-F.ForIn at goal object body) = in_turn (in_turn (in_turn (point at.offset) goal) object) body
stmt_step (Stmt-F.Continue at) = point at.offset
stmt_step (Stmt-F.Break at) = point at.offset
stmt_step (Stmt-F.Return at) = point at.offset
stmt_step (Stmt-F.ReturnValue at value) = in_turn (point at.offset) value
stmt_step (Stmt-F.Throw at value) = in_turn (point at.offset) value
stmt_step (Stmt-F.FunctionDeclaration f) = f

abbrev pub init_step : Init-F Extent Extent (Option Extent) Extent Extent Extent Extent → Option Extent
init_step Init-F.Absent = None
init_step (Init-F.Declarations at ds) = Some (in_turn_all (point at.offset) ds)
init_step (Init-F.Initial value) = Some value

abbrev pub goal_step : Goal-F Extent Extent (Option Extent) Extent Extent Extent Extent → Extent
goal_step (Goal-F.Variable at name_at name) = in_turn (point at.offset) (point name_at.offset)
goal_step (Goal-F.Target value) = value

abbrev pub property_step : Property-F Extent Extent (Option Extent) Extent Extent Extent Extent → Extent
property_step p = in_turn (point p.at.offset) p.value

-- the word `function`, the name, which has the word's offset where there is none, the parameters, the items
abbrev pub function_step : Function-F Extent Extent (Option Extent) Extent Extent Extent Extent → Extent
function_step f = aligned f.parameters f.parameter_offsets
    (in_turn_all (in_turn_all (around f.offset (point f.name_offset)) (map point f.parameter_offsets)) f.body)

abbrev pub declaration_step : Declaration-F Extent Extent (Option Extent) Extent Extent Extent Extent → Extent
declaration_step d = in_turn_maybe (point d.at.offset) d.value

unfoldable pub extent : Expr → Extent
extent = fold-Expr Extent Extent (Option Extent) Extent Extent Extent Extent expr_step goal_step init_step stmt_step declaration_step function_step property_step

unfoldable pub goal_extent : Goal → Extent
goal_extent = fold-Goal Extent Extent (Option Extent) Extent Extent Extent Extent expr_step goal_step init_step stmt_step declaration_step function_step property_step

unfoldable pub init_extent : Init → Option Extent
init_extent = fold-Init Extent Extent (Option Extent) Extent Extent Extent Extent expr_step goal_step init_step stmt_step declaration_step function_step property_step

unfoldable pub stmt_extent : Stmt → Extent
stmt_extent = fold-Stmt Extent Extent (Option Extent) Extent Extent Extent Extent expr_step goal_step init_step stmt_step declaration_step function_step property_step

unfoldable pub declaration_extent : Declaration → Extent
declaration_extent = fold-Declaration Extent Extent (Option Extent) Extent Extent Extent Extent expr_step goal_step init_step stmt_step declaration_step function_step property_step

unfoldable pub function_extent : Function → Extent
function_extent = fold-Function Extent Extent (Option Extent) Extent Extent Extent Extent expr_step goal_step init_step stmt_step declaration_step function_step property_step

unfoldable pub property_extent : Property → Extent
property_extent = fold-Property Extent Extent (Option Extent) Extent Extent Extent Extent expr_step goal_step init_step stmt_step declaration_step function_step property_step

-- a file: its first token is that of the directive
abbrev pub file_extent : FileTree → Extent
file_extent tree = in_turn_all (point tree.at.offset) (map stmt_extent tree.items)

abbrev pub HasAscendingOffsets : FileTree → Type 0
HasAscendingOffsets tree = (file_extent tree).ascends ≡ true
