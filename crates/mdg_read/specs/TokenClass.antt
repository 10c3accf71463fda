-- Classes of terminals, and the precedence of operators.
use Rattle.std.specs.Prelude.{ℕ, Bool, true, false, ◌&&◌, ◌||◌, Option, Some, None, not}
use Rattle.mdg_tree.specs.declared.operator.AssignOperator.{AssignOperator}
use Rattle.mdg_tree.specs.declared.operator.BinaryOperator.{BinaryOperator}
use Rattle.mdg_tree.specs.declared.operator.Step.{Step}
use Rattle.mdg_tree.specs.declared.operator.UnaryOperator.{UnaryOperator}
use Rattle.mdg_read.specs.declared.terminal.Terminal.{Terminal}
use Rattle.mdg_tree.specs.declared.operator.BinaryOperator.TheVariants as binary
use Rattle.mdg_tree.specs.declared.operator.UnaryOperator.TheVariants as unary
use Rattle.mdg_tree.specs.declared.operator.AssignOperator.TheVariants as assign
use Rattle.mdg_read.specs.declared.terminal.Terminal.TheVariants as s

-- an operator, of which there are several
abbrev pub is_operator : Terminal → Bool
is_operator (s.Binary o) = true
is_operator (s.Unary o) = true
is_operator (s.Assign o) = true
is_operator (s.Update o) = true
is_operator _ = false

-- the same terminal, or operators of one kind
abbrev pub alike : Terminal → Terminal → Bool
alike s.End s.End = true
alike s.Name s.Name = true
alike s.Numeral s.Numeral = true
alike s.Text s.Text = true
alike s.ReservedWord s.ReservedWord = true
alike s.OpenParen s.OpenParen = true
alike s.CloseParen s.CloseParen = true
alike s.OpenBracket s.OpenBracket = true
alike s.CloseBracket s.CloseBracket = true
alike s.OpenBrace s.OpenBrace = true
alike s.CloseBrace s.CloseBrace = true
alike s.Dot s.Dot = true
alike s.Semicolon s.Semicolon = true
alike s.Comma s.Comma = true
alike s.Question s.Question = true
alike s.Colon s.Colon = true
alike s.Break s.Break = true
alike s.Continue s.Continue = true
alike s.Do s.Do = true
alike s.Else s.Else = true
alike s.False s.False = true
alike s.For s.For = true
alike s.Function s.Function = true
alike s.If s.If = true
alike s.New s.New = true
alike s.Null s.Null = true
alike s.Return s.Return = true
alike s.Throw s.Throw = true
alike s.True s.True = true
alike s.Var s.Var = true
alike s.While s.While = true
alike s.Other s.Other = true
alike (s.Binary o) (s.Binary u) = true
alike (s.Unary o) (s.Unary u) = true
alike (s.Assign o) (s.Assign u) = true
alike (s.Update o) (s.Update u) = true
alike _ _ = false

-- whether a terminal is the wanted one, which is no operator
abbrev pub same : Terminal → Terminal → Bool
same found wanted = alike wanted found

abbrev pub is_step : Terminal → Bool
is_step (s.Update o) = true
is_step _ = false

abbrev pub is_in_operator : BinaryOperator → Bool
is_in_operator binary.In = true
is_in_operator _ = false

abbrev pub is_in : Terminal → Bool
is_in (s.Binary o) = is_in_operator o
is_in _ = false

-- The precedences of the binary operators, from 0, the loosest. After the tightest one comes `Unary`.
abbrev pub tightest : ℕ
tightest = 10

abbrev pub precedence : BinaryOperator → ℕ
precedence binary.Or = 0
precedence binary.And = 1
precedence binary.BitOr = 2
precedence binary.BitXor = 3
precedence binary.BitAnd = 4
precedence binary.Equal = 5
precedence binary.NotEqual = 5
precedence binary.StrictEqual = 5
precedence binary.StrictNotEqual = 5
precedence binary.Less = 6
precedence binary.Greater = 6
precedence binary.LessEqual = 6
precedence binary.GreaterEqual = 6
precedence binary.InstanceOf = 6
precedence binary.In = 6
precedence binary.ShiftLeft = 7
precedence binary.ShiftRight = 7
precedence binary.ShiftRightUnsigned = 7
precedence binary.Add = 8
precedence binary.Subtract = 8
precedence binary.Multiply = 9
precedence binary.Divide = 9
precedence binary.Remainder = 9

-- Where the flag is set, `in` is no operator.
abbrev pub is_allowed : Bool → BinaryOperator → Bool
is_allowed no_in o = not (no_in && is_in_operator o)

-- the operator before a value that a terminal is
abbrev pub unary_of : Terminal → Option UnaryOperator
unary_of (s.Unary o) = Some o
unary_of (s.Binary binary.Add) = Some unary.Plus
unary_of (s.Binary binary.Subtract) = Some unary.Minus
unary_of _ = None

abbrev pub ends_block : Terminal → Bool
ends_block s.CloseBrace = true
ends_block s.End = true
ends_block _ = false

abbrev pub op_in : Bool → BinaryOperator → Option BinaryOperator
op_in true o = Some o
op_in false o = None

abbrev pub op_of : Bool → Terminal → Option BinaryOperator
op_of b (s.Binary o) = op_in (is_allowed b o) o
op_of b _ = None

abbrev pub step_of : Terminal → Option Step
step_of (s.Update o) = Some o
step_of _ = None

abbrev pub assign_of : Terminal → Option AssignOperator
assign_of (s.Assign o) = Some o
assign_of _ = None

abbrev pub is_plain_assign : Terminal → Bool
is_plain_assign (s.Assign assign.Plain) = true
is_plain_assign _ = false

abbrev pub is_member_link : Terminal → Bool
is_member_link s.Dot = true
is_member_link s.OpenBracket = true
is_member_link _ = false

-- whether no value stands after `return`
abbrev pub is_alone : Bool → Terminal → Bool
is_alone line k = line || same k s.Semicolon || ends_block k

abbrev pub is_link : Terminal → Bool
is_link s.OpenParen = true
is_link s.Dot = true
is_link s.OpenBracket = true
is_link _ = false
