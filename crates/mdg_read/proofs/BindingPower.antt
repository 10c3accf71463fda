-- What a token may continue, and the tests of the reader at a known token.
use Rattle.std.proofs.Common.{◌≡◌, ℕ, ◌+◌, ◌-◌, ◌≤◌, Bool, true, false, ◌&&◌, ◌||◌, arith, refl, ap}
use Rattle.std.specs.Prelude.{Some, None, List}
use Rattle.mdg_tree.specs.declared.operator.BinaryOperator.{BinaryOperator}
use Rattle.mdg_tree.specs.declared.operator.BinaryOperator.TheVariants as binary
use Rattle.mdg_tree.specs.declared.operator.UnaryOperator.{UnaryOperator}
use Rattle.mdg_read.specs.declared.terminal.Terminal.{Terminal}
use Rattle.mdg_read.specs.declared.terminal.Terminal.TheVariants as s
use Rattle.mdg_read.specs.declared.production.Production.{Production}
use Rattle.mdg_read.specs.declared.production.Production.TheVariants as production
use Rattle.mdg_read.specs.declared.semicolon.Terminator.TheVariants as terminator
use Rattle.mdg_read.specs.Semicolon.{may_be_inserted, var_terminator_of}
use Rattle.mdg_read.specs.TokenClass.{same, is_step, precedence, is_allowed, unary_of, ends_block, op_of, op_in, step_of, assign_of, is_plain_assign, is_link, is_member_link}
use Rattle.mdg_read.specs.Tokens.{Tokens, terminal_at, line_before_at}

abbrev pub op_power : Bool → BinaryOperator → ℕ
op_power true o = precedence o + 4
op_power false o = 0

abbrev pub step_power : Bool → ℕ
step_power true = 0
step_power false = 15

abbrev pub link_power : ℕ → Bool → ℕ
link_power k true = 0
link_power k false = k

-- How tightly a token binds what stands before it: by the flag of `in`, whether it stands after a line end, and whether an update operator stands before it.
abbrev pub power_of : Bool → Terminal → Bool → Bool → ℕ
power_of b s.Comma l p = 1
power_of b (s.Assign o) l p = 2
power_of b s.Question l p = 3
power_of b (s.Binary o) l p = op_power (is_allowed b o) o
power_of b (s.Update o) l p = step_power l
power_of b s.OpenParen l p = link_power 17 p
power_of b s.OpenBracket l p = link_power 19 p
power_of b s.Dot l p = link_power 19 p
power_of _ _ _ _ = 0

abbrev pub power : Tokens → Bool → ℕ → ℕ
power ts b i = power_of b (terminal_at ts i) (line_before_at ts i) (is_step (terminal_at ts (i - 1)))

abbrev pub flag : Production → Bool
flag (production.Expression b) = b
flag (production.Assignment b) = b
flag (production.Conditional b) = b
flag (production.Binary b k) = b
flag _ = false

-- A token of a greater power continues an expression of a production of this rank.
abbrev pub rank : Production → ℕ
rank (production.Expression b) = 0
rank (production.Assignment b) = 1
rank (production.Conditional b) = 1
rank (production.Binary b k) = k + 3
rank production.Unary = 13
rank production.Postfix = 14
rank production.LeftHandSide = 16
rank production.Call = 16
rank production.New = 16
rank production.Member = 18
rank production.Primary = 19

pub precedence_small : (o : BinaryOperator) → precedence o ≤ 9
precedence_small binary.Or = omega arith
precedence_small binary.And = omega arith
precedence_small binary.BitOr = omega arith
precedence_small binary.BitXor = omega arith
precedence_small binary.BitAnd = omega arith
precedence_small binary.Equal = omega arith
precedence_small binary.NotEqual = omega arith
precedence_small binary.StrictEqual = omega arith
precedence_small binary.StrictNotEqual = omega arith
precedence_small binary.Less = omega arith
precedence_small binary.Greater = omega arith
precedence_small binary.LessEqual = omega arith
precedence_small binary.GreaterEqual = omega arith
precedence_small binary.InstanceOf = omega arith
precedence_small binary.In = omega arith
precedence_small binary.ShiftLeft = omega arith
precedence_small binary.ShiftRight = omega arith
precedence_small binary.ShiftRightUnsigned = omega arith
precedence_small binary.Add = omega arith
precedence_small binary.Subtract = omega arith
precedence_small binary.Multiply = omega arith
precedence_small binary.Divide = omega arith
precedence_small binary.Remainder = omega arith

pub op_power_small : (x : Bool) (o : BinaryOperator) → op_power x o ≤ precedence o + 4
op_power_small true o = omega arith
op_power_small false o = omega arith

pub power_of_op : (b : Bool) (o : BinaryOperator) (l p : Bool) → power_of b (s.Binary o) l p ≤ precedence o + 4
power_of_op b o l p = op_power_small (is_allowed b o) o

pub op_of_binary : (b : Bool) (o : BinaryOperator) → is_allowed b o ≡ true → op_of b (s.Binary o) ≡ Some o
op_of_binary b o h = ap (λ x. op_in x o) h

pub link_small : (k : ℕ) (p : Bool) → link_power k p ≤ k
link_small k true = omega arith
link_small k false = omega arith

pub step_small : (l : Bool) → step_power l ≤ 15
step_small true = omega arith
step_small false = omega arith

pub no_comma : (b : Bool) (k : Terminal) (l p : Bool) → power_of b k l p ≤ 0 → same k s.Comma ≡ false
no_comma b s.Comma l p h = absurd (omega arith)
no_comma b _ l p h = refl

pub no_assign : (b : Bool) (k : Terminal) (l p : Bool) → power_of b k l p ≤ 1 → assign_of k ≡ None
no_assign b (s.Assign o) l p h = absurd (omega arith)
no_assign b _ l p h = refl

pub no_question : (b : Bool) (k : Terminal) (l p : Bool) → power_of b k l p ≤ 2 → same k s.Question ≡ false
no_question b s.Question l p h = absurd (omega arith)
no_question b _ l p h = refl

-- after what is no update operator
pub no_link : (b : Bool) (k : Terminal) (l p : Bool) → p ≡ false → power_of b k l p ≤ 16 → is_link k ≡ false
no_link b s.Dot l true e h = cc
no_link b s.Dot l false e h = absurd (omega arith)
no_link b s.OpenParen l true e h = cc
no_link b s.OpenParen l false e h = absurd (omega arith)
no_link b s.OpenBracket l true e h = cc
no_link b s.OpenBracket l false e h = absurd (omega arith)
no_link b _ l p e h = refl

pub no_member_link : (b : Bool) (k : Terminal) (l p : Bool) → p ≡ false → power_of b k l p ≤ 18 → is_member_link k ≡ false
no_member_link b s.Dot l true e h = cc
no_member_link b s.Dot l false e h = absurd (omega arith)
no_member_link b s.OpenBracket l true e h = cc
no_member_link b s.OpenBracket l false e h = absurd (omega arith)
no_member_link b _ l p e h = refl

pub no_open : (b : Bool) (k : Terminal) (l p : Bool) → p ≡ false → power_of b k l p ≤ 16 → same k s.OpenParen ≡ false
no_open b s.OpenParen l true e h = cc
no_open b s.OpenParen l false e h = absurd (omega arith)
no_open b _ l p e h = refl

-- what may begin an expression
abbrev pub begins : Terminal → Bool
begins s.Name = true
begins s.Null = true
begins s.True = true
begins s.False = true
begins s.Numeral = true
begins s.Text = true
begins s.OpenParen = true
begins s.OpenBracket = true
begins s.OpenBrace = true
begins s.Function = true
begins s.New = true
begins (s.Update o) = true
begins (s.Unary o) = true
begins (s.Binary binary.Add) = true
begins (s.Binary binary.Subtract) = true
begins _ = false

pub unary_begins : (k : Terminal) (o : UnaryOperator) → unary_of k ≡ Some o → begins k ≡ true
unary_begins (s.Unary u) o h = refl
unary_begins (s.Binary binary.Add) o h = refl
unary_begins (s.Binary binary.Subtract) o h = refl
unary_begins _ o h = absurd cc

pub unary_no_step : (k : Terminal) (o : UnaryOperator) → unary_of k ≡ Some o → step_of k ≡ None
unary_no_step (s.Update u) o h = absurd cc
unary_no_step _ o h = refl

pub no_close : (k : Terminal) → begins k ≡ true → same k s.CloseParen ≡ false
no_close s.CloseParen h = cc
no_close _ h = refl

pub no_close_bracket : (k : Terminal) → begins k ≡ true → same k s.CloseBracket ≡ false
no_close_bracket s.CloseBracket h = cc
no_close_bracket _ h = refl

pub no_semicolon : (k : Terminal) → begins k ≡ true → same k s.Semicolon ≡ false
no_semicolon s.Semicolon h = cc
no_semicolon _ h = refl

-- what may begin a statement ends no block
pub no_end : (k : Terminal) → begins k ≡ true → ends_block k ≡ false
no_end s.CloseBrace h = cc
no_end s.End h = cc
no_end _ h = refl

open_quiet : (k : ℕ) (p : Bool) → ((false || (true && p)) || false) ≡ true → link_power k p ≤ 0
open_quiet k true h = omega arith
open_quiet k false h = cc

-- Where a semicolon may be inserted, the next token continues no expression.
pub left_quiet : (k : Terminal) (l : Bool) (last : Terminal) → may_be_inserted terminator.Plain k l last ≡ true → power_of false k l (is_step last) ≤ 0
left_quiet s.End l last h = omega arith
left_quiet s.CloseBrace l last h = omega arith
left_quiet k false last h = never k h
  where
    never : (k : Terminal) → ((ends_block k || false) || false) ≡ true → power_of false k false (is_step last) ≤ 0
    never s.End h = omega arith
    never s.CloseBrace h = omega arith
    never _ h = cc
left_quiet s.Comma true last h = cc
left_quiet s.Question true last h = cc
left_quiet s.Dot true last h = cc
left_quiet (s.Assign o) true last h = cc
left_quiet (s.Binary o) true last h = cc
left_quiet s.OpenParen true last h = open_quiet 17 (is_step last) h
left_quiet s.OpenBracket true last h = open_quiet 19 (is_step last) h
left_quiet _ true last h = omega arith

-- `in` binds less tightly than an operator before a value
pub unflag : (b : Bool) (k : Terminal) (l p : Bool) → power_of b k l p ≤ 13 → power_of false k l p ≤ 13
unflag false k l p h = h
unflag true (s.Binary o) l p h = let small = precedence_small o in let low = op_power_small true o in omega arith
unflag true s.Comma l p h = omega arith
unflag true (s.Assign o) l p h = omega arith
unflag true s.Question l p h = omega arith
unflag true (s.Update o) l p h = h
unflag true s.Dot l p h = h
unflag true s.OpenParen l p h = h
unflag true s.OpenBracket l p h = h
unflag true _ l p h = omega arith

-- a test that finds no value after `return` finds none where a semicolon may be inserted
pub jump_alone : (k : Terminal) (l : Bool) (last : Terminal) → may_be_inserted terminator.Jump k l last ≡ true → (l || same k s.Semicolon || ends_block k) ≡ true
jump_alone k true last h = refl
jump_alone s.End false last h = refl
jump_alone s.CloseBrace false last h = refl
jump_alone _ false last h = cc

-- after the declarations of a `var` that ends, no other declaration and no value stands
pub no_declaration : (x : Bool) (k : Terminal) (l : Bool) (last : Terminal) → may_be_inserted (var_terminator_of x) k l last ≡ true → (same k s.Comma ≡ false) × (is_plain_assign k ≡ false)
no_declaration true s.Comma true last h = absurd cc
no_declaration true s.Comma false last h = absurd cc
no_declaration false s.Comma true last h = absurd cc
no_declaration false s.Comma false last h = absurd cc
no_declaration true (s.Assign o) true last h = absurd cc
no_declaration true (s.Assign o) false last h = absurd cc
no_declaration false (s.Assign o) true last h = absurd cc
no_declaration false (s.Assign o) false last h = absurd cc
no_declaration x _ l last h = (refl, refl)

pub no_plain_assign : (k : Terminal) → assign_of k ≡ None → is_plain_assign k ≡ false
no_plain_assign (s.Assign o) h = absurd cc
no_plain_assign _ h = refl

pub value_not_alone : (k : Terminal) → begins k ≡ true → (false || same k s.Semicolon || ends_block k) ≡ false
value_not_alone s.Semicolon h = cc
value_not_alone s.CloseBrace h = cc
value_not_alone s.End h = cc
value_not_alone _ h = refl

pub alone_semicolon : (l : Bool) → (l || true || false) ≡ true
alone_semicolon true = refl
alone_semicolon false = refl

pub and-false : (a : Bool) → (a && false) ≡ false
and-false true = refl
and-false false = refl

-- what begins an expression with no operator before it
abbrev pub is_plain_start : Terminal → Bool
is_plain_start s.Name = true
is_plain_start s.Null = true
is_plain_start s.True = true
is_plain_start s.False = true
is_plain_start s.Numeral = true
is_plain_start s.Text = true
is_plain_start s.OpenParen = true
is_plain_start s.OpenBracket = true
is_plain_start s.OpenBrace = true
is_plain_start s.Function = true
is_plain_start s.New = true
is_plain_start _ = false
