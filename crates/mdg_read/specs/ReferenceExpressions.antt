-- Serves only the proof: how the reference reader reads expressions.
use Rattle.std.specs.Prelude.{if◌then◌else◌, ℕ, Bool, true, false, nat_le, [], ◌∷◌, length, Option, Some, None, suc, ◌+◌, zero, max}
use Rattle.mdg_tree.specs.declared.operator.AssignOperator.{AssignOperator}
use Rattle.mdg_tree.specs.declared.operator.BinaryOperator.{BinaryOperator}
use Rattle.mdg_tree.specs.declared.operator.Step.{Step}
use Rattle.mdg_tree.specs.declared.operator.UnaryOperator.{UnaryOperator}
use Rattle.mdg_tree.specs.declared.tree.Expr.{Expr}
use Rattle.mdg_tree.specs.declared.tree.Stmt.{Stmt}
use Rattle.mdg_read.specs.declared.production.Production.{Production}
use Rattle.mdg_read.specs.declared.parsed.Parsed.{Parsed}
use Rattle.mdg_read.specs.declared.terminal.Terminal.TheVariants as s
use Rattle.mdg_tree.specs.declared.tree.Expr.TheVariants as e
use Rattle.mdg_read.specs.declared.production.Production.TheVariants as production
use Rattle.mdg_read.specs.Combinators.{◌>>=◌, bounded, expect}
use Rattle.mdg_read.specs.ReferenceOperands.{sequence_from, primary, operand, left_hand_side}
use Rattle.mdg_read.specs.Target.{is_assignment_target}
use Rattle.mdg_read.specs.TokenClass.{same, precedence, unary_of, op_of, step_of, assign_of}
use Rattle.mdg_read.specs.Tokens.{Tokens, terminal_at, position_at, line_before_at}

module _ (ts : Tokens) (n : ℕ) (expr : Production → ℕ → Option (Parsed Expr)) (stmt : Bool → ℕ → Option (Parsed Stmt)) where
  unfoldable pub stepped : ℕ → Step → Parsed Expr → Option (Parsed Expr)
  stepped i o r =
      if is_assignment_target r.tree then bounded (suc n) (record { tree = e.Postfix (position_at ts i) o r.tree; height = r.height + 1; next = r.next + 1 }) else None

  abbrev pub postfix_by : Option Step → Bool → ℕ → Parsed Expr → Option (Parsed Expr)
  postfix_by None line i r = Some r
  postfix_by (Some o) true i r = Some r
  postfix_by (Some o) false i r = stepped i o r

  unfoldable pub postfix : ℕ → Option (Parsed Expr)
  postfix i = do
    r ← left_hand_side ts n expr stmt i
    postfix_by (step_of (terminal_at ts r.next)) (line_before_at ts r.next) i r

  unfoldable pub unary_value : UnaryOperator → ℕ → Option (Parsed Expr)
  unary_value o i = do
    r ← expr production.Unary (i + 1)
    Some (record { tree = e.Unary (position_at ts i) o r.tree; height = r.height + 1; next = r.next })

  unfoldable pub prefix : Step → ℕ → Option (Parsed Expr)
  prefix o i = do
    r ← expr production.LeftHandSide (i + 1)
    if is_assignment_target r.tree then Some (record { tree = e.Prefix (position_at ts i) o r.tree; height = r.height + 1; next = r.next }) else None

  abbrev pub unary_by : Option Step → Option UnaryOperator → ℕ → Option (Parsed Expr)
  unary_by (Some o) u i = prefix o i
  unary_by None (Some o) i = unary_value o i
  unary_by None None i = postfix i

  unfoldable pub unary : ℕ → Option (Parsed Expr)
  unary i = unary_by (step_of (terminal_at ts i)) (unary_of (terminal_at ts i)) i

  unfoldable pub operation : Bool → ℕ → BinaryOperator → Parsed Expr → Option (Parsed Expr)
  operation b i o r = do
    y ← expr (production.Binary b (suc (precedence o))) (r.next + 1)
    bounded (suc n) (record { tree = e.Binary (position_at ts i) o r.tree y.tree; height = max r.height y.height + 1; next = y.next })

  -- operators of the precedence `least` and tighter ones
  abbrev pub climb_by : (Parsed Expr → Option (Parsed Expr)) → Bool → ℕ → ℕ → Parsed Expr → Option BinaryOperator → Option (Parsed Expr)
  climb_by again b least i r None = Some r
  climb_by again b least i r (Some o) = if nat_le least (precedence o) then operation b i o r >>= again else Some r

  unfoldable pub climb_from : Bool → ℕ → ℕ → ℕ → Parsed Expr → Option (Parsed Expr)
  climb_from b zero least i r = None
  climb_from b (suc w) least i r = climb_by (climb_from b w least i) b least i r (op_of b (terminal_at ts r.next))

  unfoldable pub climb : Bool → ℕ → ℕ → Option (Parsed Expr)
  climb b least i = unary i >>= climb_from b (length ts) least i

  unfoldable pub choice : Bool → ℕ → Parsed Expr → Option (Parsed Expr)
  choice b i r = do
    x ← expr (production.Assignment false) (r.next + 1)
    m ← expect ts s.Colon x.next
    y ← expr (production.Assignment b) m
    bounded (suc n) (record { tree = e.Conditional (position_at ts i) r.tree x.tree y.tree; height = max r.height (max x.height y.height) + 1; next = y.next })

  unfoldable pub conditional : Bool → ℕ → Option (Parsed Expr)
  conditional b i = do
    r ← climb b 0 i
    if same (terminal_at ts r.next) s.Question then choice b i r else Some r

  unfoldable pub assigned : Bool → ℕ → AssignOperator → Parsed Expr → Option (Parsed Expr)
  assigned b i o r = if is_assignment_target r.tree then (do
    y ← expr (production.Assignment b) (r.next + 1)
    bounded (suc n) (record { tree = e.Assign (position_at ts i) o r.tree y.tree; height = max r.height y.height + 1; next = y.next })) else None

  abbrev pub assignment_by : Option AssignOperator → Bool → ℕ → Parsed Expr → Option (Parsed Expr)
  assignment_by None b i r = Some r
  assignment_by (Some o) b i r = assigned b i o r

  unfoldable pub assignment : Bool → ℕ → Option (Parsed Expr)
  assignment b i = do
    r ← conditional b i
    assignment_by (assign_of (terminal_at ts r.next)) b i r

  unfoldable pub commas : Bool → ℕ → Parsed Expr → Option (Parsed Expr)
  commas b i r = do
    q ← sequence_from ts n expr stmt b (length ts) (r.tree ∷ []) r.height (r.next + 1)
    bounded (suc n) (record { tree = e.Comma (position_at ts i) q.tree; height = q.height + 1; next = q.next })

  unfoldable pub comma_expression : Bool → ℕ → Option (Parsed Expr)
  comma_expression b i = do
    r ← assignment b i
    if same (terminal_at ts r.next) s.Comma then commas b i r else Some r

  abbrev pub any_expression : Production → ℕ → Option (Parsed Expr)
  any_expression (production.Expression b) = comma_expression b
  any_expression (production.Assignment b) = assignment b
  any_expression (production.Conditional b) = conditional b
  any_expression (production.Binary b k) = climb b k
  any_expression production.Unary = unary
  any_expression production.Postfix = postfix
  any_expression production.LeftHandSide = left_hand_side ts n expr stmt
  any_expression production.Call = left_hand_side ts n expr stmt
  any_expression production.New = operand ts n expr stmt
  any_expression production.Member = operand ts n expr stmt
  any_expression production.Primary = primary ts n expr stmt
