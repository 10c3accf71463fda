-- Serves only the proof: how the reference reader reads statements.
use Rattle.std.specs.Prelude.{if◌then◌else◌, ℕ, Bool, true, false, ◌&&◌, List, [], ◌∷◌, length, Option, Some, None, suc, ◌+◌, zero, max, ◌++◌}
use Rattle.mdg_tree.specs.declared.tree.Declaration.{Declaration}
use Rattle.mdg_tree.specs.declared.tree.Expr.{Expr}
use Rattle.mdg_tree.specs.declared.tree.Goal.{Goal}
use Rattle.mdg_tree.specs.declared.tree.Init.{Init}
use Rattle.mdg_tree.specs.declared.tree.Stmt.{Stmt}
use Rattle.mdg_read.specs.declared.production.Production.{Production}
use Rattle.mdg_read.specs.declared.parsed.Parsed.{Parsed}
use Rattle.mdg_read.specs.declared.terminal.Terminal.{Terminal}
use Rattle.mdg_read.specs.declared.terminal.Terminal.TheVariants as s
use Rattle.mdg_tree.specs.declared.tree.Stmt.TheVariants as st
use Rattle.mdg_tree.specs.declared.tree.Init.TheVariants as init
use Rattle.mdg_tree.specs.declared.tree.Goal.TheVariants as goal
use Rattle.mdg_read.specs.declared.production.Production.TheVariants as production
use Rattle.mdg_read.specs.declared.semicolon.Terminator.TheVariants as terminator
use Rattle.mdg_read.specs.Combinators.{◌>>=◌, bounded, expect, insert_semicolon}
use Rattle.mdg_read.specs.ReferenceOperands.{items, named_function}
use Rattle.mdg_read.specs.Semicolon.{var_terminator}
use Rattle.mdg_read.specs.Target.{is_assignment_target}
use Rattle.mdg_read.specs.TokenClass.{same, is_in, is_plain_assign, is_alone}
use Rattle.mdg_read.specs.Tokens.{Tokens, terminal_at, position_at, text_at, line_before_at}

module _ (ts : Tokens) (n : ℕ) (expr : Production → ℕ → Option (Parsed Expr)) (stmt : Bool → ℕ → Option (Parsed Stmt)) where
  unfoldable pub declared_function : ℕ → Option (Parsed Stmt)
  declared_function i = if same (terminal_at ts (i + 1)) s.Name then (do r ← named_function ts n expr stmt i; Some (record { tree = st.FunctionDeclaration r.tree; height = r.height; next = r.next })) else None

  unfoldable pub block : ℕ → Option (Parsed Stmt)
  block i = do
    r ← items ts n expr stmt false (i + 1)
    j ← expect ts s.CloseBrace r.next
    Some (record { tree = st.Block (position_at ts i) r.tree; height = r.height + 1; next = j })

  unfoldable pub declaration : Bool → ℕ → Option (Parsed Declaration)
  declaration b i = do
    j ← expect ts s.Name i
    if is_plain_assign (terminal_at ts j) then (do r ← expr (production.Assignment b) (j + 1); Some (record { tree = record { at = position_at ts i; name = text_at ts i; value = Some r.tree }; height = r.height; next = r.next })) else Some (record { tree = record { at = position_at ts i; name = text_at ts i; value = None }; height = 0; next = j })

  unfoldable pub declarations_from : Bool → ℕ → List Declaration → ℕ → ℕ → Option (Parsed (List Declaration))
  declarations_from b zero ds height i = None
  declarations_from b (suc w) ds height i = do
    r ← declaration b i
    if same (terminal_at ts r.next) s.Comma then declarations_from b w (ds ++ r.tree ∷ []) (max height r.height) (r.next + 1) else Some (record { tree = ds ++ r.tree ∷ []; height = max height r.height; next = r.next })

  unfoldable pub declarations : Bool → ℕ → Option (Parsed (List Declaration))
  declarations b i = declarations_from b (length ts) [] 0 i

  unfoldable pub var_statement : ℕ → Option (Parsed Stmt)
  var_statement i = do
    r ← declarations false (i + 1)
    j ← insert_semicolon ts (var_terminator r.tree) r.next
    Some (record { tree = st.Var (position_at ts i) r.tree; height = r.height + 1; next = j })

  unfoldable pub expression : ℕ → Option (Parsed Stmt)
  expression i = do
    r ← expr (production.Expression false) i
    j ← insert_semicolon ts terminator.Plain r.next
    Some (record { tree = st.Expression (position_at ts i) r.tree; height = r.height + 1; next = j })

  unfoldable pub otherwise : ℕ → Parsed Expr → Parsed Stmt → Option (Parsed Stmt)
  otherwise i c a =
      if same (terminal_at ts a.next) s.Else then (do
        r ← stmt false (a.next + 1)
        Some (record { tree = st.IfElse (position_at ts i) c.tree a.tree r.tree; height = max c.height (max a.height r.height) + 1; next = r.next }))
      else Some (record { tree = st.If (position_at ts i) c.tree a.tree; height = max c.height a.height + 1; next = a.next })

  -- an expression in parentheses, the first of them at i; what is read ends after the other
  unfoldable pub condition : ℕ → Option (Parsed Expr)
  condition i = do
    j ← expect ts s.OpenParen i
    c ← expr (production.Expression false) j
    m ← expect ts s.CloseParen c.next
    Some (record { tree = c.tree; height = c.height; next = m })

  unfoldable pub if_statement : ℕ → Option (Parsed Stmt)
  if_statement i = do
    c ← condition (i + 1)
    a ← stmt false c.next
    otherwise i c a

  unfoldable pub do_while : ℕ → Option (Parsed Stmt)
  do_while i = do
    a ← stmt false (i + 1)
    j ← expect ts s.While a.next
    c ← condition j
    m ← insert_semicolon ts terminator.Loop c.next
    Some (record { tree = st.DoWhile (position_at ts i) a.tree c.tree; height = max a.height c.height + 1; next = m })

  unfoldable pub while_statement : ℕ → Option (Parsed Stmt)
  while_statement i = do
    c ← condition (i + 1)
    a ← stmt false c.next
    Some (record { tree = st.While (position_at ts i) c.tree a.tree; height = max c.height a.height + 1; next = a.next })

  unfoldable pub optional_expression : Terminal → ℕ → Option (Parsed (Option Expr))
  optional_expression k i =
      if same (terminal_at ts i) k then Some (record { tree = None; height = 0; next = i })
      else (do r ← expr (production.Expression false) i; Some (record { tree = Some r.tree; height = r.height; next = r.next }))

  -- the rest of a `for` after what it begins with
  unfoldable pub for_rest : ℕ → Parsed Init → Option (Parsed Stmt)
  for_rest i a = do
    j ← expect ts s.Semicolon a.next
    c ← optional_expression s.Semicolon j
    k ← expect ts s.Semicolon c.next
    u ← optional_expression s.CloseParen k
    m ← expect ts s.CloseParen u.next
    x ← stmt false m
    bounded (suc n) (record { tree = st.For (position_at ts i) a.tree c.tree u.tree x.tree; height = max (max a.height (max c.height u.height)) x.height + 1; next = x.next })

  -- the rest of a `for` from its keyword `in`
  unfoldable pub for_in_rest : ℕ → Parsed Goal → Option (Parsed Stmt)
  for_in_rest i g = do
    o ← expr (production.Expression false) (g.next + 1)
    m ← expect ts s.CloseParen o.next
    x ← stmt false m
    Some (record { tree = st.ForIn (position_at ts i) g.tree o.tree x.tree; height = max g.height (max o.height x.height) + 1; next = x.next })

  unfoldable pub for_var : ℕ → ℕ → Option (Parsed Stmt)
  for_var i j =
      if same (terminal_at ts (j + 1)) s.Name && is_in (terminal_at ts (j + 1 + 1)) then for_in_rest i (record { tree = goal.Variable (position_at ts j) (position_at ts (j + 1)) (text_at ts (j + 1)); height = 0; next = j + 1 + 1 })
      else (do r ← declarations true (j + 1); for_rest i (record { tree = init.Declarations (position_at ts j) r.tree; height = r.height + 1; next = r.next }))

  unfoldable pub for_left : ℕ → Parsed Expr → Option (Parsed Stmt)
  for_left i r = if is_assignment_target r.tree then for_in_rest i (record { tree = goal.Target r.tree; height = r.height; next = r.next }) else None

  unfoldable pub for_expression : ℕ → ℕ → Option (Parsed Stmt)
  for_expression i j = do
    r ← expr (production.Expression true) j
    if is_in (terminal_at ts r.next) then for_left i r else for_rest i (record { tree = init.Initial r.tree; height = r.height; next = r.next })

  abbrev pub for_by : Terminal → ℕ → ℕ → Option (Parsed Stmt)
  for_by s.Semicolon i j = for_rest i (record { tree = init.Absent; height = 0; next = j })
  for_by s.Var i j = for_var i j
  for_by _ i j = for_expression i j

  unfoldable pub for_statement : ℕ → Option (Parsed Stmt)
  for_statement i = do
    j ← expect ts s.OpenParen (i + 1)
    for_by (terminal_at ts j) i j

  unfoldable pub continue_statement : ℕ → Option (Parsed Stmt)
  continue_statement i = do
    j ← insert_semicolon ts terminator.Jump (i + 1)
    Some (record { tree = st.Continue (position_at ts i); height = 1; next = j })

  unfoldable pub break_statement : ℕ → Option (Parsed Stmt)
  break_statement i = do
    j ← insert_semicolon ts terminator.Jump (i + 1)
    Some (record { tree = st.Break (position_at ts i); height = 1; next = j })

  unfoldable pub return_alone : ℕ → Option (Parsed Stmt)
  return_alone i = do
    j ← insert_semicolon ts terminator.Jump (i + 1)
    Some (record { tree = st.Return (position_at ts i); height = 1; next = j })

  unfoldable pub return_value : ℕ → Option (Parsed Stmt)
  return_value i = do
    r ← expr (production.Expression false) (i + 1)
    j ← insert_semicolon ts terminator.Plain r.next
    Some (record { tree = st.ReturnValue (position_at ts i) r.tree; height = r.height + 1; next = j })

  unfoldable pub return_statement : ℕ → Option (Parsed Stmt)
  return_statement i = if is_alone (line_before_at ts (i + 1)) (terminal_at ts (i + 1)) then return_alone i else return_value i

  unfoldable pub throw_value : ℕ → Option (Parsed Stmt)
  throw_value i = do
    r ← expr (production.Expression false) (i + 1)
    j ← insert_semicolon ts terminator.Plain r.next
    Some (record { tree = st.Throw (position_at ts i) r.tree; height = r.height + 1; next = j })

  unfoldable pub throw_statement : ℕ → Option (Parsed Stmt)
  throw_statement i = if line_before_at ts (i + 1) then None else throw_value i

  unfoldable pub empty : ℕ → Option (Parsed Stmt)
  empty i = Some (record { tree = st.Empty (position_at ts i); height = 1; next = i + 1 })

  abbrev pub function_by : Bool → ℕ → Option (Parsed Stmt)
  function_by true i = declared_function i
  function_by false i = None

  abbrev pub statement_by : Bool → Terminal → ℕ → Option (Parsed Stmt)
  statement_by b s.Function i = function_by b i
  statement_by b s.OpenBrace i = block i
  statement_by b s.Var i = var_statement i
  statement_by b s.Semicolon i = empty i
  statement_by b s.If i = if_statement i
  statement_by b s.Do i = do_while i
  statement_by b s.While i = while_statement i
  statement_by b s.For i = for_statement i
  statement_by b s.Continue i = continue_statement i
  statement_by b s.Break i = break_statement i
  statement_by b s.Return i = return_statement i
  statement_by b s.Throw i = throw_statement i
  statement_by b _ i = expression i

  unfoldable pub statement : Bool → ℕ → Option (Parsed Stmt)
  statement b i = statement_by b (terminal_at ts i) i
