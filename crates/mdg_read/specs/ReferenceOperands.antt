-- Serves only the proof: how the reference reader reads primary, member, call and function expressions.
use Rattle.std.specs.Prelude.{if◌then◌else◌, ℕ, Bool, true, false, List, [], ◌∷◌, length, Option, Some, None, suc, ◌+◌, zero, max, ◌++◌}
use Rattle.mdg_tree.specs.declared.tree.Expr.{Expr}
use Rattle.mdg_tree.specs.declared.tree.Function.{Function}
use Rattle.mdg_tree.specs.declared.tree.Property.{Property}
use Rattle.mdg_tree.specs.declared.tree.Stmt.{Stmt}
use Rattle.mdg_read.specs.declared.production.Production.{Production}
use Rattle.mdg_read.specs.declared.parsed.Parsed.{Parsed}
use Rattle.mdg_read.specs.declared.terminal.Terminal.{Terminal}
use Rattle.mdg_read.specs.declared.terminal.Terminal.TheVariants as s
use Rattle.mdg_tree.specs.declared.tree.Expr.TheVariants as e
use Rattle.mdg_read.specs.declared.production.Production.TheVariants as production
use Rattle.mdg_read.specs.Combinators.{◌>>=◌, bounded, expect, parameter_list}
use Rattle.mdg_read.specs.TokenClass.{same, ends_block, is_member_link, is_link}
use Rattle.mdg_read.specs.Tokens.{Tokens, terminal_at, position_at, text_at, offset_at, is_property_name, key_at}

module _ (ts : Tokens) (n : ℕ) (expr : Production → ℕ → Option (Parsed Expr)) (stmt : Bool → ℕ → Option (Parsed Stmt)) where
  -- statements up to a brace or the end
  unfoldable pub items_from : Bool → ℕ → List Stmt → ℕ → ℕ → Option (Parsed (List Stmt))
  items_from b zero body height i = None
  items_from b (suc w) body height i =
      if ends_block (terminal_at ts i) then Some (record { tree = body; height = height; next = i })
      else (do r ← stmt b i; items_from b w (body ++ r.tree ∷ []) (max height r.height) r.next)

  unfoldable pub items : Bool → ℕ → Option (Parsed (List Stmt))
  items b i = items_from b (length ts + 1) [] 0 i

  unfoldable pub paren : ℕ → Option (Parsed Expr)
  paren i = do
    r ← expr (production.Expression false) (i + 1)
    j ← expect ts s.CloseParen r.next
    Some (record { tree = e.Paren (position_at ts i) r.tree; height = r.height + 1; next = j })

  unfoldable pub sequence_from : Bool → ℕ → List Expr → ℕ → ℕ → Option (Parsed (List Expr))
  sequence_from b zero es height i = None
  sequence_from b (suc w) es height i = do
    r ← expr (production.Assignment b) i
    if same (terminal_at ts r.next) s.Comma then sequence_from b w (es ++ r.tree ∷ []) (max height r.height) (r.next + 1) else Some (record { tree = es ++ r.tree ∷ []; height = max height r.height; next = r.next })

  unfoldable pub some_arguments : ℕ → Option (Parsed (List Expr))
  some_arguments i = do
    r ← sequence_from false (length ts) [] 0 i
    j ← expect ts s.CloseParen r.next
    Some (record { tree = r.tree; height = r.height; next = j })

  unfoldable pub arguments : ℕ → Option (Parsed (List Expr))
  arguments i = do
    j ← expect ts s.OpenParen i
    if same (terminal_at ts j) s.CloseParen then Some (record { tree = []; height = 0; next = j + 1 }) else some_arguments j

  -- elements after those before, up to the bracket
  unfoldable pub elements_from : ℕ → List Expr → ℕ → ℕ → Option (Parsed (List Expr))
  elements_from zero es height i = None
  elements_from (suc w) es height i =
      if same (terminal_at ts i) s.CloseBracket then Some (record { tree = es; height = height; next = i + 1 })
      else (do
        r ← expr (production.Assignment false) i
        if same (terminal_at ts r.next) s.Comma then elements_from w (es ++ r.tree ∷ []) (max height r.height) (r.next + 1) else (do j ← expect ts s.CloseBracket r.next; Some (record { tree = es ++ r.tree ∷ []; height = max height r.height; next = j })))

  unfoldable pub array : ℕ → Option (Parsed Expr)
  array i = do
    r ← elements_from (length ts) [] 0 (i + 1)
    Some (record { tree = e.Array (position_at ts i) r.tree; height = r.height + 1; next = r.next })

  unfoldable pub property : ℕ → Option (Parsed Property)
  property i = do
    k ← key_at ts i
    j ← expect ts s.Colon (i + 1)
    r ← expr (production.Assignment false) j
    Some (record { tree = record { at = position_at ts i; key = k; value = r.tree }; height = r.height; next = r.next })

  -- properties after those before, up to the brace
  unfoldable pub properties_from : ℕ → List Property → ℕ → ℕ → Option (Parsed (List Property))
  properties_from zero ps height i = None
  properties_from (suc w) ps height i =
      if same (terminal_at ts i) s.CloseBrace then Some (record { tree = ps; height = height; next = i + 1 })
      else (do
        r ← property i
        if same (terminal_at ts r.next) s.Comma then properties_from w (ps ++ r.tree ∷ []) (max height r.height) (r.next + 1) else (do j ← expect ts s.CloseBrace r.next; Some (record { tree = ps ++ r.tree ∷ []; height = max height r.height; next = j })))

  unfoldable pub object : ℕ → Option (Parsed Expr)
  object i = do
    r ← properties_from (length ts) [] 0 (i + 1)
    Some (record { tree = e.Object (position_at ts i) r.tree; height = r.height + 1; next = r.next })

  abbrev pub primary_by : Terminal → ℕ → Option (Parsed Expr)
  primary_by s.Name i = Some (record { tree = e.Name (position_at ts i) (text_at ts i); height = 1; next = i + 1 })
  primary_by s.Null i = Some (record { tree = e.Null (position_at ts i); height = 1; next = i + 1 })
  primary_by s.True i = Some (record { tree = e.True (position_at ts i); height = 1; next = i + 1 })
  primary_by s.False i = Some (record { tree = e.False (position_at ts i); height = 1; next = i + 1 })
  primary_by s.Numeral i = Some (record { tree = e.Numeral (position_at ts i) (text_at ts i); height = 1; next = i + 1 })
  primary_by s.Text i = Some (record { tree = e.Text (position_at ts i) (text_at ts i); height = 1; next = i + 1 })
  primary_by s.OpenParen i = paren i
  primary_by s.OpenBracket i = array i
  primary_by s.OpenBrace i = object i
  primary_by _ i = None

  unfoldable pub primary : ℕ → Option (Parsed Expr)
  primary i = primary_by (terminal_at ts i) i

  -- a function that begins at i, with its parameters at j
  unfoldable pub function_from : Option (List ℕ) → ℕ → ℕ → ℕ → Option (Parsed Function)
  function_from name name_offset i j = do
    p ← parameter_list ts j
    a ← expect ts s.OpenBrace p.next
    r ← items true a
    k ← expect ts s.CloseBrace r.next
    Some (record { tree = record { name = name; name_offset = name_offset; parameters = p.names; parameter_offsets = p.offsets; body = r.tree; line = (position_at ts i).line; offset = offset_at ts i }; height = r.height + 1; next = k })

  unfoldable pub named_function : ℕ → Option (Parsed Function)
  named_function i = function_from (Some (text_at ts (i + 1))) (offset_at ts (i + 1)) i (i + 1 + 1)

  unfoldable pub any_function : ℕ → Option (Parsed Function)
  any_function i = if same (terminal_at ts (i + 1)) s.Name then named_function i else function_from None (offset_at ts i) i (i + 1)

  unfoldable pub function : ℕ → Option (Parsed Expr)
  function i = do
    r ← any_function i
    Some (record { tree = e.FunctionExpression r.tree; height = r.height; next = r.next })

  -- `object.name` and `object[key]`
  abbrev pub member_by : Bool → ℕ → Parsed Expr → Option (Parsed Expr)
  member_by true i r = bounded (suc n) (record { tree = e.Member (position_at ts i) r.tree (text_at ts (r.next + 1)); height = r.height + 1; next = r.next + 1 + 1 })
  member_by false i r = None

  unfoldable pub member : ℕ → Parsed Expr → Option (Parsed Expr)
  member i r = member_by (is_property_name ts (r.next + 1)) i r

  unfoldable pub index : ℕ → Parsed Expr → Option (Parsed Expr)
  index i r = do
    k ← expr (production.Expression false) (r.next + 1)
    j ← expect ts s.CloseBracket k.next
    bounded (suc n) (record { tree = e.Index (position_at ts i) r.tree k.tree; height = max r.height k.height + 1; next = j })

  unfoldable pub call : ℕ → Parsed Expr → Option (Parsed Expr)
  call i r = do
    a ← arguments r.next
    bounded (suc n) (record { tree = e.Call (position_at ts i) r.tree a.tree; height = max r.height a.height + 1; next = a.next })

  -- one more link of a chain that begins at i
  abbrev pub link_by : Terminal → ℕ → Parsed Expr → Option (Parsed Expr)
  link_by s.Dot i r = member i r
  link_by s.OpenBracket i r = index i r
  link_by s.OpenParen i r = call i r
  link_by _ i r = None

  unfoldable pub link : ℕ → Parsed Expr → Option (Parsed Expr)
  link i r = link_by (terminal_at ts r.next) i r

  unfoldable pub links_from : ℕ → ℕ → Parsed Expr → Option (Parsed Expr)
  links_from zero i r = None
  links_from (suc w) i r = if is_link (terminal_at ts r.next) then link i r >>= links_from w i else Some r

  unfoldable pub built_with : ℕ → Parsed Expr → Option (Parsed Expr)
  built_with i r = do
    a ← arguments r.next
    Some (record { tree = e.NewWithArguments (position_at ts i) r.tree a.tree; height = max r.height a.height + 1; next = a.next })

  -- what begins with `new`
  unfoldable pub built : ℕ → Option (Parsed Expr)
  built i = do
    r ← expr production.Member (i + 1)
    if same (terminal_at ts r.next) s.OpenParen then built_with i r else Some (record { tree = e.New (position_at ts i) r.tree; height = r.height + 1; next = r.next })

  abbrev pub head_by : Terminal → ℕ → Option (Parsed Expr)
  head_by s.New i = built i
  head_by s.Function i = function i
  head_by _ i = primary i

  unfoldable pub members_from : ℕ → ℕ → Parsed Expr → Option (Parsed Expr)
  members_from zero i r = None
  members_from (suc w) i r = if is_member_link (terminal_at ts r.next) then link i r >>= members_from w i else Some r

  unfoldable pub operand : ℕ → Option (Parsed Expr)
  operand i = head_by (terminal_at ts i) i >>= members_from (length ts) i

  unfoldable pub left_hand_side : ℕ → Option (Parsed Expr)
  left_hand_side i = operand i >>= links_from (length ts) i
