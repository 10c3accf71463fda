-- The grammar: which tree the tokens from one place up to another spell.
-- A place is that of a token in the whole file, so what follows a part is the token at the place after it.
use Rattle.std.specs.Prelude.{ℕ, Bool, true, false, List, [], ◌∷◌, Option, Some, None, ◌≡◌, ◌≢◌, suc, ◌+◌, ◌<◌}
use Rattle.mdg_tree.specs.declared.operator.AssignOperator.{AssignOperator}
use Rattle.mdg_tree.specs.declared.operator.BinaryOperator.{BinaryOperator}
use Rattle.mdg_tree.specs.declared.operator.Step.{Step}
use Rattle.mdg_tree.specs.declared.operator.UnaryOperator.{UnaryOperator}
use Rattle.mdg_tree.specs.declared.tree.Declaration.{Declaration}
use Rattle.mdg_tree.specs.declared.tree.Expr.{Expr}
use Rattle.mdg_tree.specs.declared.tree.Function.{Function}
use Rattle.mdg_tree.specs.declared.tree.Goal.{Goal}
use Rattle.mdg_tree.specs.declared.tree.Init.{Init}
use Rattle.mdg_tree.specs.declared.tree.Key.{Key}
use Rattle.mdg_tree.specs.declared.tree.Property.{Property}
use Rattle.mdg_tree.specs.declared.tree.Stmt.{Stmt}
use Rattle.mdg_read.specs.declared.production.Production.{Production}
use Rattle.mdg_read.specs.declared.terminal.Terminal.{Terminal}
use Rattle.mdg_tree.specs.declared.operator.BinaryOperator.TheVariants as binary
use Rattle.mdg_tree.specs.declared.operator.AssignOperator.TheVariants as assign
use Rattle.mdg_read.specs.declared.terminal.Terminal.TheVariants as s
use Rattle.mdg_tree.specs.declared.tree.Expr.TheVariants as e
use Rattle.mdg_tree.specs.declared.tree.Stmt.TheVariants as st
use Rattle.mdg_tree.specs.declared.tree.Init.TheVariants as init
use Rattle.mdg_tree.specs.declared.tree.Goal.TheVariants as goal
use Rattle.mdg_read.specs.declared.production.Production.TheVariants as production
use Rattle.mdg_read.specs.declared.semicolon.Terminator.TheVariants as terminator
use Rattle.mdg_read.specs.Semicolon.{SpellsSemicolon, var_terminator}
use Rattle.mdg_read.specs.Target.{is_assignment_target}
use Rattle.mdg_read.specs.TokenClass.{tightest, precedence, is_allowed, unary_of}
use Rattle.mdg_read.specs.Tokens.{Tokens, terminal_at, position_at, text_at, line_before_at, offset_at, is_property_name, key_at}

-- one or more names with commas between, and their offsets
pub data SpellsNames (ts : Tokens) : List (List ℕ) → List ℕ → ℕ → ℕ → Type 0 where
  last_name : {i : ℕ} → terminal_at ts i ≡ s.Name → SpellsNames ts (text_at ts i ∷ []) (offset_at ts i ∷ []) i (i + 1)
  next_name : {i j : ℕ} {xs : List (List ℕ)} {os : List ℕ} → terminal_at ts i ≡ s.Name → terminal_at ts (i + 1) ≡ s.Comma → SpellsNames ts xs os (i + 1 + 1) j
      → SpellsNames ts (text_at ts i ∷ xs) (offset_at ts i ∷ os) i j

-- the parameters of a function, with their parentheses
pub data SpellsParameters (ts : Tokens) : List (List ℕ) → List ℕ → ℕ → ℕ → Type 0 where
  no_names : {i : ℕ} → terminal_at ts i ≡ s.OpenParen → terminal_at ts (i + 1) ≡ s.CloseParen → SpellsParameters ts [] [] i (i + 1 + 1)
  some_names : {i j : ℕ} {xs : List (List ℕ)} {os : List ℕ} → terminal_at ts i ≡ s.OpenParen → SpellsNames ts xs os (i + 1) j → terminal_at ts j ≡ s.CloseParen → SpellsParameters ts xs os i (j + 1)

mutual
  -- The tokens from one place up to another spell the expression of this production.
  pub data Spells (ts : Tokens) : Production → Expr → ℕ → ℕ → Type 0 where
    a_name : {i : ℕ} → terminal_at ts i ≡ s.Name → Spells ts production.Primary (e.Name (position_at ts i) (text_at ts i)) i (i + 1)
    a_null : {i : ℕ} → terminal_at ts i ≡ s.Null → Spells ts production.Primary (e.Null (position_at ts i)) i (i + 1)
    a_true : {i : ℕ} → terminal_at ts i ≡ s.True → Spells ts production.Primary (e.True (position_at ts i)) i (i + 1)
    a_false : {i : ℕ} → terminal_at ts i ≡ s.False → Spells ts production.Primary (e.False (position_at ts i)) i (i + 1)
    a_numeral : {i : ℕ} → terminal_at ts i ≡ s.Numeral → Spells ts production.Primary (e.Numeral (position_at ts i) (text_at ts i)) i (i + 1)
    a_text : {i : ℕ} → terminal_at ts i ≡ s.Text → Spells ts production.Primary (e.Text (position_at ts i) (text_at ts i)) i (i + 1)
    in_parens : {i j : ℕ} {t : Expr} → terminal_at ts i ≡ s.OpenParen → Spells ts (production.Expression false) t (i + 1) j → terminal_at ts j ≡ s.CloseParen
        → Spells ts production.Primary (e.Paren (position_at ts i) t) i (j + 1)
    an_array : {i j : ℕ} {es : List Expr} → terminal_at ts i ≡ s.OpenBracket → SpellsElements ts es (i + 1) j → Spells ts production.Primary (e.Array (position_at ts i) es) i j
    an_object : {i j : ℕ} {ps : List Property} → terminal_at ts i ≡ s.OpenBrace → SpellsProperties ts ps (i + 1) j → Spells ts production.Primary (e.Object (position_at ts i) ps) i j
    is_primary : {i j : ℕ} {t : Expr} → Spells ts production.Primary t i j → Spells ts production.Member t i j
    a_function : {i j : ℕ} {x : Function} → SpellsFunction ts false x i j → Spells ts production.Member (e.FunctionExpression x) i j
    a_named_function : {i j : ℕ} {x : Function} → SpellsFunction ts true x i j → Spells ts production.Member (e.FunctionExpression x) i j
    indexed : {i m j : ℕ} {t key : Expr} → Spells ts production.Member t i m → terminal_at ts m ≡ s.OpenBracket → Spells ts (production.Expression false) key (m + 1) j → terminal_at ts j ≡ s.CloseBracket
        → Spells ts production.Member (e.Index (position_at ts i) t key) i (j + 1)
    dotted : {i j : ℕ} {t : Expr} → Spells ts production.Member t i j → terminal_at ts j ≡ s.Dot → is_property_name ts (j + 1) ≡ true
        → Spells ts production.Member (e.Member (position_at ts i) t (text_at ts (j + 1))) i (j + 1 + 1)
    built : {i m j : ℕ} {t : Expr} {es : List Expr} → terminal_at ts i ≡ s.New → Spells ts production.Member t (i + 1) m → SpellsArguments ts es m j
        → Spells ts production.Member (e.NewWithArguments (position_at ts i) t es) i j
    is_member : {i j : ℕ} {t : Expr} → Spells ts production.Member t i j → Spells ts production.New t i j
    built_bare : {i j : ℕ} {t : Expr} → terminal_at ts i ≡ s.New → Spells ts production.New t (i + 1) j → Spells ts production.New (e.New (position_at ts i) t) i j
    called : {i m j : ℕ} {t : Expr} {es : List Expr} → Spells ts production.Member t i m → SpellsArguments ts es m j → Spells ts production.Call (e.Call (position_at ts i) t es) i j
    called_again : {i m j : ℕ} {t : Expr} {es : List Expr} → Spells ts production.Call t i m → SpellsArguments ts es m j → Spells ts production.Call (e.Call (position_at ts i) t es) i j
    call_indexed : {i m j : ℕ} {t key : Expr} → Spells ts production.Call t i m → terminal_at ts m ≡ s.OpenBracket → Spells ts (production.Expression false) key (m + 1) j → terminal_at ts j ≡ s.CloseBracket
        → Spells ts production.Call (e.Index (position_at ts i) t key) i (j + 1)
    call_dotted : {i j : ℕ} {t : Expr} → Spells ts production.Call t i j → terminal_at ts j ≡ s.Dot → is_property_name ts (j + 1) ≡ true
        → Spells ts production.Call (e.Member (position_at ts i) t (text_at ts (j + 1))) i (j + 1 + 1)
    is_new : {i j : ℕ} {t : Expr} → Spells ts production.New t i j → Spells ts production.LeftHandSide t i j
    is_call : {i j : ℕ} {t : Expr} → Spells ts production.Call t i j → Spells ts production.LeftHandSide t i j
    is_side : {i j : ℕ} {t : Expr} → Spells ts production.LeftHandSide t i j → Spells ts production.Postfix t i j
    stepped : {i j : ℕ} {t : Expr} {o : Step} → Spells ts production.LeftHandSide t i j → is_assignment_target t ≡ true → terminal_at ts j ≡ s.Update o → line_before_at ts j ≡ false
        → Spells ts production.Postfix (e.Postfix (position_at ts i) o t) i (j + 1)
    is_postfix : {i j : ℕ} {t : Expr} → Spells ts production.Postfix t i j → Spells ts production.Unary t i j
    with_unary : {i j : ℕ} {t : Expr} {o : UnaryOperator} → unary_of (terminal_at ts i) ≡ Some o → Spells ts production.Unary t (i + 1) j → Spells ts production.Unary (e.Unary (position_at ts i) o t) i j
    with_prefix : {i j : ℕ} {t : Expr} {o : Step} → terminal_at ts i ≡ s.Update o → Spells ts production.LeftHandSide t (i + 1) j → is_assignment_target t ≡ true → Spells ts production.Unary (e.Prefix (position_at ts i) o t) i j
    is_unary : {b : Bool} {i j : ℕ} {t : Expr} → Spells ts production.Unary t i j → Spells ts (production.Binary b tightest) t i j
    is_tighter : {b : Bool} {i j k : ℕ} {t : Expr} → k < tightest → Spells ts (production.Binary b (suc k)) t i j → Spells ts (production.Binary b k) t i j
    with_binary : {b : Bool} {i m j k : ℕ} {o : BinaryOperator} {x y : Expr} → Spells ts (production.Binary b k) x i m → terminal_at ts m ≡ s.Binary o → is_allowed b o ≡ true → precedence o ≡ k
        → Spells ts (production.Binary b (suc k)) y (m + 1) j → Spells ts (production.Binary b k) (e.Binary (position_at ts i) o x y) i j
    is_level : {b : Bool} {i j : ℕ} {t : Expr} → Spells ts (production.Binary b 0) t i j → Spells ts (production.Conditional b) t i j
    with_choice : {b : Bool} {i m k j : ℕ} {c x y : Expr} → Spells ts (production.Binary b 0) c i m → terminal_at ts m ≡ s.Question → Spells ts (production.Assignment false) x (m + 1) k
        → terminal_at ts k ≡ s.Colon → Spells ts (production.Assignment b) y (k + 1) j → Spells ts (production.Conditional b) (e.Conditional (position_at ts i) c x y) i j
    is_conditional : {b : Bool} {i j : ℕ} {t : Expr} → Spells ts (production.Conditional b) t i j → Spells ts (production.Assignment b) t i j
    with_assign : {b : Bool} {i m j : ℕ} {o : AssignOperator} {x y : Expr} → Spells ts production.LeftHandSide x i m → is_assignment_target x ≡ true → terminal_at ts m ≡ s.Assign o
        → Spells ts (production.Assignment b) y (m + 1) j → Spells ts (production.Assignment b) (e.Assign (position_at ts i) o x y) i j
    is_single : {b : Bool} {i j : ℕ} {t : Expr} → Spells ts (production.Assignment b) t i j → Spells ts (production.Expression b) t i j
    with_commas : {b : Bool} {i m j : ℕ} {t : Expr} {es : List Expr} → Spells ts (production.Assignment b) t i m → terminal_at ts m ≡ s.Comma → SpellsSequence ts b es (m + 1) j
        → Spells ts (production.Expression b) (e.Comma (position_at ts i) (t ∷ es)) i j

  -- one or more expressions with commas between
  pub data SpellsSequence (ts : Tokens) : Bool → List Expr → ℕ → ℕ → Type 0 where
    last_of : {b : Bool} {i j : ℕ} {t : Expr} → Spells ts (production.Assignment b) t i j → SpellsSequence ts b (t ∷ []) i j
    next_of : {b : Bool} {i m j : ℕ} {t : Expr} {es : List Expr} → Spells ts (production.Assignment b) t i m → terminal_at ts m ≡ s.Comma → SpellsSequence ts b es (m + 1) j
        → SpellsSequence ts b (t ∷ es) i j

  -- the arguments of a call, with their parentheses
  pub data SpellsArguments (ts : Tokens) : List Expr → ℕ → ℕ → Type 0 where
    no_arguments : {i : ℕ} → terminal_at ts i ≡ s.OpenParen → terminal_at ts (i + 1) ≡ s.CloseParen → SpellsArguments ts [] i (i + 1 + 1)
    some_arguments : {i j : ℕ} {es : List Expr} → terminal_at ts i ≡ s.OpenParen → SpellsSequence ts false es (i + 1) j → terminal_at ts j ≡ s.CloseParen → SpellsArguments ts es i (j + 1)

  -- what stands after `[`, with `]`; a last comma adds nothing
  pub data SpellsElements (ts : Tokens) : List Expr → ℕ → ℕ → Type 0 where
    no_element : {i : ℕ} → terminal_at ts i ≡ s.CloseBracket → SpellsElements ts [] i (i + 1)
    last_element : {i j : ℕ} {t : Expr} → Spells ts (production.Assignment false) t i j → terminal_at ts j ≡ s.CloseBracket → SpellsElements ts (t ∷ []) i (j + 1)
    next_element : {i m j : ℕ} {t : Expr} {es : List Expr} → Spells ts (production.Assignment false) t i m → terminal_at ts m ≡ s.Comma → SpellsElements ts es (m + 1) j → SpellsElements ts (t ∷ es) i j

  -- what stands after `{` of an object, with `}`; a last comma adds nothing
  pub data SpellsProperties (ts : Tokens) : List Property → ℕ → ℕ → Type 0 where
    no_property : {i : ℕ} → terminal_at ts i ≡ s.CloseBrace → SpellsProperties ts [] i (i + 1)
    last_property : {i j : ℕ} {k : Key} {t : Expr} → key_at ts i ≡ Some k → terminal_at ts (i + 1) ≡ s.Colon → Spells ts (production.Assignment false) t (i + 1 + 1) j → terminal_at ts j ≡ s.CloseBrace
        → SpellsProperties ts (record { at = position_at ts i; key = k; value = t } ∷ []) i (j + 1)
    next_property : {i m j : ℕ} {k : Key} {t : Expr} {ps : List Property} → key_at ts i ≡ Some k → terminal_at ts (i + 1) ≡ s.Colon → Spells ts (production.Assignment false) t (i + 1 + 1) m → terminal_at ts m ≡ s.Comma
        → SpellsProperties ts ps (m + 1) j → SpellsProperties ts (record { at = position_at ts i; key = k; value = t } ∷ ps) i j

  -- a function, with a name or without one
  pub data SpellsFunction (ts : Tokens) : Bool → Function → ℕ → ℕ → Type 0 where
    nameless : {i m j : ℕ} {xs : List (List ℕ)} {os : List ℕ} {body : List Stmt} → terminal_at ts i ≡ s.Function → SpellsParameters ts xs os (i + 1) m → terminal_at ts m ≡ s.OpenBrace
        → SpellsItems ts true body (m + 1) j → terminal_at ts j ≡ s.CloseBrace
        → SpellsFunction ts false (record { name = None; name_offset = offset_at ts i; parameters = xs; parameter_offsets = os; body = body; line = (position_at ts i).line; offset = offset_at ts i }) i (j + 1)
    named : {i m j : ℕ} {xs : List (List ℕ)} {os : List ℕ} {body : List Stmt} → terminal_at ts i ≡ s.Function → terminal_at ts (i + 1) ≡ s.Name → SpellsParameters ts xs os (i + 1 + 1) m → terminal_at ts m ≡ s.OpenBrace
        → SpellsItems ts true body (m + 1) j → terminal_at ts j ≡ s.CloseBrace
        → SpellsFunction ts true (record { name = Some (text_at ts (i + 1)); name_offset = offset_at ts (i + 1); parameters = xs; parameter_offsets = os; body = body; line = (position_at ts i).line; offset = offset_at ts i }) i (j + 1)

  -- one or more declarations with commas between
  pub data SpellsDeclarations (ts : Tokens) : Bool → List Declaration → ℕ → ℕ → Type 0 where
    last_declared : {b : Bool} {i j : ℕ} {d : Declaration} → SpellsDeclaration ts b d i j → SpellsDeclarations ts b (d ∷ []) i j
    next_declared : {b : Bool} {i m j : ℕ} {d : Declaration} {ds : List Declaration} → SpellsDeclaration ts b d i m → terminal_at ts m ≡ s.Comma → SpellsDeclarations ts b ds (m + 1) j
        → SpellsDeclarations ts b (d ∷ ds) i j

  pub data SpellsDeclaration (ts : Tokens) : Bool → Declaration → ℕ → ℕ → Type 0 where
    bare : {b : Bool} {i : ℕ} → terminal_at ts i ≡ s.Name → SpellsDeclaration ts b (record { at = position_at ts i; name = text_at ts i; value = None }) i (i + 1)
    valued : {b : Bool} {i j : ℕ} {t : Expr} → terminal_at ts i ≡ s.Name → terminal_at ts (i + 1) ≡ s.Assign assign.Plain → Spells ts (production.Assignment b) t (i + 1 + 1) j
        → SpellsDeclaration ts b (record { at = position_at ts i; name = text_at ts i; value = Some t }) i j

  -- an expression that may be absent before this terminal
  pub data SpellsOptional (ts : Tokens) : Terminal → Option Expr → ℕ → ℕ → Type 0 where
    absent : {k : Terminal} {i : ℕ} → terminal_at ts i ≡ k → SpellsOptional ts k None i i
    given : {k : Terminal} {i j : ℕ} {t : Expr} → Spells ts (production.Expression false) t i j → SpellsOptional ts k (Some t) i j

  -- what a `for` begins with
  pub data SpellsInit (ts : Tokens) : Init → ℕ → ℕ → Type 0 where
    no_start : {i : ℕ} → terminal_at ts i ≡ s.Semicolon → SpellsInit ts init.Absent i i
    var_start : {i j : ℕ} {ds : List Declaration} → terminal_at ts i ≡ s.Var → SpellsDeclarations ts true ds (i + 1) j → SpellsInit ts (init.Declarations (position_at ts i) ds) i j
    expression_start : {i j : ℕ} {t : Expr} → Spells ts (production.Expression true) t i j → SpellsInit ts (init.Initial t) i j

  -- what a `for` with `in` assigns to
  pub data SpellsGoal (ts : Tokens) : Goal → ℕ → ℕ → Type 0 where
    var_goal : {i : ℕ} → terminal_at ts i ≡ s.Var → terminal_at ts (i + 1) ≡ s.Name → SpellsGoal ts (goal.Variable (position_at ts i) (position_at ts (i + 1)) (text_at ts (i + 1))) i (i + 1 + 1)
    left_goal : {i j : ℕ} {t : Expr} → Spells ts production.LeftHandSide t i j → is_assignment_target t ≡ true → SpellsGoal ts (goal.Target t) i j

  -- A statement; where the flag is set, a declared function too.
  pub data SpellsStatement (ts : Tokens) : Bool → Stmt → ℕ → ℕ → Type 0 where
    declared : {i j : ℕ} {x : Function} → SpellsFunction ts true x i j → SpellsStatement ts true (st.FunctionDeclaration x) i j
    block : {b : Bool} {i j : ℕ} {body : List Stmt} → terminal_at ts i ≡ s.OpenBrace → SpellsItems ts false body (i + 1) j → terminal_at ts j ≡ s.CloseBrace
        → SpellsStatement ts b (st.Block (position_at ts i) body) i (j + 1)
    var : {b : Bool} {i m j : ℕ} {ds : List Declaration} → terminal_at ts i ≡ s.Var → SpellsDeclarations ts false ds (i + 1) m → SpellsSemicolon ts (var_terminator ds) m j
        → SpellsStatement ts b (st.Var (position_at ts i) ds) i j
    empty : {b : Bool} {i : ℕ} → terminal_at ts i ≡ s.Semicolon → SpellsStatement ts b (st.Empty (position_at ts i)) i (i + 1)
    expression : {b : Bool} {i m j : ℕ} {t : Expr} → terminal_at ts i ≢ s.OpenBrace → terminal_at ts i ≢ s.Function → Spells ts (production.Expression false) t i m → SpellsSemicolon ts terminator.Plain m j
        → SpellsStatement ts b (st.Expression (position_at ts i) t) i j
    if_alone : {b : Bool} {i m j : ℕ} {c : Expr} {x : Stmt} → terminal_at ts i ≡ s.If → terminal_at ts (i + 1) ≡ s.OpenParen → Spells ts (production.Expression false) c (i + 1 + 1) m → terminal_at ts m ≡ s.CloseParen
        → SpellsStatement ts false x (m + 1) j → terminal_at ts j ≢ s.Else → SpellsStatement ts b (st.If (position_at ts i) c x) i j
    if_else : {b : Bool} {i m n j : ℕ} {c : Expr} {x y : Stmt} → terminal_at ts i ≡ s.If → terminal_at ts (i + 1) ≡ s.OpenParen → Spells ts (production.Expression false) c (i + 1 + 1) m → terminal_at ts m ≡ s.CloseParen
        → SpellsStatement ts false x (m + 1) n → terminal_at ts n ≡ s.Else → SpellsStatement ts false y (n + 1) j → SpellsStatement ts b (st.IfElse (position_at ts i) c x y) i j
    do_while : {b : Bool} {i m n j : ℕ} {c : Expr} {x : Stmt} → terminal_at ts i ≡ s.Do → SpellsStatement ts false x (i + 1) m → terminal_at ts m ≡ s.While → terminal_at ts (m + 1) ≡ s.OpenParen
        → Spells ts (production.Expression false) c (m + 1 + 1) n → terminal_at ts n ≡ s.CloseParen → SpellsSemicolon ts terminator.Loop (n + 1) j → SpellsStatement ts b (st.DoWhile (position_at ts i) x c) i j
    while : {b : Bool} {i m j : ℕ} {c : Expr} {x : Stmt} → terminal_at ts i ≡ s.While → terminal_at ts (i + 1) ≡ s.OpenParen → Spells ts (production.Expression false) c (i + 1 + 1) m → terminal_at ts m ≡ s.CloseParen
        → SpellsStatement ts false x (m + 1) j → SpellsStatement ts b (st.While (position_at ts i) c x) i j
    for : {b : Bool} {i m n k j : ℕ} {a : Init} {c u : Option Expr} {x : Stmt} → terminal_at ts i ≡ s.For → terminal_at ts (i + 1) ≡ s.OpenParen → SpellsInit ts a (i + 1 + 1) m
        → terminal_at ts m ≡ s.Semicolon → SpellsOptional ts s.Semicolon c (m + 1) n → terminal_at ts n ≡ s.Semicolon → SpellsOptional ts s.CloseParen u (n + 1) k → terminal_at ts k ≡ s.CloseParen
        → SpellsStatement ts false x (k + 1) j → SpellsStatement ts b (st.For (position_at ts i) a c u x) i j
    for_in : {b : Bool} {i m k j : ℕ} {g : Goal} {o : Expr} {x : Stmt} → terminal_at ts i ≡ s.For → terminal_at ts (i + 1) ≡ s.OpenParen → SpellsGoal ts g (i + 1 + 1) m → terminal_at ts m ≡ s.Binary binary.In
        → Spells ts (production.Expression false) o (m + 1) k → terminal_at ts k ≡ s.CloseParen → SpellsStatement ts false x (k + 1) j → SpellsStatement ts b (st.ForIn (position_at ts i) g o x) i j
    continue : {b : Bool} {i j : ℕ} → terminal_at ts i ≡ s.Continue → SpellsSemicolon ts terminator.Jump (i + 1) j → SpellsStatement ts b (st.Continue (position_at ts i)) i j
    break : {b : Bool} {i j : ℕ} → terminal_at ts i ≡ s.Break → SpellsSemicolon ts terminator.Jump (i + 1) j → SpellsStatement ts b (st.Break (position_at ts i)) i j
    return : {b : Bool} {i j : ℕ} → terminal_at ts i ≡ s.Return → SpellsSemicolon ts terminator.Jump (i + 1) j → SpellsStatement ts b (st.Return (position_at ts i)) i j
    return_value : {b : Bool} {i m j : ℕ} {t : Expr} → terminal_at ts i ≡ s.Return → line_before_at ts (i + 1) ≡ false → Spells ts (production.Expression false) t (i + 1) m → SpellsSemicolon ts terminator.Plain m j
        → SpellsStatement ts b (st.ReturnValue (position_at ts i) t) i j
    throw : {b : Bool} {i m j : ℕ} {t : Expr} → terminal_at ts i ≡ s.Throw → line_before_at ts (i + 1) ≡ false → Spells ts (production.Expression false) t (i + 1) m → SpellsSemicolon ts terminator.Plain m j
        → SpellsStatement ts b (st.Throw (position_at ts i) t) i j

  -- statements one after another; where the flag is set, declared functions too
  pub data SpellsItems (ts : Tokens) : Bool → List Stmt → ℕ → ℕ → Type 0 where
    done : {b : Bool} {i : ℕ} → SpellsItems ts b [] i i
    item : {b : Bool} {i m j : ℕ} {t : Stmt} {body : List Stmt} → SpellsStatement ts b t i m → SpellsItems ts b body m j → SpellsItems ts b (t ∷ body) i j
