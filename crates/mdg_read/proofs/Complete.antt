-- What is spelled is read, so at most one tree is spelled.
use Rattle.std.proofs.Common.{◌≡◌, ◌≢◌, ℕ, zero, suc, ◌+◌, ◌-◌, ◌<◌, ◌≤◌, Bool, true, false, List, [], ◌∷◌, ◌++◌, length, arith, refl, sym, ap, ap₂, ◌∙◌, append_assoc, append-nil, true≢false}
use Rattle.std.specs.Prelude.{Option, Some, None, nat_le, max, map, option_map}
use Rattle.std.proofs.lemmas.Bool.{le-leb, lt-leb}
use Rattle.mdg_tree.specs.declared.tree.Expr.{Expr}
use Rattle.mdg_tree.specs.declared.tree.Expr.TheVariants as ex
use Rattle.mdg_tree.specs.declared.tree.Stmt.{Stmt}
use Rattle.mdg_tree.specs.declared.tree.Stmt.TheVariants as st
use Rattle.mdg_tree.specs.declared.tree.Init.{Init}
use Rattle.mdg_tree.specs.declared.tree.Init.TheVariants as init
use Rattle.mdg_tree.specs.declared.tree.Goal.{Goal}
use Rattle.mdg_tree.specs.declared.tree.Goal.TheVariants as goal
use Rattle.mdg_tree.specs.declared.tree.Key.{Key}
use Rattle.mdg_tree.specs.declared.tree.Property.{Property}
use Rattle.mdg_tree.specs.declared.tree.Function.{Function}
use Rattle.mdg_tree.specs.declared.tree.Declaration.{Declaration}
use Rattle.mdg_tree.specs.declared.operator.BinaryOperator.{BinaryOperator}
use Rattle.mdg_tree.specs.declared.operator.BinaryOperator.TheVariants as binary
use Rattle.mdg_tree.proofs.Heights as heights
use Rattle.mdg_tree.specs.Height.{height, stmt_height, init_height, goal_height, property_height, function_height, declaration_height, highest, optional, head_height}
use Rattle.mdg_read.specs.declared.terminal.Terminal.{Terminal}
use Rattle.mdg_read.specs.declared.terminal.Terminal.TheVariants as s
use Rattle.mdg_read.specs.declared.production.Production.{Production}
use Rattle.mdg_read.specs.declared.production.Production.TheVariants as production
use Rattle.mdg_read.specs.declared.semicolon.Terminator.{Terminator}
use Rattle.mdg_read.specs.declared.semicolon.Terminator.TheVariants as terminator
use Rattle.mdg_read.specs.declared.parsed.Parsed.{Parsed}
use Rattle.mdg_read.specs.Combinators.{◌>>=◌, expect, bounded}
use Rattle.mdg_read.specs.Grammar.{Spells, SpellsSequence, SpellsArguments, SpellsElements, SpellsProperties, SpellsFunction, SpellsDeclarations, SpellsDeclaration, SpellsOptional, SpellsInit, SpellsGoal, SpellsStatement, SpellsItems, SpellsNames, SpellsParameters, last_name, next_name, no_names, some_names, a_name, a_null, a_true, a_false, a_numeral, a_text, in_parens, an_array, an_object, is_primary, a_function, a_named_function, indexed, dotted, built, is_member, built_bare, called, called_again, call_indexed, call_dotted, is_new, is_call, is_side, stepped, is_postfix, with_unary, with_prefix, is_unary, is_tighter, with_binary, is_level, with_choice, is_conditional, with_assign, is_single, with_commas, last_of, next_of, no_arguments, some_arguments, no_element, last_element, next_element, no_property, last_property, next_property, nameless, named, last_declared, next_declared, bare, valued, absent, given, no_start, var_start, expression_start, var_goal, left_goal, declared, block, var, empty, expression, if_alone, if_else, do_while, while, for, for_in, continue, break, return, return_value, throw, done, item}
use Rattle.mdg_read.specs.Semicolon.{SpellsSemicolon, ends_bare, is_bare, var_terminator, var_terminator_of, semicolon, inserted}
use Rattle.mdg_read.specs.TokenClass.{is_step, is_in, same, is_operator, ends_block, unary_of, precedence, is_allowed, op_of, op_in, step_of, assign_of, is_link, is_member_link, is_plain_assign, is_alone}
use Rattle.mdg_read.specs.Tokens.{Tokens, terminal_at, position_at, text_at, offset_at, line_before_at, key_at, is_property_name}
use Rattle.mdg_read.specs.Combinators as combinators
use Rattle.mdg_read.specs.Reference as reference
use Rattle.mdg_read.specs.ReferenceExpressions as expressions
use Rattle.mdg_read.specs.ReferenceOperands as operands
use Rattle.mdg_read.specs.ReferenceStatements as statements
use Rattle.mdg_read.proofs.Combinators.{expect_ok, bounded_ok, differs, same_self, some_is}
use Rattle.mdg_read.proofs.BindingPower.{power, power_of, flag, rank, op_power, power_of_op, op_of_binary, precedence_small, link_small, no_comma, no_assign, no_question, no_link, no_member_link, no_open, begins, unary_no_step, no_close, no_close_bracket, left_quiet, unflag, jump_alone, no_declaration, value_not_alone, alone_semicolon, and-false, is_plain_start}
use Rattle.mdg_read.proofs.PropertyNames.{key_is_open}
use Rattle.mdg_read.proofs.Progress.{moves, arguments_moves, declaration_moves, statement_moves, within, starts, sequence_starts, statement_starts, precedence_bound, side_last, member_last, new_last, function_begins, function_moves}

abbrev pub found : Expr → ℕ → Parsed Expr
found t j = record { tree = t; height = height t; next = j }

abbrev pub found_stmt : Stmt → ℕ → Parsed Stmt
found_stmt t j = record { tree = t; height = stmt_height t; next = j }

max_assoc : (a b c : ℕ) → max (max a b) c ≡ max a (max b c)
max_assoc a b c = omega arith

max-zero : (a : ℕ) → max a 0 ≡ a
max-zero a = omega arith

max-0 : (a : ℕ) → max 0 a ≡ a
max-0 a = omega arith

abbrev read_of : {T : Type 0} → T → ℕ → ℕ → Parsed T
read_of t h j = record { tree = t; height = h; next = j }

as_found : {T : Type 0} (t : T) (h k j : ℕ) → k ≡ h → Some (read_of t h j) ≡ Some (read_of t k j)
as_found t h k j e = ap (λ z. Some (read_of t z j)) (sym e)

found_as : (t : Expr) (h j : ℕ) → height t ≡ h → Some (record { tree = t; height = h; next = j }) ≡ Some (found t j)
found_as t h j e = ap (λ z. Some (record { tree = t; height = z; next = j })) (sym e)

found_stmt_as : (t : Stmt) (h j : ℕ) → stmt_height t ≡ h → Some (record { tree = t; height = h; next = j }) ≡ Some (found_stmt t j)
found_stmt_as t h j e = ap (λ z. Some (record { tree = t; height = z; next = j })) (sym e)

found_bounded : (limit : ℕ) (t : Expr) (h j : ℕ) → height t ≡ h → height t ≤ limit → bounded limit (record { tree = t; height = h; next = j }) ≡ Some (found t j)
found_bounded limit t h j e low = bounded_ok limit _ (omega arith) ∙ ap (λ z. Some (record { tree = t; height = z; next = j })) (sym e)

stmt_bounded : (limit : ℕ) (t : Stmt) (h j : ℕ) → stmt_height t ≡ h → stmt_height t ≤ limit → bounded limit (record { tree = t; height = h; next = j }) ≡ Some (found_stmt t j)
stmt_bounded limit t h j e low = bounded_ok limit _ (omega arith) ∙ ap (λ z. Some (record { tree = t; height = z; next = j })) (sym e)

-- What takes no part of an expression needs no reader of parts.
module _ (ts : Tokens) where
  names_ok : {xs : List (List ℕ)} {os : List ℕ} {i j : ℕ} → SpellsNames ts xs os i j → same (terminal_at ts j) s.Comma ≡ false → (w : ℕ) (bx : List (List ℕ)) (bo : List ℕ) → length ts < w + i
      → combinators.names_from ts w bx bo i ≡ Some (record { names = bx ++ xs; offsets = bo ++ os; next = j })
  unfolding Rattle.mdg_read.specs.Combinators.names_from
  names_ok (last_name e) ends zero bx bo fuel = let w = within ts _ _ e (λ p. cc) in absurd (omega arith)
  names_ok (last_name {i} e) ends (suc w) bx bo fuel = rw (expect_ok ts s.Name i e, ends) refl
  names_ok (next_name e c q) ends zero bx bo fuel = let w = within ts _ _ e (λ p. cc) in absurd (omega arith)
  names_ok (next_name {i} {j} {xs} {os} e c q) ends (suc w) bx bo fuel =
      rw (expect_ok ts s.Name i e, c) (
      names_ok q ends w (bx ++ text_at ts i ∷ []) (bo ++ offset_at ts i ∷ []) (omega arith)
      ∙ ap₂ (λ a b. Some (record { names = a; offsets = b; next = j })) (append_assoc bx (text_at ts i ∷ []) xs) (append_assoc bo (offset_at ts i ∷ []) os))

  names_begin : {xs : List (List ℕ)} {os : List ℕ} {i j : ℕ} → SpellsNames ts xs os i j → terminal_at ts i ≡ s.Name
  names_begin (last_name e) = e
  names_begin (next_name e c q) = e

  parameters_ok : {xs : List (List ℕ)} {os : List ℕ} {i j : ℕ} → SpellsParameters ts xs os i j → combinators.parameter_list ts i ≡ Some (record { names = xs; offsets = os; next = j })
  unfolding Rattle.mdg_read.specs.Combinators.parameter_list Rattle.mdg_read.specs.Combinators.some_parameters
  parameters_ok (no_names {i} o c) = rw (expect_ok ts s.OpenParen i o, c) refl
  parameters_ok (some_names {i} {j} {xs} {os} o q c) =
      let ends : same (terminal_at ts j) s.Comma ≡ false = rw c refl in
      rw (expect_ok ts s.OpenParen i o, names_begin q, names_ok q ends (length ts) [] [] (omega arith), expect_ok ts s.CloseParen j c) refl

  parameters_begin : {xs : List (List ℕ)} {os : List ℕ} {i j : ℕ} → SpellsParameters ts xs os i j → terminal_at ts i ≡ s.OpenParen
  parameters_begin (no_names o c) = o
  parameters_begin (some_names o q c) = o

  arguments_begin : {es : List Expr} {i j : ℕ} → SpellsArguments ts es i j → terminal_at ts i ≡ s.OpenParen
  arguments_begin (no_arguments o c) = o
  arguments_begin (some_arguments o q c) = o

  pub semicolon_ok : {g : Terminator} {i j : ℕ} → SpellsSemicolon ts g i j → combinators.insert_semicolon ts g i ≡ Some j
  unfolding Rattle.mdg_read.specs.Combinators.insert_semicolon
  semicolon_ok (semicolon e) = rw e refl
  semicolon_ok (inserted {g} {i} n c) = rw (differs (terminal_at ts i) s.Semicolon refl n, c) refl

  semicolon_quiet : {i j : ℕ} → SpellsSemicolon ts terminator.Plain i j → power ts false i ≤ 0
  semicolon_quiet (semicolon e) = rw e (omega arith)
  semicolon_quiet (inserted {i = i} n c) = left_quiet (terminal_at ts i) (line_before_at ts i) (terminal_at ts (i - 1)) c

  var_stops : (x : Bool) {i j : ℕ} → SpellsSemicolon ts (var_terminator_of x) i j → (same (terminal_at ts i) s.Comma ≡ false) × (is_plain_assign (terminal_at ts i) ≡ false)
  var_stops x (semicolon e) = (rw e refl, rw e refl)
  var_stops x (inserted {i = i} n c) = no_declaration x (terminal_at ts i) (line_before_at ts i) (terminal_at ts (i - 1)) c

  var_quiet : (x : Bool) {i j : ℕ} → SpellsSemicolon ts (var_terminator_of x) i j → x ≡ false → power ts false i ≤ 0
  var_quiet true c h = absurd cc
  var_quiet false c h = semicolon_quiet c

  jump_test : {i j : ℕ} → SpellsSemicolon ts terminator.Jump i j → is_alone (line_before_at ts i) (terminal_at ts i) ≡ true
  jump_test (semicolon {i = i} e) = rw e (alone_semicolon (line_before_at ts i))
  jump_test (inserted {i = i} n c) = jump_alone (terminal_at ts i) (line_before_at ts i) (terminal_at ts (i - 1)) c

  bare_of : {b : Bool} {ds : List Declaration} {i j : ℕ} → SpellsDeclarations ts b ds i j → (d : Declaration) → ends_bare (d ∷ ds) ≡ ends_bare ds
  bare_of (last_declared x) d = refl
  bare_of (next_declared x e q) d = refl

  -- the token after a declared name, where no `in` follows the declarations
  declaration_next : {b : Bool} {d : Declaration} {i j : ℕ} → SpellsDeclaration ts b d i j → is_in (terminal_at ts j) ≡ false → is_in (terminal_at ts (i + 1)) ≡ false
  declaration_next (bare e) h = h
  declaration_next (valued e c x) h = rw c refl

  declarations_next : {b : Bool} {ds : List Declaration} {i j : ℕ} → SpellsDeclarations ts b ds i j → is_in (terminal_at ts j) ≡ false → is_in (terminal_at ts (i + 1)) ≡ false
  declarations_next (last_declared x) h = declaration_next x h
  declarations_next (next_declared x e q) h = declaration_next x (rw e refl)

  primary_plain : {t : Expr} {i j : ℕ} → Spells ts production.Primary t i j → is_plain_start (terminal_at ts i) ≡ true
  primary_plain (a_name e) = rw e refl
  primary_plain (a_null e) = rw e refl
  primary_plain (a_true e) = rw e refl
  primary_plain (a_false e) = rw e refl
  primary_plain (a_numeral e) = rw e refl
  primary_plain (a_text e) = rw e refl
  primary_plain (in_parens e d c) = rw e refl
  primary_plain (an_array e q) = rw e refl
  primary_plain (an_object e q) = rw e refl

  member_plain : {t : Expr} {i j : ℕ} → Spells ts production.Member t i j → is_plain_start (terminal_at ts i) ≡ true
  member_plain (is_primary d) = primary_plain d
  member_plain (a_function x) = rw (function_begins ts x) refl
  member_plain (a_named_function x) = rw (function_begins ts x) refl
  member_plain (indexed d o k c) = member_plain d
  member_plain (dotted d e c) = member_plain d
  member_plain (built e d a) = rw e refl

  new_plain : {t : Expr} {i j : ℕ} → Spells ts production.New t i j → is_plain_start (terminal_at ts i) ≡ true
  new_plain (is_member d) = member_plain d
  new_plain (built_bare e d) = rw e refl

  call_plain : {t : Expr} {i j : ℕ} → Spells ts production.Call t i j → is_plain_start (terminal_at ts i) ≡ true
  call_plain (called d a) = member_plain d
  call_plain (called_again d a) = call_plain d
  call_plain (call_indexed d o k c) = call_plain d
  call_plain (call_dotted d e c) = call_plain d

  side_plain : {t : Expr} {i j : ℕ} → Spells ts production.LeftHandSide t i j → is_plain_start (terminal_at ts i) ≡ true
  side_plain (is_new d) = new_plain d
  side_plain (is_call d) = call_plain d

  postfix_plain : {t : Expr} {i j : ℕ} → Spells ts production.Postfix t i j → is_plain_start (terminal_at ts i) ≡ true
  postfix_plain (is_side d) = side_plain d
  postfix_plain (stepped d l e n) = side_plain d

  -- what may be assigned, at the loosest precedence
  pub loosest : {b : Bool} {t : Expr} {i j : ℕ} → Spells ts production.LeftHandSide t i j → Spells ts (production.Binary b 0) t i j
  loosest d =
      is_tighter (omega arith) (is_tighter (omega arith) (is_tighter (omega arith) (is_tighter (omega arith) (is_tighter (omega arith)
      (is_tighter (omega arith) (is_tighter (omega arith) (is_tighter (omega arith) (is_tighter (omega arith) (is_tighter (omega arith) (is_unary (is_postfix (is_side d))))))))))))

-- The parts of height at most n are read by `expr` and `stmt`.
module _ (ts : Tokens) (n : ℕ) (expr : Production → ℕ → Option (Parsed Expr)) (stmt : Bool → ℕ → Option (Parsed Stmt))
    (reads : (k : Production) (t : Expr) (i j : ℕ) → Spells ts k t i j → height t ≤ n → power ts (flag k) j ≤ rank k → expr k i ≡ Some (found t j))
    (twin : (i : ℕ) → expr production.Member i ≡ expr production.New i)
    (reads_stmt : (b : Bool) (t : Stmt) (i j : ℕ) → SpellsStatement ts b t i j → stmt_height t ≤ n → stmt b i ≡ Some (found_stmt t j)) where
  several : {b : Bool} {es : List Expr} {i j : ℕ} → SpellsSequence ts b es i j → highest (map height es) ≤ n → power ts b j ≤ 0
      → (w : ℕ) (before : List Expr) (h : ℕ) → length ts < w + i
      → operands.sequence_from ts n expr stmt b w before h i ≡ Some (record { tree = before ++ es; height = max h (highest (map height es)); next = j })
  unfolding Rattle.mdg_read.specs.ReferenceOperands.sequence_from
  several (last_of d) low ends zero before h fuel = let r = moves ts d in absurd (omega arith)
  several (last_of {b} {i} {j} {t} d) low ends (suc w) before h fuel =
      rw (reads (production.Assignment b) t i j d (omega arith) (omega arith), no_comma b (terminal_at ts j) (line_before_at ts j) _ ends) (
      ap (λ k. Some (record { tree = before ++ t ∷ []; height = max h k; next = j })) (sym (max-zero (height t))))
  several (next_of d e q) low ends zero before h fuel = let r = moves ts d in absurd (omega arith)
  several (next_of {b} {i} {m} {j} {t} {es} d e q) low ends (suc w) before h fuel =
      let is_comma : power ts b m ≤ 1 = rw e (omega arith) in
      rw (reads (production.Assignment b) t i m d (omega arith) is_comma, e) (
      several q (omega arith) ends w (before ++ t ∷ []) (max h (height t)) (omega (arith, (moves ts d).from))
      ∙ ap₂ (λ a b. Some (record { tree = a; height = b; next = j })) (append_assoc before (t ∷ []) es) (max_assoc h (height t) (highest (map height es))))

  arguments : {es : List Expr} {i j : ℕ} → SpellsArguments ts es i j → highest (map height es) ≤ n
      → operands.arguments ts n expr stmt i ≡ Some (record { tree = es; height = highest (map height es); next = j })
  unfolding Rattle.mdg_read.specs.ReferenceOperands.arguments Rattle.mdg_read.specs.ReferenceOperands.some_arguments
  arguments (no_arguments {i} o e) low = rw (expect_ok ts s.OpenParen i o, e) refl
  arguments (some_arguments {i} {j} {es} o q e) low =
      let ends : power ts false j ≤ 0 = rw e (omega arith) in
      rw (expect_ok ts s.OpenParen i o, no_close (terminal_at ts (i + 1)) (sequence_starts ts q), several q low ends (length ts) [] 0 (omega arith), expect_ok ts s.CloseParen j e)
      (ap (λ h. Some (record { tree = es; height = h; next = j + 1 })) (max-0 (highest (map height es))))

  elements : {es : List Expr} {i j : ℕ} → SpellsElements ts es i j → highest (map height es) ≤ n → (w : ℕ) (before : List Expr) (h : ℕ) → length ts < w + i
      → operands.elements_from ts n expr stmt w before h i ≡ Some (record { tree = before ++ es; height = max h (highest (map height es)); next = j })
  unfolding Rattle.mdg_read.specs.ReferenceOperands.elements_from
  elements (no_element e) low zero before h fuel = let w = within ts _ _ e (λ p. cc) in absurd (omega arith)
  elements (no_element {i} e) low (suc w) before h fuel = rw e (ap₂ (λ a b. Some (record { tree = a; height = b; next = i + 1 })) (sym (append-nil before)) (sym (max-zero h)))
  elements (last_element d e) low zero before h fuel = let r = moves ts d in absurd (omega arith)
  elements (last_element {i} {j} {t} d e) low (suc w) before h fuel =
      let ends : power ts false j ≤ 1 = rw e (omega arith) in
      rw (no_close_bracket (terminal_at ts i) (starts ts d), reads (production.Assignment false) t i j d (omega arith) ends, e, expect_ok ts s.CloseBracket j e) (
      ap (λ k. Some (record { tree = before ++ t ∷ []; height = max h k; next = j + 1 })) (sym (max-zero (height t))))
  elements (next_element d e q) low zero before h fuel = let r = moves ts d in absurd (omega arith)
  elements (next_element {i} {m} {j} {t} {es} d e q) low (suc w) before h fuel =
      let ends : power ts false m ≤ 1 = rw e (omega arith) in
      rw (no_close_bracket (terminal_at ts i) (starts ts d), reads (production.Assignment false) t i m d (omega arith) ends, e) (
      elements q (omega arith) w (before ++ t ∷ []) (max h (height t)) (omega (arith, (moves ts d).from))
      ∙ ap₂ (λ a b. Some (record { tree = a; height = b; next = j })) (append_assoc before (t ∷ []) es) (max_assoc h (height t) (highest (map height es))))

  abbrev property_of : ℕ → Key → Expr → Property
  property_of i k t = record { at = position_at ts i; key = k; value = t }

  property_ok : (k : Key) (t : Expr) (i j : ℕ) → key_at ts i ≡ Some k → terminal_at ts (i + 1) ≡ s.Colon → Spells ts (production.Assignment false) t (i + 1 + 1) j → height t ≤ n → power ts false j ≤ 1
      → operands.property ts n expr stmt i ≡ Some (record { tree = property_of i k t; height = height t; next = j })
  unfolding Rattle.mdg_read.specs.ReferenceOperands.property
  property_ok k t i j e c d low ends = rw (e, expect_ok ts s.Colon (i + 1) c, reads (production.Assignment false) t (i + 1 + 1) j d low ends) refl

  properties : {ps : List Property} {i j : ℕ} → SpellsProperties ts ps i j → highest (map property_height ps) ≤ n → (w : ℕ) (before : List Property) (h : ℕ) → length ts < w + i
      → operands.properties_from ts n expr stmt w before h i ≡ Some (record { tree = before ++ ps; height = max h (highest (map property_height ps)); next = j })
  unfolding Rattle.mdg_read.specs.ReferenceOperands.properties_from
  properties (no_property e) low zero before h fuel = let w = within ts _ _ e (λ p. cc) in absurd (omega arith)
  properties (no_property {i} e) low (suc w) before h fuel = rw e (ap₂ (λ a b. Some (record { tree = a; height = b; next = i + 1 })) (sym (append-nil before)) (sym (max-zero h)))
  properties (last_property x c d e) low zero before h fuel = let r = moves ts d in absurd (omega arith)
  properties (last_property {i} {j} {k} {t} x c d e) low (suc w) before h fuel =
      let is = heights.property_height-is (property_of i k t) in
      let ends : power ts false j ≤ 1 = rw e (omega arith) in
      let same_height : max h (height t) ≡ max h (max (property_height (property_of i k t)) 0) = omega arith in
      rw (key_is_open ts i k x, property_ok k t i j x c d (omega arith) ends, e, expect_ok ts s.CloseBrace j e) (
      ap (λ z. Some (record { tree = before ++ property_of i k t ∷ []; height = z; next = j + 1 })) same_height)
  properties (next_property x c d e q) low zero before h fuel = let r = moves ts d in absurd (omega arith)
  properties (next_property {i} {m} {j} {k} {t} {ps} x c d e q) low (suc w) before h fuel =
      let is = heights.property_height-is (property_of i k t) in
      let ends : power ts false m ≤ 1 = rw e (omega arith) in
      let same_height : max (max h (height t)) (highest (map property_height ps)) ≡ max h (max (property_height (property_of i k t)) (highest (map property_height ps))) = omega arith in
      rw (key_is_open ts i k x, property_ok k t i m x c d (omega arith) ends, e) (
      properties q (omega arith) w (before ++ property_of i k t ∷ []) (max h (height t)) (omega (arith, (moves ts d).from))
      ∙ ap₂ (λ a b. Some (record { tree = a; height = b; next = j })) (append_assoc before (property_of i k t ∷ []) ps) same_height)

  -- a body ends at a brace or at the end
  items : {b : Bool} {body : List Stmt} {i j : ℕ} → SpellsItems ts b body i j → highest (map stmt_height body) ≤ n → ends_block (terminal_at ts j) ≡ true
      → (w : ℕ) (before : List Stmt) (h : ℕ) → length ts + 1 ≤ w + i → i ≤ length ts
      → operands.items_from ts n expr stmt b w before h i ≡ Some (record { tree = before ++ body; height = max h (highest (map stmt_height body)); next = j })
  unfolding Rattle.mdg_read.specs.ReferenceOperands.items_from
  items done low ends zero before h fuel inside = absurd (omega arith)
  items (done {i = i}) low ends (suc w) before h fuel inside = rw ends (ap₂ (λ a b. Some (record { tree = a; height = b; next = i })) (sym (append-nil before)) (sym (max-zero h)))
  items (item d q) low ends zero before h fuel inside = absurd (omega arith)
  items (item {b} {i} {m} {j} {t} {body} d q) low ends (suc w) before h fuel inside =
      rw (statement_starts ts d, reads_stmt b t i m d (omega arith)) (
      items q (omega arith) ends w (before ++ t ∷ []) (max h (stmt_height t)) (omega (arith, (statement_moves ts d).from)) (statement_moves ts d).to
      ∙ ap₂ (λ a b. Some (record { tree = a; height = b; next = j })) (append_assoc before (t ∷ []) body) (max_assoc h (stmt_height t) (highest (map stmt_height body))))

  abbrev function_of : Option (List ℕ) → ℕ → ℕ → List (List ℕ) → List ℕ → List Stmt → Function
  function_of name o i xs os body = record { name = name; name_offset = o; parameters = xs; parameter_offsets = os; body = body; line = (position_at ts i).line; offset = offset_at ts i }

  from_ok : (name : Option (List ℕ)) (o : ℕ) (xs : List (List ℕ)) (os : List ℕ) (body : List Stmt) (i k m j : ℕ) → SpellsParameters ts xs os k m → terminal_at ts m ≡ s.OpenBrace
      → SpellsItems ts true body (m + 1) j → terminal_at ts j ≡ s.CloseBrace → function_height (function_of name o i xs os body) ≤ n + 1
      → operands.function_from ts n expr stmt name o i k ≡ Some (record { tree = function_of name o i xs os body; height = function_height (function_of name o i xs os body); next = j + 1 })
  unfolding Rattle.mdg_read.specs.ReferenceOperands.function_from Rattle.mdg_read.specs.ReferenceOperands.items
  from_ok name o xs os body i k m j q b d c low =
      let tall : function_height (function_of name o i xs os body) ≡ highest (map stmt_height body) + 1 = heights.function_height-is (function_of name o i xs os body) in
      let ends : ends_block (terminal_at ts j) ≡ true = rw c refl in
      let w = within ts _ _ b (λ p. cc) in
      rw (parameters_ok ts q, expect_ok ts s.OpenBrace m b, items d (omega arith) ends (length ts + 1) [] 0 (omega arith) (omega arith), expect_ok ts s.CloseBrace j c)
      (as_found _ _ _ _ (tall ∙ ap (λ h. h + 1) (sym (max-0 (highest (map stmt_height body))))))

  named_ok : {x : Function} {i j : ℕ} → SpellsFunction ts true x i j → function_height x ≤ n + 1 → operands.named_function ts n expr stmt i ≡ Some (record { tree = x; height = function_height x; next = j })
  unfolding Rattle.mdg_read.specs.ReferenceOperands.named_function
  named_ok (named {i} {m} {j} {xs} {os} {body} e x q b d c) low = from_ok (Some (text_at ts (i + 1))) (offset_at ts (i + 1)) xs os body i (i + 1 + 1) m j q b d c low

  name_of : {x : Function} {i j : ℕ} → SpellsFunction ts true x i j → terminal_at ts (i + 1) ≡ s.Name
  name_of (named e x q b d c) = x

  any_ok : {r : Bool} {x : Function} {i j : ℕ} → SpellsFunction ts r x i j → function_height x ≤ n + 1 → operands.any_function ts n expr stmt i ≡ Some (record { tree = x; height = function_height x; next = j })
  unfolding Rattle.mdg_read.specs.ReferenceOperands.any_function
  any_ok (nameless {i} {m} {j} {xs} {os} {body} e q b d c) low = rw (parameters_begin ts q) (from_ok None (offset_at ts i) xs os body i (i + 1) m j q b d c low)
  any_ok (named e x q b d c) low = rw x (named_ok (named e x q b d c) low)

  function_ok : {r : Bool} {x : Function} {i j : ℕ} → SpellsFunction ts r x i j → height (ex.FunctionExpression x) ≤ n + 1 → operands.function ts n expr stmt i ≡ Some (found (ex.FunctionExpression x) j)
  unfolding Rattle.mdg_read.specs.ReferenceOperands.function
  function_ok {r} {x} d low =
      let tall = heights.height-FunctionExpression x in
      rw (any_ok d (omega arith)) (found_as _ _ _ tall)

  paren_ok : (t : Expr) (i j : ℕ) → Spells ts (production.Expression false) t (i + 1) j → terminal_at ts j ≡ s.CloseParen → height (ex.Paren (position_at ts i) t) ≤ n + 1
      → operands.paren ts n expr stmt i ≡ Some (found (ex.Paren (position_at ts i) t) (j + 1))
  unfolding Rattle.mdg_read.specs.ReferenceOperands.paren
  paren_ok t i j d c low =
      let ends : power ts false j ≤ 0 = rw c (omega arith) in
      let tall = heights.height-Paren (position_at ts i) t in
      rw (reads (production.Expression false) t (i + 1) j d (omega arith) ends, expect_ok ts s.CloseParen j c) (found_as _ _ _ tall)

  array_ok : (es : List Expr) (i j : ℕ) → SpellsElements ts es (i + 1) j → height (ex.Array (position_at ts i) es) ≤ n + 1 → operands.array ts n expr stmt i ≡ Some (found (ex.Array (position_at ts i) es) j)
  unfolding Rattle.mdg_read.specs.ReferenceOperands.array
  array_ok es i j q low =
      let tall = heights.height-Array (position_at ts i) es in
      rw (elements q (omega arith) (length ts) [] 0 (omega arith)) (found_as _ _ _ (tall ∙ ap (λ h. h + 1) (sym (max-0 (highest (map height es))))))

  object_ok : (ps : List Property) (i j : ℕ) → SpellsProperties ts ps (i + 1) j → height (ex.Object (position_at ts i) ps) ≤ n + 1 → operands.object ts n expr stmt i ≡ Some (found (ex.Object (position_at ts i) ps) j)
  unfolding Rattle.mdg_read.specs.ReferenceOperands.object
  object_ok ps i j q low =
      let tall = heights.height-Object (position_at ts i) ps in
      rw (properties q (omega arith) (length ts) [] 0 (omega arith)) (found_as _ _ _ (tall ∙ ap (λ h. h + 1) (sym (max-0 (highest (map property_height ps))))))

  primary_ok : {t : Expr} {i j : ℕ} → Spells ts production.Primary t i j → height t ≤ n + 1 → operands.primary ts n expr stmt i ≡ Some (found t j)
  unfolding Rattle.mdg_read.specs.ReferenceOperands.primary
  primary_ok (a_name {i} e) low = rw e (found_as _ _ _ (heights.height-Name (position_at ts i) (text_at ts i)))
  primary_ok (a_null {i} e) low = rw e (found_as _ _ _ (heights.height-Null (position_at ts i)))
  primary_ok (a_true {i} e) low = rw e (found_as _ _ _ (heights.height-True (position_at ts i)))
  primary_ok (a_false {i} e) low = rw e (found_as _ _ _ (heights.height-False (position_at ts i)))
  primary_ok (a_numeral {i} e) low = rw e (found_as _ _ _ (heights.height-Numeral (position_at ts i) (text_at ts i)))
  primary_ok (a_text {i} e) low = rw e (found_as _ _ _ (heights.height-Text (position_at ts i) (text_at ts i)))
  primary_ok (in_parens {i} {j} {t} e d c) low = rw e (paren_ok t i j d c low)
  primary_ok (an_array {i} {j} {es} e q) low = rw e (array_ok es i j q low)
  primary_ok (an_object {i} {j} {ps} e q) low = rw e (object_ok ps i j q low)

  head_primary : {t : Expr} {i j : ℕ} → Spells ts production.Primary t i j → operands.head_by ts n expr stmt (terminal_at ts i) i ≡ operands.primary ts n expr stmt i
  head_primary (a_name e) = rw e refl
  head_primary (a_null e) = rw e refl
  head_primary (a_true e) = rw e refl
  head_primary (a_false e) = rw e refl
  head_primary (a_numeral e) = rw e refl
  head_primary (a_text e) = rw e refl
  head_primary (in_parens e d c) = rw e refl
  head_primary (an_array e q) = rw e refl
  head_primary (an_object e q) = rw e refl

  link_dot : (t : Expr) (i j : ℕ) → terminal_at ts j ≡ s.Dot → is_property_name ts (j + 1) ≡ true → height (ex.Member (position_at ts i) t (text_at ts (j + 1))) ≤ n + 1
      → operands.link ts n expr stmt i (found t j) ≡ Some (found (ex.Member (position_at ts i) t (text_at ts (j + 1))) (j + 1 + 1))
  unfolding Rattle.mdg_read.specs.ReferenceOperands.link Rattle.mdg_read.specs.ReferenceOperands.member
  link_dot t i j e c low = rw (e, c) (found_bounded (suc n) _ _ _ (heights.height-Member (position_at ts i) t (text_at ts (j + 1))) (omega arith))

  link_index : (t key : Expr) (i m j : ℕ) → terminal_at ts m ≡ s.OpenBracket → Spells ts (production.Expression false) key (m + 1) j → terminal_at ts j ≡ s.CloseBracket → height (ex.Index (position_at ts i) t key) ≤ n + 1
      → operands.link ts n expr stmt i (found t m) ≡ Some (found (ex.Index (position_at ts i) t key) (j + 1))
  unfolding Rattle.mdg_read.specs.ReferenceOperands.link Rattle.mdg_read.specs.ReferenceOperands.index
  link_index t key i m j e d c low =
      let tall = heights.height-Index (position_at ts i) t key in
      let ends : power ts false j ≤ 0 = rw c (omega arith) in
      rw (e, reads (production.Expression false) key (m + 1) j d (omega arith) ends, expect_ok ts s.CloseBracket j c) (found_bounded (suc n) _ _ _ tall (omega arith))

  link_call : (t : Expr) (es : List Expr) (i m j : ℕ) → SpellsArguments ts es m j → height (ex.Call (position_at ts i) t es) ≤ n + 1
      → operands.link ts n expr stmt i (found t m) ≡ Some (found (ex.Call (position_at ts i) t es) j)
  unfolding Rattle.mdg_read.specs.ReferenceOperands.link Rattle.mdg_read.specs.ReferenceOperands.call
  link_call t es i m j a low =
      let tall = heights.height-Call (position_at ts i) t es in
      rw (arguments_begin ts a, arguments a (omega arith)) (found_bounded (suc n) _ _ _ tall (omega arith))

  -- a member that was read up to here is continued
  abbrev MemberGoesOn : Expr → ℕ → ℕ → Type 0
  MemberGoesOn t i j = (w : ℕ) × (length ts < w + j) × (operands.operand ts n expr stmt i ≡ operands.members_from ts n expr stmt w i (found t j))

  member_step : (t u : Expr) (i j k : ℕ) → is_member_link (terminal_at ts j) ≡ true → operands.link ts n expr stmt i (found t j) ≡ Some (found u k) → j ≤ length ts → j < k → (w : ℕ) → length ts < w + j
      → (v : ℕ) × (length ts < v + k) × (operands.members_from ts n expr stmt w i (found t j) ≡ operands.members_from ts n expr stmt v i (found u k))
  unfolding Rattle.mdg_read.specs.ReferenceOperands.members_from
  member_step t u i j k e l inside on zero fuel = absurd (omega arith)
  member_step t u i j k e l inside on (suc w) fuel = (w, omega arith, rw (e, l) refl)

  built_ok : (t : Expr) (es : List Expr) (i m j : ℕ) → Spells ts production.Member t (i + 1) m → SpellsArguments ts es m j → height (ex.NewWithArguments (position_at ts i) t es) ≤ n + 1
      → operands.built ts n expr stmt i ≡ Some (found (ex.NewWithArguments (position_at ts i) t es) j)
  unfolding Rattle.mdg_read.specs.ReferenceOperands.built Rattle.mdg_read.specs.ReferenceOperands.built_with
  built_ok t es i m j d a low =
      let tall = heights.height-NewWithArguments (position_at ts i) t es in
      let o = arguments_begin ts a in
      let p : power ts false m ≤ 18 = rw o (omega (arith, link_small 17 (is_step (terminal_at ts (m - 1))))) in
      rw (reads production.Member t (i + 1) m d (omega arith) p, o, arguments a (omega arith)) (found_as _ _ _ tall)

  member_grows : {t : Expr} {i j : ℕ} → Spells ts production.Member t i j → height t ≤ n + 1 → MemberGoesOn t i j
  unfolding Rattle.mdg_read.specs.ReferenceOperands.operand
  member_grows (is_primary d) low = (length ts, omega (arith, (moves ts d).from), rw (head_primary d, primary_ok d low) refl)
  member_grows (a_function d) low = (length ts, omega (arith, (function_moves ts d).from), rw (function_begins ts d, function_ok d low) refl)
  member_grows (a_named_function d) low = (length ts, omega (arith, (function_moves ts d).from), rw (function_begins ts d, function_ok d low) refl)
  member_grows (indexed {i} {m} {j} {t} {key} d o k c) low =
      let tall = heights.height-Index (position_at ts i) t key in
      let r = member_grows d (omega arith) in
      let q = member_step t (ex.Index (position_at ts i) t key) i m (j + 1) (rw o refl) (link_index t key i m j o k c low) (moves ts d).to (omega (arith, (moves ts k).from)) r.0 r.1 in
      (q.0, q.1, r.2 ∙ q.2)
  member_grows (dotted {i} {j} {t} d e c) low =
      let tall = heights.height-Member (position_at ts i) t (text_at ts (j + 1)) in
      let r = member_grows d (omega arith) in
      let q = member_step t (ex.Member (position_at ts i) t (text_at ts (j + 1))) i j (j + 1 + 1) (rw e refl) (link_dot t i j e c low) (moves ts d).to (omega arith) r.0 r.1 in
      (q.0, q.1, r.2 ∙ q.2)
  member_grows (built {i} {m} {j} {t} {es} e d a) low = (length ts, omega (arith, (moves ts d).from, (arguments_moves ts a).from), rw (e, built_ok t es i m j d a low) refl)

  members_stop : (t : Expr) (i j : ℕ) → j ≤ length ts → is_member_link (terminal_at ts j) ≡ false → (w : ℕ) → length ts < w + j → operands.members_from ts n expr stmt w i (found t j) ≡ Some (found t j)
  unfolding Rattle.mdg_read.specs.ReferenceOperands.members_from
  members_stop t i j inside ends zero fuel = absurd (omega arith)
  members_stop t i j inside ends (suc w) fuel = rw ends refl

  member_ok : {t : Expr} {i j : ℕ} → Spells ts production.Member t i j → height t ≤ n + 1 → power ts false j ≤ 18 → operands.operand ts n expr stmt i ≡ Some (found t j)
  member_ok {t} {i} {j} d low ends =
      let r = member_grows d low in
      r.2 ∙ members_stop t i j (moves ts d).to (no_member_link false (terminal_at ts j) (line_before_at ts j) _ (member_last ts d) ends) r.0 r.1

  bare_ok : (t : Expr) (i j : ℕ) → Spells ts production.New t (i + 1) j → height (ex.New (position_at ts i) t) ≤ n + 1 → power ts false j ≤ 16 → operands.built ts n expr stmt i ≡ Some (found (ex.New (position_at ts i) t) j)
  unfolding Rattle.mdg_read.specs.ReferenceOperands.built
  bare_ok t i j d low ends =
      let tall = heights.height-New (position_at ts i) t in
      rw (twin (i + 1), reads production.New t (i + 1) j d (omega arith) ends, no_open false (terminal_at ts j) (line_before_at ts j) _ (new_last ts d) ends) (found_as _ _ _ tall)

  new_ok : {t : Expr} {i j : ℕ} → Spells ts production.New t i j → height t ≤ n + 1 → power ts false j ≤ 16 → operands.operand ts n expr stmt i ≡ Some (found t j)
  unfolding Rattle.mdg_read.specs.ReferenceOperands.operand
  new_ok (is_member d) low ends = member_ok d low (omega arith)
  new_ok (built_bare {i} {j} {t} e d) low ends =
      let r = moves ts d in
      rw (e, bare_ok t i j d low ends) (members_stop (ex.New (position_at ts i) t) i j r.to (no_member_link false (terminal_at ts j) (line_before_at ts j) _ (new_last ts d) (omega arith)) (length ts) (omega arith))

  -- so does a call
  abbrev CallGoesOn : Expr → ℕ → ℕ → Type 0
  CallGoesOn t i j = (w : ℕ) × (length ts < w + j) × (operands.left_hand_side ts n expr stmt i ≡ operands.links_from ts n expr stmt w i (found t j))

  link_step : (t u : Expr) (i j k : ℕ) → is_link (terminal_at ts j) ≡ true → operands.link ts n expr stmt i (found t j) ≡ Some (found u k) → j ≤ length ts → j < k → (w : ℕ) → length ts < w + j
      → (v : ℕ) × (length ts < v + k) × (operands.links_from ts n expr stmt w i (found t j) ≡ operands.links_from ts n expr stmt v i (found u k))
  unfolding Rattle.mdg_read.specs.ReferenceOperands.links_from
  link_step t u i j k e l inside on zero fuel = absurd (omega arith)
  link_step t u i j k e l inside on (suc w) fuel = (w, omega arith, rw (e, l) refl)

  call_grows : {t : Expr} {i j : ℕ} → Spells ts production.Call t i j → height t ≤ n + 1 → CallGoesOn t i j
  unfolding Rattle.mdg_read.specs.ReferenceOperands.left_hand_side
  call_grows (called {i} {m} {j} {t} {es} d a) low =
      let tall = heights.height-Call (position_at ts i) t es in
      let o = arguments_begin ts a in
      let p : power ts false m ≤ 18 = rw o (omega (arith, link_small 17 (is_step (terminal_at ts (m - 1))))) in
      let q = link_step t (ex.Call (position_at ts i) t es) i m j (rw o refl) (link_call t es i m j a low) (moves ts d).to (arguments_moves ts a).from (length ts) (omega (arith, (moves ts d).from)) in
      (q.0, q.1, rw (member_ok d (omega arith) p) q.2)
  call_grows (called_again {i} {m} {j} {t} {es} d a) low =
      let tall = heights.height-Call (position_at ts i) t es in
      let o = arguments_begin ts a in
      let r = call_grows d (omega arith) in
      let q = link_step t (ex.Call (position_at ts i) t es) i m j (rw o refl) (link_call t es i m j a low) (moves ts d).to (arguments_moves ts a).from r.0 r.1 in
      (q.0, q.1, r.2 ∙ q.2)
  call_grows (call_indexed {i} {m} {j} {t} {key} d o k c) low =
      let tall = heights.height-Index (position_at ts i) t key in
      let r = call_grows d (omega arith) in
      let q = link_step t (ex.Index (position_at ts i) t key) i m (j + 1) (rw o refl) (link_index t key i m j o k c low) (moves ts d).to (omega (arith, (moves ts k).from)) r.0 r.1 in
      (q.0, q.1, r.2 ∙ q.2)
  call_grows (call_dotted {i} {j} {t} d e c) low =
      let tall = heights.height-Member (position_at ts i) t (text_at ts (j + 1)) in
      let r = call_grows d (omega arith) in
      let q = link_step t (ex.Member (position_at ts i) t (text_at ts (j + 1))) i j (j + 1 + 1) (rw e refl) (link_dot t i j e c low) (moves ts d).to (omega arith) r.0 r.1 in
      (q.0, q.1, r.2 ∙ q.2)

  links_stop : (t : Expr) (i j : ℕ) → j ≤ length ts → is_link (terminal_at ts j) ≡ false → (w : ℕ) → length ts < w + j → operands.links_from ts n expr stmt w i (found t j) ≡ Some (found t j)
  unfolding Rattle.mdg_read.specs.ReferenceOperands.links_from
  links_stop t i j inside ends zero fuel = absurd (omega arith)
  links_stop t i j inside ends (suc w) fuel = rw ends refl

  side_ok : {t : Expr} {i j : ℕ} → Spells ts production.LeftHandSide t i j → height t ≤ n + 1 → power ts false j ≤ 16 → operands.left_hand_side ts n expr stmt i ≡ Some (found t j)
  unfolding Rattle.mdg_read.specs.ReferenceOperands.left_hand_side
  side_ok {t} {i} {j} (is_new d) low ends =
      let r = moves ts d in
      rw (new_ok d low ends) (links_stop t i j r.to (no_link false (terminal_at ts j) (line_before_at ts j) _ (new_last ts d) ends) (length ts) (omega arith))
  side_ok {t} {i} {j} (is_call d) low ends =
      let r = call_grows d low in
      r.2 ∙ links_stop t i j (moves ts d).to (no_link false (terminal_at ts j) (line_before_at ts j) _ (side_last ts (is_call d)) ends) r.0 r.1

  postfix_stops : (k : Terminal) (l p : Bool) (i : ℕ) (r : Parsed Expr) → power_of false k l p ≤ 14 → expressions.postfix_by ts n expr stmt (step_of k) l i r ≡ Some r
  postfix_stops (s.Update o) true p i r h = refl
  postfix_stops (s.Update o) false p i r h = absurd (omega arith)
  postfix_stops _ l p i r h = refl

  postfix_ok : {t : Expr} {i j : ℕ} → Spells ts production.Postfix t i j → height t ≤ n + 1 → power ts false j ≤ 14 → expressions.postfix ts n expr stmt i ≡ Some (found t j)
  unfolding Rattle.mdg_read.specs.ReferenceExpressions.postfix Rattle.mdg_read.specs.ReferenceExpressions.stepped
  postfix_ok (is_side {i} {j} {t} d) low ends = rw (side_ok d low (omega arith)) (postfix_stops (terminal_at ts j) (line_before_at ts j) _ i (found t j) ends)
  postfix_ok (stepped {i} {j} {t} {o} d l e lb) low ends =
      let tall = heights.height-Postfix (position_at ts i) o t in
      let step_ : power ts false j ≤ 16 = rw (e, lb) (omega arith) in
      rw (side_ok d (omega arith) step_, e, lb, l) (found_bounded (suc n) _ _ _ tall (omega arith))

  plain_unary : (k : Terminal) (i : ℕ) → is_plain_start k ≡ true → expressions.unary_by ts n expr stmt (step_of k) (unary_of k) i ≡ expressions.postfix ts n expr stmt i
  plain_unary s.Name i h = refl
  plain_unary s.Null i h = refl
  plain_unary s.True i h = refl
  plain_unary s.False i h = refl
  plain_unary s.Numeral i h = refl
  plain_unary s.Text i h = refl
  plain_unary s.OpenParen i h = refl
  plain_unary s.OpenBracket i h = refl
  plain_unary s.OpenBrace i h = refl
  plain_unary s.Function i h = refl
  plain_unary s.New i h = refl
  plain_unary _ i h = absurd cc

  unary_ok : {t : Expr} {i j : ℕ} → Spells ts production.Unary t i j → height t ≤ n + 1 → power ts false j ≤ 13 → expressions.unary ts n expr stmt i ≡ Some (found t j)
  unfolding Rattle.mdg_read.specs.ReferenceExpressions.unary Rattle.mdg_read.specs.ReferenceExpressions.unary_value Rattle.mdg_read.specs.ReferenceExpressions.prefix
  unary_ok (is_postfix {i} d) low ends = plain_unary (terminal_at ts i) i (postfix_plain ts d) ∙ postfix_ok d low (omega arith)
  unary_ok (with_unary {i} {j} {t} {o} e d) low ends =
      let tall = heights.height-Unary (position_at ts i) o t in
      rw (unary_no_step (terminal_at ts i) o e, e, reads production.Unary t (i + 1) j d (omega arith) ends) (found_as _ _ _ tall)
  unary_ok (with_prefix {i} {j} {t} {o} e d l) low ends =
      let tall = heights.height-Prefix (position_at ts i) o t in
      rw (e, reads production.LeftHandSide t (i + 1) j d (omega arith) (omega arith), l) (found_as _ _ _ tall)

  -- so does a climb, at the precedences of its operators
  abbrev ClimbGoesOn : Bool → ℕ → Expr → ℕ → ℕ → Type 0
  ClimbGoesOn b least t i j = (w : ℕ) × (length ts < w + j) × (expressions.climb ts n expr stmt b least i ≡ expressions.climb_from ts n expr stmt b w least i (found t j))

  operation_ok : (b : Bool) (x y : Expr) (o : BinaryOperator) (i m j : ℕ) → Spells ts (production.Binary b (suc (precedence o))) y (m + 1) j → height (ex.Binary (position_at ts i) o x y) ≤ n + 1
      → power ts b j ≤ precedence o + 4 → expressions.operation ts n expr stmt b i o (found x m) ≡ Some (found (ex.Binary (position_at ts i) o x y) j)
  unfolding Rattle.mdg_read.specs.ReferenceExpressions.operation
  operation_ok b x y o i m j d low ends =
      let tall = heights.height-Binary (position_at ts i) o x y in
      rw (reads (production.Binary b (suc (precedence o))) y (m + 1) j d (omega arith) (omega arith)) (found_bounded (suc n) _ _ _ tall (omega arith))

  binary_on : (b : Bool) (x y : Expr) (o : BinaryOperator) (k least i m j : ℕ) → least ≤ k → precedence o ≡ k → terminal_at ts m ≡ s.Binary o → is_allowed b o ≡ true → Spells ts (production.Binary b (suc k)) y (m + 1) j
      → height (ex.Binary (position_at ts i) o x y) ≤ n + 1 → power ts b j ≤ k + 4 → m ≤ length ts → (w : ℕ) → length ts < w + m
      → (v : ℕ) × (length ts < v + j) × (expressions.climb_from ts n expr stmt b w least i (found x m) ≡ expressions.climb_from ts n expr stmt b v least i (found (ex.Binary (position_at ts i) o x y) j))
  unfolding Rattle.mdg_read.specs.ReferenceExpressions.climb_from
  binary_on b x y o k least i m j le l e sb d low ends inside zero fuel = absurd (omega arith)
  binary_on b x y o k least i m j le l e sb d low ends inside (suc w) fuel =
      let d' : Spells ts (production.Binary b (suc (precedence o))) y (m + 1) j = rw l d in
      let above : nat_le least (precedence o) ≡ true = le-leb least (precedence o) (omega arith) in
      (w, omega (arith, (moves ts d).from), rw (e, op_of_binary b o sb, above, operation_ok b x y o i m j d' low (omega arith)) refl)

  climb_grows : {b : Bool} {k : ℕ} {t : Expr} {i j : ℕ} → Spells ts (production.Binary b k) t i j → height t ≤ n + 1 → power ts b j ≤ k + 4 → power ts b j ≤ 13 → (least : ℕ) → least ≤ k → ClimbGoesOn b least t i j
  unfolding Rattle.mdg_read.specs.ReferenceExpressions.climb
  climb_grows (is_unary {b} {i} {j} d) low ends ends' least le = (length ts, omega (arith, (moves ts d).from), rw (unary_ok d low (unflag b (terminal_at ts j) _ _ ends')) refl)
  climb_grows (is_tighter h d) low ends ends' least le = climb_grows d low (omega arith) ends' least (omega arith)
  climb_grows (with_binary {b} {i} {m} {j} {k} {o} {x} {y} d e sb l c) low ends ends' least le =
      let tall = heights.height-Binary (position_at ts i) o x y in
      let p : power ts b m ≤ precedence o + 4 = rw e (power_of_op b o (line_before_at ts m) (is_step (terminal_at ts (m - 1)))) in
      let r = climb_grows d (omega arith) (omega arith) (omega (arith, precedence_small o)) least le in
      let q = binary_on b x y o k least i m j le l e sb c low ends (moves ts d).to r.0 r.1 in
      (q.0, q.1, r.2 ∙ q.2)

  stop_at : (stands_ : Bool) (o : BinaryOperator) (again : Parsed Expr → Option (Parsed Expr)) (b : Bool) (least i : ℕ) (r : Parsed Expr) → op_power stands_ o ≤ least + 3
      → expressions.climb_by ts n expr stmt again b least i r (op_in stands_ o) ≡ Some r
  stop_at true o again b least i r h = rw (lt-leb least (precedence o) (omega arith)) refl
  stop_at false o again b least i r h = refl

  climb_stops : (b : Bool) (g : Terminal) (l p : Bool) (again : Parsed Expr → Option (Parsed Expr)) (least i : ℕ) (r : Parsed Expr) → power_of b g l p ≤ least + 3
      → expressions.climb_by ts n expr stmt again b least i r (op_of b g) ≡ Some r
  climb_stops b (s.Binary o) l p again least i r h = stop_at (is_allowed b o) o again b least i r h
  climb_stops b _ l p again least i r h = refl

  climb_ends : (b : Bool) (least : ℕ) (t : Expr) (i j : ℕ) → j ≤ length ts → power ts b j ≤ least + 3 → (w : ℕ) → length ts < w + j
      → expressions.climb_from ts n expr stmt b w least i (found t j) ≡ Some (found t j)
  unfolding Rattle.mdg_read.specs.ReferenceExpressions.climb_from
  climb_ends b least t i j inside ends zero fuel = absurd (omega arith)
  climb_ends b least t i j inside ends (suc w) fuel = climb_stops b (terminal_at ts j) (line_before_at ts j) _ (expressions.climb_from ts n expr stmt b w least i) least i (found t j) ends

  climb_ok : {b : Bool} {k : ℕ} {t : Expr} {i j : ℕ} → Spells ts (production.Binary b k) t i j → height t ≤ n + 1 → power ts b j ≤ k + 3 → power ts b j ≤ 13 → (least : ℕ) → least ≤ k → power ts b j ≤ least + 3
      → expressions.climb ts n expr stmt b least i ≡ Some (found t j)
  climb_ok {b} {k} {t} {i} {j} d low ends ends' least le stops =
      let r = climb_grows d low (omega arith) ends' least le in r.2 ∙ climb_ends b least t i j (moves ts d).to stops r.0 r.1

  level_ok : {b : Bool} {t : Expr} {i j : ℕ} → Spells ts (production.Binary b 0) t i j → height t ≤ n + 1 → power ts b j ≤ 2 → expressions.conditional ts n expr stmt b i ≡ Some (found t j)
  unfolding Rattle.mdg_read.specs.ReferenceExpressions.conditional
  level_ok {b} {t} {i} {j} d low ends = rw (climb_ok d low (omega arith) (omega arith) 0 (omega arith) (omega arith), no_question b (terminal_at ts j) (line_before_at ts j) _ ends) refl

  conditional_ok : {b : Bool} {t : Expr} {i j : ℕ} → Spells ts (production.Conditional b) t i j → height t ≤ n + 1 → power ts b j ≤ 1 → expressions.conditional ts n expr stmt b i ≡ Some (found t j)
  unfolding Rattle.mdg_read.specs.ReferenceExpressions.conditional Rattle.mdg_read.specs.ReferenceExpressions.choice
  conditional_ok (is_level d) low ends = level_ok d low (omega arith)
  conditional_ok (with_choice {b} {i} {m} {k} {j} {c} {x} {y} d e dx g dy) low ends =
      let tall = heights.height-Conditional (position_at ts i) c x y in
      let p : power ts b m ≤ 3 = rw e (omega arith) in
      let q : power ts false k ≤ 0 = rw g (omega arith) in
      rw (
        climb_ok d (omega arith) (omega arith) (omega arith) 0 (omega arith) (omega arith),
        e,
        reads (production.Assignment false) x (m + 1) k dx (omega arith) (omega arith),
        expect_ok ts s.Colon k g,
        reads (production.Assignment b) y (k + 1) j dy (omega arith) (omega arith),
      ) (found_bounded (suc n) _ _ _ tall (omega arith))

  single_ok : {b : Bool} {t : Expr} {i j : ℕ} → Spells ts (production.Assignment b) t i j → height t ≤ n + 1 → power ts b j ≤ 1 → expressions.assignment ts n expr stmt b i ≡ Some (found t j)
  unfolding Rattle.mdg_read.specs.ReferenceExpressions.assignment Rattle.mdg_read.specs.ReferenceExpressions.assigned
  single_ok (is_conditional {b} {i} {j} {t} d) low ends = rw (conditional_ok d low (omega arith), no_assign b (terminal_at ts j) (line_before_at ts j) _ ends) refl
  single_ok (with_assign {b} {i} {m} {j} {o} {x} {y} d l e c) low ends =
      let tall = heights.height-Assign (position_at ts i) o x y in
      let p : power ts b m ≤ 2 = rw e (omega arith) in
      rw (level_ok (loosest ts d) (omega arith) p, e, l, reads (production.Assignment b) y (m + 1) j c (omega arith) ends) (found_bounded (suc n) _ _ _ tall (omega arith))

  whole_ok : {b : Bool} {t : Expr} {i j : ℕ} → Spells ts (production.Expression b) t i j → height t ≤ n + 1 → power ts b j ≤ 0 → expressions.comma_expression ts n expr stmt b i ≡ Some (found t j)
  unfolding Rattle.mdg_read.specs.ReferenceExpressions.comma_expression Rattle.mdg_read.specs.ReferenceExpressions.commas
  whole_ok (is_single {b} {i} {j} {t} d) low ends = rw (single_ok d low (omega arith), no_comma b (terminal_at ts j) (line_before_at ts j) _ ends) refl
  whole_ok (with_commas {b} {i} {m} {j} {t} {es} d e q) low ends =
      let tall = heights.height-Comma (position_at ts i) (t ∷ es) in
      let p : power ts b m ≤ 1 = rw e (omega arith) in
      rw (single_ok d (omega arith) p, e, several q (omega arith) ends (length ts) (t ∷ []) (height t) (omega arith)) (found_bounded (suc n) _ _ _ tall (omega arith))

  form_ok : (k : Production) (t : Expr) (i j : ℕ) → Spells ts k t i j → height t ≤ n + 1 → power ts (flag k) j ≤ rank k → expressions.any_expression ts n expr stmt k i ≡ Some (found t j)
  form_ok (production.Expression b) t i j d low ends = whole_ok d low ends
  form_ok (production.Assignment b) t i j d low ends = single_ok d low ends
  form_ok (production.Conditional b) t i j d low ends = conditional_ok d low ends
  form_ok (production.Binary b k) t i j d low ends = let c = precedence_bound ts d in climb_ok d low ends (omega arith) k (omega arith) ends
  form_ok production.Unary t i j d low ends = unary_ok d low ends
  form_ok production.Postfix t i j d low ends = postfix_ok d low ends
  form_ok production.LeftHandSide t i j d low ends = side_ok d low ends
  form_ok production.Call t i j d low ends = side_ok (is_call d) low ends
  form_ok production.New t i j d low ends = new_ok d low ends
  form_ok production.Member t i j d low ends = member_ok d low ends
  form_ok production.Primary t i j d low ends = primary_ok d low

  test_ok : (c : Expr) (i m : ℕ) → terminal_at ts i ≡ s.OpenParen → Spells ts (production.Expression false) c (i + 1) m → terminal_at ts m ≡ s.CloseParen → height c ≤ n → statements.condition ts n expr stmt i ≡ Some (found c (m + 1))
  unfolding Rattle.mdg_read.specs.ReferenceStatements.condition
  test_ok c i m o d e low =
      let ends : power ts false m ≤ 0 = rw e (omega arith) in
      rw (expect_ok ts s.OpenParen i o, reads (production.Expression false) c (i + 1) m d low ends, expect_ok ts s.CloseParen m e) refl

  declared_ok : (x : Function) (i j : ℕ) → SpellsFunction ts true x i j → stmt_height (st.FunctionDeclaration x) ≤ n + 1 → statements.declared_function ts n expr stmt i ≡ Some (found_stmt (st.FunctionDeclaration x) j)
  unfolding Rattle.mdg_read.specs.ReferenceStatements.declared_function
  declared_ok x i j d low =
      let tall = heights.stmt_height-FunctionDeclaration x in
      rw (name_of d, named_ok d (omega arith)) (found_stmt_as _ _ _ tall)

  block_ok : (body : List Stmt) (i j : ℕ) → terminal_at ts i ≡ s.OpenBrace → SpellsItems ts false body (i + 1) j → terminal_at ts j ≡ s.CloseBrace → stmt_height (st.Block (position_at ts i) body) ≤ n + 1
      → statements.block ts n expr stmt i ≡ Some (found_stmt (st.Block (position_at ts i) body) (j + 1))
  unfolding Rattle.mdg_read.specs.ReferenceStatements.block Rattle.mdg_read.specs.ReferenceOperands.items
  block_ok body i j e d c low =
      let tall = heights.stmt_height-Block (position_at ts i) body in
      let ends : ends_block (terminal_at ts j) ≡ true = rw c refl in
      let w = within ts _ _ e (λ p. cc) in
      rw (items d (omega arith) ends (length ts + 1) [] 0 (omega arith) (omega arith), expect_ok ts s.CloseBrace j c)
      (found_stmt_as _ _ _ (tall ∙ ap (λ h. h + 1) (sym (max-0 (highest (map stmt_height body))))))

  declaration_ok : {b : Bool} {d : Declaration} {i j : ℕ} → SpellsDeclaration ts b d i j → declaration_height d ≤ n → is_plain_assign (terminal_at ts j) ≡ false → (is_bare d.value ≡ false → power ts b j ≤ 1)
      → statements.declaration ts n expr stmt b i ≡ Some (record { tree = d; height = declaration_height d; next = j })
  unfolding Rattle.mdg_read.specs.ReferenceStatements.declaration
  declaration_ok (bare {b} {i} e) low ends quiet =
      let tall = heights.declaration_height-is (record { at = position_at ts i; name = text_at ts i; value = None }) in
      rw (expect_ok ts s.Name i e, ends) (as_found _ _ _ _ tall)
  declaration_ok (valued {b} {i} {j} {t} e c d) low ends quiet =
      let tall = heights.declaration_height-is (record { at = position_at ts i; name = text_at ts i; value = Some t }) in
      rw (expect_ok ts s.Name i e, c, reads (production.Assignment b) t (i + 1 + 1) j d (omega arith) (quiet refl)) (as_found _ _ _ _ tall)

  declarations_ok : {b : Bool} {ds : List Declaration} {i j : ℕ} → SpellsDeclarations ts b ds i j → highest (map declaration_height ds) ≤ n → same (terminal_at ts j) s.Comma ≡ false → is_plain_assign (terminal_at ts j) ≡ false
      → (ends_bare ds ≡ false → power ts b j ≤ 0) → (w : ℕ) (before : List Declaration) (h : ℕ) → length ts < w + i
      → statements.declarations_from ts n expr stmt b w before h i ≡ Some (record { tree = before ++ ds; height = max h (highest (map declaration_height ds)); next = j })
  unfolding Rattle.mdg_read.specs.ReferenceStatements.declarations_from
  declarations_ok (last_declared x) low ends equals quiet zero before h fuel = let r = declaration_moves ts x in absurd (omega arith)
  declarations_ok (last_declared {b} {i} {j} {d} x) low ends equals quiet (suc w) before h fuel =
      rw (declaration_ok x (omega arith) equals (λ p. let q = quiet p in omega arith), ends) (
      ap (λ k. Some (record { tree = before ++ d ∷ []; height = max h k; next = j })) (sym (max-zero (declaration_height d))))
  declarations_ok (next_declared x e q) low ends equals quiet zero before h fuel = let r = declaration_moves ts x in absurd (omega arith)
  declarations_ok (next_declared {b} {i} {m} {j} {d} {ds} x e q) low ends equals quiet (suc w) before h fuel =
      let no_equals : is_plain_assign (terminal_at ts m) ≡ false = rw e refl in
      rw (declaration_ok x (omega arith) no_equals (λ p. rw e (omega arith)), e) (
      declarations_ok q (omega arith) ends equals (λ p. quiet (bare_of ts q d ∙ p)) w (before ++ d ∷ []) (max h (declaration_height d)) (omega (arith, (declaration_moves ts x).from))
      ∙ ap₂ (λ a b. Some (record { tree = a; height = b; next = j })) (append_assoc before (d ∷ []) ds) (max_assoc h (declaration_height d) (highest (map declaration_height ds))))

  var_ok : (ds : List Declaration) (i m j : ℕ) → SpellsDeclarations ts false ds (i + 1) m → SpellsSemicolon ts (var_terminator ds) m j → stmt_height (st.Var (position_at ts i) ds) ≤ n + 1
      → statements.var_statement ts n expr stmt i ≡ Some (found_stmt (st.Var (position_at ts i) ds) j)
  unfolding Rattle.mdg_read.specs.ReferenceStatements.var_statement Rattle.mdg_read.specs.ReferenceStatements.declarations
  var_ok ds i m j d c low =
      let tall = heights.stmt_height-Var (position_at ts i) ds in
      let ends = var_stops ts (ends_bare ds) c in
      rw (declarations_ok d (omega arith) ends.0 ends.1 (var_quiet ts (ends_bare ds) c) (length ts) [] 0 (omega arith), semicolon_ok ts c)
      (found_stmt_as _ _ _ (tall ∙ ap (λ h. h + 1) (sym (max-0 (highest (map declaration_height ds))))))

  expression_ok : (t : Expr) (i m j : ℕ) → Spells ts (production.Expression false) t i m → SpellsSemicolon ts terminator.Plain m j → stmt_height (st.Expression (position_at ts i) t) ≤ n + 1
      → statements.expression ts n expr stmt i ≡ Some (found_stmt (st.Expression (position_at ts i) t) j)
  unfolding Rattle.mdg_read.specs.ReferenceStatements.expression
  expression_ok t i m j d c low =
      let tall = heights.stmt_height-Expression (position_at ts i) t in
      rw (reads (production.Expression false) t i m d (omega arith) (semicolon_quiet ts c), semicolon_ok ts c) (found_stmt_as _ _ _ tall)

  -- a token that begins an expression and is no brace and no `function` begins its statement
  expression_by : (b : Bool) (k : Terminal) (i : ℕ) → begins k ≡ true → (k ≡ s.OpenBrace → ⊥) → (k ≡ s.Function → ⊥) → statements.statement_by ts n expr stmt b k i ≡ statements.expression ts n expr stmt i
  expression_by b s.OpenBrace i h p q = absurd (p refl)
  expression_by b s.Function i h p q = absurd (q refl)
  expression_by b s.Var i h p q = absurd cc
  expression_by b s.Semicolon i h p q = absurd cc
  expression_by b s.If i h p q = absurd cc
  expression_by b s.Do i h p q = absurd cc
  expression_by b s.While i h p q = absurd cc
  expression_by b s.For i h p q = absurd cc
  expression_by b s.Continue i h p q = absurd cc
  expression_by b s.Break i h p q = absurd cc
  expression_by b s.Return i h p q = absurd cc
  expression_by b s.Throw i h p q = absurd cc
  expression_by b _ i h p q = refl

  alone_ok : (c : Expr) (x : Stmt) (i m j : ℕ) → terminal_at ts (i + 1) ≡ s.OpenParen → Spells ts (production.Expression false) c (i + 1 + 1) m → terminal_at ts m ≡ s.CloseParen → SpellsStatement ts false x (m + 1) j → terminal_at ts j ≢ s.Else
      → stmt_height (st.If (position_at ts i) c x) ≤ n + 1 → statements.if_statement ts n expr stmt i ≡ Some (found_stmt (st.If (position_at ts i) c x) j)
  unfolding Rattle.mdg_read.specs.ReferenceStatements.if_statement Rattle.mdg_read.specs.ReferenceStatements.otherwise
  alone_ok c x i m j o d e g lone low =
      let tall = heights.stmt_height-If (position_at ts i) c x in
      rw (test_ok c (i + 1) m o d e (omega arith), reads_stmt false x (m + 1) j g (omega arith), differs (terminal_at ts j) s.Else refl lone) (found_stmt_as _ _ _ tall)

  else_ok : (c : Expr) (x y : Stmt) (i m k j : ℕ) → terminal_at ts (i + 1) ≡ s.OpenParen → Spells ts (production.Expression false) c (i + 1 + 1) m → terminal_at ts m ≡ s.CloseParen → SpellsStatement ts false x (m + 1) k → terminal_at ts k ≡ s.Else → SpellsStatement ts false y (k + 1) j
      → stmt_height (st.IfElse (position_at ts i) c x y) ≤ n + 1 → statements.if_statement ts n expr stmt i ≡ Some (found_stmt (st.IfElse (position_at ts i) c x y) j)
  unfolding Rattle.mdg_read.specs.ReferenceStatements.if_statement Rattle.mdg_read.specs.ReferenceStatements.otherwise
  else_ok c x y i m k j o d e g is h low =
      let tall = heights.stmt_height-IfElse (position_at ts i) c x y in
      rw (test_ok c (i + 1) m o d e (omega arith), reads_stmt false x (m + 1) k g (omega arith), is, reads_stmt false y (k + 1) j h (omega arith)) (found_stmt_as _ _ _ tall)

  do_ok : (c : Expr) (x : Stmt) (i m k j : ℕ) → SpellsStatement ts false x (i + 1) m → terminal_at ts m ≡ s.While → terminal_at ts (m + 1) ≡ s.OpenParen → Spells ts (production.Expression false) c (m + 1 + 1) k → terminal_at ts k ≡ s.CloseParen → SpellsSemicolon ts terminator.Loop (k + 1) j
      → stmt_height (st.DoWhile (position_at ts i) x c) ≤ n + 1 → statements.do_while ts n expr stmt i ≡ Some (found_stmt (st.DoWhile (position_at ts i) x c) j)
  unfolding Rattle.mdg_read.specs.ReferenceStatements.do_while
  do_ok c x i m k j g w o d e z low =
      let tall = heights.stmt_height-DoWhile (position_at ts i) x c in
      rw (reads_stmt false x (i + 1) m g (omega arith), expect_ok ts s.While m w, test_ok c (m + 1) k o d e (omega arith), semicolon_ok ts z) (found_stmt_as _ _ _ tall)

  while_ok : (c : Expr) (x : Stmt) (i m j : ℕ) → terminal_at ts (i + 1) ≡ s.OpenParen → Spells ts (production.Expression false) c (i + 1 + 1) m → terminal_at ts m ≡ s.CloseParen → SpellsStatement ts false x (m + 1) j
      → stmt_height (st.While (position_at ts i) c x) ≤ n + 1 → statements.while_statement ts n expr stmt i ≡ Some (found_stmt (st.While (position_at ts i) c x) j)
  unfolding Rattle.mdg_read.specs.ReferenceStatements.while_statement
  while_ok c x i m j o d e g low =
      let tall = heights.stmt_height-While (position_at ts i) c x in
      rw (test_ok c (i + 1) m o d e (omega arith), reads_stmt false x (m + 1) j g (omega arith)) (found_stmt_as _ _ _ tall)

  optional_ok : (k : Terminal) → is_operator k ≡ false → begins k ≡ false → {c : Option Expr} {i j : ℕ} → SpellsOptional ts k c i j → optional (option_map height c) ≤ n → power ts false j ≤ 0
      → statements.optional_expression ts n expr stmt k i ≡ Some (record { tree = c; height = optional (option_map height c); next = j })
  unfolding Rattle.mdg_read.specs.ReferenceStatements.optional_expression
  optional_ok k plain no_begin (absent e) low ends = rw (e, same_self k) refl
  optional_ok k plain no_begin (given {i = i} {j = j} {t = t} d) low ends =
      let other : same (terminal_at ts i) k ≡ false = differs (terminal_at ts i) k plain (λ p. true≢false (sym (starts ts d) ∙ ap begins p ∙ no_begin)) in
      rw (other, reads (production.Expression false) t i j d low ends) refl

  for_rest_ok : (a : Init) (h : ℕ) (c u : Option Expr) (x : Stmt) (i m k q j : ℕ) → init_height a ≡ h → terminal_at ts m ≡ s.Semicolon → SpellsOptional ts s.Semicolon c (m + 1) k → terminal_at ts k ≡ s.Semicolon
      → SpellsOptional ts s.CloseParen u (k + 1) q → terminal_at ts q ≡ s.CloseParen → SpellsStatement ts false x (q + 1) j → stmt_height (st.For (position_at ts i) a c u x) ≤ n + 1
      → statements.for_rest ts n expr stmt i (record { tree = a; height = h; next = m }) ≡ Some (found_stmt (st.For (position_at ts i) a c u x) j)
  unfolding Rattle.mdg_read.specs.ReferenceStatements.for_rest
  for_rest_ok a h c u x i m k q j is e dc f du g dx low =
      let tall : stmt_height (st.For (position_at ts i) a c u x) ≡ max (max (init_height a) (max (optional (option_map height c)) (optional (option_map height u)))) (stmt_height x) + 1 = heights.stmt_height-For (position_at ts i) a c u x in
      let p : power ts false k ≤ 0 = rw f (omega arith) in
      let p' : power ts false q ≤ 0 = rw g (omega arith) in
      let total : stmt_height (st.For (position_at ts i) a c u x) ≡ max (max h (max (optional (option_map height c)) (optional (option_map height u)))) (stmt_height x) + 1 = omega arith in
      rw (
        expect_ok ts s.Semicolon m e,
        optional_ok s.Semicolon refl refl dc (omega arith) p,
        expect_ok ts s.Semicolon k f,
        optional_ok s.CloseParen refl refl du (omega arith) p',
        expect_ok ts s.CloseParen q g,
        reads_stmt false x (q + 1) j dx (omega arith),
      ) (stmt_bounded (suc n) _ _ _ total (omega arith))

  for_in_rest_ok : (g : Goal) (h : ℕ) (o : Expr) (x : Stmt) (i m k j : ℕ) → goal_height g ≡ h → Spells ts (production.Expression false) o (m + 1) k → terminal_at ts k ≡ s.CloseParen → SpellsStatement ts false x (k + 1) j
      → stmt_height (st.ForIn (position_at ts i) g o x) ≤ n + 1 → statements.for_in_rest ts n expr stmt i (record { tree = g; height = h; next = m }) ≡ Some (found_stmt (st.ForIn (position_at ts i) g o x) j)
  unfolding Rattle.mdg_read.specs.ReferenceStatements.for_in_rest
  for_in_rest_ok g h o x i m k j is d e dx low =
      let tall = heights.stmt_height-ForIn (position_at ts i) g o x in
      let p : power ts false k ≤ 0 = rw e (omega arith) in
      let total : stmt_height (st.ForIn (position_at ts i) g o x) ≡ max h (max (height o) (stmt_height x)) + 1 = omega arith in
      rw (reads (production.Expression false) o (m + 1) k d (omega arith) p, expect_ok ts s.CloseParen k e, reads_stmt false x (k + 1) j dx (omega arith)) (found_stmt_as _ _ _ total)

  for_begins : (k : Terminal) (i j : ℕ) → begins k ≡ true → statements.for_by ts n expr stmt k i j ≡ statements.for_expression ts n expr stmt i j
  for_begins s.Semicolon i j h = absurd cc
  for_begins s.Var i j h = absurd cc
  for_begins _ i j h = refl

  for_ok : (i : ℕ) {a : Init} {m : ℕ} → SpellsInit ts a (i + 1 + 1) m → (c u : Option Expr) (x : Stmt) (k q j : ℕ) → terminal_at ts (i + 1) ≡ s.OpenParen → terminal_at ts m ≡ s.Semicolon → SpellsOptional ts s.Semicolon c (m + 1) k
      → terminal_at ts k ≡ s.Semicolon → SpellsOptional ts s.CloseParen u (k + 1) q → terminal_at ts q ≡ s.CloseParen → SpellsStatement ts false x (q + 1) j → stmt_height (st.For (position_at ts i) a c u x) ≤ n + 1
      → statements.for_statement ts n expr stmt i ≡ Some (found_stmt (st.For (position_at ts i) a c u x) j)
  unfolding Rattle.mdg_read.specs.ReferenceStatements.for_statement Rattle.mdg_read.specs.ReferenceStatements.for_var Rattle.mdg_read.specs.ReferenceStatements.for_expression Rattle.mdg_read.specs.ReferenceStatements.declarations
  for_ok i (no_start e) c u x k q j o z dc f du g dx low =
      rw (expect_ok ts s.OpenParen (i + 1) o, e) (for_rest_ok init.Absent 0 c u x i (i + 1 + 1) k q j heights.init_height-Absent z dc f du g dx low)
  for_ok i {m = m} (var_start {ds = ds} e d) c u x k q j o z dc f du g dx low =
      let row : stmt_height (st.For (position_at ts i) (init.Declarations (position_at ts (i + 1 + 1)) ds) c u x)
      ≡ max (max (init_height (init.Declarations (position_at ts (i + 1 + 1)) ds)) (max (optional (option_map height c)) (optional (option_map height u)))) (stmt_height x) + 1
      = heights.stmt_height-For (position_at ts i) (init.Declarations (position_at ts (i + 1 + 1)) ds) c u x in
      let tall = heights.init_height-Declarations (position_at ts (i + 1 + 1)) ds in
      let no_comma_ : same (terminal_at ts m) s.Comma ≡ false = rw z refl in
      let no_equals : is_plain_assign (terminal_at ts m) ≡ false = rw z refl in
      let quiet : power ts true m ≤ 0 = rw z (omega arith) in
      let no_in : is_in (terminal_at ts (i + 1 + 1 + 1 + 1)) ≡ false = declarations_next ts d (rw z refl) in
      rw (expect_ok ts s.OpenParen (i + 1) o, e, no_in, and-false (same (terminal_at ts (i + 1 + 1 + 1)) s.Name), declarations_ok d (omega arith) no_comma_ no_equals (λ p. quiet) (length ts) [] 0 (omega arith))
      (for_rest_ok (init.Declarations (position_at ts (i + 1 + 1)) ds) _ c u x i m k q j (tall ∙ ap (λ h. h + 1) (sym (max-0 (highest (map declaration_height ds))))) z dc f du g dx low)
  for_ok i {m = m} (expression_start {t = t} d) c u x k q j o z dc f du g dx low =
      let row : stmt_height (st.For (position_at ts i) (init.Initial t) c u x) ≡ max (max (init_height (init.Initial t)) (max (optional (option_map height c)) (optional (option_map height u)))) (stmt_height x) + 1
      = heights.stmt_height-For (position_at ts i) (init.Initial t) c u x in
      let tall = heights.init_height-Initial t in
      let quiet : power ts true m ≤ 0 = rw z (omega arith) in
      rw (expect_ok ts s.OpenParen (i + 1) o, for_begins (terminal_at ts (i + 1 + 1)) i (i + 1 + 1) (starts ts d), reads (production.Expression true) t (i + 1 + 1) m d (omega arith) quiet, z)
      (for_rest_ok (init.Initial t) _ c u x i m k q j tall z dc f du g dx low)

  for_in_ok : (i : ℕ) {g : Goal} {m : ℕ} → SpellsGoal ts g (i + 1 + 1) m → (o : Expr) (x : Stmt) (k j : ℕ) → terminal_at ts (i + 1) ≡ s.OpenParen → terminal_at ts m ≡ s.Binary binary.In → Spells ts (production.Expression false) o (m + 1) k
      → terminal_at ts k ≡ s.CloseParen → SpellsStatement ts false x (k + 1) j → stmt_height (st.ForIn (position_at ts i) g o x) ≤ n + 1 → statements.for_statement ts n expr stmt i ≡ Some (found_stmt (st.ForIn (position_at ts i) g o x) j)
  unfolding Rattle.mdg_read.specs.ReferenceStatements.for_statement Rattle.mdg_read.specs.ReferenceStatements.for_var Rattle.mdg_read.specs.ReferenceStatements.for_expression Rattle.mdg_read.specs.ReferenceStatements.for_left
  for_in_ok i (var_goal e v) o x k j b z d c dx low =
      rw (expect_ok ts s.OpenParen (i + 1) b, e, v, z)
      (for_in_rest_ok _ 0 o x i (i + 1 + 1 + 1 + 1) k j (heights.goal_height-Variable (position_at ts (i + 1 + 1)) (position_at ts (i + 1 + 1 + 1)) (text_at ts (i + 1 + 1 + 1))) d c dx low)
  for_in_ok i {m = m} (left_goal {t = t} a l) o x k j b z d c dx low =
      let row = heights.stmt_height-ForIn (position_at ts i) (goal.Target t) o x in
      let tall = heights.goal_height-Target t in
      let quiet : power ts true m ≤ 0 = rw z (omega arith) in
      let whole_ : Spells ts (production.Expression true) t (i + 1 + 1) m = is_single (is_conditional (is_level (loosest ts a))) in
      rw (expect_ok ts s.OpenParen (i + 1) b, for_begins (terminal_at ts (i + 1 + 1)) i (i + 1 + 1) (starts ts a), reads (production.Expression true) t (i + 1 + 1) m whole_ (omega arith) quiet, z, l)
      (for_in_rest_ok (goal.Target t) _ o x i m k j tall d c dx low)

  jump_ok : (t : Stmt) (j : ℕ) → stmt_height t ≡ 1 → Some (record { tree = t; height = 1; next = j }) ≡ Some (found_stmt t j)
  jump_ok t j e = found_stmt_as t 1 j e

  continue_ok : (i j : ℕ) → SpellsSemicolon ts terminator.Jump (i + 1) j → statements.continue_statement ts n expr stmt i ≡ Some (found_stmt (st.Continue (position_at ts i)) j)
  unfolding Rattle.mdg_read.specs.ReferenceStatements.continue_statement
  continue_ok i j c = rw (semicolon_ok ts c) (jump_ok _ _ (heights.stmt_height-Continue (position_at ts i)))

  break_ok : (i j : ℕ) → SpellsSemicolon ts terminator.Jump (i + 1) j → statements.break_statement ts n expr stmt i ≡ Some (found_stmt (st.Break (position_at ts i)) j)
  unfolding Rattle.mdg_read.specs.ReferenceStatements.break_statement
  break_ok i j c = rw (semicolon_ok ts c) (jump_ok _ _ (heights.stmt_height-Break (position_at ts i)))

  return_ok : (i j : ℕ) → SpellsSemicolon ts terminator.Jump (i + 1) j → statements.return_statement ts n expr stmt i ≡ Some (found_stmt (st.Return (position_at ts i)) j)
  unfolding Rattle.mdg_read.specs.ReferenceStatements.return_statement Rattle.mdg_read.specs.ReferenceStatements.return_alone
  return_ok i j c = rw (jump_test ts c, semicolon_ok ts c) (jump_ok _ _ (heights.stmt_height-Return (position_at ts i)))

  return_value_ok : (t : Expr) (i m j : ℕ) → line_before_at ts (i + 1) ≡ false → Spells ts (production.Expression false) t (i + 1) m → SpellsSemicolon ts terminator.Plain m j → stmt_height (st.ReturnValue (position_at ts i) t) ≤ n + 1
      → statements.return_statement ts n expr stmt i ≡ Some (found_stmt (st.ReturnValue (position_at ts i) t) j)
  unfolding Rattle.mdg_read.specs.ReferenceStatements.return_statement Rattle.mdg_read.specs.ReferenceStatements.return_value
  return_value_ok t i m j l d c low =
      let tall = heights.stmt_height-ReturnValue (position_at ts i) t in
      rw (l, value_not_alone (terminal_at ts (i + 1)) (starts ts d), reads (production.Expression false) t (i + 1) m d (omega arith) (semicolon_quiet ts c), semicolon_ok ts c) (found_stmt_as _ _ _ tall)

  throw_ok : (t : Expr) (i m j : ℕ) → line_before_at ts (i + 1) ≡ false → Spells ts (production.Expression false) t (i + 1) m → SpellsSemicolon ts terminator.Plain m j → stmt_height (st.Throw (position_at ts i) t) ≤ n + 1
      → statements.throw_statement ts n expr stmt i ≡ Some (found_stmt (st.Throw (position_at ts i) t) j)
  unfolding Rattle.mdg_read.specs.ReferenceStatements.throw_statement Rattle.mdg_read.specs.ReferenceStatements.throw_value
  throw_ok t i m j l d c low =
      let tall = heights.stmt_height-Throw (position_at ts i) t in
      rw (l, reads (production.Expression false) t (i + 1) m d (omega arith) (semicolon_quiet ts c), semicolon_ok ts c) (found_stmt_as _ _ _ tall)

  empty_ok : (i : ℕ) → statements.empty ts n expr stmt i ≡ Some (found_stmt (st.Empty (position_at ts i)) (i + 1))
  unfolding Rattle.mdg_read.specs.ReferenceStatements.empty
  empty_ok i = jump_ok _ _ (heights.stmt_height-Empty (position_at ts i))

  statement_ok : (b : Bool) (t : Stmt) (i j : ℕ) → SpellsStatement ts b t i j → stmt_height t ≤ n + 1 → statements.statement ts n expr stmt b i ≡ Some (found_stmt t j)
  unfolding Rattle.mdg_read.specs.ReferenceStatements.statement
  statement_ok b t i j (declared {x = x} d) low = rw (function_begins ts d) (declared_ok x i j d low)
  statement_ok b t i j (block {j = m} {body} e d c) low = rw e (block_ok body i m e d c low)
  statement_ok b t i j (var {m = m} {ds = ds} e d c) low = rw e (var_ok ds i m j d c low)
  statement_ok b t i j (empty e) low = rw e (empty_ok i)
  statement_ok b t i j (expression {m = m} {t = x} p q d c) low = rw (expression_by b (terminal_at ts i) i (starts ts d) p q) (expression_ok x i m j d c low)
  statement_ok b t i j (if_alone {m = m} {c = c} {x = x} e o d f g lone) low = rw e (alone_ok c x i m j o d f g lone low)
  statement_ok b t i j (if_else {m = m} {n = k} {c = c} {x = x} {y = y} e o d f g is h) low = rw e (else_ok c x y i m k j o d f g is h low)
  statement_ok b t i j (do_while {m = m} {n = k} {c = c} {x = x} e g w o d f z) low = rw e (do_ok c x i m k j g w o d f z low)
  statement_ok b t i j (while {m = m} {c = c} {x = x} e o d f g) low = rw e (while_ok c x i m j o d f g low)
  statement_ok b t i j (for {n = k} {k = q} {c = c} {u = u} {x = x} e o a z dc f du g dx) low = rw e (for_ok i a c u x k q j o z dc f du g dx low)
  statement_ok b t i j (for_in {k = k} {o = o} {x = x} e p a z d c dx) low = rw e (for_in_ok i a o x k j p z d c dx low)
  statement_ok b t i j (continue e c) low = rw e (continue_ok i j c)
  statement_ok b t i j (break e c) low = rw e (break_ok i j c)
  statement_ok b t i j (return e c) low = rw e (return_ok i j c)
  statement_ok b t i j (return_value {m = m} {t = x} e l d c) low = rw e (return_value_ok x i m j l d c low)
  statement_ok b t i j (throw {m = m} {t = x} e l d c) low = rw e (throw_ok x i m j l d c low)

-- every tree has a height
module _ (ts : Tokens) where
  defined_tall : {r : Bool} {x : Function} {i j : ℕ} → SpellsFunction ts r x i j → 0 < function_height x
  defined_tall {r} {x} d = omega (arith, heights.function_height-is x)

  tall : {k : Production} {t : Expr} {i j : ℕ} → Spells ts k t i j → 0 < height t
  tall (a_name {i} e) = omega (arith, heights.height-Name (position_at ts i) (text_at ts i))
  tall (a_null {i} e) = omega (arith, heights.height-Null (position_at ts i))
  tall (a_true {i} e) = omega (arith, heights.height-True (position_at ts i))
  tall (a_false {i} e) = omega (arith, heights.height-False (position_at ts i))
  tall (a_numeral {i} e) = omega (arith, heights.height-Numeral (position_at ts i) (text_at ts i))
  tall (a_text {i} e) = omega (arith, heights.height-Text (position_at ts i) (text_at ts i))
  tall (in_parens {i} {t = t} e d c) = omega (arith, heights.height-Paren (position_at ts i) t)
  tall (an_array {i} {es = es} e q) = omega (arith, heights.height-Array (position_at ts i) es)
  tall (an_object {i} {ps = ps} e q) = omega (arith, heights.height-Object (position_at ts i) ps)
  tall (is_primary d) = tall d
  tall (a_function {x = x} d) = omega (arith, heights.height-FunctionExpression x, defined_tall d)
  tall (a_named_function {x = x} d) = omega (arith, heights.height-FunctionExpression x, defined_tall d)
  tall (indexed {i} {t = t} {key = key} d o k c) = omega (arith, heights.height-Index (position_at ts i) t key)
  tall (dotted {i} {j} {t} d e c) = omega (arith, heights.height-Member (position_at ts i) t (text_at ts (j + 1)))
  tall (built {i} {t = t} {es = es} e d a) = omega (arith, heights.height-NewWithArguments (position_at ts i) t es)
  tall (is_member d) = tall d
  tall (built_bare {i} {t = t} e d) = omega (arith, heights.height-New (position_at ts i) t)
  tall (called {i} {t = t} {es = es} d a) = omega (arith, heights.height-Call (position_at ts i) t es)
  tall (called_again {i} {t = t} {es = es} d a) = omega (arith, heights.height-Call (position_at ts i) t es)
  tall (call_indexed {i} {t = t} {key = key} d o k c) = omega (arith, heights.height-Index (position_at ts i) t key)
  tall (call_dotted {i} {j} {t} d e c) = omega (arith, heights.height-Member (position_at ts i) t (text_at ts (j + 1)))
  tall (is_new d) = tall d
  tall (is_call d) = tall d
  tall (is_side d) = tall d
  tall (stepped {i} {t = t} {o = o} d l e lb) = omega (arith, heights.height-Postfix (position_at ts i) o t)
  tall (is_postfix d) = tall d
  tall (with_unary {i} {t = t} {o = o} e d) = omega (arith, heights.height-Unary (position_at ts i) o t)
  tall (with_prefix {i} {t = t} {o = o} e d l) = omega (arith, heights.height-Prefix (position_at ts i) o t)
  tall (is_unary d) = tall d
  tall (is_tighter h d) = tall d
  tall (with_binary {i = i} {o = o} {x = x} {y = y} d e sb l c) = omega (arith, heights.height-Binary (position_at ts i) o x y)
  tall (is_level d) = tall d
  tall (with_choice {i = i} {c = c} {x = x} {y = y} d e dx g dy) = omega (arith, heights.height-Conditional (position_at ts i) c x y)
  tall (is_conditional d) = tall d
  tall (with_assign {i = i} {o = o} {x = x} {y = y} d l e c) = omega (arith, heights.height-Assign (position_at ts i) o x y)
  tall (is_single d) = tall d
  tall (with_commas {i = i} {t = t} {es = es} d e q) = omega (arith, heights.height-Comma (position_at ts i) (t ∷ es))

  stmt_tall : {b : Bool} {t : Stmt} {i j : ℕ} → SpellsStatement ts b t i j → 0 < stmt_height t
  stmt_tall (declared {x = x} d) = omega (arith, heights.stmt_height-FunctionDeclaration x, defined_tall d)
  stmt_tall (block {i = i} {body = body} e d c) = omega (arith, heights.stmt_height-Block (position_at ts i) body)
  stmt_tall (var {i = i} {ds = ds} e d c) = omega (arith, heights.stmt_height-Var (position_at ts i) ds)
  stmt_tall (empty {i = i} e) = omega (arith, heights.stmt_height-Empty (position_at ts i))
  stmt_tall (expression {i = i} {t = t} p q d c) = omega (arith, heights.stmt_height-Expression (position_at ts i) t)
  stmt_tall (if_alone {i = i} {c = c} {x = x} e o d f g lone) = omega (arith, heights.stmt_height-If (position_at ts i) c x)
  stmt_tall (if_else {i = i} {c = c} {x = x} {y = y} e o d f g is h) = omega (arith, heights.stmt_height-IfElse (position_at ts i) c x y)
  stmt_tall (do_while {i = i} {c = c} {x = x} e g w o d f z) = omega (arith, heights.stmt_height-DoWhile (position_at ts i) x c)
  stmt_tall (while {i = i} {c = c} {x = x} e o d f g) = omega (arith, heights.stmt_height-While (position_at ts i) c x)
  stmt_tall (for {i = i} {a = a} {c = c} {u = u} {x = x} e o st_ z dc f du g dx) = omega (arith, heights.stmt_height-For (position_at ts i) a c u x)
  stmt_tall (for_in {i = i} {g = g} {o = o} {x = x} e p a z d c dx) = omega (arith, heights.stmt_height-ForIn (position_at ts i) g o x)
  stmt_tall (continue {i = i} e c) = omega (arith, heights.stmt_height-Continue (position_at ts i))
  stmt_tall (break {i = i} e c) = omega (arith, heights.stmt_height-Break (position_at ts i))
  stmt_tall (return {i = i} e c) = omega (arith, heights.stmt_height-Return (position_at ts i))
  stmt_tall (return_value {i = i} {t = t} e l d c) = omega (arith, heights.stmt_height-ReturnValue (position_at ts i) t)
  stmt_tall (throw {i = i} {t = t} e l d c) = omega (arith, heights.stmt_height-Throw (position_at ts i) t)

  twins : (n i : ℕ) → reference.expr_at ts n production.Member i ≡ reference.expr_at ts n production.New i
  unfolding Rattle.mdg_read.specs.Reference.expr_at
  twins zero i = refl
  twins (suc n) i = refl

  mutual
    unfolding Rattle.mdg_read.specs.Reference.expr_at

    -- What is spelled and no higher than n is read.
    pub complete : (n : ℕ) (k : Production) (t : Expr) (i j : ℕ) → Spells ts k t i j → height t ≤ n → power ts (flag k) j ≤ rank k → reference.expr_at ts n k i ≡ Some (found t j)
    complete zero k t i j d low ends = let h = tall d in absurd (omega arith)
    complete (suc n) k t i j d low ends = form_ok ts n (reference.expr_at ts n) (reference.stmt_at ts n) (complete n) (twins n) (stmt_complete n) k t i j d (omega arith) ends

    pub stmt_complete : (n : ℕ) (b : Bool) (t : Stmt) (i j : ℕ) → SpellsStatement ts b t i j → stmt_height t ≤ n → reference.stmt_at ts n b i ≡ Some (found_stmt t j)
    stmt_complete zero b t i j d low = let h = stmt_tall d in absurd (omega arith)
    stmt_complete (suc n) b t i j d low = statement_ok ts n (reference.expr_at ts n) (reference.stmt_at ts n) (complete n) (twins n) (stmt_complete n) b t i j d (omega arith)

  -- At most one expression of a production stands at a place, where what follows does not continue it.
  pub one_expr : (k : Production) (t u : Expr) (i j m : ℕ) → Spells ts k t i j → Spells ts k u i m → power ts (flag k) j ≤ rank k → power ts (flag k) m ≤ rank k → (t ≡ u) × (j ≡ m)
  one_expr k t u i j m d d' ends ends' =
      let n : ℕ = max (height t) (height u) in
      let e = some_is {T = Parsed Expr} (found t j) (found u m) (sym (complete n k t i j d (omega arith) ends) ∙ complete n k u i m d' (omega arith) ends') in
      (ap (λ r. r.tree) e, ap (λ r. r.next) e)

  -- At most one statement stands at a place.
  pub one_stmt : (b : Bool) (t u : Stmt) (i j k : ℕ) → SpellsStatement ts b t i j → SpellsStatement ts b u i k → (t ≡ u) × (j ≡ k)
  one_stmt b t u i j k d d' =
      let n : ℕ = max (stmt_height t) (stmt_height u) in
      let e = some_is {T = Parsed Stmt} (found_stmt t j) (found_stmt u k) (sym (stmt_complete n b t i j d (omega arith)) ∙ stmt_complete n b u i k d' (omega arith)) in
      (ap (λ r. r.tree) e, ap (λ r. r.next) e)
