-- What is spelled takes a token at least, and ends within the tokens.
use Rattle.std.proofs.Common.{Bool, ◌-◌, true, false, refl, ◌≡◌, ℕ, ◌+◌, ◌<◌, ◌≤◌, List, length, arith, sym, ap, ◌∙◌, true≢false}
use Rattle.std.specs.Prelude.{Option}
use Rattle.std.proofs.lemmas.Option.{slice_get_past}
use Rattle.mdg_tree.specs.declared.tree.Expr.{Expr}
use Rattle.mdg_tree.specs.declared.tree.Stmt.{Stmt}
use Rattle.mdg_tree.specs.declared.tree.Init.{Init}
use Rattle.mdg_tree.specs.declared.tree.Goal.{Goal}
use Rattle.mdg_tree.specs.declared.tree.Property.{Property}
use Rattle.mdg_tree.specs.declared.tree.Function.{Function}
use Rattle.mdg_tree.specs.declared.tree.Declaration.{Declaration}
use Rattle.mdg_read.specs.declared.terminal.Terminal.{Terminal}
use Rattle.mdg_read.specs.declared.terminal.Terminal.TheVariants as s
use Rattle.mdg_read.specs.declared.production.Production.{Production}
use Rattle.mdg_read.specs.declared.production.Production.TheVariants as production
use Rattle.mdg_read.specs.declared.semicolon.Terminator.{Terminator}
use Rattle.mdg_read.specs.Grammar.{Spells, SpellsSequence, SpellsArguments, SpellsElements, SpellsProperties, SpellsFunction, SpellsDeclarations, SpellsDeclaration, SpellsOptional, SpellsInit, SpellsGoal, SpellsStatement, SpellsItems, SpellsNames, SpellsParameters, last_name, next_name, no_names, some_names, a_name, a_null, a_true, a_false, a_numeral, a_text, in_parens, an_array, an_object, is_primary, a_function, a_named_function, indexed, dotted, built, is_member, built_bare, called, called_again, call_indexed, call_dotted, is_new, is_call, is_side, stepped, is_postfix, with_unary, with_prefix, is_unary, is_tighter, with_binary, is_level, with_choice, is_conditional, with_assign, is_single, with_commas, last_of, next_of, no_arguments, some_arguments, no_element, last_element, next_element, no_property, last_property, next_property, nameless, named, last_declared, next_declared, bare, valued, absent, given, no_start, var_start, expression_start, var_goal, left_goal, declared, block, var, empty, expression, if_alone, if_else, do_while, while, for, for_in, continue, break, return, return_value, throw, done, item}
use Rattle.mdg_read.specs.Semicolon.{SpellsSemicolon, semicolon, inserted}
use Rattle.mdg_read.specs.TokenClass.{is_step, ends_block}
use Rattle.mdg_read.specs.Tokens.{Tokens, terminal_at, terminal_of, is_property_name}
use Rattle.mdg_read.proofs.BindingPower.{begins, no_end, unary_begins}
use Rattle.mdg_read.proofs.PropertyNames.{name_no_step, name_within}

past_end : (ts : Tokens) (i : ℕ) → length ts ≤ i → terminal_at ts i ≡ s.End
unfolding terminal_at
past_end ts i h = ap terminal_of (slice_get_past ts i h)

pub within : (ts : Tokens) (i : ℕ) (k : Terminal) → terminal_at ts i ≡ k → (k ≡ s.End → ⊥) → i < length ts
within ts i k e h = grind (arith, past_end)

pub record Moves (ts : Tokens) (i j : ℕ) : Type 0 where
  pub from : i < j
  pub to : j ≤ length ts

pub record Keeps (ts : Tokens) (i j : ℕ) : Type 0 where
  pub from : i ≤ j
  pub to : j ≤ length ts

last : (ts : Tokens) (i : ℕ) (k : Terminal) → terminal_at ts i ≡ k → is_step k ≡ false → is_step (terminal_at ts (i + 1 - 1)) ≡ false
last ts i k e n = let back : i + 1 - 1 ≡ i = omega arith in rw (back, e) n

module _ (ts : Tokens) where
  pub semicolon_moves : {g : Terminator} {i j : ℕ} → SpellsSemicolon ts g i j → i ≤ length ts → Keeps ts i j
  semicolon_moves (semicolon e) h = let w = within ts _ _ e (λ p. cc) in record { from = omega arith; to = omega arith }
  semicolon_moves (inserted e c) h = record { from = omega arith; to = h }

  pub names_moves : {xs : List (List ℕ)} {os : List ℕ} {i j : ℕ} → SpellsNames ts xs os i j → Moves ts i j
  names_moves (last_name e) = let w = within ts _ _ e (λ p. cc) in record { from = omega arith; to = omega arith }
  names_moves (next_name e c q) = let r = names_moves q in record { from = omega arith; to = omega arith }

  pub parameters_moves : {xs : List (List ℕ)} {os : List ℕ} {i j : ℕ} → SpellsParameters ts xs os i j → Moves ts i j
  parameters_moves (no_names e c) = let w = within ts _ _ c (λ p. cc) in record { from = omega arith; to = omega arith }
  parameters_moves (some_names e q c) = let w = within ts _ _ c (λ p. cc) in let r = names_moves q in record { from = omega arith; to = omega arith }

  mutual
    pub moves : {k : Production} {t : Expr} {i j : ℕ} → Spells ts k t i j → Moves ts i j
    moves (a_name e) = let w = within ts _ _ e (λ p. cc) in record { from = omega arith; to = omega arith }
    moves (a_null e) = let w = within ts _ _ e (λ p. cc) in record { from = omega arith; to = omega arith }
    moves (a_true e) = let w = within ts _ _ e (λ p. cc) in record { from = omega arith; to = omega arith }
    moves (a_false e) = let w = within ts _ _ e (λ p. cc) in record { from = omega arith; to = omega arith }
    moves (a_numeral e) = let w = within ts _ _ e (λ p. cc) in record { from = omega arith; to = omega arith }
    moves (a_text e) = let w = within ts _ _ e (λ p. cc) in record { from = omega arith; to = omega arith }
    moves (in_parens e d c) = let w = within ts _ _ c (λ p. cc) in let r = moves d in record { from = omega arith; to = omega arith }
    moves (an_array e q) = let r = elements_moves q in record { from = omega arith; to = omega arith }
    moves (an_object e q) = let r = properties_moves q in record { from = omega arith; to = omega arith }
    moves (is_primary d) = moves d
    moves (a_function x) = function_moves x
    moves (a_named_function x) = function_moves x
    moves (indexed d o k c) = let w = within ts _ _ c (λ p. cc) in let r = moves d in let q = moves k in record { from = omega arith; to = omega arith }
    moves (dotted d e c) = let w = name_within ts _ c in let r = moves d in record { from = omega arith; to = omega arith }
    moves (built e d a) = let r = moves d in let q = arguments_moves a in record { from = omega arith; to = omega arith }
    moves (is_member d) = moves d
    moves (built_bare e d) = let r = moves d in record { from = omega arith; to = omega arith }
    moves (called d a) = let r = moves d in let q = arguments_moves a in record { from = omega arith; to = omega arith }
    moves (called_again d a) = let r = moves d in let q = arguments_moves a in record { from = omega arith; to = omega arith }
    moves (call_indexed d o k c) = let w = within ts _ _ c (λ p. cc) in let r = moves d in let q = moves k in record { from = omega arith; to = omega arith }
    moves (call_dotted d e c) = let w = name_within ts _ c in let r = moves d in record { from = omega arith; to = omega arith }
    moves (is_new d) = moves d
    moves (is_call d) = moves d
    moves (is_side d) = moves d
    moves (stepped d l e n) = let w = within ts _ _ e (λ p. cc) in let r = moves d in record { from = omega arith; to = omega arith }
    moves (is_postfix d) = moves d
    moves (with_unary e d) = let r = moves d in record { from = omega arith; to = omega arith }
    moves (with_prefix e d l) = let r = moves d in record { from = omega arith; to = omega arith }
    moves (is_unary d) = moves d
    moves (is_tighter h d) = moves d
    moves (with_binary d e h l y) = let r = moves d in let q = moves y in record { from = omega arith; to = omega arith }
    moves (is_level d) = moves d
    moves (with_choice d e x g y) = let r = moves d in let q = moves x in let u = moves y in record { from = omega arith; to = omega arith }
    moves (is_conditional d) = moves d
    moves (with_assign d l e y) = let r = moves d in let q = moves y in record { from = omega arith; to = omega arith }
    moves (is_single d) = moves d
    moves (with_commas d e m) = let r = moves d in let q = sequence_moves m in record { from = omega arith; to = omega arith }

    pub sequence_moves : {b : Bool} {es : List Expr} {i j : ℕ} → SpellsSequence ts b es i j → Moves ts i j
    sequence_moves (last_of d) = moves d
    sequence_moves (next_of d e m) = let r = moves d in let q = sequence_moves m in record { from = omega arith; to = omega arith }

    pub arguments_moves : {es : List Expr} {i j : ℕ} → SpellsArguments ts es i j → Moves ts i j
    arguments_moves (no_arguments o e) = let w = within ts _ _ e (λ p. cc) in record { from = omega arith; to = omega arith }
    arguments_moves (some_arguments o m e) = let w = within ts _ _ e (λ p. cc) in let r = sequence_moves m in record { from = omega arith; to = omega arith }

    pub elements_moves : {es : List Expr} {i j : ℕ} → SpellsElements ts es i j → Moves ts i j
    elements_moves (no_element e) = let w = within ts _ _ e (λ p. cc) in record { from = omega arith; to = omega arith }
    elements_moves (last_element d e) = let w = within ts _ _ e (λ p. cc) in let r = moves d in record { from = omega arith; to = omega arith }
    elements_moves (next_element d e m) = let r = moves d in let q = elements_moves m in record { from = omega arith; to = omega arith }

    pub properties_moves : {ps : List Property} {i j : ℕ} → SpellsProperties ts ps i j → Moves ts i j
    properties_moves (no_property e) = let w = within ts _ _ e (λ p. cc) in record { from = omega arith; to = omega arith }
    properties_moves (last_property k c d e) = let w = within ts _ _ e (λ p. cc) in let r = moves d in record { from = omega arith; to = omega arith }
    properties_moves (next_property k c d e m) = let r = moves d in let q = properties_moves m in record { from = omega arith; to = omega arith }

    pub function_moves : {n : Bool} {x : Function} {i j : ℕ} → SpellsFunction ts n x i j → Moves ts i j
    function_moves (nameless e q o body c) = let w = within ts _ _ c (λ p. cc) in let v = within ts _ _ o (λ p. cc) in let u = parameters_moves q in let r = items_moves body (omega arith) in record { from = omega arith; to = omega arith }
    function_moves (named e x q o body c) = let w = within ts _ _ c (λ p. cc) in let v = within ts _ _ o (λ p. cc) in let u = parameters_moves q in let r = items_moves body (omega arith) in record { from = omega arith; to = omega arith }

    pub declarations_moves : {b : Bool} {ds : List Declaration} {i j : ℕ} → SpellsDeclarations ts b ds i j → Moves ts i j
    declarations_moves (last_declared d) = declaration_moves d
    declarations_moves (next_declared d e m) = let r = declaration_moves d in let q = declarations_moves m in record { from = omega arith; to = omega arith }

    pub declaration_moves : {b : Bool} {d : Declaration} {i j : ℕ} → SpellsDeclaration ts b d i j → Moves ts i j
    declaration_moves (bare e) = let w = within ts _ _ e (λ p. cc) in record { from = omega arith; to = omega arith }
    declaration_moves (valued e c d) = let r = moves d in record { from = omega arith; to = omega arith }

    pub optional_moves : {k : Terminal} {t : Option Expr} {i j : ℕ} → SpellsOptional ts k t i j → i ≤ length ts → Keeps ts i j
    optional_moves (absent e) h = record { from = omega arith; to = h }
    optional_moves (given d) h = let r = moves d in record { from = omega arith; to = omega arith }

    pub init_moves : {a : Init} {i j : ℕ} → SpellsInit ts a i j → i ≤ length ts → Keeps ts i j
    init_moves (no_start e) h = record { from = omega arith; to = h }
    init_moves (var_start e d) h = let r = declarations_moves d in record { from = omega arith; to = omega arith }
    init_moves (expression_start d) h = let r = moves d in record { from = omega arith; to = omega arith }

    pub goal_moves : {g : Goal} {i j : ℕ} → SpellsGoal ts g i j → Moves ts i j
    goal_moves (var_goal e c) = let w = within ts _ _ c (λ p. cc) in record { from = omega arith; to = omega arith }
    goal_moves (left_goal d l) = moves d

    pub statement_moves : {b : Bool} {t : Stmt} {i j : ℕ} → SpellsStatement ts b t i j → Moves ts i j
    statement_moves (declared x) = function_moves x
    statement_moves (block e body c) = let w = within ts _ _ e (λ p. cc) in let v = within ts _ _ c (λ p. cc) in let r = items_moves body (omega arith) in record { from = omega arith; to = omega arith }
    statement_moves (var e d c) = let r = declarations_moves d in let q = semicolon_moves c r.to in record { from = omega arith; to = omega arith }
    statement_moves (empty e) = let w = within ts _ _ e (λ p. cc) in record { from = omega arith; to = omega arith }
    statement_moves (expression a b d c) = let r = moves d in let q = semicolon_moves c r.to in record { from = omega arith; to = omega arith }
    statement_moves (if_alone a o d c x n) = let r = moves d in let q = statement_moves x in record { from = omega arith; to = omega arith }
    statement_moves (if_else a o d c x e y) = let r = moves d in let q = statement_moves x in let u = statement_moves y in record { from = omega arith; to = omega arith }
    statement_moves (do_while a x w o d c z) = let r = statement_moves x in let q = moves d in let v = within ts _ _ c (λ p. cc) in let u = semicolon_moves z (omega arith) in record { from = omega arith; to = omega arith }
    statement_moves (while a o d c x) = let r = moves d in let q = statement_moves x in record { from = omega arith; to = omega arith }
    statement_moves (for a o x c y d z e g) = let w = within ts _ _ o (λ p. cc) in let v = within ts _ _ c (λ p. cc) in let w' = within ts _ _ d (λ p. cc) in let r = init_moves x (omega arith) in let q = optional_moves y (omega arith) in let u = optional_moves z (omega arith) in let k = statement_moves g in record { from = omega arith; to = omega arith }
    statement_moves (for_in a o x c y e g) = let r = goal_moves x in let q = moves y in let u = statement_moves g in record { from = omega arith; to = omega arith }
    statement_moves (continue e c) = let w = within ts _ _ e (λ p. cc) in let q = semicolon_moves c (omega arith) in record { from = omega arith; to = omega arith }
    statement_moves (break e c) = let w = within ts _ _ e (λ p. cc) in let q = semicolon_moves c (omega arith) in record { from = omega arith; to = omega arith }
    statement_moves (return e c) = let w = within ts _ _ e (λ p. cc) in let q = semicolon_moves c (omega arith) in record { from = omega arith; to = omega arith }
    statement_moves (return_value e l d c) = let r = moves d in let q = semicolon_moves c r.to in record { from = omega arith; to = omega arith }
    statement_moves (throw e l d c) = let r = moves d in let q = semicolon_moves c r.to in record { from = omega arith; to = omega arith }

    pub items_moves : {b : Bool} {body : List Stmt} {i j : ℕ} → SpellsItems ts b body i j → i ≤ length ts → Keeps ts i j
    items_moves done h = record { from = omega arith; to = h }
    items_moves (item d q) h = let r = statement_moves d in let u = items_moves q r.to in record { from = omega arith; to = omega arith }

  pub function_begins : {n : Bool} {x : Function} {i j : ℕ} → SpellsFunction ts n x i j → terminal_at ts i ≡ s.Function
  function_begins (nameless e q o body c) = e
  function_begins (named e x q o body c) = e

  pub starts : {k : Production} {t : Expr} {i j : ℕ} → Spells ts k t i j → begins (terminal_at ts i) ≡ true
  starts (a_name e) = rw e refl
  starts (a_null e) = rw e refl
  starts (a_true e) = rw e refl
  starts (a_false e) = rw e refl
  starts (a_numeral e) = rw e refl
  starts (a_text e) = rw e refl
  starts (in_parens e d c) = rw e refl
  starts (an_array e q) = rw e refl
  starts (an_object e q) = rw e refl
  starts (is_primary d) = starts d
  starts (a_function x) = rw (function_begins x) refl
  starts (a_named_function x) = rw (function_begins x) refl
  starts (indexed d o k c) = starts d
  starts (dotted d e c) = starts d
  starts (built e d a) = rw e refl
  starts (is_member d) = starts d
  starts (built_bare e d) = rw e refl
  starts (called d a) = starts d
  starts (called_again d a) = starts d
  starts (call_indexed d o k c) = starts d
  starts (call_dotted d e c) = starts d
  starts (is_new d) = starts d
  starts (is_call d) = starts d
  starts (is_side d) = starts d
  starts (stepped d l e n) = starts d
  starts (is_postfix d) = starts d
  starts (with_unary {i} {o = o} e d) = unary_begins (terminal_at ts i) o e
  starts (with_prefix e d l) = rw e refl
  starts (is_unary d) = starts d
  starts (is_tighter h d) = starts d
  starts (with_binary d e h l y) = starts d
  starts (is_level d) = starts d
  starts (with_choice d e x g y) = starts d
  starts (is_conditional d) = starts d
  starts (with_assign d l e y) = starts d
  starts (is_single d) = starts d
  starts (with_commas d e m) = starts d

  pub sequence_starts : {b : Bool} {es : List Expr} {i j : ℕ} → SpellsSequence ts b es i j → begins (terminal_at ts i) ≡ true
  sequence_starts (last_of d) = starts d
  sequence_starts (next_of d e m) = starts d

  pub statement_starts : {b : Bool} {t : Stmt} {i j : ℕ} → SpellsStatement ts b t i j → ends_block (terminal_at ts i) ≡ false
  statement_starts (declared x) = rw (function_begins x) refl
  statement_starts (block e body c) = rw e refl
  statement_starts (var e d c) = rw e refl
  statement_starts (empty e) = rw e refl
  statement_starts (expression a b d c) = no_end _ (starts d)
  statement_starts (if_alone a o d c x n) = rw a refl
  statement_starts (if_else a o d c x e y) = rw a refl
  statement_starts (do_while a x w o d c z) = rw a refl
  statement_starts (while a o d c x) = rw a refl
  statement_starts (for a o x c y d z e g) = rw a refl
  statement_starts (for_in a o x c y e g) = rw a refl
  statement_starts (continue e c) = rw e refl
  statement_starts (break e c) = rw e refl
  statement_starts (return e c) = rw e refl
  statement_starts (return_value e l d c) = rw e refl
  statement_starts (throw e l d c) = rw e refl

  pub precedence_bound : {b : Bool} {k : ℕ} {t : Expr} {i j : ℕ} → Spells ts (production.Binary b k) t i j → k ≤ 10
  precedence_bound (is_unary d) = omega arith
  precedence_bound (is_tighter h d) = omega arith
  precedence_bound (with_binary d e h l y) = precedence_bound d

  arguments_last : {es : List Expr} {i j : ℕ} → SpellsArguments ts es i j → is_step (terminal_at ts (j - 1)) ≡ false
  arguments_last (no_arguments {i} o e) = last ts (i + 1) s.CloseParen e refl
  arguments_last (some_arguments {j = j} o m e) = last ts j s.CloseParen e refl

  elements_last : {es : List Expr} {i j : ℕ} → SpellsElements ts es i j → is_step (terminal_at ts (j - 1)) ≡ false
  elements_last (no_element {i} e) = last ts i s.CloseBracket e refl
  elements_last (last_element {j = j} d e) = last ts j s.CloseBracket e refl
  elements_last (next_element d e m) = elements_last m

  properties_last : {ps : List Property} {i j : ℕ} → SpellsProperties ts ps i j → is_step (terminal_at ts (j - 1)) ≡ false
  properties_last (no_property {i} e) = last ts i s.CloseBrace e refl
  properties_last (last_property {j = j} k c d e) = last ts j s.CloseBrace e refl
  properties_last (next_property k c d e m) = properties_last m

  function_last : {n : Bool} {x : Function} {i j : ℕ} → SpellsFunction ts n x i j → is_step (terminal_at ts (j - 1)) ≡ false
  function_last (nameless {j = j} e q o body c) = last ts j s.CloseBrace c refl
  function_last (named {j = j} e x q o body c) = last ts j s.CloseBrace c refl

  name_last : (j : ℕ) → is_property_name ts (j + 1) ≡ true → is_step (terminal_at ts (j + 1 + 1 - 1)) ≡ false
  name_last j c = last ts (j + 1) (terminal_at ts (j + 1)) refl (name_no_step ts (j + 1) c)

  -- Nothing that may be assigned, and no call, ends in an update operator.
  primary_last : {t : Expr} {i j : ℕ} → Spells ts production.Primary t i j → is_step (terminal_at ts (j - 1)) ≡ false
  primary_last (a_name {i} e) = last ts i s.Name e refl
  primary_last (a_null {i} e) = last ts i s.Null e refl
  primary_last (a_true {i} e) = last ts i s.True e refl
  primary_last (a_false {i} e) = last ts i s.False e refl
  primary_last (a_numeral {i} e) = last ts i s.Numeral e refl
  primary_last (a_text {i} e) = last ts i s.Text e refl
  primary_last (in_parens {j = j} e d c) = last ts j s.CloseParen c refl
  primary_last (an_array e q) = elements_last q
  primary_last (an_object e q) = properties_last q

  pub member_last : {t : Expr} {i j : ℕ} → Spells ts production.Member t i j → is_step (terminal_at ts (j - 1)) ≡ false
  member_last (is_primary d) = primary_last d
  member_last (a_function x) = function_last x
  member_last (a_named_function x) = function_last x
  member_last (indexed {j = j} d o k c) = last ts j s.CloseBracket c refl
  member_last (dotted {j = j} d e c) = name_last j c
  member_last (built e d a) = arguments_last a

  pub new_last : {t : Expr} {i j : ℕ} → Spells ts production.New t i j → is_step (terminal_at ts (j - 1)) ≡ false
  new_last (is_member d) = member_last d
  new_last (built_bare e d) = new_last d

  call_last : {t : Expr} {i j : ℕ} → Spells ts production.Call t i j → is_step (terminal_at ts (j - 1)) ≡ false
  call_last (called d a) = arguments_last a
  call_last (called_again d a) = arguments_last a
  call_last (call_indexed {j = j} d o k c) = last ts j s.CloseBracket c refl
  call_last (call_dotted {j = j} d e c) = name_last j c

  pub side_last : {t : Expr} {i j : ℕ} → Spells ts production.LeftHandSide t i j → is_step (terminal_at ts (j - 1)) ≡ false
  side_last (is_new d) = new_last d
  side_last (is_call d) = call_last d
