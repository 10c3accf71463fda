-- What is read is spelled, and its height is the one that was counted.
use Rattle.std.proofs.Common.{true≢false, ◌≡◌, ◌≢◌, ℕ, zero, suc, ◌+◌, ◌-◌, ◌<◌, ◌≤◌, Bool, true, false, ◌&&◌, ◌||◌, ◌⊎◌, inl, inr, List, [], ◌∷◌, ◌++◌, length, arith, refl, sym, ap, ap₂, subst, ◌∙◌, append_assoc, append-nil}
use Rattle.std.specs.Prelude.{Option, Some, None, nat_le, max, map, option_map}
use Rattle.std.proofs.lemmas.Bool.{leb-false, leb-true}
use Rattle.mdg_tree.specs.declared.tree.At.{At}
use Rattle.mdg_tree.specs.declared.tree.Expr.{Expr}
use Rattle.mdg_tree.specs.declared.tree.Expr.TheVariants as ex
use Rattle.mdg_tree.specs.declared.tree.Expr.TheOpen.{Expr-F}
use Rattle.mdg_tree.specs.declared.tree.Expr.TheViews.{out-roll-Expr}
use Rattle.mdg_tree.specs.declared.tree.Stmt.{Stmt}
use Rattle.mdg_tree.specs.declared.tree.Init.{Init}
use Rattle.mdg_tree.specs.declared.tree.Goal.{Goal}
use Rattle.mdg_tree.specs.declared.tree.Key.{Key}
use Rattle.mdg_tree.specs.declared.tree.Property.{Property}
use Rattle.mdg_tree.specs.declared.tree.Function.{Function}
use Rattle.mdg_tree.specs.declared.tree.Declaration.{Declaration}
use Rattle.mdg_tree.specs.declared.operator.BinaryOperator.{BinaryOperator}
use Rattle.mdg_tree.specs.declared.operator.BinaryOperator.TheVariants as binary
use Rattle.mdg_tree.specs.declared.operator.UnaryOperator.{UnaryOperator}
use Rattle.mdg_tree.specs.declared.operator.AssignOperator.{AssignOperator}
use Rattle.mdg_tree.specs.declared.operator.AssignOperator.TheVariants as assign
use Rattle.mdg_tree.specs.declared.operator.Step.{Step}
use Rattle.mdg_tree.proofs.Heights as heights
use Rattle.mdg_tree.specs.Height.{height, stmt_height, init_height, goal_height, property_height, function_height, declaration_height, highest, optional, head_height}
use Rattle.mdg_read.specs.declared.terminal.Terminal.{Terminal}
use Rattle.mdg_read.specs.declared.terminal.Terminal.TheVariants as s
use Rattle.mdg_read.specs.declared.production.Production.{Production}
use Rattle.mdg_read.specs.declared.production.Production.TheVariants as production
use Rattle.mdg_read.specs.declared.semicolon.Terminator.{Terminator}
use Rattle.mdg_read.specs.declared.semicolon.Terminator.TheVariants as terminator
use Rattle.mdg_read.specs.declared.parsed.Parsed.{Parsed}
use Rattle.mdg_read.specs.declared.parsed.Parameters.{Parameters}
use Rattle.mdg_read.specs.Combinators.{◌>>=◌, expect, bounded}
use Rattle.mdg_read.specs.Grammar.{Spells, SpellsSequence, SpellsArguments, SpellsElements, SpellsProperties, SpellsFunction, SpellsDeclarations, SpellsDeclaration, SpellsOptional, SpellsInit, SpellsGoal, SpellsStatement, SpellsItems, SpellsNames, SpellsParameters, last_name, next_name, no_names, some_names, a_name, a_null, a_true, a_false, a_numeral, a_text, in_parens, an_array, an_object, is_primary, a_function, a_named_function, indexed, dotted, built, is_member, built_bare, called, called_again, call_indexed, call_dotted, is_new, is_call, is_side, stepped, is_postfix, with_unary, with_prefix, is_unary, is_tighter, with_binary, is_level, with_choice, is_conditional, with_assign, is_single, with_commas, last_of, next_of, no_arguments, some_arguments, no_element, last_element, next_element, no_property, last_property, next_property, nameless, named, last_declared, next_declared, bare, valued, absent, given, no_start, var_start, expression_start, var_goal, left_goal, declared, block, var, empty, expression, if_alone, if_else, do_while, while, for, for_in, continue, break, return, return_value, throw, done, item}
use Rattle.mdg_read.specs.Semicolon.{SpellsSemicolon, var_terminator, may_be_inserted, semicolon, inserted}
use Rattle.mdg_read.specs.Target.{is_assignment_target, is_target_layer}
use Rattle.mdg_read.specs.TokenClass.{is_in, is_in_operator, same, is_operator, ends_block, unary_of, precedence, is_allowed, tightest, op_of, op_in, step_of, assign_of, is_link, is_member_link, is_plain_assign, is_alone}
use Rattle.mdg_read.specs.Tokens.{Tokens, terminal_at, position_at, text_at, offset_at, line_before_at, key_at, is_property_name}
use Rattle.mdg_read.specs.Combinators as combinators
use Rattle.mdg_read.specs.Reference as reference
use Rattle.mdg_read.specs.ReferenceExpressions as expressions
use Rattle.mdg_read.specs.ReferenceOperands as operands
use Rattle.mdg_read.specs.ReferenceStatements as statements
use Rattle.mdg_read.proofs.BindingPower.{op_power, precedence_small}
use Rattle.mdg_read.proofs.Combinators.{some_is, bind_ok, chosen, guard_ok, same_is, expect_then, bounded_is, guard_of, both_true}

-- the power of the operator that a token is
abbrev pub tight : Bool → Terminal → ℕ
tight b (s.Binary o) = op_power (is_allowed b o) o
tight b _ = 0

op_power_low : (x : Bool) (o : BinaryOperator) → op_power x o ≤ 13
op_power_low true o = omega (arith, precedence_small o)
op_power_low false o = omega arith

tight_low : (b : Bool) (k : Terminal) → tight b k ≤ 13
tight_low b (s.Binary o) = op_power_low (is_allowed b o) o
tight_low b _ = omega arith

abbrev pub flag : Production → Bool
flag (production.Binary b k) = b
flag _ = false

-- No operator as tight as this follows the expression.
abbrev pub reach : Production → ℕ
reach (production.Binary b k) = k + 3
reach _ = 13

-- the productions that the reader asks for, but for an operand of `new`
abbrev pub IsForm : Production → Type 0
IsForm (production.Binary b k) = k ≤ tightest
IsForm production.Member = ⊥
IsForm production.New = ⊥
IsForm production.Call = ⊥
IsForm production.Primary = ⊥
IsForm _ = Unit {0}

pub record FoundExpr (ts : Tokens) (n : ℕ) (k : Production) (i : ℕ) (r : Parsed Expr) : Type 0 where
  pub spells : Spells ts k r.tree i r.next
  pub tall : height r.tree ≡ r.height
  pub low : r.height ≤ n
  pub ends : tight (flag k) (terminal_at ts r.next) ≤ reach k

-- a member, or `new` without arguments, which no parenthesis follows
pub record FoundOperand (ts : Tokens) (n : ℕ) (i : ℕ) (r : Parsed Expr) : Type 0 where
  pub kind : Spells ts production.Member r.tree i r.next ⊎ (Spells ts production.New r.tree i r.next × (same (terminal_at ts r.next) s.OpenParen ≡ false))
  pub stops : is_member_link (terminal_at ts r.next) ≡ false
  pub tall : height r.tree ≡ r.height
  pub low : r.height ≤ n

pub record FoundStmt (ts : Tokens) (n : ℕ) (b : Bool) (i : ℕ) (r : Parsed Stmt) : Type 0 where
  pub spells : SpellsStatement ts b r.tree i r.next
  pub tall : stmt_height r.tree ≡ r.height
  pub low : r.height ≤ n

-- several more after those before
record FoundMany (ts : Tokens) (n : ℕ) (b : Bool) (before : List Expr) (h i : ℕ) (r : Parsed (List Expr)) : Type 0 where
  pub es : List Expr
  pub spells : SpellsSequence ts b es i r.next
  pub tree : before ++ es ≡ r.tree
  pub tall : max h (highest (map height es)) ≡ r.height
  pub low : highest (map height es) ≤ n

record FoundArguments (ts : Tokens) (n i : ℕ) (r : Parsed (List Expr)) : Type 0 where
  pub spells : SpellsArguments ts r.tree i r.next
  pub tall : highest (map height r.tree) ≡ r.height
  pub low : r.height ≤ n

record FoundElements (ts : Tokens) (n : ℕ) (before : List Expr) (h i : ℕ) (r : Parsed (List Expr)) : Type 0 where
  pub es : List Expr
  pub spells : SpellsElements ts es i r.next
  pub tree : before ++ es ≡ r.tree
  pub tall : max h (highest (map height es)) ≡ r.height
  pub low : highest (map height es) ≤ n

record FoundProperty (ts : Tokens) (n i : ℕ) (r : Parsed Property) : Type 0 where
  pub key : Key
  pub value : Expr
  pub is_key : key_at ts i ≡ Some key
  pub colon : terminal_at ts (i + 1) ≡ s.Colon
  pub spells : Spells ts (production.Assignment false) value (i + 1 + 1) r.next
  pub tree : record { at = position_at ts i; key = key; value = value } ≡ r.tree
  pub tall : property_height r.tree ≡ r.height
  pub low : r.height ≤ n

record FoundProperties (ts : Tokens) (n : ℕ) (before : List Property) (h i : ℕ) (r : Parsed (List Property)) : Type 0 where
  pub ps : List Property
  pub spells : SpellsProperties ts ps i r.next
  pub tree : before ++ ps ≡ r.tree
  pub tall : max h (highest (map property_height ps)) ≡ r.height
  pub low : highest (map property_height ps) ≤ n

-- statements after those before
record FoundBody (ts : Tokens) (n : ℕ) (b : Bool) (before : List Stmt) (h i : ℕ) (r : Parsed (List Stmt)) : Type 0 where
  pub body : List Stmt
  pub spells : SpellsItems ts b body i r.next
  pub tree : before ++ body ≡ r.tree
  pub tall : max h (highest (map stmt_height body)) ≡ r.height
  pub low : highest (map stmt_height body) ≤ n

record FoundNames (ts : Tokens) (bx : List (List ℕ)) (bo : List ℕ) (i : ℕ) (p : Parameters) : Type 0 where
  pub xs : List (List ℕ)
  pub os : List ℕ
  pub names : SpellsNames ts xs os i p.next
  pub texts : bx ++ xs ≡ p.names
  pub offsets : bo ++ os ≡ p.offsets

record FoundFunction (ts : Tokens) (n : ℕ) (b : Bool) (i : ℕ) (r : Parsed Function) : Type 0 where
  pub defines : SpellsFunction ts b r.tree i r.next
  pub tall : function_height r.tree ≡ r.height
  pub low : r.height ≤ n

max_assoc : (a b c : ℕ) → max (max a b) c ≡ max a (max b c)
max_assoc a b c = omega arith

op_terminal : (b : Bool) (k : Terminal) (o : BinaryOperator) → op_of b k ≡ Some o → (k ≡ s.Binary o) × (is_allowed b o ≡ true)
op_terminal b (s.Binary u) o e = known (is_allowed b u) refl e
  where
    known : (x : Bool) → is_allowed b u ≡ x → op_in x u ≡ Some o → (s.Binary u ≡ s.Binary o) × (is_allowed b o ≡ true)
    known true p e = let is : u ≡ o = some_is u o e in (ap (λ z. s.Binary z) is, ap (is_allowed b) (sym is) ∙ p)
    known false p e = absurd cc
op_terminal b _ o e = absurd cc

no_op_tight : (b : Bool) (k : Terminal) (least : ℕ) → op_of b k ≡ None → tight b k ≤ least + 3
no_op_tight b (s.Binary o) least e = known (is_allowed b o) e
  where
    known : (x : Bool) → op_in x o ≡ None → op_power x o ≤ least + 3
    known true e = absurd cc
    known false e = omega arith
no_op_tight b _ least e = omega arith

step_sign : (k : Terminal) (o : Step) → step_of k ≡ Some o → k ≡ s.Update o
step_sign (s.Update u) o e = ap (λ z. s.Update z) (some_is u o e)
step_sign _ o e = absurd cc

assign_sign : (k : Terminal) (o : AssignOperator) → assign_of k ≡ Some o → k ≡ s.Assign o
assign_sign (s.Assign u) o e = ap (λ z. s.Assign z) (some_is u o e)
assign_sign _ o e = absurd cc

plain_terminal : (k : Terminal) → is_plain_assign k ≡ true → k ≡ s.Assign assign.Plain
plain_terminal (s.Assign assign.Plain) e = refl
plain_terminal _ e = absurd cc

in_operator : (o : BinaryOperator) → is_in_operator o ≡ true → o ≡ binary.In
in_operator binary.In e = refl
in_operator _ e = absurd cc

in_terminal : (k : Terminal) → is_in k ≡ true → k ≡ s.Binary binary.In
in_terminal (s.Binary o) e = ap (λ z. s.Binary z) (in_operator o e)
in_terminal _ e = absurd cc

is_assignment_target-Comma : (at : At) (es : List Expr) → is_assignment_target (ex.Comma at es) ≡ false
unfolding is_assignment_target
is_assignment_target-Comma at es = ap is_assignment_target (sym (ex.rolls-Comma at es)) ∙ ap is_target_layer (out-roll-Expr (Expr-F.Comma at es))

is_assignment_target-Assign : (at : At) (o : AssignOperator) (a b : Expr) → is_assignment_target (ex.Assign at o a b) ≡ false
unfolding is_assignment_target
is_assignment_target-Assign at o a b = ap is_assignment_target (sym (ex.rolls-Assign at o a b)) ∙ ap is_target_layer (out-roll-Expr (Expr-F.Assign at o a b))

is_assignment_target-Conditional : (at : At) (a b c : Expr) → is_assignment_target (ex.Conditional at a b c) ≡ false
unfolding is_assignment_target
is_assignment_target-Conditional at a b c = ap is_assignment_target (sym (ex.rolls-Conditional at a b c)) ∙ ap is_target_layer (out-roll-Expr (Expr-F.Conditional at a b c))

is_assignment_target-Binary : (at : At) (o : BinaryOperator) (a b : Expr) → is_assignment_target (ex.Binary at o a b) ≡ false
unfolding is_assignment_target
is_assignment_target-Binary at o a b = ap is_assignment_target (sym (ex.rolls-Binary at o a b)) ∙ ap is_target_layer (out-roll-Expr (Expr-F.Binary at o a b))

is_assignment_target-Unary : (at : At) (o : UnaryOperator) (a : Expr) → is_assignment_target (ex.Unary at o a) ≡ false
unfolding is_assignment_target
is_assignment_target-Unary at o a = ap is_assignment_target (sym (ex.rolls-Unary at o a)) ∙ ap is_target_layer (out-roll-Expr (Expr-F.Unary at o a))

is_assignment_target-Prefix : (at : At) (o : Step) (a : Expr) → is_assignment_target (ex.Prefix at o a) ≡ false
unfolding is_assignment_target
is_assignment_target-Prefix at o a = ap is_assignment_target (sym (ex.rolls-Prefix at o a)) ∙ ap is_target_layer (out-roll-Expr (Expr-F.Prefix at o a))

is_assignment_target-Postfix : (at : At) (o : Step) (a : Expr) → is_assignment_target (ex.Postfix at o a) ≡ false
unfolding is_assignment_target
is_assignment_target-Postfix at o a = ap is_assignment_target (sym (ex.rolls-Postfix at o a)) ∙ ap is_target_layer (out-roll-Expr (Expr-F.Postfix at o a))

-- What may be assigned is spelled as such, of whatever production it was read.
module _ (ts : Tokens) where
  left_postfix : {t : Expr} {i j : ℕ} → Spells ts production.Postfix t i j → is_assignment_target t ≡ true → Spells ts production.LeftHandSide t i j
  left_postfix (is_side d) l = d
  left_postfix (stepped {i} {t = t} {o = o} d m e lb) l = absurd (true≢false (sym l ∙ is_assignment_target-Postfix (position_at ts i) o t))

  left_unary : {t : Expr} {i j : ℕ} → Spells ts production.Unary t i j → is_assignment_target t ≡ true → Spells ts production.LeftHandSide t i j
  left_unary (is_postfix d) l = left_postfix d l
  left_unary (with_unary {i} {t = t} {o = o} e d) l = absurd (true≢false (sym l ∙ is_assignment_target-Unary (position_at ts i) o t))
  left_unary (with_prefix {i} {t = t} {o = o} e d m) l = absurd (true≢false (sym l ∙ is_assignment_target-Prefix (position_at ts i) o t))

  left_level : {b : Bool} {k : ℕ} {t : Expr} {i j : ℕ} → Spells ts (production.Binary b k) t i j → is_assignment_target t ≡ true → Spells ts production.LeftHandSide t i j
  left_level (is_unary d) l = left_unary d l
  left_level (is_tighter h d) l = left_level d l
  left_level (with_binary {i = i} {o = o} {x = x} {y = y} d e sb g c) l = absurd (true≢false (sym l ∙ is_assignment_target-Binary (position_at ts i) o x y))

  left_conditional : {b : Bool} {t : Expr} {i j : ℕ} → Spells ts (production.Conditional b) t i j → is_assignment_target t ≡ true → Spells ts production.LeftHandSide t i j
  left_conditional (is_level d) l = left_level d l
  left_conditional (with_choice {i = i} {c = c} {x = x} {y = y} d e dx g dy) l = absurd (true≢false (sym l ∙ is_assignment_target-Conditional (position_at ts i) c x y))

  left_single : {b : Bool} {t : Expr} {i j : ℕ} → Spells ts (production.Assignment b) t i j → is_assignment_target t ≡ true → Spells ts production.LeftHandSide t i j
  left_single (is_conditional d) l = left_conditional d l
  left_single (with_assign {i = i} {o = o} {x = x} {y = y} d m e c) l = absurd (true≢false (sym l ∙ is_assignment_target-Assign (position_at ts i) o x y))

  left_whole : {b : Bool} {t : Expr} {i j : ℕ} → Spells ts (production.Expression b) t i j → is_assignment_target t ≡ true → Spells ts production.LeftHandSide t i j
  left_whole (is_single d) l = left_single d l
  left_whole (with_commas {i = i} {t = t} {es = es} d e q) l = absurd (true≢false (sym l ∙ is_assignment_target-Comma (position_at ts i) (t ∷ es)))

  names_found : (w : ℕ) (bx : List (List ℕ)) (bo : List ℕ) (i : ℕ) (p : Parameters) → combinators.names_from ts w bx bo i ≡ Some p → FoundNames ts bx bo i p
  unfolding Rattle.mdg_read.specs.Combinators.names_from
  names_found zero bx bo i p e = absurd cc
  names_found (suc w) bx bo i p e =
      let c = expect_then ts s.Name i _ p refl e in
      elim (chosen (same (terminal_at ts (i + 1)) s.Comma) _ _ _ c.1) [
        | inl q ↦
            let r = names_found w (bx ++ text_at ts i ∷ []) (bo ++ offset_at ts i ∷ []) (i + 1 + 1) p q.1 in
            record {
              xs = text_at ts i ∷ r.xs;
              os = offset_at ts i ∷ r.os;
              names = next_name c.0 (same_is q.0 refl) r.names;
              texts = sym (append_assoc bx (text_at ts i ∷ []) r.xs) ∙ r.texts;
              offsets = sym (append_assoc bo (offset_at ts i ∷ []) r.os) ∙ r.offsets;
            }
        | inr q ↦
            subst (FoundNames ts bx bo i) (some_is _ _ q.1) (record { xs = text_at ts i ∷ []; os = offset_at ts i ∷ []; names = last_name c.0; texts = refl; offsets = refl })
      ]

  parameters_found : (i : ℕ) (p : Parameters) → combinators.parameter_list ts i ≡ Some p → SpellsParameters ts p.names p.offsets i p.next
  unfolding Rattle.mdg_read.specs.Combinators.parameter_list Rattle.mdg_read.specs.Combinators.some_parameters
  parameters_found i p e =
      let c = expect_then ts s.OpenParen i _ p refl e in
      elim (chosen (same (terminal_at ts (i + 1)) s.CloseParen) _ _ _ c.1) [
        | inl q ↦ subst (λ z. SpellsParameters ts z.names z.offsets i z.next) (some_is _ _ q.1) (no_names c.0 (same_is q.0 refl))
        | inr q ↦
            let u = bind_ok (combinators.names_from ts (length ts) [] [] (i + 1)) _ p q.1 in
            let r = names_found (length ts) [] [] (i + 1) u.0 u.1 in
            let v = expect_then ts s.CloseParen u.0.next _ p refl u.2 in
            let names : SpellsNames ts u.0.names u.0.offsets (i + 1) u.0.next = subst (λ z. SpellsNames ts z u.0.offsets (i + 1) u.0.next) r.texts (subst (λ z. SpellsNames ts r.xs z (i + 1) u.0.next) r.offsets r.names) in
            subst (λ z. SpellsParameters ts z.names z.offsets i z.next) (some_is _ _ v.1) (some_names c.0 names v.0)
      ]

  pub semicolon_found : (g : Terminator) (i j : ℕ) → combinators.insert_semicolon ts g i ≡ Some j → SpellsSemicolon ts g i j
  unfolding Rattle.mdg_read.specs.Combinators.insert_semicolon
  semicolon_found g i j e =
      elim (chosen (same (terminal_at ts i) s.Semicolon) _ _ _ e) [
        | inl q ↦ subst (SpellsSemicolon ts g i) (some_is _ _ q.1) (semicolon (same_is q.0 refl))
        | inr q ↦
            let c = guard_ok (may_be_inserted g (terminal_at ts i) (line_before_at ts i) (terminal_at ts (i - 1))) i j q.1 in
            subst (SpellsSemicolon ts g i) c.1 (inserted (λ is. true≢false (sym (ap (λ k. same k s.Semicolon) is) ∙ q.0)) c.0)
      ]

module _ (ts : Tokens) (n : ℕ) (expr : Production → ℕ → Option (Parsed Expr)) (stmt : Bool → ℕ → Option (Parsed Stmt))
    (reads : (k : Production) (i : ℕ) (r : Parsed Expr) → IsForm k → expr k i ≡ Some r → FoundExpr ts n k i r)
    (reads_operand : (i : ℕ) (r : Parsed Expr) → expr production.Member i ≡ Some r → FoundOperand ts n i r)
    (reads_stmt : (b : Bool) (i : ℕ) (r : Parsed Stmt) → stmt b i ≡ Some r → FoundStmt ts n b i r) where
  several : (b : Bool) (w : ℕ) (before : List Expr) (h i : ℕ) (r : Parsed (List Expr)) → operands.sequence_from ts n expr stmt b w before h i ≡ Some r → FoundMany ts n b before h i r
  unfolding Rattle.mdg_read.specs.ReferenceOperands.sequence_from
  several b zero before h i r e = absurd cc
  several b (suc w) before h i r e =
      let p = bind_ok (expr (production.Assignment b) i) _ r e in
      let a = reads (production.Assignment b) i p.0 tt p.1 in
      elim (chosen (same (terminal_at ts p.0.next) s.Comma) _ _ _ p.2) [
        | inl q ↦
            let c = several b w (before ++ p.0.tree ∷ []) (max h p.0.height) (p.0.next + 1) r q.1 in
            record {
              es = p.0.tree ∷ c.es;
              spells = next_of a.spells (same_is q.0 refl) c.spells;
              tree = sym (append_assoc before (p.0.tree ∷ []) c.es) ∙ c.tree;
              tall = omega (arith, a.tall, c.tall);
              low = omega (arith, a.tall, a.low, c.low);
            }
        | inr q ↦
            subst (FoundMany ts n b before h i) (some_is _ _ q.1) (record {
              es = p.0.tree ∷ [];
              spells = last_of a.spells;
              tree = refl;
              tall = omega (arith, a.tall);
              low = omega (arith, a.tall, a.low);
            })
      ]

  arguments : (i : ℕ) (r : Parsed (List Expr)) → operands.arguments ts n expr stmt i ≡ Some r → FoundArguments ts n i r
  unfolding Rattle.mdg_read.specs.ReferenceOperands.arguments Rattle.mdg_read.specs.ReferenceOperands.some_arguments
  arguments i r e =
      let o = expect_then ts s.OpenParen i _ r refl e in
      elim (chosen (same (terminal_at ts (i + 1)) s.CloseParen) _ _ _ o.1) [
        | inl q ↦ subst (FoundArguments ts n i) (some_is _ _ q.1) (record { spells = no_arguments o.0 (same_is q.0 refl); tall = refl; low = omega arith })
        | inr q ↦
            let p = bind_ok (operands.sequence_from ts n expr stmt false (length ts) [] 0 (i + 1)) _ r q.1 in
            let a = several false (length ts) [] 0 (i + 1) p.0 p.1 in
            let d = expect_then ts s.CloseParen p.0.next _ r refl p.2 in
            subst (FoundArguments ts n i) (some_is _ _ d.1) (record {
              spells = subst (λ es. SpellsArguments ts es i (p.0.next + 1)) a.tree (some_arguments o.0 a.spells d.0);
              tall = ap (λ es. highest (map height es)) (sym a.tree) ∙ (let h : highest (map height a.es) ≡ p.0.height = omega (arith, a.tall) in h);
              low = omega (arith, a.tall, a.low);
            })
      ]

  elements : (w : ℕ) (before : List Expr) (h i : ℕ) (r : Parsed (List Expr)) → operands.elements_from ts n expr stmt w before h i ≡ Some r → FoundElements ts n before h i r
  unfolding Rattle.mdg_read.specs.ReferenceOperands.elements_from
  elements zero before h i r e = absurd cc
  elements (suc w) before h i r e =
      elim (chosen (same (terminal_at ts i) s.CloseBracket) _ _ _ e) [
        | inl q ↦ subst (FoundElements ts n before h i) (some_is _ _ q.1) (record { es = []; spells = no_element (same_is q.0 refl); tree = append-nil before; tall = omega arith; low = omega arith })
        | inr q ↦
            let p = bind_ok (expr (production.Assignment false) i) _ r q.1 in
            let a = reads (production.Assignment false) i p.0 tt p.1 in
            elim (chosen (same (terminal_at ts p.0.next) s.Comma) _ _ _ p.2) [
              | inl u ↦
                  let c = elements w (before ++ p.0.tree ∷ []) (max h p.0.height) (p.0.next + 1) r u.1 in
                  record {
                    es = p.0.tree ∷ c.es;
                    spells = next_element a.spells (same_is u.0 refl) c.spells;
                    tree = sym (append_assoc before (p.0.tree ∷ []) c.es) ∙ c.tree;
                    tall = omega (arith, a.tall, c.tall);
                    low = omega (arith, a.tall, a.low, c.low);
                  }
              | inr u ↦
                  let v = expect_then ts s.CloseBracket p.0.next _ r refl u.1 in
                  subst (FoundElements ts n before h i) (some_is _ _ v.1) (record {
                    es = p.0.tree ∷ [];
                    spells = last_element a.spells v.0;
                    tree = refl;
                    tall = omega (arith, a.tall);
                    low = omega (arith, a.tall, a.low);
                  })
            ]
      ]

  property_found : (i : ℕ) (r : Parsed Property) → operands.property ts n expr stmt i ≡ Some r → FoundProperty ts n i r
  unfolding Rattle.mdg_read.specs.ReferenceOperands.property
  property_found i r e =
      let k = bind_ok (key_at ts i) _ r e in
      let c = expect_then ts s.Colon (i + 1) _ r refl k.2 in
      let p = bind_ok (expr (production.Assignment false) (i + 1 + 1)) _ r c.1 in
      let a = reads (production.Assignment false) (i + 1 + 1) p.0 tt p.1 in
      subst (FoundProperty ts n i) (some_is _ _ p.2) (record {
        key = k.0;
        value = p.0.tree;
        is_key = k.1;
        colon = c.0;
        spells = a.spells;
        tree = refl;
        tall = heights.property_height-is (record { at = position_at ts i; key = k.0; value = p.0.tree }) ∙ a.tall;
        low = a.low;
      })

  properties : (w : ℕ) (before : List Property) (h i : ℕ) (r : Parsed (List Property)) → operands.properties_from ts n expr stmt w before h i ≡ Some r → FoundProperties ts n before h i r
  unfolding Rattle.mdg_read.specs.ReferenceOperands.properties_from
  properties zero before h i r e = absurd cc
  properties (suc w) before h i r e =
      elim (chosen (same (terminal_at ts i) s.CloseBrace) _ _ _ e) [
        | inl q ↦ subst (FoundProperties ts n before h i) (some_is _ _ q.1) (record { ps = []; spells = no_property (same_is q.0 refl); tree = append-nil before; tall = omega arith; low = omega arith })
        | inr q ↦
            let p = bind_ok (operands.property ts n expr stmt i) _ r q.1 in
            let a = property_found i p.0 p.1 in
            elim (chosen (same (terminal_at ts p.0.next) s.Comma) _ _ _ p.2) [
              | inl u ↦
                  let c = properties w (before ++ p.0.tree ∷ []) (max h p.0.height) (p.0.next + 1) r u.1 in
                  record {
                    ps = p.0.tree ∷ c.ps;
                    spells = subst (λ x. SpellsProperties ts (x ∷ c.ps) i r.next) a.tree (next_property a.is_key a.colon a.spells (same_is u.0 refl) c.spells);
                    tree = sym (append_assoc before (p.0.tree ∷ []) c.ps) ∙ c.tree;
                    tall = omega (arith, a.tall, c.tall);
                    low = omega (arith, a.tall, a.low, c.low);
                  }
              | inr u ↦
                  let v = expect_then ts s.CloseBrace p.0.next _ r refl u.1 in
                  subst (FoundProperties ts n before h i) (some_is _ _ v.1) (record {
                    ps = p.0.tree ∷ [];
                    spells = subst (λ x. SpellsProperties ts (x ∷ []) i (p.0.next + 1)) a.tree (last_property a.is_key a.colon a.spells v.0);
                    tree = refl;
                    tall = omega (arith, a.tall);
                    low = omega (arith, a.tall, a.low);
                  })
            ]
      ]

  items_from : (b : Bool) (w : ℕ) (before : List Stmt) (h i : ℕ) (r : Parsed (List Stmt)) → operands.items_from ts n expr stmt b w before h i ≡ Some r → FoundBody ts n b before h i r
  unfolding Rattle.mdg_read.specs.ReferenceOperands.items_from
  items_from b zero before h i r e = absurd cc
  items_from b (suc w) before h i r e =
      elim (chosen (ends_block (terminal_at ts i)) _ _ _ e) [
        | inl q ↦ subst (FoundBody ts n b before h i) (some_is _ _ q.1) (record { body = []; spells = done; tree = append-nil before; tall = omega arith; low = omega arith })
        | inr q ↦
            let p = bind_ok (stmt b i) _ r q.1 in
            let a = reads_stmt b i p.0 p.1 in
            let c = items_from b w (before ++ p.0.tree ∷ []) (max h p.0.height) p.0.next r p.2 in
            record {
              body = p.0.tree ∷ c.body;
              spells = item a.spells c.spells;
              tree = sym (append_assoc before (p.0.tree ∷ []) c.body) ∙ c.tree;
              tall = omega (arith, a.tall, c.tall);
              low = omega (arith, a.tall, a.low, c.low);
            }
      ]

  record FoundItems (b : Bool) (i : ℕ) (r : Parsed (List Stmt)) : Type 0 where
    spells : SpellsItems ts b r.tree i r.next
    tall : highest (map stmt_height r.tree) ≡ r.height
    low : r.height ≤ n

  items_found : (b : Bool) (i : ℕ) (r : Parsed (List Stmt)) → operands.items ts n expr stmt b i ≡ Some r → FoundItems b i r
  unfolding Rattle.mdg_read.specs.ReferenceOperands.items
  items_found b i r e =
      let c = items_from b (length ts + 1) [] 0 i r e in
      record {
        spells = subst (λ x. SpellsItems ts b x i r.next) c.tree c.spells;
        tall = subst (λ x. highest (map stmt_height x) ≡ r.height) c.tree (omega (arith, c.tall));
        low = omega (arith, c.tall, c.low);
      }

  -- the rest of a function after its parameters
  record FoundRest (xs : List (List ℕ)) (os : List ℕ) (name : Option (List ℕ)) (o i m : ℕ) (r : Parsed Function) : Type 0 where
    body : List Stmt
    last : ℕ
    brace : terminal_at ts m ≡ s.OpenBrace
    spells : SpellsItems ts true body (m + 1) last
    close : terminal_at ts last ≡ s.CloseBrace
    is : record { tree = record { name = name; name_offset = o; parameters = xs; parameter_offsets = os; body = body; line = (position_at ts i).line; offset = offset_at ts i }; height = highest (map stmt_height body) + 1; next = last + 1 } ≡ r
    low : highest (map stmt_height body) ≤ n

  from_found : (name : Option (List ℕ)) (o i k : ℕ) (r : Parsed Function) → operands.function_from ts n expr stmt name o i k ≡ Some r
      → (p : Parameters) × SpellsParameters ts p.names p.offsets k p.next × FoundRest p.names p.offsets name o i p.next r
  unfolding Rattle.mdg_read.specs.ReferenceOperands.function_from
  from_found name o i k r e =
      let p = bind_ok (combinators.parameter_list ts k) _ r e in
      let a = expect_then ts s.OpenBrace p.0.next _ r refl p.2 in
      let q = bind_ok (operands.items ts n expr stmt true (p.0.next + 1)) _ r a.1 in
      let c = items_found true (p.0.next + 1) q.0 q.1 in
      let v = expect_then ts s.CloseBrace q.0.next _ r refl q.2 in (
        p.0,
        parameters_found ts k p.0 p.1,
        record {
          body = q.0.tree;
          last = q.0.next;
          brace = a.0;
          spells = c.spells;
          close = v.0;
          is = ap (λ h. record { tree = record { name = name; name_offset = o; parameters = p.0.names; parameter_offsets = p.0.offsets; body = q.0.tree; line = (position_at ts i).line; offset = offset_at ts i }; height = h + 1; next = q.0.next + 1 }) c.tall ∙ some_is _ _ v.1;
          low = omega (arith, c.tall, c.low);
        },
      )

  named_found : (i : ℕ) (r : Parsed Function) → terminal_at ts i ≡ s.Function → terminal_at ts (i + 1) ≡ s.Name → operands.named_function ts n expr stmt i ≡ Some r → FoundFunction ts (suc n) true i r
  unfolding Rattle.mdg_read.specs.ReferenceOperands.named_function
  named_found i r k name e =
      let c = from_found (Some (text_at ts (i + 1))) (offset_at ts (i + 1)) i (i + 1 + 1) r e in
      subst (FoundFunction ts (suc n) true i) c.2.is (record {
        defines = named k name c.1 c.2.brace c.2.spells c.2.close;
        tall = heights.function_height-is (record { name = Some (text_at ts (i + 1)); name_offset = offset_at ts (i + 1); parameters = c.0.names; parameter_offsets = c.0.offsets; body = c.2.body; line = (position_at ts i).line; offset = offset_at ts i });
        low = omega (arith, c.2.low);
      })

  nameless_found : (i : ℕ) (r : Parsed Function) → terminal_at ts i ≡ s.Function → operands.function_from ts n expr stmt None (offset_at ts i) i (i + 1) ≡ Some r → FoundFunction ts (suc n) false i r
  nameless_found i r k e =
      let c = from_found None (offset_at ts i) i (i + 1) r e in
      subst (FoundFunction ts (suc n) false i) c.2.is (record {
        defines = nameless k c.1 c.2.brace c.2.spells c.2.close;
        tall = heights.function_height-is (record { name = None; name_offset = offset_at ts i; parameters = c.0.names; parameter_offsets = c.0.offsets; body = c.2.body; line = (position_at ts i).line; offset = offset_at ts i });
        low = omega (arith, c.2.low);
      })

  -- what stands at the head of a chain: a member, or `new` without arguments, which no link follows
  record Head (i : ℕ) (r : Parsed Expr) : Type 0 where
    kind : Spells ts production.Member r.tree i r.next ⊎ (Spells ts production.New r.tree i r.next × (same (terminal_at ts r.next) s.OpenParen ≡ false) × (is_member_link (terminal_at ts r.next) ≡ false))
    tall : height r.tree ≡ r.height
    low : r.height ≤ suc n

  function_found : (i : ℕ) (r : Parsed Expr) → terminal_at ts i ≡ s.Function → operands.function ts n expr stmt i ≡ Some r → Head i r
  unfolding Rattle.mdg_read.specs.ReferenceOperands.function Rattle.mdg_read.specs.ReferenceOperands.any_function
  function_found i r k e =
      let p = bind_ok (operands.any_function ts n expr stmt i) _ r e in
      elim (chosen (same (terminal_at ts (i + 1)) s.Name) _ _ _ p.1) [
        | inl q ↦
            let c = named_found i p.0 k (same_is q.0 refl) q.1 in
            subst (Head i) (some_is _ _ p.2) (record { kind = inl (a_named_function c.defines); tall = heights.height-FunctionExpression p.0.tree ∙ c.tall; low = c.low })
        | inr q ↦
            let c = nameless_found i p.0 k q.1 in
            subst (Head i) (some_is _ _ p.2) (record { kind = inl (a_function c.defines); tall = heights.height-FunctionExpression p.0.tree ∙ c.tall; low = c.low })
      ]

  record Prime (i : ℕ) (r : Parsed Expr) : Type 0 where
    spells : Spells ts production.Primary r.tree i r.next
    tall : height r.tree ≡ r.height
    low : r.height ≤ suc n

  paren_found : (i : ℕ) (r : Parsed Expr) → terminal_at ts i ≡ s.OpenParen → operands.paren ts n expr stmt i ≡ Some r → Prime i r
  unfolding Rattle.mdg_read.specs.ReferenceOperands.paren
  paren_found i r o e =
      let p = bind_ok (expr (production.Expression false) (i + 1)) _ r e in
      let a = reads (production.Expression false) (i + 1) p.0 tt p.1 in
      let c = expect_then ts s.CloseParen p.0.next _ r refl p.2 in
      subst (Prime i) (some_is _ _ c.1) (record { spells = in_parens o a.spells c.0; tall = heights.height-Paren (position_at ts i) p.0.tree ∙ ap (λ h. h + 1) a.tall; low = omega (arith, a.low) })

  array_found : (i : ℕ) (r : Parsed Expr) → terminal_at ts i ≡ s.OpenBracket → operands.array ts n expr stmt i ≡ Some r → Prime i r
  unfolding Rattle.mdg_read.specs.ReferenceOperands.array
  array_found i r o e =
      let p = bind_ok (operands.elements_from ts n expr stmt (length ts) [] 0 (i + 1)) _ r e in
      let a = elements (length ts) [] 0 (i + 1) p.0 p.1 in
      let total : highest (map height p.0.tree) ≡ p.0.height = subst (λ x. highest (map height x) ≡ p.0.height) a.tree (omega (arith, a.tall)) in
      subst (Prime i) (some_is _ _ p.2) (record {
        spells = an_array o (subst (λ x. SpellsElements ts x (i + 1) p.0.next) a.tree a.spells);
        tall = heights.height-Array (position_at ts i) p.0.tree ∙ ap (λ h. h + 1) total;
        low = omega (arith, a.tall, a.low);
      })

  object_found : (i : ℕ) (r : Parsed Expr) → terminal_at ts i ≡ s.OpenBrace → operands.object ts n expr stmt i ≡ Some r → Prime i r
  unfolding Rattle.mdg_read.specs.ReferenceOperands.object
  object_found i r o e =
      let p = bind_ok (operands.properties_from ts n expr stmt (length ts) [] 0 (i + 1)) _ r e in
      let a = properties (length ts) [] 0 (i + 1) p.0 p.1 in
      let total : highest (map property_height p.0.tree) ≡ p.0.height = subst (λ x. highest (map property_height x) ≡ p.0.height) a.tree (omega (arith, a.tall)) in
      subst (Prime i) (some_is _ _ p.2) (record {
        spells = an_object o (subst (λ x. SpellsProperties ts x (i + 1) p.0.next) a.tree a.spells);
        tall = heights.height-Object (position_at ts i) p.0.tree ∙ ap (λ h. h + 1) total;
        low = omega (arith, a.tall, a.low);
      })

  primary_found : (k : Terminal) (i : ℕ) (r : Parsed Expr) → terminal_at ts i ≡ k → operands.primary_by ts n expr stmt k i ≡ Some r → Prime i r
  primary_found s.Name i r k e = subst (Prime i) (some_is _ _ e) (record { spells = a_name k; tall = heights.height-Name (position_at ts i) (text_at ts i); low = omega arith })
  primary_found s.Null i r k e = subst (Prime i) (some_is _ _ e) (record { spells = a_null k; tall = heights.height-Null (position_at ts i); low = omega arith })
  primary_found s.True i r k e = subst (Prime i) (some_is _ _ e) (record { spells = a_true k; tall = heights.height-True (position_at ts i); low = omega arith })
  primary_found s.False i r k e = subst (Prime i) (some_is _ _ e) (record { spells = a_false k; tall = heights.height-False (position_at ts i); low = omega arith })
  primary_found s.Numeral i r k e = subst (Prime i) (some_is _ _ e) (record { spells = a_numeral k; tall = heights.height-Numeral (position_at ts i) (text_at ts i); low = omega arith })
  primary_found s.Text i r k e = subst (Prime i) (some_is _ _ e) (record { spells = a_text k; tall = heights.height-Text (position_at ts i) (text_at ts i); low = omega arith })
  primary_found s.OpenParen i r k e = paren_found i r k e
  primary_found s.OpenBracket i r k e = array_found i r k e
  primary_found s.OpenBrace i r k e = object_found i r k e
  primary_found _ i r k e = absurd cc

  built_found : (i : ℕ) (r : Parsed Expr) → terminal_at ts i ≡ s.New → operands.built ts n expr stmt i ≡ Some r → Head i r
  unfolding Rattle.mdg_read.specs.ReferenceOperands.built Rattle.mdg_read.specs.ReferenceOperands.built_with
  built_found i r k e =
      let p = bind_ok (expr production.Member (i + 1)) _ r e in
      let a = reads_operand (i + 1) p.0 p.1 in
      elim (chosen (same (terminal_at ts p.0.next) s.OpenParen) _ _ _ p.2) [
        | inl q ↦
            let u = bind_ok (operands.arguments ts n expr stmt p.0.next) _ r q.1 in
            let c = arguments p.0.next u.0 u.1 in
            let callee : Spells ts production.Member p.0.tree (i + 1) p.0.next = elim a.kind [ inl m ↦ m | inr x ↦ absurd (true≢false (sym q.0 ∙ x.1)) ] in
            subst (Head i) (some_is _ _ u.2) (record {
              kind = inl (built k callee c.spells);
              tall = heights.height-NewWithArguments (position_at ts i) p.0.tree u.0.tree ∙ ap₂ (λ g h. max g h + 1) a.tall c.tall;
              low = omega (arith, a.low, c.low);
            })
        | inr q ↦
            let callee : Spells ts production.New p.0.tree (i + 1) p.0.next = elim a.kind [ inl m ↦ is_member m | inr x ↦ x.0 ] in
            subst (Head i) (some_is _ _ q.1) (record { kind = inr (built_bare k callee, q.0, a.stops); tall = heights.height-New (position_at ts i) p.0.tree ∙ ap (λ h. h + 1) a.tall; low = omega (arith, a.low) })
      ]

  head_primary : (i : ℕ) (r : Parsed Expr) → operands.primary ts n expr stmt i ≡ Some r → Head i r
  unfolding Rattle.mdg_read.specs.ReferenceOperands.primary
  head_primary i r e = let a = primary_found (terminal_at ts i) i r refl e in record { kind = inl (is_primary a.spells); tall = a.tall; low = a.low }

  head_found : (k : Terminal) (i : ℕ) (r : Parsed Expr) → terminal_at ts i ≡ k → operands.head_by ts n expr stmt k i ≡ Some r → Head i r
  head_found s.New i r k e = built_found i r k e
  head_found s.Function i r k e = function_found i r k e
  head_found _ i r k e = head_primary i r e

  record FoundDot (i : ℕ) (a r : Parsed Expr) : Type 0 where
    name : is_property_name ts (a.next + 1) ≡ true
    is : record { tree = ex.Member (position_at ts i) a.tree (text_at ts (a.next + 1)); height = a.height + 1; next = a.next + 1 + 1 } ≡ r
    low : r.height ≤ suc n

  dot_found : (i : ℕ) (a r : Parsed Expr) → operands.member ts n expr stmt i a ≡ Some r → FoundDot i a r
  unfolding Rattle.mdg_read.specs.ReferenceOperands.member
  dot_found i a r e = known (is_property_name ts (a.next + 1)) refl e
    where
      known : (x : Bool) → is_property_name ts (a.next + 1) ≡ x → operands.member_by ts n expr stmt x i a ≡ Some r → FoundDot i a r
      known true p e = let q = bounded_is (suc n) _ r e in record { name = p; is = q.1; low = subst (λ z. z.height ≤ suc n) q.1 q.0 }
      known false p e = absurd cc

  record FoundIndex (i : ℕ) (a r : Parsed Expr) : Type 0 where
    key : Expr
    last : ℕ
    spells : Spells ts (production.Expression false) key (a.next + 1) last
    close : terminal_at ts last ≡ s.CloseBracket
    is : record { tree = ex.Index (position_at ts i) a.tree key; height = max a.height (height key) + 1; next = last + 1 } ≡ r
    low : r.height ≤ suc n

  index_found : (i : ℕ) (a r : Parsed Expr) → operands.index ts n expr stmt i a ≡ Some r → FoundIndex i a r
  unfolding Rattle.mdg_read.specs.ReferenceOperands.index
  index_found i a r e =
      let p = bind_ok (expr (production.Expression false) (a.next + 1)) _ r e in
      let k = reads (production.Expression false) (a.next + 1) p.0 tt p.1 in
      let c = expect_then ts s.CloseBracket p.0.next _ r refl p.2 in
      let q = bounded_is (suc n) _ r c.1 in
      record {
        key = p.0.tree;
        last = p.0.next;
        spells = k.spells;
        close = c.0;
        is = ap (λ h. record { tree = ex.Index (position_at ts i) a.tree p.0.tree; height = max a.height h + 1; next = p.0.next + 1 }) k.tall ∙ q.1;
        low = subst (λ z. z.height ≤ suc n) q.1 q.0;
      }

  record FoundCall (i : ℕ) (a r : Parsed Expr) : Type 0 where
    es : List Expr
    last : ℕ
    spells : SpellsArguments ts es a.next last
    is : record { tree = ex.Call (position_at ts i) a.tree es; height = max a.height (highest (map height es)) + 1; next = last } ≡ r
    low : r.height ≤ suc n

  call_found : (i : ℕ) (a r : Parsed Expr) → operands.call ts n expr stmt i a ≡ Some r → FoundCall i a r
  unfolding Rattle.mdg_read.specs.ReferenceOperands.call
  call_found i a r e =
      let p = bind_ok (operands.arguments ts n expr stmt a.next) _ r e in
      let c = arguments a.next p.0 p.1 in
      let q = bounded_is (suc n) _ r p.2 in
      record {
        es = p.0.tree;
        last = p.0.next;
        spells = c.spells;
        is = ap (λ h. record { tree = ex.Call (position_at ts i) a.tree p.0.tree; height = max a.height h + 1; next = p.0.next }) c.tall ∙ q.1;
        low = subst (λ z. z.height ≤ suc n) q.1 q.0;
      }

  link_member : (k : Terminal) (i : ℕ) (a r : Parsed Expr) → terminal_at ts a.next ≡ k → is_member_link k ≡ true → Spells ts production.Member a.tree i a.next → height a.tree ≡ a.height → operands.link_by ts n expr stmt k i a ≡ Some r → Head i r
  link_member s.Dot i a r g l d tall e =
      let c = dot_found i a r e in
      record { kind = inl (subst (λ z. Spells ts production.Member z.tree i z.next) c.is (dotted d g c.name)); tall = subst (λ z. height z.tree ≡ z.height) c.is (heights.height-Member _ _ _ ∙ ap (λ h. h + 1) tall); low = c.low }
  link_member s.OpenBracket i a r g l d tall e =
      let c = index_found i a r e in
      record { kind = inl (subst (λ z. Spells ts production.Member z.tree i z.next) c.is (indexed d g c.spells c.close)); tall = subst (λ z. height z.tree ≡ z.height) c.is (heights.height-Index _ _ _ ∙ ap (λ h. max h (height c.key) + 1) tall); low = c.low }
  link_member _ i a r g l d tall e = absurd cc

  members_found : (w i : ℕ) (a r : Parsed Expr) → Head i a → operands.members_from ts n expr stmt w i a ≡ Some r → FoundOperand ts (suc n) i r
  unfolding Rattle.mdg_read.specs.ReferenceOperands.members_from Rattle.mdg_read.specs.ReferenceOperands.link
  members_found zero i a r h e = absurd cc
  members_found (suc w) i a r h e =
      elim (chosen (is_member_link (terminal_at ts a.next)) _ _ _ e) [
        | inl q ↦
            let p = bind_ok (operands.link_by ts n expr stmt (terminal_at ts a.next) i a) _ r q.1 in
            let d : Spells ts production.Member a.tree i a.next = elim h.kind [ inl m ↦ m | inr x ↦ absurd (true≢false (sym q.0 ∙ x.2)) ] in
            members_found w i p.0 r (link_member (terminal_at ts a.next) i a p.0 refl q.0 d h.tall p.1) p.2
        | inr q ↦
            subst (FoundOperand ts (suc n) i) (some_is _ _ q.1) (record { kind = elim h.kind [ inl m ↦ inl m | inr x ↦ inr (x.0, x.1) ]; stops = q.0; tall = h.tall; low = h.low })
      ]

  operand_found : (i : ℕ) (r : Parsed Expr) → operands.operand ts n expr stmt i ≡ Some r → FoundOperand ts (suc n) i r
  unfolding Rattle.mdg_read.specs.ReferenceOperands.operand
  operand_found i r e =
      let p = bind_ok (operands.head_by ts n expr stmt (terminal_at ts i) i) _ r e in
      members_found (length ts) i p.0 r (head_found (terminal_at ts i) i p.0 refl p.1) p.2

  -- the invariant of a chain
  record Linked (i : ℕ) (r : Parsed Expr) : Type 0 where
    kind : FoundOperand ts (suc n) i r ⊎ Spells ts production.Call r.tree i r.next
    tall : height r.tree ≡ r.height
    low : r.height ≤ suc n

  link_more : (k : Terminal) (i : ℕ) (a r : Parsed Expr) → terminal_at ts a.next ≡ k → Linked i a → operands.link_by ts n expr stmt k i a ≡ Some r → Linked i r
  link_more s.Dot i a r g l e =
      let c = dot_found i a r e in
      let d : Spells ts production.Call a.tree i a.next = elim l.kind [ inl o ↦ absurd (true≢false (sym (ap is_member_link g) ∙ o.stops)) | inr x ↦ x ] in
      record { kind = inr (subst (λ z. Spells ts production.Call z.tree i z.next) c.is (call_dotted d g c.name)); tall = subst (λ z. height z.tree ≡ z.height) c.is (heights.height-Member _ _ _ ∙ ap (λ h. h + 1) l.tall); low = c.low }
  link_more s.OpenBracket i a r g l e =
      let c = index_found i a r e in
      let d : Spells ts production.Call a.tree i a.next = elim l.kind [ inl o ↦ absurd (true≢false (sym (ap is_member_link g) ∙ o.stops)) | inr x ↦ x ] in
      record { kind = inr (subst (λ z. Spells ts production.Call z.tree i z.next) c.is (call_indexed d g c.spells c.close)); tall = subst (λ z. height z.tree ≡ z.height) c.is (heights.height-Index _ _ _ ∙ ap (λ h. max h (height c.key) + 1) l.tall); low = c.low }
  link_more s.OpenParen i a r g l e =
      let c = call_found i a r e in
      let d : Spells ts production.Call (ex.Call (position_at ts i) a.tree c.es) i c.last = elim l.kind [
        | inl o ↦ elim o.kind [ inl m ↦ called m c.spells | inr x ↦ absurd (true≢false (sym (ap (λ k. same k s.OpenParen) g) ∙ x.1)) ]
        | inr x ↦ called_again x c.spells
      ] in
      record { kind = inr (subst (λ z. Spells ts production.Call z.tree i z.next) c.is d); tall = subst (λ z. height z.tree ≡ z.height) c.is (heights.height-Call _ _ _ ∙ ap (λ h. max h (highest (map height c.es)) + 1) l.tall); low = c.low }
  link_more _ i a r g l e = absurd cc

  side_of : (i : ℕ) (r : Parsed Expr) → Linked i r → Spells ts production.LeftHandSide r.tree i r.next
  side_of i r l = elim l.kind [ inl o ↦ elim o.kind [ inl m ↦ is_new (is_member m) | inr x ↦ is_new x.0 ] | inr x ↦ is_call x ]

  links_found : (w i : ℕ) (a r : Parsed Expr) → Linked i a → operands.links_from ts n expr stmt w i a ≡ Some r → FoundExpr ts (suc n) production.LeftHandSide i r
  unfolding Rattle.mdg_read.specs.ReferenceOperands.links_from Rattle.mdg_read.specs.ReferenceOperands.link
  links_found zero i a r l e = absurd cc
  links_found (suc w) i a r l e =
      elim (chosen (is_link (terminal_at ts a.next)) _ _ _ e) [
        | inl q ↦
            let p = bind_ok (operands.link_by ts n expr stmt (terminal_at ts a.next) i a) _ r q.1 in
            links_found w i p.0 r (link_more (terminal_at ts a.next) i a p.0 refl l p.1) p.2
        | inr q ↦ subst (FoundExpr ts (suc n) production.LeftHandSide i) (some_is _ _ q.1) (record { spells = side_of i a l; tall = l.tall; low = l.low; ends = tight_low false _ })
      ]

  side_found : (i : ℕ) (r : Parsed Expr) → operands.left_hand_side ts n expr stmt i ≡ Some r → FoundExpr ts (suc n) production.LeftHandSide i r
  unfolding Rattle.mdg_read.specs.ReferenceOperands.left_hand_side
  side_found i r e =
      let p = bind_ok (operands.operand ts n expr stmt i) _ r e in
      let a = operand_found i p.0 p.1 in
      links_found (length ts) i p.0 r (record { kind = inl a; tall = a.tall; low = a.low }) p.2

  postfix_on : (i : ℕ) (a r : Parsed Expr) → FoundExpr ts (suc n) production.LeftHandSide i a → (o : Option Step) → step_of (terminal_at ts a.next) ≡ o → (l : Bool) → line_before_at ts a.next ≡ l → expressions.postfix_by ts n expr stmt o l i a ≡ Some r
      → FoundExpr ts (suc n) production.Postfix i r
  unfolding Rattle.mdg_read.specs.ReferenceExpressions.stepped
  postfix_on i a r d None is l line e = subst (FoundExpr ts (suc n) production.Postfix i) (some_is _ _ e) (record { spells = is_side d.spells; tall = d.tall; low = d.low; ends = tight_low false _ })
  postfix_on i a r d (Some o) is true line e = subst (FoundExpr ts (suc n) production.Postfix i) (some_is _ _ e) (record { spells = is_side d.spells; tall = d.tall; low = d.low; ends = tight_low false _ })
  postfix_on i a r d (Some o) is false line e =
      let g = guard_of (is_assignment_target a.tree) _ r e in
      let q = bounded_is (suc n) _ r g.1 in
      subst (FoundExpr ts (suc n) production.Postfix i) q.1 (record { spells = stepped d.spells g.0 (step_sign _ o is) line; tall = heights.height-Postfix _ _ _ ∙ ap (λ h. h + 1) d.tall; low = q.0; ends = tight_low false _ })

  postfix_found : (i : ℕ) (r : Parsed Expr) → expressions.postfix ts n expr stmt i ≡ Some r → FoundExpr ts (suc n) production.Postfix i r
  unfolding Rattle.mdg_read.specs.ReferenceExpressions.postfix
  postfix_found i r e =
      let p = bind_ok (operands.left_hand_side ts n expr stmt i) _ r e in
      postfix_on i p.0 r (side_found i p.0 p.1) (step_of (terminal_at ts p.0.next)) refl (line_before_at ts p.0.next) refl p.2

  unary_on : (i : ℕ) (r : Parsed Expr) (o : Option Step) → step_of (terminal_at ts i) ≡ o → (u : Option UnaryOperator) → unary_of (terminal_at ts i) ≡ u → expressions.unary_by ts n expr stmt o u i ≡ Some r → FoundExpr ts (suc n) production.Unary i r
  unfolding Rattle.mdg_read.specs.ReferenceExpressions.prefix Rattle.mdg_read.specs.ReferenceExpressions.unary_value
  unary_on i r (Some o) is u is_u e =
      let p = bind_ok (expr production.LeftHandSide (i + 1)) _ r e in
      let a = reads production.LeftHandSide (i + 1) p.0 tt p.1 in
      let g = guard_ok (is_assignment_target p.0.tree) _ r p.2 in
      subst (FoundExpr ts (suc n) production.Unary i) g.1 (record { spells = with_prefix (step_sign _ o is) a.spells g.0; tall = heights.height-Prefix _ _ _ ∙ ap (λ h. h + 1) a.tall; low = omega (arith, a.low); ends = tight_low false _ })
  unary_on i r None is (Some u) is_u e =
      let p = bind_ok (expr production.Unary (i + 1)) _ r e in
      let a = reads production.Unary (i + 1) p.0 tt p.1 in
      subst (FoundExpr ts (suc n) production.Unary i) (some_is _ _ p.2) (record { spells = with_unary is_u a.spells; tall = heights.height-Unary _ _ _ ∙ ap (λ h. h + 1) a.tall; low = omega (arith, a.low); ends = tight_low false _ })
  unary_on i r None is None is_u e = let a = postfix_found i r e in record { spells = is_postfix a.spells; tall = a.tall; low = a.low; ends = tight_low false _ }

  unary_found : (i : ℕ) (r : Parsed Expr) → expressions.unary ts n expr stmt i ≡ Some r → FoundExpr ts (suc n) production.Unary i r
  unfolding Rattle.mdg_read.specs.ReferenceExpressions.unary
  unary_found i r e = unary_on i r (step_of (terminal_at ts i)) refl (unary_of (terminal_at ts i)) refl e

  -- the invariant of a climb: the precedence of what was read, which no tighter operator follows
  record Climbed (b : Bool) (i : ℕ) (r : Parsed Expr) : Type 0 where
    at : ℕ
    spells : Spells ts (production.Binary b at) r.tree i r.next
    tall : height r.tree ≡ r.height
    low : r.height ≤ suc n
    level : at ≤ tightest
    ends : tight b (terminal_at ts r.next) ≤ at + 4

  lower : (b : Bool) (d k : ℕ) (t : Expr) (i j : ℕ) → k + d ≤ tightest → Spells ts (production.Binary b (k + d)) t i j → Spells ts (production.Binary b k) t i j
  lower b zero k t i j h d = subst (λ m. Spells ts (production.Binary b m) t i j) (let e : k + 0 ≡ k = omega arith in e) d
  lower b (suc m) k t i j h d =
      lower b m k t i j (omega arith) (is_tighter (omega arith) (subst (λ l. Spells ts (production.Binary b l) t i j) (let e : k + suc m ≡ suc (k + m) = omega arith in e) d))

  at_level : (b : Bool) (l k : ℕ) (t : Expr) (i j : ℕ) → k ≤ l → l ≤ tightest → Spells ts (production.Binary b l) t i j → Spells ts (production.Binary b k) t i j
  at_level b l k t i j h g d = lower b (l - k) k t i j (omega arith) (subst (λ m. Spells ts (production.Binary b m) t i j) (let e : l ≡ k + (l - k) = omega arith in e) d)

  operation_found : (b : Bool) (i : ℕ) (o : BinaryOperator) (a r : Parsed Expr) → (c : Climbed b i a) → terminal_at ts a.next ≡ s.Binary o → is_allowed b o ≡ true → precedence o ≤ c.at → expressions.operation ts n expr stmt b i o a ≡ Some r
      → (d : Climbed b i r) × (d.at ≡ precedence o)
  unfolding Rattle.mdg_read.specs.ReferenceExpressions.operation
  operation_found b i o a r c is sb l e =
      let p = bind_ok (expr (production.Binary b (suc (precedence o))) (a.next + 1)) _ r e in
      let y = reads (production.Binary b (suc (precedence o))) (a.next + 1) p.0 (omega (arith, precedence_small o)) p.1 in
      let q = bounded_is (suc n) _ r p.2 in
      subst (λ x. (d : Climbed b i x) × (d.at ≡ precedence o)) q.1 (
        record {
          at = precedence o;
          spells = with_binary (at_level b c.at (precedence o) a.tree i a.next l c.level c.spells) is sb refl y.spells;
          tall = heights.height-Binary _ _ _ _ ∙ ap₂ (λ h k. max h k + 1) c.tall y.tall;
          low = q.0;
          level = omega (arith, c.level);
          ends = omega (arith, y.ends);
        },
        refl,
      )

  climb_on : (b : Bool) (w least i : ℕ) (a r : Parsed Expr) → least ≤ tightest → (c : Climbed b i a) → least ≤ c.at
      → (again : (x : Parsed Expr) (d : Climbed b i x) → least ≤ d.at → expressions.climb_from ts n expr stmt b w least i x ≡ Some r → FoundExpr ts (suc n) (production.Binary b least) i r)
      → (o : Option BinaryOperator) → op_of b (terminal_at ts a.next) ≡ o → expressions.climb_by ts n expr stmt (expressions.climb_from ts n expr stmt b w least i) b least i a o ≡ Some r → FoundExpr ts (suc n) (production.Binary b least) i r
  climb_on b w least i a r lt c le again None is e =
      subst (FoundExpr ts (suc n) (production.Binary b least) i) (some_is _ _ e) (record { spells = at_level b c.at least a.tree i a.next le c.level c.spells; tall = c.tall; low = c.low; ends = no_op_tight b _ least is })
  climb_on b w least i a r lt c le again (Some o) is e =
      let terminal = op_terminal b _ o is in
      let strong : tight b (terminal_at ts a.next) ≡ precedence o + 4 = ap (tight b) terminal.0 ∙ ap (λ x. op_power x o) terminal.1 in
      elim (chosen (nat_le least (precedence o)) _ _ _ e) [
        | inl q ↦
            let p = bind_ok (expressions.operation ts n expr stmt b i o a) _ r q.1 in
            let d = operation_found b i o a p.0 c terminal.0 terminal.1 (omega (arith, c.ends)) p.1 in
            again p.0 d.0 (omega (arith, d.1, leb-true least (precedence o) q.0)) p.2
        | inr q ↦
            subst (FoundExpr ts (suc n) (production.Binary b least) i) (some_is _ _ q.1)
            (record { spells = at_level b c.at least a.tree i a.next le c.level c.spells; tall = c.tall; low = c.low; ends = omega (arith, leb-false least (precedence o) q.0) })
      ]

  climb_from_found : (b : Bool) (w least i : ℕ) (a r : Parsed Expr) → least ≤ tightest → (c : Climbed b i a) → least ≤ c.at → expressions.climb_from ts n expr stmt b w least i a ≡ Some r → FoundExpr ts (suc n) (production.Binary b least) i r
  unfolding Rattle.mdg_read.specs.ReferenceExpressions.climb_from
  climb_from_found b zero least i a r lt c le e = absurd cc
  climb_from_found b (suc w) least i a r lt c le e = climb_on b w least i a r lt c le (λ x d l e. climb_from_found b w least i x r lt d l e) (op_of b (terminal_at ts a.next)) refl e

  climb_found : (b : Bool) (least i : ℕ) (r : Parsed Expr) → least ≤ tightest → expressions.climb ts n expr stmt b least i ≡ Some r → FoundExpr ts (suc n) (production.Binary b least) i r
  unfolding Rattle.mdg_read.specs.ReferenceExpressions.climb
  climb_found b least i r lt e =
      let p = bind_ok (expressions.unary ts n expr stmt i) _ r e in
      let a = unary_found i p.0 p.1 in
      climb_from_found b (length ts) least i p.0 r lt (record { at = tightest; spells = is_unary a.spells; tall = a.tall; low = a.low; level = omega arith; ends = omega (arith, tight_low b (terminal_at ts p.0.next)) }) lt p.2

  conditional_found : (b : Bool) (i : ℕ) (r : Parsed Expr) → expressions.conditional ts n expr stmt b i ≡ Some r → FoundExpr ts (suc n) (production.Conditional b) i r
  unfolding Rattle.mdg_read.specs.ReferenceExpressions.conditional Rattle.mdg_read.specs.ReferenceExpressions.choice
  conditional_found b i r e =
      let p = bind_ok (expressions.climb ts n expr stmt b 0 i) _ r e in
      let a = climb_found b 0 i p.0 (omega arith) p.1 in
      elim (chosen (same (terminal_at ts p.0.next) s.Question) _ _ _ p.2) [
        | inl q ↦
            let u = bind_ok (expr (production.Assignment false) (p.0.next + 1)) _ r q.1 in
            let x = reads (production.Assignment false) (p.0.next + 1) u.0 tt u.1 in
            let c = expect_then ts s.Colon u.0.next _ r refl u.2 in
            let v = bind_ok (expr (production.Assignment b) (u.0.next + 1)) _ r c.1 in
            let y = reads (production.Assignment b) (u.0.next + 1) v.0 tt v.1 in
            let g = bounded_is (suc n) _ r v.2 in
            subst (FoundExpr ts (suc n) (production.Conditional b) i) g.1 (record {
              spells = with_choice a.spells (same_is q.0 refl) x.spells c.0 y.spells;
              tall = heights.height-Conditional _ _ _ _ ∙ (let h : max (height p.0.tree) (max (height u.0.tree) (height v.0.tree)) + 1 ≡ max p.0.height (max u.0.height v.0.height) + 1 = omega (arith, a.tall, x.tall, y.tall) in h);
              low = g.0;
              ends = tight_low false _;
            })
        | inr q ↦ subst (FoundExpr ts (suc n) (production.Conditional b) i) (some_is _ _ q.1) (record { spells = is_level a.spells; tall = a.tall; low = a.low; ends = tight_low false _ })
      ]

  single_on : (b : Bool) (i : ℕ) (a r : Parsed Expr) → FoundExpr ts (suc n) (production.Conditional b) i a → (o : Option AssignOperator) → assign_of (terminal_at ts a.next) ≡ o → expressions.assignment_by ts n expr stmt o b i a ≡ Some r → FoundExpr ts (suc n) (production.Assignment b) i r
  unfolding Rattle.mdg_read.specs.ReferenceExpressions.assigned
  single_on b i a r d None is e = subst (FoundExpr ts (suc n) (production.Assignment b) i) (some_is _ _ e) (record { spells = is_conditional d.spells; tall = d.tall; low = d.low; ends = tight_low false _ })
  single_on b i a r d (Some o) is e =
      let g = guard_of (is_assignment_target a.tree) _ r e in
      let u = bind_ok (expr (production.Assignment b) (a.next + 1)) _ r g.1 in
      let y = reads (production.Assignment b) (a.next + 1) u.0 tt u.1 in
      let v = bounded_is (suc n) _ r u.2 in
      subst (FoundExpr ts (suc n) (production.Assignment b) i) v.1 (record {
        spells = with_assign (left_conditional ts d.spells g.0) g.0 (assign_sign _ o is) y.spells;
        tall = heights.height-Assign _ _ _ _ ∙ ap₂ (λ h k. max h k + 1) d.tall y.tall;
        low = v.0;
        ends = tight_low false _;
      })

  single_found : (b : Bool) (i : ℕ) (r : Parsed Expr) → expressions.assignment ts n expr stmt b i ≡ Some r → FoundExpr ts (suc n) (production.Assignment b) i r
  unfolding Rattle.mdg_read.specs.ReferenceExpressions.assignment
  single_found b i r e =
      let p = bind_ok (expressions.conditional ts n expr stmt b i) _ r e in
      single_on b i p.0 r (conditional_found b i p.0 p.1) (assign_of (terminal_at ts p.0.next)) refl p.2

  whole_found : (b : Bool) (i : ℕ) (r : Parsed Expr) → expressions.comma_expression ts n expr stmt b i ≡ Some r → FoundExpr ts (suc n) (production.Expression b) i r
  unfolding Rattle.mdg_read.specs.ReferenceExpressions.comma_expression Rattle.mdg_read.specs.ReferenceExpressions.commas
  whole_found b i r e =
      let p = bind_ok (expressions.assignment ts n expr stmt b i) _ r e in
      let a = single_found b i p.0 p.1 in
      elim (chosen (same (terminal_at ts p.0.next) s.Comma) _ _ _ p.2) [
        | inl q ↦
            let u = bind_ok (operands.sequence_from ts n expr stmt b (length ts) (p.0.tree ∷ []) p.0.height (p.0.next + 1)) _ r q.1 in
            let c = several b (length ts) (p.0.tree ∷ []) p.0.height (p.0.next + 1) u.0 u.1 in
            let v = bounded_is (suc n) _ r u.2 in
            let total : highest (map height u.0.tree) ≡ u.0.height = subst (λ x. highest (map height x) ≡ u.0.height) c.tree (omega (arith, a.tall, c.tall)) in
            subst (FoundExpr ts (suc n) (production.Expression b) i) v.1 (record {
              spells = subst (λ x. Spells ts (production.Expression b) (ex.Comma (position_at ts i) x) i u.0.next) c.tree (with_commas a.spells (same_is q.0 refl) c.spells);
              tall = heights.height-Comma _ _ ∙ ap (λ h. h + 1) total;
              low = v.0;
              ends = tight_low false _;
            })
        | inr q ↦ subst (FoundExpr ts (suc n) (production.Expression b) i) (some_is _ _ q.1) (record { spells = is_single a.spells; tall = a.tall; low = a.low; ends = tight_low false _ })
      ]

  form_found : (k : Production) (i : ℕ) (r : Parsed Expr) → IsForm k → expressions.any_expression ts n expr stmt k i ≡ Some r → FoundExpr ts (suc n) k i r
  form_found (production.Expression b) i r h e = whole_found b i r e
  form_found (production.Assignment b) i r h e = single_found b i r e
  form_found (production.Conditional b) i r h e = conditional_found b i r e
  form_found (production.Binary b k) i r h e = climb_found b k i r h e
  form_found production.Unary i r h e = unary_found i r e
  form_found production.Postfix i r h e = postfix_found i r e
  form_found production.LeftHandSide i r h e = side_found i r e
  form_found production.Call i r h e = absurd h
  form_found production.New i r h e = absurd h
  form_found production.Member i r h e = absurd h
  form_found production.Primary i r h e = absurd h

  -- an expression in parentheses that was read, and how the reader went on after them
  record FoundTest (i : ℕ) (c : Parsed Expr) : Type 0 where
    open_ : terminal_at ts i ≡ s.OpenParen
    found : FoundExpr ts n (production.Expression false) (i + 1) c
    close : terminal_at ts c.next ≡ s.CloseParen

  test_then : {B : Type 0} (i : ℕ) (f : Parsed Expr → Option B) (y : B) → (statements.condition ts n expr stmt i >>= f) ≡ Some y
      → (c : Parsed Expr) × FoundTest i c × (f (record { tree = c.tree; height = c.height; next = c.next + 1 }) ≡ Some y)
  unfolding Rattle.mdg_read.specs.ReferenceStatements.condition
  test_then i f y e =
      let p = bind_ok (statements.condition ts n expr stmt i) f y e in
      let o = expect_then ts s.OpenParen i _ p.0 refl p.1 in
      let c = bind_ok (expr (production.Expression false) (i + 1)) _ p.0 o.1 in
      let v = expect_then ts s.CloseParen c.0.next _ p.0 refl c.2 in
      (c.0, record { open_ = o.0; found = reads (production.Expression false) (i + 1) c.0 tt c.1; close = v.0 }, subst (λ z. f z ≡ Some y) (sym (some_is _ _ v.1)) p.2)

  declared_found : (i : ℕ) (r : Parsed Stmt) → terminal_at ts i ≡ s.Function → statements.declared_function ts n expr stmt i ≡ Some r → FoundStmt ts (suc n) true i r
  unfolding Rattle.mdg_read.specs.ReferenceStatements.declared_function
  declared_found i r k e =
      let g = guard_of (same (terminal_at ts (i + 1)) s.Name) _ r e in
      let p = bind_ok (operands.named_function ts n expr stmt i) _ r g.1 in
      let c = named_found i p.0 k (same_is g.0 refl) p.1 in
      subst (FoundStmt ts (suc n) true i) (some_is _ _ p.2) (record { spells = declared c.defines; tall = heights.stmt_height-FunctionDeclaration p.0.tree ∙ c.tall; low = c.low })

  block_found : (b : Bool) (i : ℕ) (r : Parsed Stmt) → terminal_at ts i ≡ s.OpenBrace → statements.block ts n expr stmt i ≡ Some r → FoundStmt ts (suc n) b i r
  unfolding Rattle.mdg_read.specs.ReferenceStatements.block
  block_found b i r o e =
      let p = bind_ok (operands.items ts n expr stmt false (i + 1)) _ r e in
      let c = items_found false (i + 1) p.0 p.1 in
      let v = expect_then ts s.CloseBrace p.0.next _ r refl p.2 in
      subst (FoundStmt ts (suc n) b i) (some_is _ _ v.1) (record { spells = block o c.spells v.0; tall = heights.stmt_height-Block _ _ ∙ ap (λ h. h + 1) c.tall; low = omega (arith, c.low) })

  record FoundDeclaring (b : Bool) (i : ℕ) (r : Parsed Declaration) : Type 0 where
    spells : SpellsDeclaration ts b r.tree i r.next
    tall : declaration_height r.tree ≡ r.height
    low : r.height ≤ n

  declaration_found : (b : Bool) (i : ℕ) (r : Parsed Declaration) → statements.declaration ts n expr stmt b i ≡ Some r → FoundDeclaring b i r
  unfolding Rattle.mdg_read.specs.ReferenceStatements.declaration
  declaration_found b i r e =
      let c = expect_then ts s.Name i _ r refl e in
      elim (chosen (is_plain_assign (terminal_at ts (i + 1))) _ _ _ c.1) [
        | inl q ↦
            let p = bind_ok (expr (production.Assignment b) (i + 1 + 1)) _ r q.1 in
            let a = reads (production.Assignment b) (i + 1 + 1) p.0 tt p.1 in
            subst (FoundDeclaring b i) (some_is _ _ p.2) (record {
              spells = valued c.0 (plain_terminal _ q.0) a.spells;
              tall = heights.declaration_height-is (record { at = position_at ts i; name = text_at ts i; value = Some p.0.tree }) ∙ a.tall;
              low = a.low;
            })
        | inr q ↦
            subst (FoundDeclaring b i) (some_is _ _ q.1) (record { spells = bare c.0; tall = heights.declaration_height-is (record { at = position_at ts i; name = text_at ts i; value = None }); low = omega arith })
      ]

  record FoundDeclares (b : Bool) (before : List Declaration) (h i : ℕ) (r : Parsed (List Declaration)) : Type 0 where
    ds : List Declaration
    spells : SpellsDeclarations ts b ds i r.next
    tree : before ++ ds ≡ r.tree
    tall : max h (highest (map declaration_height ds)) ≡ r.height
    low : highest (map declaration_height ds) ≤ n

  declarations_from : (b : Bool) (w : ℕ) (before : List Declaration) (h i : ℕ) (r : Parsed (List Declaration)) → statements.declarations_from ts n expr stmt b w before h i ≡ Some r → FoundDeclares b before h i r
  unfolding Rattle.mdg_read.specs.ReferenceStatements.declarations_from
  declarations_from b zero before h i r e = absurd cc
  declarations_from b (suc w) before h i r e =
      let p = bind_ok (statements.declaration ts n expr stmt b i) _ r e in
      let a = declaration_found b i p.0 p.1 in
      elim (chosen (same (terminal_at ts p.0.next) s.Comma) _ _ _ p.2) [
        | inl q ↦
            let c = declarations_from b w (before ++ p.0.tree ∷ []) (max h p.0.height) (p.0.next + 1) r q.1 in
            record {
              ds = p.0.tree ∷ c.ds;
              spells = next_declared a.spells (same_is q.0 refl) c.spells;
              tree = sym (append_assoc before (p.0.tree ∷ []) c.ds) ∙ c.tree;
              tall = omega (arith, a.tall, c.tall);
              low = omega (arith, a.tall, a.low, c.low);
            }
        | inr q ↦
            subst (FoundDeclares b before h i) (some_is _ _ q.1) (record { ds = p.0.tree ∷ []; spells = last_declared a.spells; tree = refl; tall = omega (arith, a.tall); low = omega (arith, a.tall, a.low) })
      ]

  record FoundList (b : Bool) (i : ℕ) (r : Parsed (List Declaration)) : Type 0 where
    spells : SpellsDeclarations ts b r.tree i r.next
    tall : highest (map declaration_height r.tree) ≡ r.height
    low : r.height ≤ n

  declarations_found : (b : Bool) (i : ℕ) (r : Parsed (List Declaration)) → statements.declarations ts n expr stmt b i ≡ Some r → FoundList b i r
  unfolding Rattle.mdg_read.specs.ReferenceStatements.declarations
  declarations_found b i r e =
      let c = declarations_from b (length ts) [] 0 i r e in
      record {
        spells = subst (λ x. SpellsDeclarations ts b x i r.next) c.tree c.spells;
        tall = subst (λ x. highest (map declaration_height x) ≡ r.height) c.tree (omega (arith, c.tall));
        low = omega (arith, c.tall, c.low);
      }

  var_found : (b : Bool) (i : ℕ) (r : Parsed Stmt) → terminal_at ts i ≡ s.Var → statements.var_statement ts n expr stmt i ≡ Some r → FoundStmt ts (suc n) b i r
  unfolding Rattle.mdg_read.specs.ReferenceStatements.var_statement
  var_found b i r k e =
      let p = bind_ok (statements.declarations ts n expr stmt false (i + 1)) _ r e in
      let a = declarations_found false (i + 1) p.0 p.1 in
      let q = bind_ok (combinators.insert_semicolon ts (var_terminator p.0.tree) p.0.next) _ r p.2 in
      subst (FoundStmt ts (suc n) b i) (some_is _ _ q.2) (record {
        spells = var k a.spells (semicolon_found ts (var_terminator p.0.tree) p.0.next q.0 q.1);
        tall = heights.stmt_height-Var _ _ ∙ ap (λ h. h + 1) a.tall;
        low = omega (arith, a.low);
      })

  expression_found : (b : Bool) (i : ℕ) (r : Parsed Stmt) → terminal_at ts i ≢ s.OpenBrace → terminal_at ts i ≢ s.Function → statements.expression ts n expr stmt i ≡ Some r → FoundStmt ts (suc n) b i r
  unfolding Rattle.mdg_read.specs.ReferenceStatements.expression
  expression_found b i r x y e =
      let p = bind_ok (expr (production.Expression false) i) _ r e in
      let a = reads (production.Expression false) i p.0 tt p.1 in
      let q = bind_ok (combinators.insert_semicolon ts terminator.Plain p.0.next) _ r p.2 in
      subst (FoundStmt ts (suc n) b i) (some_is _ _ q.2) (record { spells = expression x y a.spells (semicolon_found ts terminator.Plain p.0.next q.0 q.1); tall = heights.stmt_height-Expression _ _ ∙ ap (λ h. h + 1) a.tall; low = omega (arith, a.low) })

  if_found : (b : Bool) (i : ℕ) (r : Parsed Stmt) → terminal_at ts i ≡ s.If → statements.if_statement ts n expr stmt i ≡ Some r → FoundStmt ts (suc n) b i r
  unfolding Rattle.mdg_read.specs.ReferenceStatements.if_statement Rattle.mdg_read.specs.ReferenceStatements.otherwise
  if_found b i r k e =
      let c = test_then (i + 1) _ r e in
      let w = bind_ok (stmt false (c.0.next + 1)) _ r c.2 in
      let a = reads_stmt false (c.0.next + 1) w.0 w.1 in
      elim (chosen (same (terminal_at ts w.0.next) s.Else) _ _ _ w.2) [
        | inl q ↦
            let x = bind_ok (stmt false (w.0.next + 1)) _ r q.1 in
            let d = reads_stmt false (w.0.next + 1) x.0 x.1 in
            subst (FoundStmt ts (suc n) b i) (some_is _ _ x.2) (record {
              spells = if_else k c.1.open_ c.1.found.spells c.1.close a.spells (same_is q.0 refl) d.spells;
              tall = heights.stmt_height-IfElse _ _ _ _ ∙ (let h : max (height c.0.tree) (max (stmt_height w.0.tree) (stmt_height x.0.tree)) + 1 ≡ max c.0.height (max w.0.height x.0.height) + 1 = omega (arith, c.1.found.tall, a.tall, d.tall) in h);
              low = omega (arith, c.1.found.low, a.low, d.low);
            })
        | inr q ↦
            subst (FoundStmt ts (suc n) b i) (some_is _ _ q.1) (record {
              spells = if_alone k c.1.open_ c.1.found.spells c.1.close a.spells (λ is. true≢false (sym (ap (λ z. same z s.Else) is) ∙ q.0));
              tall = heights.stmt_height-If _ _ _ ∙ ap₂ (λ g h. max g h + 1) c.1.found.tall a.tall;
              low = omega (arith, c.1.found.low, a.low);
            })
      ]

  do_found : (b : Bool) (i : ℕ) (r : Parsed Stmt) → terminal_at ts i ≡ s.Do → statements.do_while ts n expr stmt i ≡ Some r → FoundStmt ts (suc n) b i r
  unfolding Rattle.mdg_read.specs.ReferenceStatements.do_while
  do_found b i r k e =
      let w = bind_ok (stmt false (i + 1)) _ r e in
      let a = reads_stmt false (i + 1) w.0 w.1 in
      let v = expect_then ts s.While w.0.next _ r refl w.2 in
      let c = test_then (w.0.next + 1) _ r v.1 in
      let q = bind_ok (combinators.insert_semicolon ts terminator.Loop (c.0.next + 1)) _ r c.2 in
      subst (FoundStmt ts (suc n) b i) (some_is _ _ q.2) (record {
        spells = do_while k a.spells v.0 c.1.open_ c.1.found.spells c.1.close (semicolon_found ts terminator.Loop (c.0.next + 1) q.0 q.1);
        tall = heights.stmt_height-DoWhile _ _ _ ∙ ap₂ (λ g h. max g h + 1) a.tall c.1.found.tall;
        low = omega (arith, c.1.found.low, a.low);
      })

  while_found : (b : Bool) (i : ℕ) (r : Parsed Stmt) → terminal_at ts i ≡ s.While → statements.while_statement ts n expr stmt i ≡ Some r → FoundStmt ts (suc n) b i r
  unfolding Rattle.mdg_read.specs.ReferenceStatements.while_statement
  while_found b i r k e =
      let c = test_then (i + 1) _ r e in
      let w = bind_ok (stmt false (c.0.next + 1)) _ r c.2 in
      let a = reads_stmt false (c.0.next + 1) w.0 w.1 in
      subst (FoundStmt ts (suc n) b i) (some_is _ _ w.2) (record {
        spells = while k c.1.open_ c.1.found.spells c.1.close a.spells;
        tall = heights.stmt_height-While _ _ _ ∙ ap₂ (λ g h. max g h + 1) c.1.found.tall a.tall;
        low = omega (arith, c.1.found.low, a.low);
      })

  record FoundMaybe (k : Terminal) (i : ℕ) (r : Parsed (Option Expr)) : Type 0 where
    spells : SpellsOptional ts k r.tree i r.next
    tall : optional (option_map height r.tree) ≡ r.height
    low : r.height ≤ n

  optional_found : (k : Terminal) → is_operator k ≡ false → (i : ℕ) (r : Parsed (Option Expr)) → statements.optional_expression ts n expr stmt k i ≡ Some r → FoundMaybe k i r
  unfolding Rattle.mdg_read.specs.ReferenceStatements.optional_expression
  optional_found k plain i r e =
      elim (chosen (same (terminal_at ts i) k) _ _ _ e) [
        | inl q ↦ subst (FoundMaybe k i) (some_is _ _ q.1) (record { spells = absent (same_is q.0 plain); tall = refl; low = omega arith })
        | inr q ↦
            let p = bind_ok (expr (production.Expression false) i) _ r q.1 in
            let a = reads (production.Expression false) i p.0 tt p.1 in
            subst (FoundMaybe k i) (some_is _ _ p.2) (record { spells = given a.spells; tall = a.tall; low = a.low })
      ]

  for_rest_found : (b : Bool) (i : ℕ) (a : Parsed Init) (r : Parsed Stmt) → terminal_at ts i ≡ s.For → terminal_at ts (i + 1) ≡ s.OpenParen → SpellsInit ts a.tree (i + 1 + 1) a.next → init_height a.tree ≡ a.height
      → statements.for_rest ts n expr stmt i a ≡ Some r → FoundStmt ts (suc n) b i r
  unfolding Rattle.mdg_read.specs.ReferenceStatements.for_rest
  for_rest_found b i a r k o d tall e =
      let p = expect_then ts s.Semicolon a.next _ r refl e in
      let q = bind_ok (statements.optional_expression ts n expr stmt s.Semicolon (a.next + 1)) _ r p.1 in
      let c = optional_found s.Semicolon refl (a.next + 1) q.0 q.1 in
      let p' = expect_then ts s.Semicolon q.0.next _ r refl q.2 in
      let q' = bind_ok (statements.optional_expression ts n expr stmt s.CloseParen (q.0.next + 1)) _ r p'.1 in
      let u = optional_found s.CloseParen refl (q.0.next + 1) q'.0 q'.1 in
      let p'' = expect_then ts s.CloseParen q'.0.next _ r refl q'.2 in
      let w = bind_ok (stmt false (q'.0.next + 1)) _ r p''.1 in
      let x = reads_stmt false (q'.0.next + 1) w.0 w.1 in
      let v = bounded_is (suc n) _ r w.2 in
      let total : max (max (init_height a.tree) (max (optional (option_map height q.0.tree)) (optional (option_map height q'.0.tree)))) (stmt_height w.0.tree) + 1 ≡ max (max a.height (max q.0.height q'.0.height)) w.0.height + 1
      = omega (arith, tall, c.tall, u.tall, x.tall) in
      subst (FoundStmt ts (suc n) b i) v.1 (record { spells = for k o d p.0 c.spells p'.0 u.spells p''.0 x.spells; tall = heights.stmt_height-For _ _ _ _ _ ∙ total; low = v.0 })

  for_in_rest_found : (b : Bool) (i : ℕ) (g : Parsed Goal) (r : Parsed Stmt) → terminal_at ts i ≡ s.For → terminal_at ts (i + 1) ≡ s.OpenParen → SpellsGoal ts g.tree (i + 1 + 1) g.next → terminal_at ts g.next ≡ s.Binary binary.In → goal_height g.tree ≡ g.height → g.height ≤ n
      → statements.for_in_rest ts n expr stmt i g ≡ Some r → FoundStmt ts (suc n) b i r
  unfolding Rattle.mdg_read.specs.ReferenceStatements.for_in_rest
  for_in_rest_found b i g r k o d z tall low e =
      let p = bind_ok (expr (production.Expression false) (g.next + 1)) _ r e in
      let a = reads (production.Expression false) (g.next + 1) p.0 tt p.1 in
      let c = expect_then ts s.CloseParen p.0.next _ r refl p.2 in
      let w = bind_ok (stmt false (p.0.next + 1)) _ r c.1 in
      let x = reads_stmt false (p.0.next + 1) w.0 w.1 in
      subst (FoundStmt ts (suc n) b i) (some_is _ _ w.2) (record {
        spells = for_in k o d z a.spells c.0 x.spells;
        tall = heights.stmt_height-ForIn _ _ _ _ ∙ (let h : max (goal_height g.tree) (max (height p.0.tree) (stmt_height w.0.tree)) + 1 ≡ max g.height (max p.0.height w.0.height) + 1 = omega (arith, tall, a.tall, x.tall) in h);
        low = omega (arith, low, a.low, x.low);
      })

  for_var_found : (b : Bool) (i : ℕ) (r : Parsed Stmt) → terminal_at ts i ≡ s.For → terminal_at ts (i + 1) ≡ s.OpenParen → terminal_at ts (i + 1 + 1) ≡ s.Var → statements.for_var ts n expr stmt i (i + 1 + 1) ≡ Some r → FoundStmt ts (suc n) b i r
  unfolding Rattle.mdg_read.specs.ReferenceStatements.for_var
  for_var_found b i r k o v e =
      elim (chosen (same (terminal_at ts (i + 1 + 1 + 1)) s.Name && is_in (terminal_at ts (i + 1 + 1 + 1 + 1))) _ _ _ e) [
        | inl q ↦
            let t = both_true _ _ q.0 in
            for_in_rest_found b i _ r k o (var_goal v (same_is t.0 refl)) (in_terminal _ t.1) (heights.goal_height-Variable _ _ _) (omega arith) q.1
        | inr q ↦
            let p = bind_ok (statements.declarations ts n expr stmt true (i + 1 + 1 + 1)) _ r q.1 in
            let a = declarations_found true (i + 1 + 1 + 1) p.0 p.1 in
            for_rest_found b i _ r k o (var_start v a.spells) (heights.init_height-Declarations _ _ ∙ ap (λ h. h + 1) a.tall) p.2
      ]

  for_expression_found : (b : Bool) (i : ℕ) (r : Parsed Stmt) → terminal_at ts i ≡ s.For → terminal_at ts (i + 1) ≡ s.OpenParen → statements.for_expression ts n expr stmt i (i + 1 + 1) ≡ Some r → FoundStmt ts (suc n) b i r
  unfolding Rattle.mdg_read.specs.ReferenceStatements.for_expression Rattle.mdg_read.specs.ReferenceStatements.for_left
  for_expression_found b i r k o e =
      let p = bind_ok (expr (production.Expression true) (i + 1 + 1)) _ r e in
      let a = reads (production.Expression true) (i + 1 + 1) p.0 tt p.1 in
      elim (chosen (is_in (terminal_at ts p.0.next)) _ _ _ p.2) [
        | inl q ↦
            let g = guard_of (is_assignment_target p.0.tree) _ r q.1 in
            for_in_rest_found b i _ r k o (left_goal (left_whole ts a.spells g.0) g.0) (in_terminal _ q.0) (heights.goal_height-Target _ ∙ a.tall) a.low g.1
        | inr q ↦ for_rest_found b i _ r k o (expression_start a.spells) (heights.init_height-Initial _ ∙ a.tall) q.1
      ]

  for_by_found : (z : Terminal) (b : Bool) (i : ℕ) (r : Parsed Stmt) → terminal_at ts i ≡ s.For → terminal_at ts (i + 1) ≡ s.OpenParen → terminal_at ts (i + 1 + 1) ≡ z → statements.for_by ts n expr stmt z i (i + 1 + 1) ≡ Some r → FoundStmt ts (suc n) b i r
  for_by_found s.Semicolon b i r k o v e = for_rest_found b i _ r k o (no_start v) heights.init_height-Absent e
  for_by_found s.Var b i r k o v e = for_var_found b i r k o v e
  for_by_found _ b i r k o v e = for_expression_found b i r k o e

  for_found : (b : Bool) (i : ℕ) (r : Parsed Stmt) → terminal_at ts i ≡ s.For → statements.for_statement ts n expr stmt i ≡ Some r → FoundStmt ts (suc n) b i r
  unfolding Rattle.mdg_read.specs.ReferenceStatements.for_statement
  for_found b i r k e =
      let o = expect_then ts s.OpenParen (i + 1) _ r refl e in
      for_by_found (terminal_at ts (i + 1 + 1)) b i r k o.0 refl o.1

  continue_found : (b : Bool) (i : ℕ) (r : Parsed Stmt) → terminal_at ts i ≡ s.Continue → statements.continue_statement ts n expr stmt i ≡ Some r → FoundStmt ts (suc n) b i r
  unfolding Rattle.mdg_read.specs.ReferenceStatements.continue_statement
  continue_found b i r k e =
      let q = bind_ok (combinators.insert_semicolon ts terminator.Jump (i + 1)) _ r e in
      subst (FoundStmt ts (suc n) b i) (some_is _ _ q.2) (record { spells = continue k (semicolon_found ts terminator.Jump (i + 1) q.0 q.1); tall = heights.stmt_height-Continue _; low = omega arith })

  break_found : (b : Bool) (i : ℕ) (r : Parsed Stmt) → terminal_at ts i ≡ s.Break → statements.break_statement ts n expr stmt i ≡ Some r → FoundStmt ts (suc n) b i r
  unfolding Rattle.mdg_read.specs.ReferenceStatements.break_statement
  break_found b i r k e =
      let q = bind_ok (combinators.insert_semicolon ts terminator.Jump (i + 1)) _ r e in
      subst (FoundStmt ts (suc n) b i) (some_is _ _ q.2) (record { spells = break k (semicolon_found ts terminator.Jump (i + 1) q.0 q.1); tall = heights.stmt_height-Break _; low = omega arith })

  no_line : (l x : Bool) → (l || x) ≡ false → l ≡ false
  no_line true x e = cc
  no_line false x e = refl

  return_found : (b : Bool) (i : ℕ) (r : Parsed Stmt) → terminal_at ts i ≡ s.Return → statements.return_statement ts n expr stmt i ≡ Some r → FoundStmt ts (suc n) b i r
  unfolding Rattle.mdg_read.specs.ReferenceStatements.return_statement Rattle.mdg_read.specs.ReferenceStatements.return_alone Rattle.mdg_read.specs.ReferenceStatements.return_value
  return_found b i r k e =
      elim (chosen (is_alone (line_before_at ts (i + 1)) (terminal_at ts (i + 1))) _ _ _ e) [
        | inl t ↦
            let q = bind_ok (combinators.insert_semicolon ts terminator.Jump (i + 1)) _ r t.1 in
            subst (FoundStmt ts (suc n) b i) (some_is _ _ q.2) (record { spells = return k (semicolon_found ts terminator.Jump (i + 1) q.0 q.1); tall = heights.stmt_height-Return _; low = omega arith })
        | inr t ↦
            let p = bind_ok (expr (production.Expression false) (i + 1)) _ r t.1 in
            let a = reads (production.Expression false) (i + 1) p.0 tt p.1 in
            let q = bind_ok (combinators.insert_semicolon ts terminator.Plain p.0.next) _ r p.2 in
            let line : line_before_at ts (i + 1) ≡ false = no_line _ _ (no_line _ _ t.0) in
            subst (FoundStmt ts (suc n) b i) (some_is _ _ q.2) (record { spells = return_value k line a.spells (semicolon_found ts terminator.Plain p.0.next q.0 q.1); tall = heights.stmt_height-ReturnValue _ _ ∙ ap (λ h. h + 1) a.tall; low = omega (arith, a.low) })
      ]

  throw_found : (b : Bool) (i : ℕ) (r : Parsed Stmt) → terminal_at ts i ≡ s.Throw → statements.throw_statement ts n expr stmt i ≡ Some r → FoundStmt ts (suc n) b i r
  unfolding Rattle.mdg_read.specs.ReferenceStatements.throw_statement Rattle.mdg_read.specs.ReferenceStatements.throw_value
  throw_found b i r k e =
      elim (chosen (line_before_at ts (i + 1)) _ _ _ e) [
        | inl t ↦ absurd (none_some r t.1)
        | inr t ↦
            let p = bind_ok (expr (production.Expression false) (i + 1)) _ r t.1 in
            let a = reads (production.Expression false) (i + 1) p.0 tt p.1 in
            let q = bind_ok (combinators.insert_semicolon ts terminator.Plain p.0.next) _ r p.2 in
            subst (FoundStmt ts (suc n) b i) (some_is _ _ q.2) (record { spells = throw k t.0 a.spells (semicolon_found ts terminator.Plain p.0.next q.0 q.1); tall = heights.stmt_height-Throw _ _ ∙ ap (λ h. h + 1) a.tall; low = omega (arith, a.low) })
      ]
    where
      none_some : (x : Parsed Stmt) → None ≡ Some x → ⊥
      none_some x e = cc

  empty_found : (b : Bool) (i : ℕ) (r : Parsed Stmt) → terminal_at ts i ≡ s.Semicolon → statements.empty ts n expr stmt i ≡ Some r → FoundStmt ts (suc n) b i r
  unfolding Rattle.mdg_read.specs.ReferenceStatements.empty
  empty_found b i r k e = subst (FoundStmt ts (suc n) b i) (some_is _ _ e) (record { spells = empty k; tall = heights.stmt_height-Empty _; low = omega arith })

  function_by_found : (b : Bool) (i : ℕ) (r : Parsed Stmt) → terminal_at ts i ≡ s.Function → statements.function_by ts n expr stmt b i ≡ Some r → FoundStmt ts (suc n) b i r
  function_by_found true i r k e = declared_found i r k e
  function_by_found false i r k e = absurd cc

  statement_by_found : (z : Terminal) (b : Bool) (i : ℕ) (r : Parsed Stmt) → terminal_at ts i ≡ z → statements.statement_by ts n expr stmt b z i ≡ Some r → FoundStmt ts (suc n) b i r
  statement_by_found s.Function b i r k e = function_by_found b i r k e
  statement_by_found s.OpenBrace b i r k e = block_found b i r k e
  statement_by_found s.Var b i r k e = var_found b i r k e
  statement_by_found s.Semicolon b i r k e = empty_found b i r k e
  statement_by_found s.If b i r k e = if_found b i r k e
  statement_by_found s.Do b i r k e = do_found b i r k e
  statement_by_found s.While b i r k e = while_found b i r k e
  statement_by_found s.For b i r k e = for_found b i r k e
  statement_by_found s.Continue b i r k e = continue_found b i r k e
  statement_by_found s.Break b i r k e = break_found b i r k e
  statement_by_found s.Return b i r k e = return_found b i r k e
  statement_by_found s.Throw b i r k e = throw_found b i r k e
  statement_by_found _ b i r k e = expression_found b i r (λ h. cc) (λ h. cc) e

module _ (ts : Tokens) where
  mutual
    unfolding Rattle.mdg_read.specs.Reference.expr_at Rattle.mdg_read.specs.ReferenceStatements.statement

    pub sound : (n : ℕ) (k : Production) (i : ℕ) (r : Parsed Expr) → IsForm k → reference.expr_at ts n k i ≡ Some r → FoundExpr ts n k i r
    sound zero k i r h e = absurd cc
    sound (suc n) k i r h e = form_found ts n (reference.expr_at ts n) (reference.stmt_at ts n) (sound n) (operand_sound n) (stmt_sound n) k i r h e

    pub operand_sound : (n i : ℕ) (r : Parsed Expr) → reference.expr_at ts n production.Member i ≡ Some r → FoundOperand ts n i r
    operand_sound zero i r e = absurd cc
    operand_sound (suc n) i r e = operand_found ts n (reference.expr_at ts n) (reference.stmt_at ts n) (sound n) (operand_sound n) (stmt_sound n) i r e

    pub stmt_sound : (n : ℕ) (b : Bool) (i : ℕ) (r : Parsed Stmt) → reference.stmt_at ts n b i ≡ Some r → FoundStmt ts n b i r
    stmt_sound zero b i r e = absurd cc
    stmt_sound (suc n) b i r e = statement_by_found ts n (reference.expr_at ts n) (reference.stmt_at ts n) (sound n) (operand_sound n) (stmt_sound n) (terminal_at ts i) b i r refl e
