-- Trees that are spelled have ascending offsets, where those of the tokens ascend.
use Rattle.std.proofs.Common.{◌≡◌, ℕ, zero, suc, ◌+◌, ◌<◌, ◌≤◌, Bool, true, false, ◌&&◌, List, [], ◌∷◌, length, refl, sym, ap, ◌∙◌, subst, arith, eq-eqb}
use Rattle.std.specs.Prelude.{map, Option, Some, None, option_map, slice_get, nat_le, nat_lt, nat_eq}
use Rattle.std.proofs.lemmas.Bool.{le-leb, lt-ltb}
use native.Mathlib.Decide.{dec_lt}
use Rattle.mdg_text.specs.declared.token.Token.{Token}
use Rattle.mdg_text.specs.TokenOrder.{StandFrom}
use Rattle.mdg_tree.specs.declared.tree.Expr.{Expr}
use Rattle.mdg_tree.specs.declared.tree.Stmt.{Stmt}
use Rattle.mdg_tree.specs.declared.tree.Init.{Init}
use Rattle.mdg_tree.specs.declared.tree.Goal.{Goal}
use Rattle.mdg_tree.specs.declared.tree.Property.{Property}
use Rattle.mdg_tree.specs.declared.tree.Function.{Function}
use Rattle.mdg_tree.specs.declared.tree.Declaration.{Declaration}
use Rattle.mdg_tree.specs.declared.tree.FileTree.{FileTree}
use Rattle.mdg_tree.specs.Offsets.{Extent, point, in_turn, in_turn_all, in_turn_maybe, around, around_all, aligned, extent, goal_extent, init_extent, stmt_extent, declaration_extent, function_extent, property_extent, file_extent, HasAscendingOffsets}
use Rattle.mdg_tree.proofs.OffsetEquations as is
use Rattle.mdg_read.specs.declared.terminal.Terminal.{Terminal}
use Rattle.mdg_read.specs.declared.production.Production.{Production}
use Rattle.mdg_read.specs.Tokens.{Tokens, position_at, offset_at}
use Rattle.mdg_read.specs.Files.{IsFile, Begins, directive, is_directive}
use Rattle.mdg_read.specs.Grammar.{Spells, SpellsSequence, SpellsArguments, SpellsElements, SpellsProperties, SpellsFunction, SpellsDeclarations, SpellsDeclaration, SpellsOptional, SpellsInit, SpellsGoal, SpellsStatement, SpellsItems, SpellsNames, SpellsParameters}
use Rattle.mdg_read.specs.Grammar.{last_name, next_name, no_names, some_names, a_name, a_null, a_true, a_false, a_numeral, a_text, in_parens, an_array, an_object, is_primary, a_function, a_named_function, indexed, dotted, built, is_member, built_bare, called, called_again, call_indexed, call_dotted, is_new, is_call, is_side, stepped, is_postfix, with_unary, with_prefix, is_unary, is_tighter, with_binary, is_level, with_choice, is_conditional, with_assign, is_single, with_commas, last_of, next_of, no_arguments, some_arguments, no_element, last_element, next_element, no_property, last_property, next_property, nameless, named, last_declared, next_declared, bare, valued, absent, given, no_start, var_start, expression_start, var_goal, left_goal, declared, block, var, empty, expression, if_alone, if_else, do_while, while, for, for_in, continue, break, return, return_value, throw, done, item}
use Rattle.mdg_read.specs.Semicolon.{SpellsSemicolon}
use Rattle.mdg_read.proofs.Progress.{moves, sequence_moves, arguments_moves, function_moves, declarations_moves, declaration_moves, optional_moves, init_moves, goal_moves, statement_moves, items_moves, parameters_moves, semicolon_moves, within}

-- each token begins after those before it
abbrev pub Ascend : Tokens → Type 0
Ascend ts = (i j : ℕ) → i < j → j < length ts → offset_at ts i < offset_at ts j

module _ (ts : Tokens) (order : Ascend ts) where
  -- an extent that begins at the token at i, and whose last place is that of a token before j
  record Spans (i j : ℕ) (x : Extent) : Type 0 where
    final : ℕ
    first : x.first ≡ offset_at ts i
    last : x.last ≡ offset_at ts final
    inside : final < j
    ascends : x.ascends ≡ true

  one : (i j : ℕ) → i < j → Spans i j (point (offset_at ts i))
  one i j lt = record { final = i; first = refl; last = refl; inside = lt; ascends = refl }

  by_is : {i j : ℕ} {x y : Extent} → x ≡ y → Spans i j y → Spans i j x
  by_is {i = i} {j = j} e s = subst (Spans i j) (sym e) s

  wider : {i j k : ℕ} {x : Extent} → Spans i j x → j ≤ k → Spans i k x
  wider s le = record { final = s.final; first = s.first; last = s.last; inside = omega (arith, s.inside); ascends = s.ascends }

  turn : {i m k j : ℕ} {a b : Extent} → Spans i m a → Spans k j b → m ≤ k → k < length ts → Spans i j (in_turn a b)
  turn {k = k} {a = a} {b = b} s u le lt =
      let before : offset_at ts s.final < offset_at ts k = order s.final k (omega (arith, s.inside)) lt in
      let below : nat_lt a.last b.first ≡ true = lt-ltb a.last b.first (omega (arith, before, s.last, u.first)) in
      record { final = u.final; first = s.first; last = u.last; inside = u.inside; ascends = rw (s.ascends, below, u.ascends) refl }

  around_is : {i k j : ℕ} {a : Extent} → Spans k j a → i ≤ k → k < length ts → Spans i j (around (offset_at ts i) a)
  around_is {i = i} {k = k} {a = a} s le lt =
      let below : offset_at ts i ≤ a.first = elim (dec_lt i k) [
        | yes less ↦ omega (arith, order i k less lt, s.first)
        | no more ↦ (let e : i ≡ k = omega (arith, more) in omega (arith, ap (λ z. offset_at ts z) e, s.first))
      ] in
      record { final = s.final; first = refl; last = s.last; inside = s.inside; ascends = rw (le-leb (offset_at ts i) a.first below, s.ascends) refl }

  around_same : {i j : ℕ} {a : Extent} → Spans i j a → Spans i j (around (offset_at ts i) a)
  around_same {i = i} {a = a} s = record { final = s.final; first = refl; last = s.last; inside = s.inside; ascends = rw (le-leb (offset_at ts i) a.first (omega (arith, s.first)), s.ascends) refl }

  aligned_is : {i j : ℕ} {a : Extent} (xs : List (List ℕ)) (os : List ℕ) → length xs ≡ length os → Spans i j a → Spans i j (aligned xs os a)
  aligned_is xs os e s = record { final = s.final; first = s.first; last = s.last; inside = s.inside; ascends = rw (eq-eqb (length xs) (length os) e, s.ascends) refl }

  names_length : {xs : List (List ℕ)} {os : List ℕ} {i j : ℕ} → SpellsNames ts xs os i j → length xs ≡ length os
  names_length (last_name e) = refl
  names_length (next_name e c q) = let r = names_length q in omega arith

  parameters_length : {xs : List (List ℕ)} {os : List ℕ} {i j : ℕ} → SpellsParameters ts xs os i j → length xs ≡ length os
  parameters_length (no_names o c) = refl
  parameters_length (some_names o q c) = names_length q

  names_spans : {xs : List (List ℕ)} {os : List ℕ} {i m k j : ℕ} {a : Extent} → Spans i m a → m ≤ k → SpellsNames ts xs os k j → Spans i j (in_turn_all a (map point os))
  names_spans s le (last_name {i = k} e) = turn s (one k (k + 1) (omega arith)) le (within ts _ _ e (λ p. cc))
  names_spans s le (next_name {i = k} e c q) = names_spans (turn s (one k (k + 1) (omega arith)) le (within ts _ _ e (λ p. cc))) (omega arith) q

  parameters_spans : {xs : List (List ℕ)} {os : List ℕ} {i m k j : ℕ} {a : Extent} → Spans i m a → m ≤ k → SpellsParameters ts xs os k j → Spans i j (in_turn_all a (map point os))
  parameters_spans s le (no_names o c) = wider s (omega arith)
  parameters_spans s le (some_names o q c) = wider (names_spans s (omega arith) q) (omega arith)

  mutual
    spans : {p : Production} {t : Expr} {i j : ℕ} → Spells ts p t i j → Spans i j (extent t)
    spans (a_name {i} e) = by_is (is.extent-Name _ _) (one i (i + 1) (omega arith))
    spans (a_null {i} e) = by_is (is.extent-Null _) (one i (i + 1) (omega arith))
    spans (a_true {i} e) = by_is (is.extent-True _) (one i (i + 1) (omega arith))
    spans (a_false {i} e) = by_is (is.extent-False _) (one i (i + 1) (omega arith))
    spans (a_numeral {i} e) = by_is (is.extent-Numeral _ _) (one i (i + 1) (omega arith))
    spans (a_text {i} e) = by_is (is.extent-Text _ _) (one i (i + 1) (omega arith))
    spans (in_parens {i} e d c) = let r = moves ts d in by_is (is.extent-Paren _ _) (wider (turn (one i (i + 1) (omega arith)) (spans d) (omega arith) (omega arith)) (omega arith))
    spans (an_array {i} e q) = by_is (is.extent-Array _ _) (elements_spans (one i (i + 1) (omega arith)) (omega arith) q)
    spans (an_object {i} e q) = by_is (is.extent-Object _ _) (properties_spans (one i (i + 1) (omega arith)) (omega arith) q)
    spans (is_primary d) = spans d
    spans (a_function x) = by_is (is.extent-FunctionExpression _) (function_spans x)
    spans (a_named_function x) = by_is (is.extent-FunctionExpression _) (function_spans x)
    spans (indexed d o k c) = let r = moves ts k in by_is (is.extent-Index _ _ _) (wider (turn (around_same (spans d)) (spans k) (omega arith) (omega arith)) (omega arith))
    spans (dotted d e c) = by_is (is.extent-Member _ _ _) (wider (around_same (spans d)) (omega arith))
    spans (built {i} e d a) = let r = moves ts d in by_is (is.extent-NewWithArguments _ _ _) (arguments_spans (turn (one i (i + 1) (omega arith)) (spans d) (omega arith) (omega arith)) (omega arith) a)
    spans (is_member d) = spans d
    spans (built_bare {i} e d) = let r = moves ts d in by_is (is.extent-New _ _) (turn (one i (i + 1) (omega arith)) (spans d) (omega arith) (omega arith))
    spans (called d a) = by_is (is.extent-Call _ _ _) (arguments_spans (around_same (spans d)) (omega arith) a)
    spans (called_again d a) = by_is (is.extent-Call _ _ _) (arguments_spans (around_same (spans d)) (omega arith) a)
    spans (call_indexed d o k c) = let r = moves ts k in by_is (is.extent-Index _ _ _) (wider (turn (around_same (spans d)) (spans k) (omega arith) (omega arith)) (omega arith))
    spans (call_dotted d e c) = by_is (is.extent-Member _ _ _) (wider (around_same (spans d)) (omega arith))
    spans (is_new d) = spans d
    spans (is_call d) = spans d
    spans (is_side d) = spans d
    spans (stepped d l e n) = by_is (is.extent-Postfix _ _ _) (wider (around_same (spans d)) (omega arith))
    spans (is_postfix d) = spans d
    spans (with_unary {i} e d) = let r = moves ts d in by_is (is.extent-Unary _ _ _) (turn (one i (i + 1) (omega arith)) (spans d) (omega arith) (omega arith))
    spans (with_prefix {i} e d l) = let r = moves ts d in by_is (is.extent-Prefix _ _ _) (turn (one i (i + 1) (omega arith)) (spans d) (omega arith) (omega arith))
    spans (is_unary d) = spans d
    spans (is_tighter h d) = spans d
    spans (with_binary d e h l y) = let r = moves ts y in by_is (is.extent-Binary _ _ _ _) (around_same (turn (spans d) (spans y) (omega arith) (omega arith)))
    spans (is_level d) = spans d
    spans (with_choice d e x g y) =
        let r = moves ts x in
        let q = moves ts y in
        by_is (is.extent-Conditional _ _ _ _) (around_same (turn (turn (spans d) (spans x) (omega arith) (omega arith)) (spans y) (omega arith) (omega arith)))
    spans (is_conditional d) = spans d
    spans (with_assign d l e y) = let r = moves ts y in by_is (is.extent-Assign _ _ _ _) (around_same (turn (spans d) (spans y) (omega arith) (omega arith)))
    spans (is_single d) = spans d
    spans (with_commas d e m) = by_is (is.extent-Comma _ _) (around_same (sequence_spans (spans d) (omega arith) m))

    sequence_spans : {b : Bool} {es : List Expr} {i m k j : ℕ} {a : Extent} → Spans i m a → m ≤ k → SpellsSequence ts b es k j → Spans i j (in_turn_all a (map extent es))
    sequence_spans s le (last_of d) = let r = moves ts d in turn s (spans d) le (omega arith)
    sequence_spans s le (next_of d e q) = let r = moves ts d in sequence_spans (turn s (spans d) le (omega arith)) (omega arith) q

    arguments_spans : {es : List Expr} {i m k j : ℕ} {a : Extent} → Spans i m a → m ≤ k → SpellsArguments ts es k j → Spans i j (in_turn_all a (map extent es))
    arguments_spans s le (no_arguments o e) = wider s (omega arith)
    arguments_spans s le (some_arguments o q e) = wider (sequence_spans s (omega arith) q) (omega arith)

    elements_spans : {es : List Expr} {i m k j : ℕ} {a : Extent} → Spans i m a → m ≤ k → SpellsElements ts es k j → Spans i j (in_turn_all a (map extent es))
    elements_spans s le (no_element e) = wider s (omega arith)
    elements_spans s le (last_element d e) = let r = moves ts d in wider (turn s (spans d) le (omega arith)) (omega arith)
    elements_spans s le (next_element d e q) = let r = moves ts d in elements_spans (turn s (spans d) le (omega arith)) (omega arith) q

    properties_spans : {ps : List Property} {i m k j : ℕ} {a : Extent} → Spans i m a → m ≤ k → SpellsProperties ts ps k j → Spans i j (in_turn_all a (map property_extent ps))
    properties_spans s le (no_property e) = wider s (omega arith)
    properties_spans s le (last_property {i = k} x c d e) =
        let r = moves ts d in
        let one_property = by_is (is.property_extent-is _) (turn (one k (k + 1) (omega arith)) (spans d) (omega arith) (omega arith)) in
        wider (turn s one_property le (omega arith)) (omega arith)
    properties_spans s le (next_property {i = k} x c d e q) =
        let r = moves ts d in
        let one_property = by_is (is.property_extent-is _) (turn (one k (k + 1) (omega arith)) (spans d) (omega arith) (omega arith)) in
        properties_spans (turn s one_property le (omega arith)) (omega arith) q

    function_spans : {n : Bool} {x : Function} {i j : ℕ} → SpellsFunction ts n x i j → Spans i j (function_extent x)
    function_spans (nameless {i} {xs = xs} {os = os} e q o body c) =
        by_is (is.function_extent-is _) (aligned_is xs os (parameters_length q) (wider (items_spans (parameters_spans (around_same (one i (i + 1) (omega arith))) (omega arith) q) (omega arith) body) (omega arith)))
    function_spans (named {i} {xs = xs} {os = os} e x q o body c) =
        let w = within ts _ _ x (λ p. cc) in
        by_is (is.function_extent-is _) (aligned_is xs os (parameters_length q) (wider (items_spans (parameters_spans (around_is (one (i + 1) (i + 1 + 1) (omega arith)) (omega arith) w) (omega arith) q) (omega arith) body) (omega arith)))

    declarations_spans : {b : Bool} {ds : List Declaration} {i m k j : ℕ} {a : Extent} → Spans i m a → m ≤ k → SpellsDeclarations ts b ds k j → Spans i j (in_turn_all a (map declaration_extent ds))
    declarations_spans s le (last_declared d) = let r = declaration_moves ts d in turn s (declaration_spans d) le (omega arith)
    declarations_spans s le (next_declared d e q) = let r = declaration_moves ts d in declarations_spans (turn s (declaration_spans d) le (omega arith)) (omega arith) q

    declaration_spans : {b : Bool} {d : Declaration} {i j : ℕ} → SpellsDeclaration ts b d i j → Spans i j (declaration_extent d)
    declaration_spans (bare {i = i} e) = by_is (is.declaration_extent-is _) (one i (i + 1) (omega arith))
    declaration_spans (valued {i = i} e c d) = let r = moves ts d in by_is (is.declaration_extent-is _) (turn (one i (i + 1) (omega arith)) (spans d) (omega arith) (omega arith))

    optional_spans : {q : Terminal} {t : Option Expr} {i m k j : ℕ} {a : Extent} → Spans i m a → m ≤ k → SpellsOptional ts q t k j → Spans i j (in_turn_maybe a (option_map extent t))
    optional_spans s le (absent e) = wider s le
    optional_spans s le (given d) = let r = moves ts d in turn s (spans d) le (omega arith)

    init_spans : {t : Init} {i m k j : ℕ} {a : Extent} → Spans i m a → m ≤ k → SpellsInit ts t k j → Spans i j (in_turn_maybe a (init_extent t))
    init_spans {a = a} s le (no_start e) = by_is (ap (in_turn_maybe a) is.init_extent-Absent) (wider s le)
    init_spans {a = a} s le (var_start {i = k} e d) =
        let r = declarations_moves ts d in
        by_is (ap (in_turn_maybe a) (is.init_extent-Declarations _ _)) (turn s (declarations_spans (one k (k + 1) (omega arith)) (omega arith) d) le (omega arith))
    init_spans {a = a} s le (expression_start d) = let r = moves ts d in by_is (ap (in_turn_maybe a) (is.init_extent-Initial _)) (turn s (spans d) le (omega arith))

    goal_spans : {g : Goal} {i j : ℕ} → SpellsGoal ts g i j → Spans i j (goal_extent g)
    goal_spans (var_goal {i} e c) = let w = within ts _ _ c (λ p. cc) in by_is (is.goal_extent-Variable _ _ _) (turn (one i (i + 1) (omega arith)) (one (i + 1) (i + 1 + 1) (omega arith)) (omega arith) w)
    goal_spans (left_goal d l) = by_is (is.goal_extent-Target _) (spans d)

    statement_spans : {b : Bool} {t : Stmt} {i j : ℕ} → SpellsStatement ts b t i j → Spans i j (stmt_extent t)
    statement_spans (declared x) = by_is (is.stmt_extent-FunctionDeclaration _) (function_spans x)
    statement_spans (block {i = i} e body c) = by_is (is.stmt_extent-Block _ _) (wider (items_spans (one i (i + 1) (omega arith)) (omega arith) body) (omega arith))
    statement_spans (var {i = i} e d c) =
        let r = declarations_moves ts d in
        let q = semicolon_moves ts c r.to in
        by_is (is.stmt_extent-Var _ _) (wider (declarations_spans (one i (i + 1) (omega arith)) (omega arith) d) (omega arith))
    statement_spans (empty {i = i} e) = by_is (is.stmt_extent-Empty _) (one i (i + 1) (omega arith))
    statement_spans (expression a b d c) =
        let r = moves ts d in
        let q = semicolon_moves ts c r.to in
        by_is (is.stmt_extent-Expression _ _) (wider (around_same (spans d)) (omega arith))
    statement_spans (if_alone {i = i} a o d c x n) =
        let r = moves ts d in
        let q = statement_moves ts x in
        by_is (is.stmt_extent-If _ _ _) (turn (turn (one i (i + 1) (omega arith)) (spans d) (omega arith) (omega arith)) (statement_spans x) (omega arith) (omega arith))
    statement_spans (if_else {i = i} a o d c x e y) =
        let r = moves ts d in
        let q = statement_moves ts x in
        let u = statement_moves ts y in
        by_is (is.stmt_extent-IfElse _ _ _ _) (turn (turn (turn (one i (i + 1) (omega arith)) (spans d) (omega arith) (omega arith)) (statement_spans x) (omega arith) (omega arith)) (statement_spans y) (omega arith) (omega arith))
    statement_spans (do_while {i = i} a x w o d c z) =
        let r = statement_moves ts x in
        let q = moves ts d in
        let v = within ts _ _ c (λ p. cc) in
        let u = semicolon_moves ts z (omega arith) in
        by_is (is.stmt_extent-DoWhile _ _ _) (wider (turn (turn (one i (i + 1) (omega arith)) (statement_spans x) (omega arith) (omega arith)) (spans d) (omega arith) (omega arith)) (omega arith))
    statement_spans (while {i = i} a o d c x) =
        let r = moves ts d in
        let q = statement_moves ts x in
        by_is (is.stmt_extent-While _ _ _) (turn (turn (one i (i + 1) (omega arith)) (spans d) (omega arith) (omega arith)) (statement_spans x) (omega arith) (omega arith))
    statement_spans (for {i = i} a o x c y d z e g) =
        let k = statement_moves ts g in
        by_is (is.stmt_extent-For _ _ _ _ _) (turn (optional_spans (optional_spans (init_spans (one i (i + 1) (omega arith)) (omega arith) x) (omega arith) y) (omega arith) z) (statement_spans g) (omega arith) (omega arith))
    statement_spans (for_in {i = i} a o x c y e g) =
        let r = goal_moves ts x in
        let q = moves ts y in
        let u = statement_moves ts g in
        by_is (is.stmt_extent-ForIn _ _ _ _) (turn (turn (turn (one i (i + 1) (omega arith)) (goal_spans x) (omega arith) (omega arith)) (spans y) (omega arith) (omega arith)) (statement_spans g) (omega arith) (omega arith))
    statement_spans (continue {i = i} e c) = let w = within ts _ _ e (λ p. cc) in let q = semicolon_moves ts c (omega arith) in by_is (is.stmt_extent-Continue _) (one i _ (omega arith))
    statement_spans (break {i = i} e c) = let w = within ts _ _ e (λ p. cc) in let q = semicolon_moves ts c (omega arith) in by_is (is.stmt_extent-Break _) (one i _ (omega arith))
    statement_spans (return {i = i} e c) = let w = within ts _ _ e (λ p. cc) in let q = semicolon_moves ts c (omega arith) in by_is (is.stmt_extent-Return _) (one i _ (omega arith))
    statement_spans (return_value {i = i} e l d c) =
        let r = moves ts d in
        let q = semicolon_moves ts c r.to in
        by_is (is.stmt_extent-ReturnValue _ _) (wider (turn (one i (i + 1) (omega arith)) (spans d) (omega arith) (omega arith)) (omega arith))
    statement_spans (throw {i = i} e l d c) =
        let r = moves ts d in
        let q = semicolon_moves ts c r.to in
        by_is (is.stmt_extent-Throw _ _) (wider (turn (one i (i + 1) (omega arith)) (spans d) (omega arith) (omega arith)) (omega arith))

    items_spans : {b : Bool} {body : List Stmt} {i m k j : ℕ} {a : Extent} → Spans i m a → m ≤ k → SpellsItems ts b body k j → Spans i j (in_turn_all a (map stmt_extent body))
    items_spans s le done = wider s le
    items_spans s le (item d q) = let r = statement_moves ts d in items_spans (turn s (statement_spans d) le (omega arith)) (omega arith) q

  items_ascend : {items : List Stmt} {k : ℕ} → 1 ≤ k → SpellsItems ts true items k (length ts) → (in_turn_all (point (offset_at ts 0)) (map stmt_extent items)).ascends ≡ true
  items_ascend le body = (items_spans (one 0 1 (omega arith)) le body).ascends

-- tokens that stand one after another begin so
least : (offset : ℕ) (ts : Tokens) → StandFrom offset ts → (j : ℕ) → j < length ts → offset ≤ offset_at ts j
unfolding position_at
least offset [] s j lt = absurd (omega arith)
least offset (t ∷ ts) s zero lt = s.0
least offset (t ∷ ts) s (suc j) lt = let r = least t.to ts s.2 j (omega arith) in omega (arith, r, s.0, s.1)

pub ascend : (offset : ℕ) (ts : Tokens) → StandFrom offset ts → Ascend ts
unfolding position_at
ascend offset [] s i j less lt = absurd (omega arith)
ascend offset (t ∷ ts) s i zero less lt = absurd (omega arith)
ascend offset (t ∷ ts) s zero (suc j) less lt = let r = least t.to ts s.2 j (omega arith) in omega (arith, r, s.1)
ascend offset (t ∷ ts) s (suc i) (suc j) less lt = ascend t.to ts s.2 i j (omega arith) (omega arith)

has_first : (o : Tokens) → is_directive (slice_get o 0) ≡ true → 1 ≤ length o
has_first [] e = absurd cc
has_first (t ∷ ts) e = omega arith

begins_after : (ts : Tokens) (k : ℕ) → Begins ts k → 1 ≤ k
begins_after ts k (directive d c) = (semicolon_moves ts c (has_first ts d)).from

pub file_ascends : (ts : Tokens) (tree : FileTree) → Ascend ts → IsFile ts tree → HasAscendingOffsets tree
file_ascends ts tree order f =
    subst (λ z. (in_turn_all (point z.offset) (map stmt_extent tree.items)).ascends ≡ true) (sym f.first) (items_ascend ts order (begins_after ts f.start f.begins) f.spelled)
