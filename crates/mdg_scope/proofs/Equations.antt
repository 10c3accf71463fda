-- What each form adds to the occurrences, by its parts.
use Rattle.std.proofs.Common.{◌≡◌, ℕ, List, [], map, sym, ap, ◌∙◌, subst}
use Rattle.std.specs.Prelude.{Option, Some, None, option_map}
use Rattle.mdg_tree.specs.declared.tree.At.{At}
use Rattle.mdg_tree.specs.declared.tree.Expr.{Expr}
use Rattle.mdg_tree.specs.declared.tree.Goal.{Goal}
use Rattle.mdg_tree.specs.declared.tree.Init.{Init}
use Rattle.mdg_tree.specs.declared.tree.Stmt.{Stmt}
use Rattle.mdg_tree.specs.declared.tree.Declaration.{Declaration}
use Rattle.mdg_tree.specs.declared.tree.Function.{Function}
use Rattle.mdg_tree.specs.declared.tree.Property.{Property}
use Rattle.mdg_tree.specs.declared.tree.Expr.TheVariants as e
use Rattle.mdg_tree.specs.declared.tree.Stmt.TheVariants as s
use Rattle.mdg_tree.specs.declared.tree.Init.TheVariants as i
use Rattle.mdg_tree.specs.declared.tree.Goal.TheVariants as g
use Rattle.mdg_tree.specs.declared.tree.Expr.TheOpen.{Expr-F, Goal-F, Init-F, Stmt-F}
use Rattle.mdg_tree.specs.declared.tree.Expr.TheViews.{roll-Expr}
use Rattle.mdg_tree.specs.declared.tree.Expr.TheFolds.{ind-Expr, map-Expr, fold-roll-Expr, fold-roll-Stmt, fold-roll-Init, fold-roll-Goal, fold_out-Property, fold_out-Function, fold_out-Declaration}
use Rattle.mdg_tree.specs.Views as views
use Rattle.mdg_tree.specs.Views.{key_name}
use Rattle.mdg_tree.proofs.ViewEquations as view
use Rattle.mdg_scope.specs.declared.occurrence.Occurrences.{Occurrences}
use Rattle.mdg_scope.specs.declared.occurrence.Context.{Context}
use Rattle.mdg_scope.specs.declared.occurrence.Use.{Use}
use Rattle.mdg_scope.specs.declared.occurrence.OccurrenceKind.TheVariants as r
use Rattle.mdg_scope.specs.Collectors.{Collector, ExprCollector, PropertyCollector, FunctionCollector, add, use_kind, only_text, callee_use, read_all, collect_all, all_values, repeated_keys, optional, constructed_occurrence, operator_occurrence, operand_use, within_loop, expressed_occurrences, declared_occurrences, jump_occurrences}
use Rattle.mdg_scope.specs.Occurrences.{expr_step, stmt_step, init_step, goal_step, property_step, function_step, declaration_step, expr_collector, goal_occurrences, init_occurrences, stmt_occurrences, declaration_occurrences, function_occurrences, property_occurrences, used_of, read_of, assigned_of, name_of, text_of}

pub expr_collector-Comma : (at : _) (es : List Expr) → expr_collector (e.Comma at es) ≡ expr_step (Expr-F.Comma at (map expr_collector es))
unfolding expr_collector goal_occurrences init_occurrences stmt_occurrences declaration_occurrences function_occurrences property_occurrences
expr_collector-Comma at es = ap expr_collector (sym (e.rolls-Comma at es)) ∙ fold-roll-Expr ExprCollector Collector Collector Collector Collector FunctionCollector PropertyCollector expr_step goal_step init_step stmt_step declaration_step function_step property_step (Expr-F.Comma at es)

pub expr_collector-Assign : (at : _) (op : _) (target : Expr) (value : Expr) → expr_collector (e.Assign at op target value) ≡ expr_step (Expr-F.Assign at op (expr_collector target) (expr_collector value))
unfolding expr_collector goal_occurrences init_occurrences stmt_occurrences declaration_occurrences function_occurrences property_occurrences
expr_collector-Assign at op target value = ap expr_collector (sym (e.rolls-Assign at op target value)) ∙ fold-roll-Expr ExprCollector Collector Collector Collector Collector FunctionCollector PropertyCollector expr_step goal_step init_step stmt_step declaration_step function_step property_step (Expr-F.Assign at op target value)

pub expr_collector-Conditional : (at : _) (test : Expr) (chosen : Expr) (other : Expr) → expr_collector (e.Conditional at test chosen other) ≡ expr_step (Expr-F.Conditional at (expr_collector test) (expr_collector chosen) (expr_collector other))
unfolding expr_collector goal_occurrences init_occurrences stmt_occurrences declaration_occurrences function_occurrences property_occurrences
expr_collector-Conditional at test chosen other = ap expr_collector (sym (e.rolls-Conditional at test chosen other)) ∙ fold-roll-Expr ExprCollector Collector Collector Collector Collector FunctionCollector PropertyCollector expr_step goal_step init_step stmt_step declaration_step function_step property_step (Expr-F.Conditional at test chosen other)

pub expr_collector-Binary : (at : _) (op : _) (left : Expr) (right : Expr) → expr_collector (e.Binary at op left right) ≡ expr_step (Expr-F.Binary at op (expr_collector left) (expr_collector right))
unfolding expr_collector goal_occurrences init_occurrences stmt_occurrences declaration_occurrences function_occurrences property_occurrences
expr_collector-Binary at op left right = ap expr_collector (sym (e.rolls-Binary at op left right)) ∙ fold-roll-Expr ExprCollector Collector Collector Collector Collector FunctionCollector PropertyCollector expr_step goal_step init_step stmt_step declaration_step function_step property_step (Expr-F.Binary at op left right)

pub expr_collector-Unary : (at : _) (op : _) (value : Expr) → expr_collector (e.Unary at op value) ≡ expr_step (Expr-F.Unary at op (expr_collector value))
unfolding expr_collector goal_occurrences init_occurrences stmt_occurrences declaration_occurrences function_occurrences property_occurrences
expr_collector-Unary at op value = ap expr_collector (sym (e.rolls-Unary at op value)) ∙ fold-roll-Expr ExprCollector Collector Collector Collector Collector FunctionCollector PropertyCollector expr_step goal_step init_step stmt_step declaration_step function_step property_step (Expr-F.Unary at op value)

pub expr_collector-Prefix : (at : _) (step : _) (target : Expr) → expr_collector (e.Prefix at step target) ≡ expr_step (Expr-F.Prefix at step (expr_collector target))
unfolding expr_collector goal_occurrences init_occurrences stmt_occurrences declaration_occurrences function_occurrences property_occurrences
expr_collector-Prefix at step target = ap expr_collector (sym (e.rolls-Prefix at step target)) ∙ fold-roll-Expr ExprCollector Collector Collector Collector Collector FunctionCollector PropertyCollector expr_step goal_step init_step stmt_step declaration_step function_step property_step (Expr-F.Prefix at step target)

pub expr_collector-Postfix : (at : _) (step : _) (target : Expr) → expr_collector (e.Postfix at step target) ≡ expr_step (Expr-F.Postfix at step (expr_collector target))
unfolding expr_collector goal_occurrences init_occurrences stmt_occurrences declaration_occurrences function_occurrences property_occurrences
expr_collector-Postfix at step target = ap expr_collector (sym (e.rolls-Postfix at step target)) ∙ fold-roll-Expr ExprCollector Collector Collector Collector Collector FunctionCollector PropertyCollector expr_step goal_step init_step stmt_step declaration_step function_step property_step (Expr-F.Postfix at step target)

pub expr_collector-New : (at : _) (callee : Expr) → expr_collector (e.New at callee) ≡ expr_step (Expr-F.New at (expr_collector callee))
unfolding expr_collector goal_occurrences init_occurrences stmt_occurrences declaration_occurrences function_occurrences property_occurrences
expr_collector-New at callee = ap expr_collector (sym (e.rolls-New at callee)) ∙ fold-roll-Expr ExprCollector Collector Collector Collector Collector FunctionCollector PropertyCollector expr_step goal_step init_step stmt_step declaration_step function_step property_step (Expr-F.New at callee)

pub expr_collector-NewWithArguments : (at : _) (callee : Expr) (es : List Expr) → expr_collector (e.NewWithArguments at callee es) ≡ expr_step (Expr-F.NewWithArguments at (expr_collector callee) (map expr_collector es))
unfolding expr_collector goal_occurrences init_occurrences stmt_occurrences declaration_occurrences function_occurrences property_occurrences
expr_collector-NewWithArguments at callee es = ap expr_collector (sym (e.rolls-NewWithArguments at callee es)) ∙ fold-roll-Expr ExprCollector Collector Collector Collector Collector FunctionCollector PropertyCollector expr_step goal_step init_step stmt_step declaration_step function_step property_step (Expr-F.NewWithArguments at callee es)

pub expr_collector-Call : (at : _) (callee : Expr) (es : List Expr) → expr_collector (e.Call at callee es) ≡ expr_step (Expr-F.Call at (expr_collector callee) (map expr_collector es))
unfolding expr_collector goal_occurrences init_occurrences stmt_occurrences declaration_occurrences function_occurrences property_occurrences
expr_collector-Call at callee es = ap expr_collector (sym (e.rolls-Call at callee es)) ∙ fold-roll-Expr ExprCollector Collector Collector Collector Collector FunctionCollector PropertyCollector expr_step goal_step init_step stmt_step declaration_step function_step property_step (Expr-F.Call at callee es)

pub expr_collector-Index : (at : _) (object : Expr) (key : Expr) → expr_collector (e.Index at object key) ≡ expr_step (Expr-F.Index at (expr_collector object) (expr_collector key))
unfolding expr_collector goal_occurrences init_occurrences stmt_occurrences declaration_occurrences function_occurrences property_occurrences
expr_collector-Index at object key = ap expr_collector (sym (e.rolls-Index at object key)) ∙ fold-roll-Expr ExprCollector Collector Collector Collector Collector FunctionCollector PropertyCollector expr_step goal_step init_step stmt_step declaration_step function_step property_step (Expr-F.Index at object key)

pub expr_collector-Member : (at : _) (object : Expr) (name : List ℕ) → expr_collector (e.Member at object name) ≡ expr_step (Expr-F.Member at (expr_collector object) name)
unfolding expr_collector goal_occurrences init_occurrences stmt_occurrences declaration_occurrences function_occurrences property_occurrences
expr_collector-Member at object name = ap expr_collector (sym (e.rolls-Member at object name)) ∙ fold-roll-Expr ExprCollector Collector Collector Collector Collector FunctionCollector PropertyCollector expr_step goal_step init_step stmt_step declaration_step function_step property_step (Expr-F.Member at object name)

pub expr_collector-FunctionExpression : (f : Function) → expr_collector (e.FunctionExpression f) ≡ expr_step (Expr-F.FunctionExpression (function_occurrences f))
unfolding expr_collector goal_occurrences init_occurrences stmt_occurrences declaration_occurrences function_occurrences property_occurrences
expr_collector-FunctionExpression f = ap expr_collector (sym (e.rolls-FunctionExpression f)) ∙ fold-roll-Expr ExprCollector Collector Collector Collector Collector FunctionCollector PropertyCollector expr_step goal_step init_step stmt_step declaration_step function_step property_step (Expr-F.FunctionExpression f)

pub expr_collector-Name : (at : _) (name : List ℕ) → expr_collector (e.Name at name) ≡ expr_step (Expr-F.Name at name)
unfolding expr_collector goal_occurrences init_occurrences stmt_occurrences declaration_occurrences function_occurrences property_occurrences
expr_collector-Name at name = ap expr_collector (sym (e.rolls-Name at name)) ∙ fold-roll-Expr ExprCollector Collector Collector Collector Collector FunctionCollector PropertyCollector expr_step goal_step init_step stmt_step declaration_step function_step property_step (Expr-F.Name at name)

pub expr_collector-Null : (at : _) → expr_collector (e.Null at) ≡ expr_step (Expr-F.Null at)
unfolding expr_collector goal_occurrences init_occurrences stmt_occurrences declaration_occurrences function_occurrences property_occurrences
expr_collector-Null at = ap expr_collector (sym (e.rolls-Null at)) ∙ fold-roll-Expr ExprCollector Collector Collector Collector Collector FunctionCollector PropertyCollector expr_step goal_step init_step stmt_step declaration_step function_step property_step (Expr-F.Null at)

pub expr_collector-True : (at : _) → expr_collector (e.True at) ≡ expr_step (Expr-F.True at)
unfolding expr_collector goal_occurrences init_occurrences stmt_occurrences declaration_occurrences function_occurrences property_occurrences
expr_collector-True at = ap expr_collector (sym (e.rolls-True at)) ∙ fold-roll-Expr ExprCollector Collector Collector Collector Collector FunctionCollector PropertyCollector expr_step goal_step init_step stmt_step declaration_step function_step property_step (Expr-F.True at)

pub expr_collector-False : (at : _) → expr_collector (e.False at) ≡ expr_step (Expr-F.False at)
unfolding expr_collector goal_occurrences init_occurrences stmt_occurrences declaration_occurrences function_occurrences property_occurrences
expr_collector-False at = ap expr_collector (sym (e.rolls-False at)) ∙ fold-roll-Expr ExprCollector Collector Collector Collector Collector FunctionCollector PropertyCollector expr_step goal_step init_step stmt_step declaration_step function_step property_step (Expr-F.False at)

pub expr_collector-Numeral : (at : _) (text : List ℕ) → expr_collector (e.Numeral at text) ≡ expr_step (Expr-F.Numeral at text)
unfolding expr_collector goal_occurrences init_occurrences stmt_occurrences declaration_occurrences function_occurrences property_occurrences
expr_collector-Numeral at text = ap expr_collector (sym (e.rolls-Numeral at text)) ∙ fold-roll-Expr ExprCollector Collector Collector Collector Collector FunctionCollector PropertyCollector expr_step goal_step init_step stmt_step declaration_step function_step property_step (Expr-F.Numeral at text)

pub expr_collector-Text : (at : _) (text : List ℕ) → expr_collector (e.Text at text) ≡ expr_step (Expr-F.Text at text)
unfolding expr_collector goal_occurrences init_occurrences stmt_occurrences declaration_occurrences function_occurrences property_occurrences
expr_collector-Text at text = ap expr_collector (sym (e.rolls-Text at text)) ∙ fold-roll-Expr ExprCollector Collector Collector Collector Collector FunctionCollector PropertyCollector expr_step goal_step init_step stmt_step declaration_step function_step property_step (Expr-F.Text at text)

pub expr_collector-Paren : (at : _) (inner : Expr) → expr_collector (e.Paren at inner) ≡ expr_step (Expr-F.Paren at (expr_collector inner))
unfolding expr_collector goal_occurrences init_occurrences stmt_occurrences declaration_occurrences function_occurrences property_occurrences
expr_collector-Paren at inner = ap expr_collector (sym (e.rolls-Paren at inner)) ∙ fold-roll-Expr ExprCollector Collector Collector Collector Collector FunctionCollector PropertyCollector expr_step goal_step init_step stmt_step declaration_step function_step property_step (Expr-F.Paren at inner)

pub expr_collector-Array : (at : _) (es : List Expr) → expr_collector (e.Array at es) ≡ expr_step (Expr-F.Array at (map expr_collector es))
unfolding expr_collector goal_occurrences init_occurrences stmt_occurrences declaration_occurrences function_occurrences property_occurrences
expr_collector-Array at es = ap expr_collector (sym (e.rolls-Array at es)) ∙ fold-roll-Expr ExprCollector Collector Collector Collector Collector FunctionCollector PropertyCollector expr_step goal_step init_step stmt_step declaration_step function_step property_step (Expr-F.Array at es)

pub expr_collector-Object : (at : _) (ps : List Property) → expr_collector (e.Object at ps) ≡ expr_step (Expr-F.Object at (map property_occurrences ps))
unfolding expr_collector goal_occurrences init_occurrences stmt_occurrences declaration_occurrences function_occurrences property_occurrences
expr_collector-Object at ps = ap expr_collector (sym (e.rolls-Object at ps)) ∙ fold-roll-Expr ExprCollector Collector Collector Collector Collector FunctionCollector PropertyCollector expr_step goal_step init_step stmt_step declaration_step function_step property_step (Expr-F.Object at ps)

-- the name and the text of an expression are those of its tree
record SameView (tree : Expr) : Type 0 where
  pub name : name_of tree ≡ views.name_of tree
  pub text : text_of tree ≡ views.string_of tree

abbrev Seen : Type 0
Seen = (tree : Expr) × SameView tree

abbrev Any : Type 0 → Type 0
Any A = A × Unit {0}

-- one layer of an expression, with what is known of the parts in it
abbrev Layer : Type 0
Layer = Expr-F Seen (Any Goal) (Any Init) (Any Stmt) (Any Declaration) (Any Function) (Any Property)

abbrev bare : Layer → Expr-F Expr Goal Init Stmt Declaration Function Property
bare = map-Expr Seen (Any Goal) (Any Init) (Any Stmt) (Any Declaration) (Any Function) (Any Property)
    Expr Goal Init Stmt Declaration Function Property (λ x. x.0) (λ x. x.0) (λ x. x.0) (λ x. x.0) (λ x. x.0) (λ x. x.0) (λ x. x.0)

view_as : (tree made : Expr) → tree ≡ made → SameView made → SameView tree
view_as tree made is same = subst SameView (sym is) same

layer : (y : Layer) → SameView (roll-Expr (bare y))
layer (Expr-F.Comma at es) = view_as _ _ (e.rolls-Comma at (map (λ x. x.0) es)) (record {
  name = ap (λ x. x.name) (expr_collector-Comma at (map (λ x. x.0) es)) ∙ sym (view.name-Comma at (map (λ x. x.0) es));
  text = ap (λ x. x.text) (expr_collector-Comma at (map (λ x. x.0) es)) ∙ sym (view.string-Comma at (map (λ x. x.0) es));
})
layer (Expr-F.Assign at op target value) = view_as _ _ (e.rolls-Assign at op target.0 value.0) (record {
  name = ap (λ x. x.name) (expr_collector-Assign at op target.0 value.0) ∙ sym (view.name-Assign at op target.0 value.0);
  text = ap (λ x. x.text) (expr_collector-Assign at op target.0 value.0) ∙ sym (view.string-Assign at op target.0 value.0);
})
layer (Expr-F.Conditional at test chosen other) = view_as _ _ (e.rolls-Conditional at test.0 chosen.0 other.0) (record {
  name = ap (λ x. x.name) (expr_collector-Conditional at test.0 chosen.0 other.0) ∙ sym (view.name-Conditional at test.0 chosen.0 other.0);
  text = ap (λ x. x.text) (expr_collector-Conditional at test.0 chosen.0 other.0) ∙ sym (view.string-Conditional at test.0 chosen.0 other.0);
})
layer (Expr-F.Binary at op left right) = view_as _ _ (e.rolls-Binary at op left.0 right.0) (record {
  name = ap (λ x. x.name) (expr_collector-Binary at op left.0 right.0) ∙ sym (view.name-Binary at op left.0 right.0);
  text = ap (λ x. x.text) (expr_collector-Binary at op left.0 right.0) ∙ sym (view.string-Binary at op left.0 right.0);
})
layer (Expr-F.Unary at op value) = view_as _ _ (e.rolls-Unary at op value.0) (record {
  name = ap (λ x. x.name) (expr_collector-Unary at op value.0) ∙ sym (view.name-Unary at op value.0);
  text = ap (λ x. x.text) (expr_collector-Unary at op value.0) ∙ sym (view.string-Unary at op value.0);
})
layer (Expr-F.Prefix at step target) = view_as _ _ (e.rolls-Prefix at step target.0) (record {
  name = ap (λ x. x.name) (expr_collector-Prefix at step target.0) ∙ sym (view.name-Prefix at step target.0);
  text = ap (λ x. x.text) (expr_collector-Prefix at step target.0) ∙ sym (view.string-Prefix at step target.0);
})
layer (Expr-F.Postfix at step target) = view_as _ _ (e.rolls-Postfix at step target.0) (record {
  name = ap (λ x. x.name) (expr_collector-Postfix at step target.0) ∙ sym (view.name-Postfix at step target.0);
  text = ap (λ x. x.text) (expr_collector-Postfix at step target.0) ∙ sym (view.string-Postfix at step target.0);
})
layer (Expr-F.New at callee) = view_as _ _ (e.rolls-New at callee.0) (record {
  name = ap (λ x. x.name) (expr_collector-New at callee.0) ∙ sym (view.name-New at callee.0);
  text = ap (λ x. x.text) (expr_collector-New at callee.0) ∙ sym (view.string-New at callee.0);
})
layer (Expr-F.NewWithArguments at callee es) = view_as _ _ (e.rolls-NewWithArguments at callee.0 (map (λ x. x.0) es)) (record {
  name = ap (λ x. x.name) (expr_collector-NewWithArguments at callee.0 (map (λ x. x.0) es)) ∙ sym (view.name-NewWithArguments at callee.0 (map (λ x. x.0) es));
  text = ap (λ x. x.text) (expr_collector-NewWithArguments at callee.0 (map (λ x. x.0) es)) ∙ sym (view.string-NewWithArguments at callee.0 (map (λ x. x.0) es));
})
layer (Expr-F.Call at callee es) = view_as _ _ (e.rolls-Call at callee.0 (map (λ x. x.0) es)) (record {
  name = ap (λ x. x.name) (expr_collector-Call at callee.0 (map (λ x. x.0) es)) ∙ sym (view.name-Call at callee.0 (map (λ x. x.0) es));
  text = ap (λ x. x.text) (expr_collector-Call at callee.0 (map (λ x. x.0) es)) ∙ sym (view.string-Call at callee.0 (map (λ x. x.0) es));
})
layer (Expr-F.Index at object key) = view_as _ _ (e.rolls-Index at object.0 key.0) (record {
  name = ap (λ x. x.name) (expr_collector-Index at object.0 key.0) ∙ sym (view.name-Index at object.0 key.0);
  text = ap (λ x. x.text) (expr_collector-Index at object.0 key.0) ∙ sym (view.string-Index at object.0 key.0);
})
layer (Expr-F.Member at object name) = view_as _ _ (e.rolls-Member at object.0 name) (record {
  name = ap (λ x. x.name) (expr_collector-Member at object.0 name) ∙ sym (view.name-Member at object.0 name);
  text = ap (λ x. x.text) (expr_collector-Member at object.0 name) ∙ sym (view.string-Member at object.0 name);
})
layer (Expr-F.FunctionExpression f) = view_as _ _ (e.rolls-FunctionExpression f.0) (record {
  name = ap (λ x. x.name) (expr_collector-FunctionExpression f.0) ∙ sym (view.name-FunctionExpression f.0);
  text = ap (λ x. x.text) (expr_collector-FunctionExpression f.0) ∙ sym (view.string-FunctionExpression f.0);
})
layer (Expr-F.Name at name) = view_as _ _ (e.rolls-Name at name) (record {
  name = ap (λ x. x.name) (expr_collector-Name at name) ∙ sym (view.name-Name at name);
  text = ap (λ x. x.text) (expr_collector-Name at name) ∙ sym (view.string-Name at name);
})
layer (Expr-F.Null at) = view_as _ _ (e.rolls-Null at) (record {
  name = ap (λ x. x.name) (expr_collector-Null at) ∙ sym (view.name-Null at);
  text = ap (λ x. x.text) (expr_collector-Null at) ∙ sym (view.string-Null at);
})
layer (Expr-F.True at) = view_as _ _ (e.rolls-True at) (record {
  name = ap (λ x. x.name) (expr_collector-True at) ∙ sym (view.name-True at);
  text = ap (λ x. x.text) (expr_collector-True at) ∙ sym (view.string-True at);
})
layer (Expr-F.False at) = view_as _ _ (e.rolls-False at) (record {
  name = ap (λ x. x.name) (expr_collector-False at) ∙ sym (view.name-False at);
  text = ap (λ x. x.text) (expr_collector-False at) ∙ sym (view.string-False at);
})
layer (Expr-F.Numeral at text) = view_as _ _ (e.rolls-Numeral at text) (record {
  name = ap (λ x. x.name) (expr_collector-Numeral at text) ∙ sym (view.name-Numeral at text);
  text = ap (λ x. x.text) (expr_collector-Numeral at text) ∙ sym (view.string-Numeral at text);
})
layer (Expr-F.Text at text) = view_as _ _ (e.rolls-Text at text) (record {
  name = ap (λ x. x.name) (expr_collector-Text at text) ∙ sym (view.name-Text at text);
  text = ap (λ x. x.text) (expr_collector-Text at text) ∙ sym (view.string-Text at text);
})
layer (Expr-F.Paren at inner) = view_as _ _ (e.rolls-Paren at inner.0) (record {
  name = ap (λ x. x.name) (expr_collector-Paren at inner.0) ∙ inner.1.name ∙ sym (view.name-Paren at inner.0);
  text = ap (λ x. x.text) (expr_collector-Paren at inner.0) ∙ inner.1.text ∙ sym (view.string-Paren at inner.0);
})
layer (Expr-F.Array at es) = view_as _ _ (e.rolls-Array at (map (λ x. x.0) es)) (record {
  name = ap (λ x. x.name) (expr_collector-Array at (map (λ x. x.0) es)) ∙ sym (view.name-Array at (map (λ x. x.0) es));
  text = ap (λ x. x.text) (expr_collector-Array at (map (λ x. x.0) es)) ∙ sym (view.string-Array at (map (λ x. x.0) es));
})
layer (Expr-F.Object at ps) = view_as _ _ (e.rolls-Object at (map (λ x. x.0) ps)) (record {
  name = ap (λ x. x.name) (expr_collector-Object at (map (λ x. x.0) ps)) ∙ sym (view.name-Object at (map (λ x. x.0) ps));
  text = ap (λ x. x.text) (expr_collector-Object at (map (λ x. x.0) ps)) ∙ sym (view.string-Object at (map (λ x. x.0) ps));
})

same_view : (tree : Expr) → SameView tree
same_view = ind-Expr SameView (λ x. Unit {0}) (λ x. Unit {0}) (λ x. Unit {0}) (λ x. Unit {0}) (λ x. Unit {0}) (λ x. Unit {0})
    (λ x y is. subst (λ z. SameView (roll-Expr z)) is (layer y))
    (λ x y is. tt) (λ x y is. tt) (λ x y is. tt) (λ x y is. tt) (λ x y is. tt) (λ x y is. tt)

pub same_name : (tree : Expr) → name_of tree ≡ views.name_of tree
same_name tree = (same_view tree).name

pub same_text : (tree : Expr) → text_of tree ≡ views.string_of tree
same_text tree = (same_view tree).text

pub used-Comma : (at : At) (es : List Expr) (usage : Use) (p : Context) (c : Occurrences) → used_of (e.Comma at es) usage p c ≡ read_all (map expr_collector es) p c
used-Comma at es usage p c = ap (λ x. x.used usage p c) (expr_collector-Comma at es)

pub used-Assign : (at : At) (op : _) (target : Expr) (value : Expr) (usage : Use) (p : Context) (c : Occurrences) → used_of (e.Assign at op target value) usage p c ≡ read_of value p (assigned_of target p c)
used-Assign at op target value usage p c = ap (λ x. x.used usage p c) (expr_collector-Assign at op target value)

pub used-Conditional : (at : At) (test : Expr) (chosen : Expr) (other : Expr) (usage : Use) (p : Context) (c : Occurrences) → used_of (e.Conditional at test chosen other) usage p c ≡ read_of other p (read_of chosen p (read_of test p c))
used-Conditional at test chosen other usage p c = ap (λ x. x.used usage p c) (expr_collector-Conditional at test chosen other)

pub used-Binary : (at : At) (op : _) (left : Expr) (right : Expr) (usage : Use) (p : Context) (c : Occurrences) → used_of (e.Binary at op left right) usage p c ≡ read_of right p (read_of left p c)
used-Binary at op left right usage p c = ap (λ x. x.used usage p c) (expr_collector-Binary at op left right)

pub used-Unary : (at : At) (op : _) (value : Expr) (usage : Use) (p : Context) (c : Occurrences) → used_of (e.Unary at op value) usage p c ≡ used_of value (operand_use op) p (operator_occurrence op (views.name_of value) at.offset p c)
used-Unary at op value usage p c = ap (λ x. x.used usage p c) (expr_collector-Unary at op value) ∙ ap (λ x. used_of value (operand_use op) p (operator_occurrence op x at.offset p c)) (same_name value)

pub used-Prefix : (at : At) (step : _) (target : Expr) (usage : Use) (p : Context) (c : Occurrences) → used_of (e.Prefix at step target) usage p c ≡ assigned_of target p c
used-Prefix at step target usage p c = ap (λ x. x.used usage p c) (expr_collector-Prefix at step target)

pub used-Postfix : (at : At) (step : _) (target : Expr) (usage : Use) (p : Context) (c : Occurrences) → used_of (e.Postfix at step target) usage p c ≡ assigned_of target p c
used-Postfix at step target usage p c = ap (λ x. x.used usage p c) (expr_collector-Postfix at step target)

pub used-New : (at : At) (callee : Expr) (usage : Use) (p : Context) (c : Occurrences) → used_of (e.New at callee) usage p c ≡ read_of callee p (constructed_occurrence (views.name_of callee) at.offset p c)
used-New at callee usage p c = ap (λ x. x.used usage p c) (expr_collector-New at callee) ∙ ap (λ x. read_of callee p (constructed_occurrence x at.offset p c)) (same_name callee)

pub used-NewWithArguments : (at : At) (callee : Expr) (es : List Expr) (usage : Use) (p : Context) (c : Occurrences) → used_of (e.NewWithArguments at callee es) usage p c ≡ read_all (map expr_collector es) p (read_of callee p (constructed_occurrence (views.name_of callee) at.offset p c))
used-NewWithArguments at callee es usage p c = ap (λ x. x.used usage p c) (expr_collector-NewWithArguments at callee es) ∙ ap (λ x. read_all (map expr_collector es) p (read_of callee p (constructed_occurrence x at.offset p c))) (same_name callee)

pub used-Call : (at : At) (callee : Expr) (es : List Expr) (usage : Use) (p : Context) (c : Occurrences) → used_of (e.Call at callee es) usage p c ≡ read_all (map expr_collector es) p (used_of callee (callee_use (only_text (map expr_collector es))) p c)
used-Call at callee es usage p c = ap (λ x. x.used usage p c) (expr_collector-Call at callee es)

pub used-Index : (at : At) (object : Expr) (key : Expr) (usage : Use) (p : Context) (c : Occurrences) → used_of (e.Index at object key) usage p c ≡ read_of key p (read_of object p c)
used-Index at object key usage p c = ap (λ x. x.used usage p c) (expr_collector-Index at object key)

pub used-Member : (at : At) (object : Expr) (name : List ℕ) (usage : Use) (p : Context) (c : Occurrences) → used_of (e.Member at object name) usage p c ≡ read_of object p c
used-Member at object name usage p c = ap (λ x. x.used usage p c) (expr_collector-Member at object name)

pub used-FunctionExpression : (f : Function) (usage : Use) (p : Context) (c : Occurrences) → used_of (e.FunctionExpression f) usage p c ≡ (function_occurrences f).expressed p c
used-FunctionExpression f usage p c = ap (λ x. x.used usage p c) (expr_collector-FunctionExpression f)

pub used-Name : (at : At) (name : List ℕ) (usage : Use) (p : Context) (c : Occurrences) → used_of (e.Name at name) usage p c ≡ add (use_kind usage at.line) at.offset p.function name c
used-Name at name usage p c = ap (λ x. x.used usage p c) (expr_collector-Name at name)

pub used-Null : (at : At) (usage : Use) (p : Context) (c : Occurrences) → used_of (e.Null at) usage p c ≡ c
used-Null at usage p c = ap (λ x. x.used usage p c) (expr_collector-Null at)

pub used-True : (at : At) (usage : Use) (p : Context) (c : Occurrences) → used_of (e.True at) usage p c ≡ c
used-True at usage p c = ap (λ x. x.used usage p c) (expr_collector-True at)

pub used-False : (at : At) (usage : Use) (p : Context) (c : Occurrences) → used_of (e.False at) usage p c ≡ c
used-False at usage p c = ap (λ x. x.used usage p c) (expr_collector-False at)

pub used-Numeral : (at : At) (text : List ℕ) (usage : Use) (p : Context) (c : Occurrences) → used_of (e.Numeral at text) usage p c ≡ c
used-Numeral at text usage p c = ap (λ x. x.used usage p c) (expr_collector-Numeral at text)

pub used-Text : (at : At) (text : List ℕ) (usage : Use) (p : Context) (c : Occurrences) → used_of (e.Text at text) usage p c ≡ c
used-Text at text usage p c = ap (λ x. x.used usage p c) (expr_collector-Text at text)

pub used-Paren : (at : At) (inner : Expr) (usage : Use) (p : Context) (c : Occurrences) → used_of (e.Paren at inner) usage p c ≡ used_of inner usage p c
used-Paren at inner usage p c = ap (λ x. x.used usage p c) (expr_collector-Paren at inner)

pub used-Array : (at : At) (es : List Expr) (usage : Use) (p : Context) (c : Occurrences) → used_of (e.Array at es) usage p c ≡ read_all (map expr_collector es) p c
used-Array at es usage p c = ap (λ x. x.used usage p c) (expr_collector-Array at es)

pub used-Object : (at : At) (ps : List Property) (usage : Use) (p : Context) (c : Occurrences) → used_of (e.Object at ps) usage p c ≡ all_values (map property_occurrences ps) p (repeated_keys p.function [] (map property_occurrences ps) c)
used-Object at ps usage p c = ap (λ x. x.used usage p c) (expr_collector-Object at ps)

stmt_said-Block : (at : At) (body : List Stmt) → stmt_occurrences (s.Block at body) ≡ stmt_step (Stmt-F.Block at (map stmt_occurrences body))
unfolding expr_collector goal_occurrences init_occurrences stmt_occurrences declaration_occurrences function_occurrences property_occurrences
stmt_said-Block at body = ap stmt_occurrences (sym (s.rolls-Block at body)) ∙ fold-roll-Stmt ExprCollector Collector Collector Collector Collector FunctionCollector PropertyCollector expr_step goal_step init_step stmt_step declaration_step function_step property_step (Stmt-F.Block at body)

pub stmt-Block : (at : At) (body : List Stmt) (p : Context) (c : Occurrences) → stmt_occurrences (s.Block at body) p c ≡ collect_all (map stmt_occurrences body) p c
stmt-Block at body p c = ap (λ x. x p c) (stmt_said-Block at body)

stmt_said-Var : (at : At) (ds : List Declaration) → stmt_occurrences (s.Var at ds) ≡ stmt_step (Stmt-F.Var at (map declaration_occurrences ds))
unfolding expr_collector goal_occurrences init_occurrences stmt_occurrences declaration_occurrences function_occurrences property_occurrences
stmt_said-Var at ds = ap stmt_occurrences (sym (s.rolls-Var at ds)) ∙ fold-roll-Stmt ExprCollector Collector Collector Collector Collector FunctionCollector PropertyCollector expr_step goal_step init_step stmt_step declaration_step function_step property_step (Stmt-F.Var at ds)

pub stmt-Var : (at : At) (ds : List Declaration) (p : Context) (c : Occurrences) → stmt_occurrences (s.Var at ds) p c ≡ collect_all (map declaration_occurrences ds) p c
stmt-Var at ds p c = ap (λ x. x p c) (stmt_said-Var at ds)

stmt_said-Empty : (at : At) → stmt_occurrences (s.Empty at) ≡ stmt_step (Stmt-F.Empty at)
unfolding expr_collector goal_occurrences init_occurrences stmt_occurrences declaration_occurrences function_occurrences property_occurrences
stmt_said-Empty at = ap stmt_occurrences (sym (s.rolls-Empty at)) ∙ fold-roll-Stmt ExprCollector Collector Collector Collector Collector FunctionCollector PropertyCollector expr_step goal_step init_step stmt_step declaration_step function_step property_step (Stmt-F.Empty at)

pub stmt-Empty : (at : At) (p : Context) (c : Occurrences) → stmt_occurrences (s.Empty at) p c ≡ c
stmt-Empty at p c = ap (λ x. x p c) (stmt_said-Empty at)

stmt_said-Expression : (at : At) (value : Expr) → stmt_occurrences (s.Expression at value) ≡ stmt_step (Stmt-F.Expression at (expr_collector value))
unfolding expr_collector goal_occurrences init_occurrences stmt_occurrences declaration_occurrences function_occurrences property_occurrences
stmt_said-Expression at value = ap stmt_occurrences (sym (s.rolls-Expression at value)) ∙ fold-roll-Stmt ExprCollector Collector Collector Collector Collector FunctionCollector PropertyCollector expr_step goal_step init_step stmt_step declaration_step function_step property_step (Stmt-F.Expression at value)

pub stmt-Expression : (at : At) (value : Expr) (p : Context) (c : Occurrences) → stmt_occurrences (s.Expression at value) p c ≡ read_of value p c
stmt-Expression at value p c = ap (λ x. x p c) (stmt_said-Expression at value)

stmt_said-If : (at : At) (test : Expr) (body : Stmt) → stmt_occurrences (s.If at test body) ≡ stmt_step (Stmt-F.If at (expr_collector test) (stmt_occurrences body))
unfolding expr_collector goal_occurrences init_occurrences stmt_occurrences declaration_occurrences function_occurrences property_occurrences
stmt_said-If at test body = ap stmt_occurrences (sym (s.rolls-If at test body)) ∙ fold-roll-Stmt ExprCollector Collector Collector Collector Collector FunctionCollector PropertyCollector expr_step goal_step init_step stmt_step declaration_step function_step property_step (Stmt-F.If at test body)

pub stmt-If : (at : At) (test : Expr) (body : Stmt) (p : Context) (c : Occurrences) → stmt_occurrences (s.If at test body) p c ≡ stmt_occurrences body p (read_of test p c)
stmt-If at test body p c = ap (λ x. x p c) (stmt_said-If at test body)

stmt_said-IfElse : (at : At) (test : Expr) (body : Stmt) (other : Stmt) → stmt_occurrences (s.IfElse at test body other) ≡ stmt_step (Stmt-F.IfElse at (expr_collector test) (stmt_occurrences body) (stmt_occurrences other))
unfolding expr_collector goal_occurrences init_occurrences stmt_occurrences declaration_occurrences function_occurrences property_occurrences
stmt_said-IfElse at test body other = ap stmt_occurrences (sym (s.rolls-IfElse at test body other)) ∙ fold-roll-Stmt ExprCollector Collector Collector Collector Collector FunctionCollector PropertyCollector expr_step goal_step init_step stmt_step declaration_step function_step property_step (Stmt-F.IfElse at test body other)

pub stmt-IfElse : (at : At) (test : Expr) (body : Stmt) (other : Stmt) (p : Context) (c : Occurrences) → stmt_occurrences (s.IfElse at test body other) p c ≡ stmt_occurrences other p (stmt_occurrences body p (read_of test p c))
stmt-IfElse at test body other p c = ap (λ x. x p c) (stmt_said-IfElse at test body other)

stmt_said-DoWhile : (at : At) (body : Stmt) (test : Expr) → stmt_occurrences (s.DoWhile at body test) ≡ stmt_step (Stmt-F.DoWhile at (stmt_occurrences body) (expr_collector test))
unfolding expr_collector goal_occurrences init_occurrences stmt_occurrences declaration_occurrences function_occurrences property_occurrences
stmt_said-DoWhile at body test = ap stmt_occurrences (sym (s.rolls-DoWhile at body test)) ∙ fold-roll-Stmt ExprCollector Collector Collector Collector Collector FunctionCollector PropertyCollector expr_step goal_step init_step stmt_step declaration_step function_step property_step (Stmt-F.DoWhile at body test)

pub stmt-DoWhile : (at : At) (body : Stmt) (test : Expr) (p : Context) (c : Occurrences) → stmt_occurrences (s.DoWhile at body test) p c ≡ read_of test p (stmt_occurrences body (within_loop p) c)
stmt-DoWhile at body test p c = ap (λ x. x p c) (stmt_said-DoWhile at body test)

stmt_said-While : (at : At) (test : Expr) (body : Stmt) → stmt_occurrences (s.While at test body) ≡ stmt_step (Stmt-F.While at (expr_collector test) (stmt_occurrences body))
unfolding expr_collector goal_occurrences init_occurrences stmt_occurrences declaration_occurrences function_occurrences property_occurrences
stmt_said-While at test body = ap stmt_occurrences (sym (s.rolls-While at test body)) ∙ fold-roll-Stmt ExprCollector Collector Collector Collector Collector FunctionCollector PropertyCollector expr_step goal_step init_step stmt_step declaration_step function_step property_step (Stmt-F.While at test body)

pub stmt-While : (at : At) (test : Expr) (body : Stmt) (p : Context) (c : Occurrences) → stmt_occurrences (s.While at test body) p c ≡ stmt_occurrences body (within_loop p) (read_of test p c)
stmt-While at test body p c = ap (λ x. x p c) (stmt_said-While at test body)

stmt_said-ForIn : (at : At) (goal : Goal) (object : Expr) (body : Stmt) → stmt_occurrences (s.ForIn at goal object body) ≡ stmt_step (Stmt-F.ForIn at (goal_occurrences goal) (expr_collector object) (stmt_occurrences body))
unfolding expr_collector goal_occurrences init_occurrences stmt_occurrences declaration_occurrences function_occurrences property_occurrences
stmt_said-ForIn at goal object body = ap stmt_occurrences (sym (s.rolls-ForIn at goal object body)) ∙ fold-roll-Stmt ExprCollector Collector Collector Collector Collector FunctionCollector PropertyCollector expr_step goal_step init_step stmt_step declaration_step function_step property_step (Stmt-F.ForIn at goal object body)

pub stmt-ForIn : (at : At) (goal : Goal) (object : Expr) (body : Stmt) (p : Context) (c : Occurrences) → stmt_occurrences (s.ForIn at goal object body) p c ≡ stmt_occurrences body (within_loop p) (read_of object p (goal_occurrences goal p c))
stmt-ForIn at goal object body p c = ap (λ x. x p c) (stmt_said-ForIn at goal object body)

stmt_said-Continue : (at : At) → stmt_occurrences (s.Continue at) ≡ stmt_step (Stmt-F.Continue at)
unfolding expr_collector goal_occurrences init_occurrences stmt_occurrences declaration_occurrences function_occurrences property_occurrences
stmt_said-Continue at = ap stmt_occurrences (sym (s.rolls-Continue at)) ∙ fold-roll-Stmt ExprCollector Collector Collector Collector Collector FunctionCollector PropertyCollector expr_step goal_step init_step stmt_step declaration_step function_step property_step (Stmt-F.Continue at)

pub stmt-Continue : (at : At) (p : Context) (c : Occurrences) → stmt_occurrences (s.Continue at) p c ≡ jump_occurrences at.offset p c
stmt-Continue at p c = ap (λ x. x p c) (stmt_said-Continue at)

stmt_said-Break : (at : At) → stmt_occurrences (s.Break at) ≡ stmt_step (Stmt-F.Break at)
unfolding expr_collector goal_occurrences init_occurrences stmt_occurrences declaration_occurrences function_occurrences property_occurrences
stmt_said-Break at = ap stmt_occurrences (sym (s.rolls-Break at)) ∙ fold-roll-Stmt ExprCollector Collector Collector Collector Collector FunctionCollector PropertyCollector expr_step goal_step init_step stmt_step declaration_step function_step property_step (Stmt-F.Break at)

pub stmt-Break : (at : At) (p : Context) (c : Occurrences) → stmt_occurrences (s.Break at) p c ≡ jump_occurrences at.offset p c
stmt-Break at p c = ap (λ x. x p c) (stmt_said-Break at)

stmt_said-Return : (at : At) → stmt_occurrences (s.Return at) ≡ stmt_step (Stmt-F.Return at)
unfolding expr_collector goal_occurrences init_occurrences stmt_occurrences declaration_occurrences function_occurrences property_occurrences
stmt_said-Return at = ap stmt_occurrences (sym (s.rolls-Return at)) ∙ fold-roll-Stmt ExprCollector Collector Collector Collector Collector FunctionCollector PropertyCollector expr_step goal_step init_step stmt_step declaration_step function_step property_step (Stmt-F.Return at)

pub stmt-Return : (at : At) (p : Context) (c : Occurrences) → stmt_occurrences (s.Return at) p c ≡ c
stmt-Return at p c = ap (λ x. x p c) (stmt_said-Return at)

stmt_said-ReturnValue : (at : At) (value : Expr) → stmt_occurrences (s.ReturnValue at value) ≡ stmt_step (Stmt-F.ReturnValue at (expr_collector value))
unfolding expr_collector goal_occurrences init_occurrences stmt_occurrences declaration_occurrences function_occurrences property_occurrences
stmt_said-ReturnValue at value = ap stmt_occurrences (sym (s.rolls-ReturnValue at value)) ∙ fold-roll-Stmt ExprCollector Collector Collector Collector Collector FunctionCollector PropertyCollector expr_step goal_step init_step stmt_step declaration_step function_step property_step (Stmt-F.ReturnValue at value)

pub stmt-ReturnValue : (at : At) (value : Expr) (p : Context) (c : Occurrences) → stmt_occurrences (s.ReturnValue at value) p c ≡ read_of value p c
stmt-ReturnValue at value p c = ap (λ x. x p c) (stmt_said-ReturnValue at value)

stmt_said-Throw : (at : At) (value : Expr) → stmt_occurrences (s.Throw at value) ≡ stmt_step (Stmt-F.Throw at (expr_collector value))
unfolding expr_collector goal_occurrences init_occurrences stmt_occurrences declaration_occurrences function_occurrences property_occurrences
stmt_said-Throw at value = ap stmt_occurrences (sym (s.rolls-Throw at value)) ∙ fold-roll-Stmt ExprCollector Collector Collector Collector Collector FunctionCollector PropertyCollector expr_step goal_step init_step stmt_step declaration_step function_step property_step (Stmt-F.Throw at value)

pub stmt-Throw : (at : At) (value : Expr) (p : Context) (c : Occurrences) → stmt_occurrences (s.Throw at value) p c ≡ read_of value p c
stmt-Throw at value p c = ap (λ x. x p c) (stmt_said-Throw at value)

stmt_said-FunctionDeclaration : (f : Function) → stmt_occurrences (s.FunctionDeclaration f) ≡ stmt_step (Stmt-F.FunctionDeclaration (function_occurrences f))
unfolding expr_collector goal_occurrences init_occurrences stmt_occurrences declaration_occurrences function_occurrences property_occurrences
stmt_said-FunctionDeclaration f = ap stmt_occurrences (sym (s.rolls-FunctionDeclaration f)) ∙ fold-roll-Stmt ExprCollector Collector Collector Collector Collector FunctionCollector PropertyCollector expr_step goal_step init_step stmt_step declaration_step function_step property_step (Stmt-F.FunctionDeclaration f)

pub stmt-FunctionDeclaration : (f : Function) (p : Context) (c : Occurrences) → stmt_occurrences (s.FunctionDeclaration f) p c ≡ (function_occurrences f).declared p c
stmt-FunctionDeclaration f p c = ap (λ x. x p c) (stmt_said-FunctionDeclaration f)

stmt_said-For : (at : At) (init : Init) (test : Option Expr) (update : Option Expr) (body : Stmt) → stmt_occurrences (s.For at init test update body) ≡ stmt_step (Stmt-F.For at (init_occurrences init) (option_map expr_collector test) (option_map expr_collector update) (stmt_occurrences body))
unfolding expr_collector goal_occurrences init_occurrences stmt_occurrences declaration_occurrences function_occurrences property_occurrences
stmt_said-For at init None None body = ap stmt_occurrences (sym (s.rolls-For at init None None body)) ∙ fold-roll-Stmt ExprCollector Collector Collector Collector Collector FunctionCollector PropertyCollector expr_step goal_step init_step stmt_step declaration_step function_step property_step (Stmt-F.For at init None None body)
stmt_said-For at init None (Some y) body = ap stmt_occurrences (sym (s.rolls-For at init None (Some y) body)) ∙ fold-roll-Stmt ExprCollector Collector Collector Collector Collector FunctionCollector PropertyCollector expr_step goal_step init_step stmt_step declaration_step function_step property_step (Stmt-F.For at init None (Some y) body)
stmt_said-For at init (Some x) None body = ap stmt_occurrences (sym (s.rolls-For at init (Some x) None body)) ∙ fold-roll-Stmt ExprCollector Collector Collector Collector Collector FunctionCollector PropertyCollector expr_step goal_step init_step stmt_step declaration_step function_step property_step (Stmt-F.For at init (Some x) None body)
stmt_said-For at init (Some x) (Some y) body = ap stmt_occurrences (sym (s.rolls-For at init (Some x) (Some y) body)) ∙ fold-roll-Stmt ExprCollector Collector Collector Collector Collector FunctionCollector PropertyCollector expr_step goal_step init_step stmt_step declaration_step function_step property_step (Stmt-F.For at init (Some x) (Some y) body)

pub stmt-For : (at : At) (init : Init) (test : Option Expr) (update : Option Expr) (body : Stmt) (p : Context) (c : Occurrences) → stmt_occurrences (s.For at init test update body) p c ≡ stmt_occurrences body (within_loop p) (optional (option_map expr_collector update) p (optional (option_map expr_collector test) p (init_occurrences init p c)))
stmt-For at init test update body p c = ap (λ x. x p c) (stmt_said-For at init test update body)

init_said-Absent : init_occurrences i.Absent ≡ init_step Init-F.Absent
unfolding expr_collector goal_occurrences init_occurrences stmt_occurrences declaration_occurrences function_occurrences property_occurrences
init_said-Absent = ap init_occurrences (sym i.rolls-Absent) ∙ fold-roll-Init ExprCollector Collector Collector Collector Collector FunctionCollector PropertyCollector expr_step goal_step init_step stmt_step declaration_step function_step property_step Init-F.Absent

pub init-Absent : (p : Context) (c : Occurrences) → init_occurrences i.Absent p c ≡ c
init-Absent p c = ap (λ x. x p c) init_said-Absent

init_said-Declarations : (at : At) (ds : List Declaration) → init_occurrences (i.Declarations at ds) ≡ init_step (Init-F.Declarations at (map declaration_occurrences ds))
unfolding expr_collector goal_occurrences init_occurrences stmt_occurrences declaration_occurrences function_occurrences property_occurrences
init_said-Declarations at ds = ap init_occurrences (sym (i.rolls-Declarations at ds)) ∙ fold-roll-Init ExprCollector Collector Collector Collector Collector FunctionCollector PropertyCollector expr_step goal_step init_step stmt_step declaration_step function_step property_step (Init-F.Declarations at ds)

pub init-Declarations : (at : At) (ds : List Declaration) (p : Context) (c : Occurrences) → init_occurrences (i.Declarations at ds) p c ≡ collect_all (map declaration_occurrences ds) p c
init-Declarations at ds p c = ap (λ x. x p c) (init_said-Declarations at ds)

init_said-Initial : (value : Expr) → init_occurrences (i.Initial value) ≡ init_step (Init-F.Initial (expr_collector value))
unfolding expr_collector goal_occurrences init_occurrences stmt_occurrences declaration_occurrences function_occurrences property_occurrences
init_said-Initial value = ap init_occurrences (sym (i.rolls-Initial value)) ∙ fold-roll-Init ExprCollector Collector Collector Collector Collector FunctionCollector PropertyCollector expr_step goal_step init_step stmt_step declaration_step function_step property_step (Init-F.Initial value)

pub init-Initial : (value : Expr) (p : Context) (c : Occurrences) → init_occurrences (i.Initial value) p c ≡ read_of value p c
init-Initial value p c = ap (λ x. x p c) (init_said-Initial value)

goal_said-Variable : (at : At) (name_at : At) (name : List ℕ) → goal_occurrences (g.Variable at name_at name) ≡ goal_step (Goal-F.Variable at name_at name)
unfolding expr_collector goal_occurrences init_occurrences stmt_occurrences declaration_occurrences function_occurrences property_occurrences
goal_said-Variable at name_at name = ap goal_occurrences (sym (g.rolls-Variable at name_at name)) ∙ fold-roll-Goal ExprCollector Collector Collector Collector Collector FunctionCollector PropertyCollector expr_step goal_step init_step stmt_step declaration_step function_step property_step (Goal-F.Variable at name_at name)

pub goal-Variable : (at : At) (name_at : At) (name : List ℕ) (p : Context) (c : Occurrences) → goal_occurrences (g.Variable at name_at name) p c ≡ add r.Variable name_at.offset p.function name c
goal-Variable at name_at name p c = ap (λ x. x p c) (goal_said-Variable at name_at name)

goal_said-Target : (value : Expr) → goal_occurrences (g.Target value) ≡ goal_step (Goal-F.Target (expr_collector value))
unfolding expr_collector goal_occurrences init_occurrences stmt_occurrences declaration_occurrences function_occurrences property_occurrences
goal_said-Target value = ap goal_occurrences (sym (g.rolls-Target value)) ∙ fold-roll-Goal ExprCollector Collector Collector Collector Collector FunctionCollector PropertyCollector expr_step goal_step init_step stmt_step declaration_step function_step property_step (Goal-F.Target value)

pub goal-Target : (value : Expr) (p : Context) (c : Occurrences) → goal_occurrences (g.Target value) p c ≡ assigned_of value p c
goal-Target value p c = ap (λ x. x p c) (goal_said-Target value)

property_said : (x : Property) → property_occurrences x ≡ record { offset = x.at.offset; key = key_name x.key; value = read_of x.value }
unfolding expr_collector goal_occurrences init_occurrences stmt_occurrences declaration_occurrences function_occurrences property_occurrences
property_said x = fold_out-Property ExprCollector Collector Collector Collector Collector FunctionCollector PropertyCollector expr_step goal_step init_step stmt_step declaration_step function_step property_step x

pub property-value : (x : Property) (p : Context) (c : Occurrences) → (property_occurrences x).value p c ≡ read_of x.value p c
property-value x p c = ap (λ w. w.value p c) (property_said x)

pub property-key : (x : Property) → (property_occurrences x).key ≡ key_name x.key
property-key x = ap (λ w. w.key) (property_said x)

pub property-offset : (x : Property) → (property_occurrences x).offset ≡ x.at.offset
property-offset x = ap (λ w. w.offset) (property_said x)

function_said : (f : Function) → function_occurrences f ≡ record {
  expressed = expressed_occurrences f.name f.name_offset f.parameters f.parameter_offsets (map stmt_occurrences f.body) f.line f.offset;
  declared = declared_occurrences f.name f.name_offset f.parameters f.parameter_offsets (map stmt_occurrences f.body) f.line f.offset;
}
unfolding expr_collector goal_occurrences init_occurrences stmt_occurrences declaration_occurrences function_occurrences property_occurrences
function_said f = fold_out-Function ExprCollector Collector Collector Collector Collector FunctionCollector PropertyCollector expr_step goal_step init_step stmt_step declaration_step function_step property_step f

pub function-expressed : (f : Function) (p : Context) (c : Occurrences) → (function_occurrences f).expressed p c ≡ expressed_occurrences f.name f.name_offset f.parameters f.parameter_offsets (map stmt_occurrences f.body) f.line f.offset p c
function-expressed f p c = ap (λ w. w.expressed p c) (function_said f)

pub function-declared : (f : Function) (p : Context) (c : Occurrences) → (function_occurrences f).declared p c ≡ declared_occurrences f.name f.name_offset f.parameters f.parameter_offsets (map stmt_occurrences f.body) f.line f.offset p c
function-declared f p c = ap (λ w. w.declared p c) (function_said f)

declaration_said : (at : At) (name : List ℕ) (v : Option Expr) (p : Context) (c : Occurrences) → declaration_occurrences (record { at = at; name = name; value = v }) p c ≡ optional (option_map expr_collector v) p (add r.Variable at.offset p.function name c)
unfolding expr_collector goal_occurrences init_occurrences stmt_occurrences declaration_occurrences function_occurrences property_occurrences
declaration_said at name None p c = ap (λ w. w p c) (fold_out-Declaration ExprCollector Collector Collector Collector Collector FunctionCollector PropertyCollector expr_step goal_step init_step stmt_step declaration_step function_step property_step (record { at = at; name = name; value = None }))
declaration_said at name (Some x) p c = ap (λ w. w p c) (fold_out-Declaration ExprCollector Collector Collector Collector Collector FunctionCollector PropertyCollector expr_step goal_step init_step stmt_step declaration_step function_step property_step (record { at = at; name = name; value = Some x }))

pub declaration-is : (d : Declaration) (p : Context) (c : Occurrences) → declaration_occurrences d p c ≡ optional (option_map expr_collector d.value) p (add r.Variable d.at.offset p.function d.name c)
declaration-is d p c = declaration_said d.at d.name d.value p c

pub ruleset uses = (used-Comma, used-Assign, used-Conditional, used-Binary, used-Unary, used-Prefix, used-Postfix, used-New, used-NewWithArguments, used-Call, used-Index, used-Member, used-FunctionExpression, used-Name, used-Null, used-True, used-False, used-Numeral, used-Text, used-Paren, used-Array, used-Object)

pub ruleset statements = (stmt-Block, stmt-Var, stmt-Empty, stmt-Expression, stmt-If, stmt-IfElse, stmt-DoWhile, stmt-While, stmt-ForIn, stmt-Continue, stmt-Break, stmt-Return, stmt-ReturnValue, stmt-Throw, stmt-FunctionDeclaration, stmt-For, init-Absent, init-Declarations, init-Initial, goal-Variable, goal-Target)

pub ruleset properties = (property-value, property-key, property-offset)

pub ruleset functions = (function-expressed, function-declared)

pub ruleset declarations = (declaration-is)
