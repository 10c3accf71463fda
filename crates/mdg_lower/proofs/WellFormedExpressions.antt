-- The lines of an expression's value are well-formed, by induction over the expression.
use Rattle.std.specs.Prelude.{◌≡◌, ℕ, List, [], ◌∷◌, map, Option, Some, None}
use Rattle.std.proofs.Common.{sym, subst}
use Rattle.mdg_tree.specs.declared.tree.At.{At}
use Rattle.mdg_tree.specs.declared.tree.Expr.{Expr}
use Rattle.mdg_tree.specs.declared.tree.Goal.{Goal}
use Rattle.mdg_tree.specs.declared.tree.Init.{Init}
use Rattle.mdg_tree.specs.declared.tree.Stmt.{Stmt}
use Rattle.mdg_tree.specs.declared.tree.Declaration.{Declaration}
use Rattle.mdg_tree.specs.declared.tree.Function.{Function}
use Rattle.mdg_tree.specs.declared.tree.Property.{Property}
use Rattle.mdg_tree.specs.declared.tree.Expr.TheVariants as e
use Rattle.mdg_tree.specs.declared.tree.Expr.TheOpen.{Expr-F, Property-F}
use Rattle.mdg_tree.specs.declared.tree.Expr.TheViews.{roll-Expr, roll-Property}
use Rattle.mdg_tree.specs.declared.tree.Expr.TheFolds.{ind-Expr, map-Expr, map-Property}
use Rattle.mdg_lower.specs.declared.scope.Scope.{Scope}
use Rattle.mdg_lower.specs.Lookup.{Name}
use Rattle.mdg_lower.specs.Builder.{Lines}
use Rattle.mdg_lower.specs.Operands.{Operand, Reference}
use Rattle.mdg_lower.specs.Forms as forms
use Rattle.mdg_lower.specs.Trees as l
use Rattle.mdg_lower.proofs.FormEquations as equations
use Rattle.mdg_lower.specs.WellFormed.{Counts, WellFormedLines, ScopeFits}
use Rattle.mdg_lower.proofs.WellFormedInstructions as r
use Rattle.mdg_lower.proofs.WellFormedCalls as c
use Rattle.mdg_lower.proofs.WellFormedAssignments as a
use Rattle.mdg_lower.proofs.WellFormedUpdates as s
use Rattle.mdg_lower.proofs.WellFormedOperators as o
use Rattle.mdg_lower.proofs.WellFormedInitialisers as ls

-- the expression's value and the parts of its reference are well-formed
pub record WellFormedExpr (n : Counts) (scope : Scope) (t : Expr) : Type 0 where
  pub value : (d : ℕ) → WellFormedLines n scope (l.value_of t scope d)
  pub reference : r.WellFormedReference n scope (l.reference_of t)

-- the property's value is well-formed
abbrev pub WellFormedProperty : Counts → Scope → Property → Type 0
WellFormedProperty n scope p = r.WellFormedOperand n scope (l.property_part p).operand

module _ (n : Counts) (scope : Scope) (fits : ScopeFits n scope) where
  -- an expression of which it is shown
  abbrev ShownExpr : Type 0
  ShownExpr = (t : Expr) × WellFormedExpr n scope t

  -- a property of which it is shown
  abbrev ShownProperty : Type 0
  ShownProperty = (p : Property) × WellFormedProperty n scope p

  -- the values of these expressions are well-formed
  shown_plains : (ts : List ShownExpr) → r.WellFormedOperands n scope (l.operands_of (map (λ t. t.0) ts))
  shown_plains [] = tt
  shown_plains (t ∷ ts) = (t.1.value, shown_plains ts)

  -- the values of these properties are well-formed
  shown_properties : (ps : List ShownProperty) → ls.WellFormedProperties n scope (map l.property_part (map (λ p. p.0) ps))
  shown_properties [] = tt
  shown_properties (p ∷ ps) = (p.1, shown_properties ps)

  -- an expression whose value and root are these
  shown : (t made : Expr) (code : ℕ → Lines) (reference : Reference) → t ≡ made → ((d : ℕ) → l.value_of made scope d ≡ code d) → l.reference_of made ≡ reference
      → ((d : ℕ) → WellFormedLines n scope (code d)) → r.WellFormedReference n scope reference → WellFormedExpr n scope t
  shown t made code reference is value_is root_is value_well_formed root_well_formed = subst (WellFormedExpr n scope) (sym is) (record {
    value = λ d. subst (WellFormedLines n scope) (sym (value_is d)) (value_well_formed d);
    reference = subst (r.WellFormedReference n scope) (sym root_is) root_well_formed;
  })

  -- e[k], whose key may be a spelled property name
  index_well_formed : (at : At) (key_name : Option Name) (object key : Operand) (d : ℕ) → r.WellFormedOperand n scope object → r.WellFormedOperand n scope key
      → WellFormedLines n scope (forms.index_value scope at key_name object key d)
  index_well_formed at None object key d is key_is = c.well_formed_get_at n scope fits at object key d is key_is
  index_well_formed at (Some p) object key d is key_is = c.well_formed_get n scope fits at object p d is

  -- its reference
  index_reference_well_formed : (key_name : Option Name) (object key : Operand) → r.WellFormedOperand n scope object → r.WellFormedOperand n scope key
      → r.WellFormedReference n scope (forms.index_reference key_name object key)
  index_reference_well_formed None object key is key_is = (is, key_is)
  index_reference_well_formed (Some p) object key is key_is = is

  -- one layer of an expression, with what is shown of each part
  abbrev Layer : Type 0
  Layer = Expr-F ShownExpr ((t : Goal) × Unit {0}) ((t : Init) × Unit {0}) ((t : Stmt) × Unit {0}) ((t : Declaration) × Unit {0}) ((t : Function) × Unit {0}) ShownProperty

  -- the layer without what is shown of its parts
  abbrev bare : Layer → Expr-F Expr Goal Init Stmt Declaration Function Property
  bare = map-Expr ShownExpr ((t : Goal) × Unit {0}) ((t : Init) × Unit {0}) ((t : Stmt) × Unit {0}) ((t : Declaration) × Unit {0}) ((t : Function) × Unit {0}) ShownProperty
      Expr Goal Init Stmt Declaration Function Property (λ t. t.0) (λ t. t.0) (λ t. t.0) (λ t. t.0) (λ t. t.0) (λ t. t.0) (λ p. p.0)

  -- an expression is well-formed where its parts are
  layer : (y : Layer) → WellFormedExpr n scope (roll-Expr (bare y))
  layer (Expr-F.Comma at es) = shown _ _ _ _
      (e.rolls-Comma at (map (λ t. t.0) es)) (equations.value-Comma at (map (λ t. t.0) es) scope) (equations.reference-Comma at (map (λ t. t.0) es))
      (λ d. ls.well_formed_comma n scope fits (l.operands_of (map (λ t. t.0) es)) d (shown_plains es)) tt
  layer (Expr-F.Assign at op target value) = shown _ _ _ _
      (e.rolls-Assign at op target.0 value.0) (equations.value-Assign at op target.0 value.0 scope) (equations.reference-Assign at op target.0 value.0)
      (λ d. a.well_formed_assigned_with n scope fits at op _ (l.operand_of value.0) d target.1.reference value.1.value) tt
  layer (Expr-F.Conditional at test chosen otherwise) = shown _ _ _ _
      (e.rolls-Conditional at test.0 chosen.0 otherwise.0) (equations.value-Conditional at test.0 chosen.0 otherwise.0 scope) (equations.reference-Conditional at test.0 chosen.0 otherwise.0)
      (λ d. o.well_formed_conditional n scope fits at (l.operand_of test.0) (l.operand_of chosen.0) (l.operand_of otherwise.0) d test.1.value chosen.1.value otherwise.1.value) tt
  layer (Expr-F.Binary at op left right) = shown _ _ _ _
      (e.rolls-Binary at op left.0 right.0) (equations.value-Binary at op left.0 right.0 scope) (equations.reference-Binary at op left.0 right.0)
      (λ d. o.well_formed_binary_of n scope fits at op (l.operand_of left.0) (l.operand_of right.0) d left.1.value right.1.value) tt
  layer (Expr-F.Unary at op value) = shown _ _ _ _
      (e.rolls-Unary at op value.0) (equations.value-Unary at op value.0 scope) (equations.reference-Unary at op value.0)
      (λ d. o.well_formed_unary_of n scope fits at op _ (l.operand_of value.0) d value.1.reference value.1.value) tt
  layer (Expr-F.Prefix at step target) = shown _ _ _ _
      (e.rolls-Prefix at step target.0) (equations.value-Prefix at step target.0 scope) (equations.reference-Prefix at step target.0)
      (λ d. s.well_formed_prefix_of n scope fits at _ (l.operand_of target.0) d target.1.reference target.1.value) tt
  layer (Expr-F.Postfix at step target) = shown _ _ _ _
      (e.rolls-Postfix at step target.0) (equations.value-Postfix at step target.0 scope) (equations.reference-Postfix at step target.0)
      (λ d. s.well_formed_postfix_of n scope fits at _ (l.operand_of target.0) d target.1.reference target.1.value) tt
  layer (Expr-F.New at callee) = shown _ _ _ _
      (e.rolls-New at callee.0) (equations.value-New at callee.0 scope) (equations.reference-New at callee.0)
      (λ d. c.well_formed_plain_call n scope fits at (l.operand_of callee.0) [] d callee.1.value tt) tt
  layer (Expr-F.NewWithArguments at callee es) = shown _ _ _ _
      (e.rolls-NewWithArguments at callee.0 (map (λ t. t.0) es)) (equations.value-NewWithArguments at callee.0 (map (λ t. t.0) es) scope) (equations.reference-NewWithArguments at callee.0 (map (λ t. t.0) es))
      (λ d. c.well_formed_plain_call n scope fits at (l.operand_of callee.0) (l.operands_of (map (λ t. t.0) es)) d callee.1.value (shown_plains es)) tt
  layer (Expr-F.Call at callee es) = shown _ _ _ _
      (e.rolls-Call at callee.0 (map (λ t. t.0) es)) (equations.value-Call at callee.0 (map (λ t. t.0) es) scope) (equations.reference-Call at callee.0 (map (λ t. t.0) es))
      (λ d. c.well_formed_call_of n scope fits at _ (l.operand_of callee.0) (l.operands_of (map (λ t. t.0) es)) d callee.1.reference callee.1.value (shown_plains es)) tt
  layer (Expr-F.Index at object key) = shown _ _ _ _
      (e.rolls-Index at object.0 key.0) (equations.value-Index at object.0 key.0 scope) (equations.reference-Index at object.0 key.0)
      (λ d. index_well_formed at (l.key_of key.0) (l.operand_of object.0) (l.operand_of key.0) d object.1.value key.1.value) (index_reference_well_formed (l.key_of key.0) (l.operand_of object.0) (l.operand_of key.0) object.1.value key.1.value)
  layer (Expr-F.Member at object name) = shown _ _ _ _
      (e.rolls-Member at object.0 name) (equations.value-Member at object.0 name scope) (equations.reference-Member at object.0 name)
      (λ d. c.well_formed_get n scope fits at (l.operand_of object.0) name d object.1.value) object.1.value
  layer (Expr-F.FunctionExpression f) = shown _ _ _ _
      (e.rolls-FunctionExpression f.0) (equations.value-FunctionExpression f.0 scope) (equations.reference-FunctionExpression f.0)
      (λ d. r.well_formed_function_value n scope fits _ _ d) tt
  layer (Expr-F.Name at name) = shown _ _ _ _
      (e.rolls-Name at name) (equations.value-Name at name scope) (equations.reference-Name at name)
      (λ d. r.well_formed_load n scope fits at name d) tt
  layer (Expr-F.Null at) = shown _ _ _ _
      (e.rolls-Null at) (equations.value-Null at scope) (equations.reference-Null at)
      (λ d. r.well_formed_literal n scope fits at _ d) tt
  layer (Expr-F.True at) = shown _ _ _ _
      (e.rolls-True at) (equations.value-True at scope) (equations.reference-True at)
      (λ d. r.well_formed_literal n scope fits at _ d) tt
  layer (Expr-F.False at) = shown _ _ _ _
      (e.rolls-False at) (equations.value-False at scope) (equations.reference-False at)
      (λ d. r.well_formed_literal n scope fits at _ d) tt
  layer (Expr-F.Numeral at text) = shown _ _ _ _
      (e.rolls-Numeral at text) (equations.value-Numeral at text scope) (equations.reference-Numeral at text)
      (λ d. r.well_formed_literal n scope fits at _ d) tt
  layer (Expr-F.Text at text) = shown _ _ _ _
      (e.rolls-Text at text) (equations.value-Text at text scope) (equations.reference-Text at text)
      (λ d. r.well_formed_literal n scope fits at _ d) tt
  layer (Expr-F.Paren at inner) = shown _ _ _ _
      (e.rolls-Paren at inner.0) (equations.value-Paren at inner.0 scope) (equations.reference-Paren at inner.0)
      (λ d. inner.1.value d) inner.1.reference
  layer (Expr-F.Array at es) = shown _ _ _ _
      (e.rolls-Array at (map (λ t. t.0) es)) (equations.value-Array at (map (λ t. t.0) es) scope) (equations.reference-Array at (map (λ t. t.0) es))
      (λ d. ls.well_formed_array n scope fits at (l.operands_of (map (λ t. t.0) es)) d (shown_plains es)) tt
  layer (Expr-F.Object at ps) = shown _ _ _ _
      (e.rolls-Object at (map (λ p. p.0) ps)) (equations.value-Object at (map (λ p. p.0) ps) scope) (equations.reference-Object at (map (λ p. p.0) ps))
      (λ d. ls.well_formed_initialiser n scope fits at _ d (shown_properties ps)) tt

  -- one layer of a property
  abbrev PropertyLayer : Type 0
  PropertyLayer = Property-F ShownExpr ((t : Goal) × Unit {0}) ((t : Init) × Unit {0}) ((t : Stmt) × Unit {0}) ((t : Declaration) × Unit {0}) ((t : Function) × Unit {0}) ShownProperty

  -- the layer without what is shown of its value
  abbrev bare_property : PropertyLayer → Property-F Expr Goal Init Stmt Declaration Function Property
  bare_property = map-Property ShownExpr ((t : Goal) × Unit {0}) ((t : Init) × Unit {0}) ((t : Stmt) × Unit {0}) ((t : Declaration) × Unit {0}) ((t : Function) × Unit {0}) ShownProperty
      Expr Goal Init Stmt Declaration Function Property (λ t. t.0) (λ t. t.0) (λ t. t.0) (λ t. t.0) (λ t. t.0) (λ t. t.0) (λ p. p.0)

  -- a property is well-formed where its value is
  property_layer : (y : PropertyLayer) → WellFormedProperty n scope (roll-Property (bare_property y))
  property_layer y = subst (r.WellFormedOperand n scope) (sym (equations.property-operand (roll-Property (bare_property y)))) y.value.1.value

  -- of each expression
  pub well_formed_expr : (t : Expr) → WellFormedExpr n scope t
  well_formed_expr = ind-Expr (WellFormedExpr n scope) (λ t. Unit {0}) (λ t. Unit {0}) (λ t. Unit {0}) (λ t. Unit {0}) (λ t. Unit {0}) (WellFormedProperty n scope)
      (λ x y is. subst (λ z. WellFormedExpr n scope (roll-Expr z)) is (layer y))
      (λ x y is. tt) (λ x y is. tt) (λ x y is. tt) (λ x y is. tt) (λ x y is. tt)
      (λ x y is. subst (λ z. WellFormedProperty n scope (roll-Property z)) is (property_layer y))

  -- the lines of an expression's value are well-formed
  pub well_formed_value : (t : Expr) (d : ℕ) → WellFormedLines n scope (l.value_of t scope d)
  well_formed_value t = (well_formed_expr t).value

  -- and so are the parts of its reference
  pub well_formed_root : (t : Expr) → r.WellFormedReference n scope (l.reference_of t)
  well_formed_root t = (well_formed_expr t).reference
