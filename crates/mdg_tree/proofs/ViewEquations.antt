-- What each form is to the parts around it.
use Rattle.std.proofs.Common.{◌≡◌, ℕ, List, sym, ap, ◌∙◌}
use Rattle.std.specs.Prelude.{Some, None}
use Rattle.mdg_tree.specs.declared.tree.Expr.{Expr}
use Rattle.mdg_tree.specs.declared.tree.Function.{Function}
use Rattle.mdg_tree.specs.declared.tree.Property.{Property}
use Rattle.mdg_tree.specs.declared.tree.Expr.TheVariants as e
use Rattle.mdg_tree.specs.declared.tree.Expr.TheOpen.{Expr-F}
use Rattle.mdg_tree.specs.declared.tree.Expr.TheFolds.{fold-roll-Expr}
use Rattle.mdg_tree.specs.Views.{View, neither, expr_step, view, name_of, string_of}

view-Comma : (at : _) (es : List Expr) → view (e.Comma at es) ≡ neither
unfolding view
view-Comma at es = ap view (sym (e.rolls-Comma at es)) ∙ fold-roll-Expr View (Unit {0}) (Unit {0}) (Unit {0}) (Unit {0}) (Unit {0}) (Unit {0}) expr_step (λ goal. tt) (λ init. tt) (λ stmt. tt) (λ declaration. tt) (λ function. tt) (λ property. tt) (Expr-F.Comma at es)

pub name-Comma : (at : _) (es : List Expr) → name_of (e.Comma at es) ≡ None
name-Comma at es = ap (λ x. x.name) (view-Comma at es)

pub string-Comma : (at : _) (es : List Expr) → string_of (e.Comma at es) ≡ None
string-Comma at es = ap (λ x. x.string) (view-Comma at es)

view-Assign : (at : _) (op : _) (target : Expr) (value : Expr) → view (e.Assign at op target value) ≡ neither
unfolding view
view-Assign at op target value = ap view (sym (e.rolls-Assign at op target value)) ∙ fold-roll-Expr View (Unit {0}) (Unit {0}) (Unit {0}) (Unit {0}) (Unit {0}) (Unit {0}) expr_step (λ goal. tt) (λ init. tt) (λ stmt. tt) (λ declaration. tt) (λ function. tt) (λ property. tt) (Expr-F.Assign at op target value)

pub name-Assign : (at : _) (op : _) (target : Expr) (value : Expr) → name_of (e.Assign at op target value) ≡ None
name-Assign at op target value = ap (λ x. x.name) (view-Assign at op target value)

pub string-Assign : (at : _) (op : _) (target : Expr) (value : Expr) → string_of (e.Assign at op target value) ≡ None
string-Assign at op target value = ap (λ x. x.string) (view-Assign at op target value)

view-Conditional : (at : _) (test : Expr) (chosen : Expr) (other : Expr) → view (e.Conditional at test chosen other) ≡ neither
unfolding view
view-Conditional at test chosen other = ap view (sym (e.rolls-Conditional at test chosen other)) ∙ fold-roll-Expr View (Unit {0}) (Unit {0}) (Unit {0}) (Unit {0}) (Unit {0}) (Unit {0}) expr_step (λ goal. tt) (λ init. tt) (λ stmt. tt) (λ declaration. tt) (λ function. tt) (λ property. tt) (Expr-F.Conditional at test chosen other)

pub name-Conditional : (at : _) (test : Expr) (chosen : Expr) (other : Expr) → name_of (e.Conditional at test chosen other) ≡ None
name-Conditional at test chosen other = ap (λ x. x.name) (view-Conditional at test chosen other)

pub string-Conditional : (at : _) (test : Expr) (chosen : Expr) (other : Expr) → string_of (e.Conditional at test chosen other) ≡ None
string-Conditional at test chosen other = ap (λ x. x.string) (view-Conditional at test chosen other)

view-Binary : (at : _) (op : _) (left : Expr) (right : Expr) → view (e.Binary at op left right) ≡ neither
unfolding view
view-Binary at op left right = ap view (sym (e.rolls-Binary at op left right)) ∙ fold-roll-Expr View (Unit {0}) (Unit {0}) (Unit {0}) (Unit {0}) (Unit {0}) (Unit {0}) expr_step (λ goal. tt) (λ init. tt) (λ stmt. tt) (λ declaration. tt) (λ function. tt) (λ property. tt) (Expr-F.Binary at op left right)

pub name-Binary : (at : _) (op : _) (left : Expr) (right : Expr) → name_of (e.Binary at op left right) ≡ None
name-Binary at op left right = ap (λ x. x.name) (view-Binary at op left right)

pub string-Binary : (at : _) (op : _) (left : Expr) (right : Expr) → string_of (e.Binary at op left right) ≡ None
string-Binary at op left right = ap (λ x. x.string) (view-Binary at op left right)

view-Unary : (at : _) (op : _) (value : Expr) → view (e.Unary at op value) ≡ neither
unfolding view
view-Unary at op value = ap view (sym (e.rolls-Unary at op value)) ∙ fold-roll-Expr View (Unit {0}) (Unit {0}) (Unit {0}) (Unit {0}) (Unit {0}) (Unit {0}) expr_step (λ goal. tt) (λ init. tt) (λ stmt. tt) (λ declaration. tt) (λ function. tt) (λ property. tt) (Expr-F.Unary at op value)

pub name-Unary : (at : _) (op : _) (value : Expr) → name_of (e.Unary at op value) ≡ None
name-Unary at op value = ap (λ x. x.name) (view-Unary at op value)

pub string-Unary : (at : _) (op : _) (value : Expr) → string_of (e.Unary at op value) ≡ None
string-Unary at op value = ap (λ x. x.string) (view-Unary at op value)

view-Prefix : (at : _) (step : _) (target : Expr) → view (e.Prefix at step target) ≡ neither
unfolding view
view-Prefix at step target = ap view (sym (e.rolls-Prefix at step target)) ∙ fold-roll-Expr View (Unit {0}) (Unit {0}) (Unit {0}) (Unit {0}) (Unit {0}) (Unit {0}) expr_step (λ goal. tt) (λ init. tt) (λ stmt. tt) (λ declaration. tt) (λ function. tt) (λ property. tt) (Expr-F.Prefix at step target)

pub name-Prefix : (at : _) (step : _) (target : Expr) → name_of (e.Prefix at step target) ≡ None
name-Prefix at step target = ap (λ x. x.name) (view-Prefix at step target)

pub string-Prefix : (at : _) (step : _) (target : Expr) → string_of (e.Prefix at step target) ≡ None
string-Prefix at step target = ap (λ x. x.string) (view-Prefix at step target)

view-Postfix : (at : _) (step : _) (target : Expr) → view (e.Postfix at step target) ≡ neither
unfolding view
view-Postfix at step target = ap view (sym (e.rolls-Postfix at step target)) ∙ fold-roll-Expr View (Unit {0}) (Unit {0}) (Unit {0}) (Unit {0}) (Unit {0}) (Unit {0}) expr_step (λ goal. tt) (λ init. tt) (λ stmt. tt) (λ declaration. tt) (λ function. tt) (λ property. tt) (Expr-F.Postfix at step target)

pub name-Postfix : (at : _) (step : _) (target : Expr) → name_of (e.Postfix at step target) ≡ None
name-Postfix at step target = ap (λ x. x.name) (view-Postfix at step target)

pub string-Postfix : (at : _) (step : _) (target : Expr) → string_of (e.Postfix at step target) ≡ None
string-Postfix at step target = ap (λ x. x.string) (view-Postfix at step target)

view-New : (at : _) (callee : Expr) → view (e.New at callee) ≡ neither
unfolding view
view-New at callee = ap view (sym (e.rolls-New at callee)) ∙ fold-roll-Expr View (Unit {0}) (Unit {0}) (Unit {0}) (Unit {0}) (Unit {0}) (Unit {0}) expr_step (λ goal. tt) (λ init. tt) (λ stmt. tt) (λ declaration. tt) (λ function. tt) (λ property. tt) (Expr-F.New at callee)

pub name-New : (at : _) (callee : Expr) → name_of (e.New at callee) ≡ None
name-New at callee = ap (λ x. x.name) (view-New at callee)

pub string-New : (at : _) (callee : Expr) → string_of (e.New at callee) ≡ None
string-New at callee = ap (λ x. x.string) (view-New at callee)

view-NewWithArguments : (at : _) (callee : Expr) (es : List Expr) → view (e.NewWithArguments at callee es) ≡ neither
unfolding view
view-NewWithArguments at callee es = ap view (sym (e.rolls-NewWithArguments at callee es)) ∙ fold-roll-Expr View (Unit {0}) (Unit {0}) (Unit {0}) (Unit {0}) (Unit {0}) (Unit {0}) expr_step (λ goal. tt) (λ init. tt) (λ stmt. tt) (λ declaration. tt) (λ function. tt) (λ property. tt) (Expr-F.NewWithArguments at callee es)

pub name-NewWithArguments : (at : _) (callee : Expr) (es : List Expr) → name_of (e.NewWithArguments at callee es) ≡ None
name-NewWithArguments at callee es = ap (λ x. x.name) (view-NewWithArguments at callee es)

pub string-NewWithArguments : (at : _) (callee : Expr) (es : List Expr) → string_of (e.NewWithArguments at callee es) ≡ None
string-NewWithArguments at callee es = ap (λ x. x.string) (view-NewWithArguments at callee es)

view-Call : (at : _) (callee : Expr) (es : List Expr) → view (e.Call at callee es) ≡ neither
unfolding view
view-Call at callee es = ap view (sym (e.rolls-Call at callee es)) ∙ fold-roll-Expr View (Unit {0}) (Unit {0}) (Unit {0}) (Unit {0}) (Unit {0}) (Unit {0}) expr_step (λ goal. tt) (λ init. tt) (λ stmt. tt) (λ declaration. tt) (λ function. tt) (λ property. tt) (Expr-F.Call at callee es)

pub name-Call : (at : _) (callee : Expr) (es : List Expr) → name_of (e.Call at callee es) ≡ None
name-Call at callee es = ap (λ x. x.name) (view-Call at callee es)

pub string-Call : (at : _) (callee : Expr) (es : List Expr) → string_of (e.Call at callee es) ≡ None
string-Call at callee es = ap (λ x. x.string) (view-Call at callee es)

view-Index : (at : _) (object : Expr) (key : Expr) → view (e.Index at object key) ≡ neither
unfolding view
view-Index at object key = ap view (sym (e.rolls-Index at object key)) ∙ fold-roll-Expr View (Unit {0}) (Unit {0}) (Unit {0}) (Unit {0}) (Unit {0}) (Unit {0}) expr_step (λ goal. tt) (λ init. tt) (λ stmt. tt) (λ declaration. tt) (λ function. tt) (λ property. tt) (Expr-F.Index at object key)

pub name-Index : (at : _) (object : Expr) (key : Expr) → name_of (e.Index at object key) ≡ None
name-Index at object key = ap (λ x. x.name) (view-Index at object key)

pub string-Index : (at : _) (object : Expr) (key : Expr) → string_of (e.Index at object key) ≡ None
string-Index at object key = ap (λ x. x.string) (view-Index at object key)

view-Member : (at : _) (object : Expr) (name : List ℕ) → view (e.Member at object name) ≡ neither
unfolding view
view-Member at object name = ap view (sym (e.rolls-Member at object name)) ∙ fold-roll-Expr View (Unit {0}) (Unit {0}) (Unit {0}) (Unit {0}) (Unit {0}) (Unit {0}) expr_step (λ goal. tt) (λ init. tt) (λ stmt. tt) (λ declaration. tt) (λ function. tt) (λ property. tt) (Expr-F.Member at object name)

pub name-Member : (at : _) (object : Expr) (name : List ℕ) → name_of (e.Member at object name) ≡ None
name-Member at object name = ap (λ x. x.name) (view-Member at object name)

pub string-Member : (at : _) (object : Expr) (name : List ℕ) → string_of (e.Member at object name) ≡ None
string-Member at object name = ap (λ x. x.string) (view-Member at object name)

view-FunctionExpression : (f : Function) → view (e.FunctionExpression f) ≡ neither
unfolding view
view-FunctionExpression f = ap view (sym (e.rolls-FunctionExpression f)) ∙ fold-roll-Expr View (Unit {0}) (Unit {0}) (Unit {0}) (Unit {0}) (Unit {0}) (Unit {0}) expr_step (λ goal. tt) (λ init. tt) (λ stmt. tt) (λ declaration. tt) (λ function. tt) (λ property. tt) (Expr-F.FunctionExpression f)

pub name-FunctionExpression : (f : Function) → name_of (e.FunctionExpression f) ≡ None
name-FunctionExpression f = ap (λ x. x.name) (view-FunctionExpression f)

pub string-FunctionExpression : (f : Function) → string_of (e.FunctionExpression f) ≡ None
string-FunctionExpression f = ap (λ x. x.string) (view-FunctionExpression f)

view-Name : (at : _) (name : List ℕ) → view (e.Name at name) ≡ record { name = Some name; string = None }
unfolding view
view-Name at name = ap view (sym (e.rolls-Name at name)) ∙ fold-roll-Expr View (Unit {0}) (Unit {0}) (Unit {0}) (Unit {0}) (Unit {0}) (Unit {0}) expr_step (λ goal. tt) (λ init. tt) (λ stmt. tt) (λ declaration. tt) (λ function. tt) (λ property. tt) (Expr-F.Name at name)

pub name-Name : (at : _) (name : List ℕ) → name_of (e.Name at name) ≡ Some name
name-Name at name = ap (λ x. x.name) (view-Name at name)

pub string-Name : (at : _) (name : List ℕ) → string_of (e.Name at name) ≡ None
string-Name at name = ap (λ x. x.string) (view-Name at name)

view-Null : (at : _) → view (e.Null at) ≡ neither
unfolding view
view-Null at = ap view (sym (e.rolls-Null at)) ∙ fold-roll-Expr View (Unit {0}) (Unit {0}) (Unit {0}) (Unit {0}) (Unit {0}) (Unit {0}) expr_step (λ goal. tt) (λ init. tt) (λ stmt. tt) (λ declaration. tt) (λ function. tt) (λ property. tt) (Expr-F.Null at)

pub name-Null : (at : _) → name_of (e.Null at) ≡ None
name-Null at = ap (λ x. x.name) (view-Null at)

pub string-Null : (at : _) → string_of (e.Null at) ≡ None
string-Null at = ap (λ x. x.string) (view-Null at)

view-True : (at : _) → view (e.True at) ≡ neither
unfolding view
view-True at = ap view (sym (e.rolls-True at)) ∙ fold-roll-Expr View (Unit {0}) (Unit {0}) (Unit {0}) (Unit {0}) (Unit {0}) (Unit {0}) expr_step (λ goal. tt) (λ init. tt) (λ stmt. tt) (λ declaration. tt) (λ function. tt) (λ property. tt) (Expr-F.True at)

pub name-True : (at : _) → name_of (e.True at) ≡ None
name-True at = ap (λ x. x.name) (view-True at)

pub string-True : (at : _) → string_of (e.True at) ≡ None
string-True at = ap (λ x. x.string) (view-True at)

view-False : (at : _) → view (e.False at) ≡ neither
unfolding view
view-False at = ap view (sym (e.rolls-False at)) ∙ fold-roll-Expr View (Unit {0}) (Unit {0}) (Unit {0}) (Unit {0}) (Unit {0}) (Unit {0}) expr_step (λ goal. tt) (λ init. tt) (λ stmt. tt) (λ declaration. tt) (λ function. tt) (λ property. tt) (Expr-F.False at)

pub name-False : (at : _) → name_of (e.False at) ≡ None
name-False at = ap (λ x. x.name) (view-False at)

pub string-False : (at : _) → string_of (e.False at) ≡ None
string-False at = ap (λ x. x.string) (view-False at)

view-Numeral : (at : _) (text : List ℕ) → view (e.Numeral at text) ≡ neither
unfolding view
view-Numeral at text = ap view (sym (e.rolls-Numeral at text)) ∙ fold-roll-Expr View (Unit {0}) (Unit {0}) (Unit {0}) (Unit {0}) (Unit {0}) (Unit {0}) expr_step (λ goal. tt) (λ init. tt) (λ stmt. tt) (λ declaration. tt) (λ function. tt) (λ property. tt) (Expr-F.Numeral at text)

pub name-Numeral : (at : _) (text : List ℕ) → name_of (e.Numeral at text) ≡ None
name-Numeral at text = ap (λ x. x.name) (view-Numeral at text)

pub string-Numeral : (at : _) (text : List ℕ) → string_of (e.Numeral at text) ≡ None
string-Numeral at text = ap (λ x. x.string) (view-Numeral at text)

view-Text : (at : _) (text : List ℕ) → view (e.Text at text) ≡ record { name = None; string = Some text }
unfolding view
view-Text at text = ap view (sym (e.rolls-Text at text)) ∙ fold-roll-Expr View (Unit {0}) (Unit {0}) (Unit {0}) (Unit {0}) (Unit {0}) (Unit {0}) expr_step (λ goal. tt) (λ init. tt) (λ stmt. tt) (λ declaration. tt) (λ function. tt) (λ property. tt) (Expr-F.Text at text)

pub name-Text : (at : _) (text : List ℕ) → name_of (e.Text at text) ≡ None
name-Text at text = ap (λ x. x.name) (view-Text at text)

pub string-Text : (at : _) (text : List ℕ) → string_of (e.Text at text) ≡ Some text
string-Text at text = ap (λ x. x.string) (view-Text at text)

view-Paren : (at : _) (inner : Expr) → view (e.Paren at inner) ≡ view inner
unfolding view
view-Paren at inner = ap view (sym (e.rolls-Paren at inner)) ∙ fold-roll-Expr View (Unit {0}) (Unit {0}) (Unit {0}) (Unit {0}) (Unit {0}) (Unit {0}) expr_step (λ goal. tt) (λ init. tt) (λ stmt. tt) (λ declaration. tt) (λ function. tt) (λ property. tt) (Expr-F.Paren at inner)

pub name-Paren : (at : _) (inner : Expr) → name_of (e.Paren at inner) ≡ name_of inner
name-Paren at inner = ap (λ x. x.name) (view-Paren at inner)

pub string-Paren : (at : _) (inner : Expr) → string_of (e.Paren at inner) ≡ string_of inner
string-Paren at inner = ap (λ x. x.string) (view-Paren at inner)

view-Array : (at : _) (es : List Expr) → view (e.Array at es) ≡ neither
unfolding view
view-Array at es = ap view (sym (e.rolls-Array at es)) ∙ fold-roll-Expr View (Unit {0}) (Unit {0}) (Unit {0}) (Unit {0}) (Unit {0}) (Unit {0}) expr_step (λ goal. tt) (λ init. tt) (λ stmt. tt) (λ declaration. tt) (λ function. tt) (λ property. tt) (Expr-F.Array at es)

pub name-Array : (at : _) (es : List Expr) → name_of (e.Array at es) ≡ None
name-Array at es = ap (λ x. x.name) (view-Array at es)

pub string-Array : (at : _) (es : List Expr) → string_of (e.Array at es) ≡ None
string-Array at es = ap (λ x. x.string) (view-Array at es)

view-Object : (at : _) (ps : List Property) → view (e.Object at ps) ≡ neither
unfolding view
view-Object at ps = ap view (sym (e.rolls-Object at ps)) ∙ fold-roll-Expr View (Unit {0}) (Unit {0}) (Unit {0}) (Unit {0}) (Unit {0}) (Unit {0}) expr_step (λ goal. tt) (λ init. tt) (λ stmt. tt) (λ declaration. tt) (λ function. tt) (λ property. tt) (Expr-F.Object at ps)

pub name-Object : (at : _) (ps : List Property) → name_of (e.Object at ps) ≡ None
name-Object at ps = ap (λ x. x.name) (view-Object at ps)

pub string-Object : (at : _) (ps : List Property) → string_of (e.Object at ps) ≡ None
string-Object at ps = ap (λ x. x.string) (view-Object at ps)

pub ruleset names = (name-Comma, name-Assign, name-Conditional, name-Binary, name-Unary, name-Prefix, name-Postfix, name-New, name-NewWithArguments, name-Call, name-Index, name-Member, name-FunctionExpression, name-Name, name-Null, name-True, name-False, name-Numeral, name-Text, name-Paren, name-Array, name-Object)

pub ruleset strings = (string-Comma, string-Assign, string-Conditional, string-Binary, string-Unary, string-Prefix, string-Postfix, string-New, string-NewWithArguments, string-Call, string-Index, string-Member, string-FunctionExpression, string-Name, string-Null, string-True, string-False, string-Numeral, string-Text, string-Paren, string-Array, string-Object)
