-- What a part of a tree is to the parts around it, through all parentheses.
use Rattle.std.specs.Prelude.{ℕ, List, Option, Some, None}
use Rattle.mdg_tree.specs.declared.tree.Expr.{Expr}
use Rattle.mdg_tree.specs.declared.tree.Key.{Key}
use Rattle.mdg_tree.specs.declared.tree.Key.TheVariants as k
use Rattle.mdg_tree.specs.declared.tree.Expr.TheOpen.{Expr-F}
use Rattle.mdg_tree.specs.declared.tree.Expr.TheFolds.{fold-Expr}

-- the name of a property: the value of a text, a numeral as it is spelled
abbrev pub key_name : Key → List ℕ
key_name (k.Name text) = text
key_name (k.Text text) = text
key_name (k.Numeral text) = text

-- An expression, seen from outside.
pub record View : Type 0 where
  -- the name that it is
  pub name : Option (List ℕ)
  -- the value of the string literal that it is
  pub string : Option (List ℕ)

abbrev pub neither : View
neither = record { name = None; string = None }

-- A name is itself, a string literal its value, and an expression in parentheses what stands in them.
abbrev pub expr_step : Expr-F View (Unit {0}) (Unit {0}) (Unit {0}) (Unit {0}) (Unit {0}) (Unit {0}) → View
expr_step (Expr-F.Name at name) = record { name = Some name; string = None }
expr_step (Expr-F.Text at text) = record { name = None; string = Some text }
expr_step (Expr-F.Paren at inner) = inner
expr_step (Expr-F.Comma at es) = neither
expr_step (Expr-F.Assign at op target value) = neither
expr_step (Expr-F.Conditional at test chosen other) = neither
expr_step (Expr-F.Binary at op left right) = neither
expr_step (Expr-F.Unary at op value) = neither
expr_step (Expr-F.Prefix at step target) = neither
expr_step (Expr-F.Postfix at step target) = neither
expr_step (Expr-F.New at callee) = neither
expr_step (Expr-F.NewWithArguments at callee es) = neither
expr_step (Expr-F.Call at callee es) = neither
expr_step (Expr-F.Index at object key) = neither
expr_step (Expr-F.Member at object name) = neither
expr_step (Expr-F.FunctionExpression f) = neither
expr_step (Expr-F.Null at) = neither
expr_step (Expr-F.True at) = neither
expr_step (Expr-F.False at) = neither
expr_step (Expr-F.Numeral at text) = neither
expr_step (Expr-F.Array at es) = neither
expr_step (Expr-F.Object at ps) = neither

unfoldable pub view : Expr → View
view = fold-Expr View (Unit {0}) (Unit {0}) (Unit {0}) (Unit {0}) (Unit {0}) (Unit {0}) expr_step (λ goal. tt) (λ init. tt) (λ stmt. tt) (λ declaration. tt) (λ function. tt) (λ property. tt)

abbrev pub name_of : Expr → Option (List ℕ)
name_of tree = (view tree).name

abbrev pub string_of : Expr → Option (List ℕ)
string_of tree = (view tree).string
