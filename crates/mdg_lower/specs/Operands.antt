-- What an expression is to the forms around it: an operand, a reference (8.7), and what it assigns.
use Rattle.std.specs.Prelude.{ℕ, Bool, true, false, ◌||◌, List, [], ◌∷◌, Option, None}
use Rattle.mdg_base.specs.declared.number.Local.{Local}
use Rattle.mdg_tree.specs.declared.tree.At.{At}
use Rattle.mdg_lower.specs.declared.scope.Scope.{Scope}
use Rattle.mdg_lower.specs.Lookup.{Name}
use Rattle.mdg_lower.specs.Builder.{Lines}

-- what an expression is as a part of others
pub record Operand : Type 0 where
  -- the name that it is
  pub name : Option Name
  -- whether it assigns a name, nested functions left out
  pub assigns : Name → Bool
  -- the lines that leave its value in %d and use no lower temporary
  pub value : Scope → ℕ → Lines

-- what an expression is as the target of an assignment or as a callee: a name, a property with a static or a computed
-- name, or something else
pub data Reference : Type 0 where
  named : At → Name → Reference
  member : Operand → Name → Reference
  keyed : Operand → Operand → Reference
  other : Reference

abbrev pub any_assigns : List Operand → Name → Bool
any_assigns [] x = false
any_assigns (e ∷ es) x = e.assigns x || any_assigns es x

abbrev pub stable_if : Bool → Option Local → Option Local
stable_if true local = None
stable_if false local = local

-- a property of an initialiser
pub record PropertyPart : Type 0 where
  pub key : Name
  pub operand : Operand

abbrev pub any_property_assigns : List PropertyPart → Name → Bool
any_property_assigns [] x = false
any_property_assigns (p ∷ ps) x = p.operand.assigns x || any_property_assigns ps x
