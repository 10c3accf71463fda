-- Lists of expressions: commas (11.14) and initialisers (11.1.4, 11.1.5).
use Rattle.std.specs.Prelude.{ℕ, ◌+◌, List, [], ◌∷◌}
use Rattle.std.specs.Fmt.{decimal}
use Rattle.mdg_tree.specs.declared.tree.At.{At}
use Rattle.mdg_lower.specs.declared.scope.Scope.{Scope}
use Rattle.mdg_lower.specs.Lookup.{temp}
use Rattle.mdg_lower.specs.Builder.{Lines, ◌>>◌, nothing}
use Rattle.mdg_lower.specs.Operands.{Operand, PropertyPart}
use Rattle.mdg_lower.specs.Instructions.{object, set_to}

module _ (scope : Scope) where
  -- a, b
  unfoldable pub comma : List Operand → ℕ → Lines
  comma [] d = nothing
  comma (e ∷ es) d = do
    e.value scope d
    comma es d

  -- an element of an array, which is the property of its number
  unfoldable pub element : At → Operand → ℕ → ℕ → Lines
  element at e i d = do
    e.value scope (d + 1)
    set_to scope at (temp scope d) (decimal i) (temp scope (d + 1))

  -- the elements of an array from number i on, which are properties of %d
  unfoldable pub elements : At → List Operand → ℕ → ℕ → Lines
  elements at [] i d = nothing
  elements at (e ∷ es) i d = do
    element at e i d
    elements at es (i + 1) d

  -- [e, ..]
  unfoldable pub array : At → List Operand → ℕ → Lines
  array at es d = do
    object scope at d
    elements at es 0 d

  -- p: e, a property of %d
  unfoldable pub property_of : At → PropertyPart → ℕ → Lines
  property_of at p d = do
    p.operand.value scope (d + 1)
    set_to scope at (temp scope d) p.key (temp scope (d + 1))

  unfoldable pub properties : At → List PropertyPart → ℕ → Lines
  properties at [] d = nothing
  properties at (p ∷ ps) d = do
    property_of at p d
    properties at ps d

  -- { p: e, .. }
  unfoldable pub initialiser : At → List PropertyPart → ℕ → Lines
  initialiser at ps d = do
    object scope at d
    properties at ps d
