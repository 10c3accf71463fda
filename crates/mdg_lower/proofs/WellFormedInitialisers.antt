-- Lists of parts are well-formed if the parts are.
use Rattle.std.specs.Prelude.{ℕ, ◌+◌, List, [], ◌∷◌}
use Rattle.std.specs.Fmt.{decimal}
use Rattle.mdg_tree.specs.declared.tree.At.{At}
use Rattle.mdg_lower.specs.declared.scope.Scope.{Scope}
use Rattle.mdg_lower.specs.Lookup.{temp}
use Rattle.mdg_lower.specs.Operands.{Operand, PropertyPart}
use Rattle.mdg_lower.specs.Initialisers.{comma, element, elements, array, property_of, properties, initialiser}
use Rattle.mdg_lower.specs.WellFormed.{Counts, WellFormedLines, ScopeFits}
use Rattle.mdg_lower.proofs.WellFormedJoins.{well_formed_nothing, well_formed_then}
use Rattle.mdg_lower.proofs.WellFormedInstructions.{WellFormedOperand, WellFormedOperands, well_formed_set_to, well_formed_object}

-- the value of each of these properties is well-formed
abbrev pub WellFormedProperties : Counts → Scope → List PropertyPart → Type 0
WellFormedProperties n scope [] = Unit {0}
WellFormedProperties n scope (p ∷ ps) = WellFormedOperand n scope p.operand × WellFormedProperties n scope ps

module _ (n : Counts) (scope : Scope) (fits : ScopeFits n scope) where
  -- a, b
  pub well_formed_comma : (es : List Operand) (d : ℕ) → WellFormedOperands n scope es → WellFormedLines n scope (comma scope es d)
  unfolding comma
  well_formed_comma [] d are = well_formed_nothing n scope
  well_formed_comma (e ∷ es) d are = well_formed_then n scope _ _ (are.0 d) (well_formed_comma es d are.1)

  -- an element of an array
  pub well_formed_element : (at : At) (e : Operand) (i d : ℕ) → WellFormedOperand n scope e → WellFormedLines n scope (element scope at e i d)
  unfolding element
  well_formed_element at e i d is = well_formed_then n scope _ _ (is (d + 1)) (well_formed_set_to n scope fits at (temp scope d) (decimal i) (temp scope (d + 1)))

  -- the elements of an array from number i on
  pub well_formed_elements : (at : At) (es : List Operand) (i d : ℕ) → WellFormedOperands n scope es → WellFormedLines n scope (elements scope at es i d)
  unfolding elements
  well_formed_elements at [] i d are = well_formed_nothing n scope
  well_formed_elements at (e ∷ es) i d are = well_formed_then n scope _ _ (well_formed_element at e i d are.0) (well_formed_elements at es (i + 1) d are.1)

  -- [e, ..]
  pub well_formed_array : (at : At) (es : List Operand) (d : ℕ) → WellFormedOperands n scope es → WellFormedLines n scope (array scope at es d)
  unfolding array
  well_formed_array at es d are = well_formed_then n scope _ _ (well_formed_object n scope fits at d) (well_formed_elements at es 0 d are)

  -- p: e
  pub well_formed_property_of : (at : At) (p : PropertyPart) (d : ℕ) → WellFormedOperand n scope p.operand → WellFormedLines n scope (property_of scope at p d)
  unfolding property_of
  well_formed_property_of at p d is = well_formed_then n scope _ _ (is (d + 1)) (well_formed_set_to n scope fits at (temp scope d) p.key (temp scope (d + 1)))

  -- the properties of an initialiser
  pub well_formed_properties : (at : At) (ps : List PropertyPart) (d : ℕ) → WellFormedProperties n scope ps → WellFormedLines n scope (properties scope at ps d)
  unfolding properties
  well_formed_properties at [] d are = well_formed_nothing n scope
  well_formed_properties at (p ∷ ps) d are = well_formed_then n scope _ _ (well_formed_property_of at p d are.0) (well_formed_properties at ps d are.1)

  -- { p: e, .. }
  pub well_formed_initialiser : (at : At) (ps : List PropertyPart) (d : ℕ) → WellFormedProperties n scope ps → WellFormedLines n scope (initialiser scope at ps d)
  unfolding initialiser
  well_formed_initialiser at ps d are = well_formed_then n scope _ _ (well_formed_object n scope fits at d) (well_formed_properties at ps d are)
