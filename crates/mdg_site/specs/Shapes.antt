-- Which nodes and rows a statement has of its own.
use Rattle.std.specs.Prelude.{ℕ, ◌+◌, Bool, true, false, Option, Some, None}
use Rattle.mdg_code.specs.Nodes.{has_site_node, has_outside_node, has_fields}
use Rattle.mdg_code.specs.declared.statement.Statement.{Statement}
use Rattle.mdg_code.specs.declared.statement.Statement.TheVariants.{Op, Call}
use Rattle.mdg_site.specs.declared.shape.Shape.{Shape}
use Rattle.mdg_site.specs.Laid.{Laid, statement_at}

-- a row for what goes into it: operators and calls
abbrev pub has_known : Statement → Bool
has_known (Op into of) = true
has_known (Call into callee receiver arguments) = true
has_known _ = false

abbrev pub shape_of : Statement → Shape
shape_of statement = record {
  own = has_site_node statement;
  outside = has_outside_node statement;
  fields = has_fields statement;
  known = has_known statement;
}

abbrev pub shape_at : Laid → ℕ → Shape
shape_at l s = shape_of (statement_at l s)

abbrev pub one_if : Bool → ℕ
one_if true = 1
one_if false = 0

-- of two things that may be there, the first one's number among those that are
abbrev pub first_of : Bool → Option ℕ
first_of true = Some 0
first_of false = None

-- and the second one's
abbrev pub second_of : Bool → Bool → Option ℕ
second_of first true = Some (one_if first)
second_of first false = None

-- how many of the two are there
abbrev pub pair_size : Bool → Bool → ℕ
pair_size first second = one_if first + one_if second
