-- The greatest local that drafts name.
use Rattle.std.specs.Prelude.{ℕ, ◌+◌, max, List, [], ◌∷◌, Option, Some, None}
use Rattle.mdg_base.specs.declared.number.Local.{Local}
use Rattle.mdg_code.specs.declared.statement.Statement.{Statement}
use Rattle.mdg_code.specs.declared.statement.Statement.TheVariants.{Literal, Copy, Op, Object, Function, Own, Shared, Get, GetAt, Set, SetAt, Cell, SetCell, Branch, Call, Land, Return, Load, Throw}
use Rattle.mdg_lower.specs.declared.draft.Draft.{Draft}
use Rattle.mdg_lower.specs.declared.draft.Draft.TheVariants as d
use Rattle.mdg_lower.specs.declared.draft.DraftLine.{DraftLine}

-- how many locals there must be for this one
abbrev pub size_for : Local → ℕ
size_for local = local.0 + 1

-- how many there must be for these, and at least so many
abbrev pub size_for_all : ℕ → List Local → ℕ
size_for_all least [] = least
size_for_all least (local ∷ locals) = size_for_all (max least (size_for local)) locals

abbrev pub size_for_receiver : Option Local → ℕ
size_for_receiver None = 0
size_for_receiver (Some local) = size_for local

-- how many locals there must be for those that the statement names
abbrev pub size_for_statement : Statement → ℕ
size_for_statement (Literal into text) = size_for into
size_for_statement (Copy into of) = max (size_for into) (size_for of)
size_for_statement (Op into of) = size_for_all (size_for into) of
size_for_statement (Object into) = size_for into
size_for_statement (Function into function) = size_for into
size_for_statement (Own into) = size_for into
size_for_statement (Shared into shared) = size_for into
size_for_statement (Get into of name column) = max (size_for into) (size_for of)
size_for_statement (GetAt into of key) = max (size_for into) (max (size_for of) (size_for key))
size_for_statement (Set of name column value) = max (size_for of) (size_for value)
size_for_statement (SetAt of key value) = max (size_for of) (max (size_for key) (size_for value))
size_for_statement (Cell into cell) = size_for into
size_for_statement (SetCell cell value) = size_for value
size_for_statement (Branch left right) = 0
size_for_statement (Call into callee receiver arguments) =
    size_for_all (max (size_for into) (max (size_for callee) (size_for_receiver receiver))) arguments
size_for_statement Land = 0
size_for_statement (Return value) = size_for value
size_for_statement (Load file) = 0
size_for_statement (Throw value) = size_for value

abbrev pub size_for_draft : Draft → ℕ
size_for_draft (d.Complete statement) = size_for_statement statement
size_for_draft (d.Get into of name) = max (size_for into) (size_for of)
size_for_draft (d.Set of name value) = max (size_for of) (size_for value)
size_for_draft (d.Shared into home name) = size_for into
size_for_draft (d.Branch left right) = 0

-- how many locals there must be for those that the lines name, and at least so many
abbrev pub size_for_lines : ℕ → List DraftLine → ℕ
size_for_lines least [] = least
size_for_lines least (line ∷ lines) = size_for_lines (max least (size_for_draft line.draft)) lines
