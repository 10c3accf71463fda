-- Which local a statement assigns, and which it writes to.
use Rattle.std.specs.Prelude.{Option, Some, None}
use Rattle.mdg_base.specs.declared.number.Local.{Local}
use Rattle.mdg_code.specs.declared.statement.Statement.{Statement}
use Rattle.mdg_code.specs.declared.statement.Statement.TheVariants.{Literal, Copy, Op, Object, Function, Own, Shared, Get, GetAt, Set, SetAt, Cell, Call}

-- the local that gets a new value. A call assigns its local at its land.
abbrev pub assigned : Statement → Option Local
assigned (Literal into text) = Some into
assigned (Copy into of) = Some into
assigned (Op into of) = Some into
assigned (Object into) = Some into
assigned (Function into function) = Some into
assigned (Own into) = Some into
assigned (Shared into shared) = Some into
assigned (Get into of name column) = Some into
assigned (GetAt into of key) = Some into
assigned (Cell into cell) = Some into
assigned (Call into callee receiver arguments) = Some into
assigned _ = None

-- the local of the object one of whose properties gets a new value
abbrev pub written : Statement → Option Local
written (Set of name column value) = Some of
written (SetAt of key value) = Some of
written _ = None
