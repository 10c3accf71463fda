-- Which nodes of the graph a statement has.
use Rattle.std.specs.Prelude.{Bool, true, false}
use Rattle.mdg_code.specs.declared.statement.Statement.{Statement}
use Rattle.mdg_code.specs.declared.statement.Statement.TheVariants.{Op, Object, Function, Get, GetAt, Set, SetAt, Call}

-- a node for what the statement itself makes, finds or computes
abbrev pub has_site_node : Statement → Bool
has_site_node (Op into of) = true
has_site_node (Object into) = true
has_site_node (Function into function) = true
has_site_node (Get into of name column) = true
has_site_node (GetAt into of key) = true
has_site_node (Set of name column value) = true
has_site_node (SetAt of key value) = true
has_site_node (Call into callee receiver arguments) = true
has_site_node _ = false

-- a node for what outside code hands back at the statement: lookups and calls
abbrev pub has_outside_node : Statement → Bool
has_outside_node (Get into of name column) = true
has_outside_node (GetAt into of key) = true
has_outside_node (Call into callee receiver arguments) = true
has_outside_node _ = false

-- the statement's own node stands for an object, so it has fields: all but those of operators and lookups
abbrev pub has_fields : Statement → Bool
has_fields (Op into of) = false
has_fields (Get into of name column) = false
has_fields (GetAt into of key) = false
has_fields statement = has_site_node statement
