-- The rules of a statement, case by case. In each s is the site, and t the one after it.
use Rattle.std.specs.Prelude.{ℕ, ◌+◌, not, nat_lt, List, length, slice_get, Option, Some, None}
use Rattle.mdg_base.specs.declared.number.CellId.{CellId}
use Rattle.mdg_base.specs.declared.number.Column.{Column}
use Rattle.mdg_base.specs.declared.number.FunId.{FunId}
use Rattle.mdg_base.specs.declared.number.Local.{Local}
use Rattle.mdg_base.specs.declared.number.SharedId.{SharedId}
use Rattle.mdg_base.specs.declared.number.Site.{Site}
use Rattle.mdg_base.specs.declared.node_name.NodeName.{NodeName}
use Rattle.mdg_base.specs.declared.node_name.NodeName.TheVariants.{Src, Shared, Site as AtSite, Ext, Caller}
use Rattle.mdg_code.specs.Successors.{next_of}
use Rattle.mdg_code.specs.declared.statement.Statement.{Statement}
use Rattle.mdg_site.specs.declared.row.Row.{Row}
use Rattle.mdg_site.specs.declared.row.Row.TheVariants.{Loc, Cell, Field, Newer, Dep, Ret, Known, Exp, IsFunction, IsShared, Vague, Foreign}
use Rattle.mdg_site.specs.CodeTests.{changes, entry_in, function_at, is_built_in, is_kept, is_listed}
use Rattle.mdg_site.specs.Laid.{Laid, column, function_id, local, locals_at, parameters_in, site}
use Rattle.mdg_site.specs.Rows.{column_count}
use Rattle.mdg_site.specs.Rule.{Rule, nothing, puts, flow, each, upto, rows, under, both, for_some, meeting, standing, static}

-- the local before the site
abbrev pub here : ℕ → Local → Row
here s x = Loc (site s) x

-- the local before the site after it
abbrev pub next : ℕ → Local → Row
next s x = Loc (site (s + 1)) x

-- the statement's own node
abbrev pub own_node : ℕ → NodeName
own_node s = AtSite (site s)

-- the node for what outside code hands back at it
abbrev pub outside_node : ℕ → NodeName
outside_node s = Ext (site s)

-- all fields of the node into the row
abbrev pub fields_into : Laid → Row → NodeName → Rule
fields_into l into n = upto (column_count l) (λ q. flow (Field n (column q)) into)

-- the statement's own node depends on each node of the row
abbrev pub depends : ℕ → Row → Rule
depends s of = each of (λ n. puts (Dep n) (own_node s))

-- carry: a local that the statement leaves alone, to a site at which a run goes on
abbrev pub carry_local : Statement → ℕ → Site → ℕ → Rule
carry_local statement s t x = under (static (not (changes statement x))) (flow (here s (local x)) (Loc t (local x)))

abbrev pub carry_to : Laid → Statement → ℕ → Option Site → Rule
carry_to l statement s target = for_some target (λ t. upto (locals_at l s) (carry_local statement s t))

abbrev pub carry_next : Laid → Statement → ℕ → Rule
carry_next l statement s = carry_to l statement s (next_of (site s) statement).first

abbrev pub carry_other : Laid → Statement → ℕ → Rule
carry_other l statement s = carry_to l statement s (next_of (site s) statement).second

-- copy: `x = y`
abbrev pub copy_value : ℕ → Local → Local → Rule
copy_value s into of = flow (here s of) (next s into)

-- operator: an operand goes into it
abbrev pub operator_operand_at : ℕ → List Local → ℕ → Rule
operator_operand_at s of i = for_some (slice_get of i) (λ y. flow (here s y) (Known (site s)))

abbrev pub operator_operand : ℕ → List Local → Rule
operator_operand s of = upto (length of) (operator_operand_at s of)

-- operator: and so do the fields of what goes into it
abbrev pub operator_fields : Laid → ℕ → Rule
operator_fields l s = each (Known (site s)) (fields_into l (Known (site s)))

-- operator: the result depends on all of it
abbrev pub operator_depends : ℕ → Rule
operator_depends s = depends s (Known (site s))

-- operator: the result
abbrev pub operator_result : ℕ → Local → Rule
operator_result s into = puts (next s into) (own_node s)

-- allocation: an object or a function
abbrev pub allocation_result : ℕ → Local → Rule
allocation_result s into = puts (next s into) (own_node s)

-- allocation: the object of a function
abbrev pub allocation_function : ℕ → FunId → Rule
allocation_function s f = puts (IsFunction f) (own_node s)

-- shared: a shared thing into the local
abbrev pub shared_result : ℕ → Local → SharedId → Rule
shared_result s into b = flow (IsShared b) (next s into)

-- own: the running function's object into the local
abbrev pub own_result : Laid → ℕ → Local → Rule
own_result l s into = flow (IsFunction (function_at l s)) (next s into)

-- cell: what it holds into the local
abbrev pub cell_read : ℕ → Local → CellId → Rule
cell_read s into v = flow (Cell v) (next s into)

-- cell: the local into it
abbrev pub cell_set : ℕ → CellId → Local → Rule
cell_set s v value = flow (here s value) (Cell v)

-- lookup: the lookup's own node
abbrev pub lookup_result : ℕ → Local → Rule
lookup_result s into = puts (next s into) (own_node s)

-- lookup: which depends on the receiver
abbrev pub lookup_depends : ℕ → Local → Rule
lookup_depends s of = depends s (here s of)

-- lookup: what the property holds
abbrev pub lookup_field : ℕ → Local → Local → Column → Rule
lookup_field s into of q = each (here s of) (λ n. flow (Field n q) (next s into))

-- where a node of the row may have properties of which nothing is known, and isn't a shared thing that lists the name
abbrev pub where_vague : Laid → Row → List ℕ → (NodeName → Rule) → Rule
where_vague l of name f = each of (λ n. under (standing Vague n) (under (static (not (is_listed l n name))) (f n)))

-- lookup: what outside code may have put into a vague receiver
abbrev pub lookup_vague : Laid → ℕ → Local → Local → List ℕ → Rule
lookup_vague l s into of name = where_vague l (here s of) name (λ n. puts (next s into) (outside_node s))

-- lookup: a vague receiver keeps what was found: the lookup's node
abbrev pub lookup_keeps_own : Laid → ℕ → Local → List ℕ → Column → Rule
lookup_keeps_own l s of name q = where_vague l (here s of) name (λ n. puts (Field n q) (own_node s))

-- lookup: and what outside code handed back
abbrev pub lookup_keeps_outside : Laid → ℕ → Local → List ℕ → Column → Rule
lookup_keeps_outside l s of name q = where_vague l (here s of) name (λ n. puts (Field n q) (outside_node s))

-- lookup: a name that values have from the start
abbrev pub lookup_built_in : ℕ → Local → List ℕ → Rule
lookup_built_in s into name = under (static (is_built_in name)) (puts (next s into) (outside_node s))

-- computed lookup: the lookup's own node
abbrev pub computed_lookup_result : ℕ → Local → Rule
computed_lookup_result s into = puts (next s into) (own_node s)

-- computed lookup: the name may be one that values have from the start
abbrev pub computed_lookup_outside : ℕ → Local → Rule
computed_lookup_outside s into = puts (next s into) (outside_node s)

-- computed lookup: it depends on the receiver
abbrev pub computed_lookup_depends : ℕ → Local → Rule
computed_lookup_depends s of = depends s (here s of)

-- computed lookup: and on the key
abbrev pub computed_lookup_key : ℕ → Local → Rule
computed_lookup_key s key = depends s (here s key)

-- computed lookup: what any property holds
abbrev pub computed_lookup_field : Laid → ℕ → Local → Local → Rule
computed_lookup_field l s into of = each (here s of) (fields_into l (next s into))

-- for each column of each node of the row that may have properties of which nothing is known
abbrev pub each_vague_column : Laid → Row → (NodeName → ℕ → Rule) → Rule
each_vague_column l of f = each of (λ n. under (standing Vague n) (upto (column_count l) (f n)))

-- computed lookup: a vague receiver keeps what was found, in each property
abbrev pub computed_lookup_keeps_own : Laid → ℕ → Local → Rule
computed_lookup_keeps_own l s of = each_vague_column l (here s of) (λ n q. puts (Field n (column q)) (own_node s))

-- computed lookup: and what outside code handed back
abbrev pub computed_lookup_keeps_outside : Laid → ℕ → Local → Rule
computed_lookup_keeps_outside l s of = each_vague_column l (here s of) (λ n q. puts (Field n (column q)) (outside_node s))

-- write: it makes a new version of the object
abbrev pub write_newer : ℕ → Local → Rule
write_newer s of = each (here s of) (λ n. puts (Newer n) (own_node s))

-- write: which the local stands for from here on
abbrev pub write_object : ℕ → Local → Rule
write_object s of = each (here s of) (λ n. puts (next s of) (own_node s))

-- write: the version has the other properties of the object
abbrev pub write_keeps_column : Laid → ℕ → Column → NodeName → ℕ → Rule
write_keeps_column l s q n r = under (static (is_kept l q.0 r)) (flow (Field n (column r)) (Field (own_node s) (column r)))

abbrev pub write_keeps_at : Laid → ℕ → Column → NodeName → Rule
write_keeps_at l s q n = upto (column_count l) (write_keeps_column l s q n)

abbrev pub write_keeps : Laid → ℕ → Local → Column → Rule
write_keeps l s of q = each (here s of) (write_keeps_at l s q)

-- write: another local may stand for the same object
abbrev pub write_alias_at : ℕ → Local → ℕ → Rule
write_alias_at s of x = under (meeting (here s (local x)) (here s of)) (puts (next s (local x)) (own_node s))

abbrev pub write_alias : Laid → ℕ → Local → Rule
write_alias l s of = upto (locals_at l s) (write_alias_at s of)

-- write: the value, as it stands after the write, is in the property
abbrev pub write_value : ℕ → Local → Column → Rule
write_value s value q = flow (next s value) (Field (own_node s) q)

-- computed write: a new version of the object
abbrev pub computed_write_newer : ℕ → Local → Rule
computed_write_newer s of = write_newer s of

-- computed write: which the local stands for from here on
abbrev pub computed_write_object : ℕ → Local → Rule
computed_write_object s of = write_object s of

-- computed write: the version may have each property of the object
abbrev pub computed_write_keeps_at : Laid → ℕ → NodeName → Rule
computed_write_keeps_at l s n = upto (column_count l) (λ r. flow (Field n (column r)) (Field (own_node s) (column r)))

abbrev pub computed_write_keeps : Laid → ℕ → Local → Rule
computed_write_keeps l s of = each (here s of) (computed_write_keeps_at l s)

-- computed write: another local may stand for the same object
abbrev pub computed_write_alias : Laid → ℕ → Local → Rule
computed_write_alias l s of = write_alias l s of

-- computed write: the value may be in each property
abbrev pub computed_write_value : Laid → ℕ → Local → Rule
computed_write_value l s value = upto (column_count l) (λ q. flow (next s value) (Field (own_node s) (column q)))

-- computed write: the version depends on the key
abbrev pub computed_write_key : ℕ → Local → Rule
computed_write_key s key = depends s (here s key)

-- call: an argument into the parameter of a function of the package
abbrev pub call_argument_at : Laid → ℕ → List Local → ℕ → ℕ → Rule
call_argument_at l s arguments f i = under (static (nat_lt i (parameters_in l f)))
    (for_some (slice_get arguments i) (λ x. flow (here s x) (Loc (site (entry_in l f)) (local i))))

abbrev pub call_argument : Laid → ℕ → List Local → ℕ → Rule
call_argument l s arguments f = upto (length arguments) (call_argument_at l s arguments f)

-- call: what the function returns into the result
abbrev pub call_result : ℕ → Local → ℕ → Rule
call_result s into f = flow (Ret (function_id f)) (next s into)

-- where the callee may be the function
abbrev pub call_of : Laid → ℕ → Local → Local → List Local → ℕ → Rule
call_of l s into callee arguments f = under (meeting (here s callee) (IsFunction (function_id f)))
    (both (call_argument l s arguments f) (call_result s into f))

abbrev pub call : Laid → ℕ → Local → Local → List Local → Rule
call l s into callee arguments = upto (length l.code.functions) (call_of l s into callee arguments)

-- return: the value into what the function returns
abbrev pub return_value : Laid → ℕ → Local → Rule
return_value l s value = flow (here s value) (Ret (function_at l s))
