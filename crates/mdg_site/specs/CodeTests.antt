-- What the code says to the rules.
use Rattle.std.specs.Prelude.{◌≡◌, ℕ, ◌%◌, ◌==◌, ◌<◌, nat_lt, Bool, true, false, ◌||◌, ◌&&◌, not, List, length, codes, slice_get, Option, Some, None}
use Rattle.std.specs.List.{list_any}
use Rattle.std.specs.Str.{bytes_eq}
use Rattle.mdg_base.specs.declared.number.Column.{Column}
use Rattle.mdg_base.specs.declared.number.FunId.{FunId}
use Rattle.mdg_base.specs.declared.number.Local.{Local}
use Rattle.mdg_base.specs.declared.node_name.NodeName.{NodeName}
use Rattle.mdg_base.specs.declared.node_name.NodeName.TheVariants.{Src, Shared, Site as AtSite, Ext, Caller}
use Rattle.mdg_code.specs.Assignment.{assigned, written}
use Rattle.mdg_code.specs.BuiltIn.{built_in_names}
use Rattle.mdg_code.specs.CallEffect as C
use Rattle.mdg_code.specs.Columns as N
use Rattle.mdg_code.specs.Sharing.{member_of}
use Rattle.mdg_code.specs.Sites as S
use Rattle.mdg_code.specs.declared.code.FunctionRow.{FunctionRow}
use Rattle.mdg_code.specs.declared.code.SharedRow.{SharedRow}
use Rattle.mdg_code.specs.declared.statement.Statement.{Statement}
use Rattle.mdg_code.specs.declared.statement.Statement.TheVariants.{Get, GetAt, Call}
use Rattle.mdg_site.specs.declared.row.Row.{Row}
use Rattle.mdg_site.specs.declared.row.Row.TheVariants.{Loc, Cell, Field, Newer, Dep, Ret, Known, Exp, IsFunction, IsShared, Vague, Foreign}
use Rattle.mdg_site.specs.Laid.{Laid, column, function_id, parameters_in, site_count}
use Rattle.mdg_site.specs.Nodes.{shared_count}
use Rattle.mdg_site.specs.Rows.{row_number}
use Rattle.mdg_site.specs.Shapes.{shape_at}

abbrev pub is_some : {X : Type 0} → Option X → Bool
is_some None = false
is_some (Some x) = true

abbrev pub is_local : Option Local → ℕ → Bool
is_local None x = false
is_local (Some y) x = x == y.0

-- the statement gives the local a new value, or its object a new version
abbrev pub changes : Statement → ℕ → Bool
changes statement x = is_local (assigned statement) x || is_local (written statement) x

abbrev pub is_lookup : Statement → Bool
is_lookup (Get into of name q) = true
is_lookup (GetAt into of key) = true
is_lookup _ = false

abbrev pub is_call : Statement → Bool
is_call (Call into callee receiver arguments) = true
is_call _ = false

abbrev pub entry_of : Option FunctionRow → ℕ
entry_of None = 0
entry_of (Some row) = row.entry.0

-- the first site of the function
abbrev pub entry_in : Laid → ℕ → ℕ
entry_in l f = entry_of (slice_get l.code.functions f)

abbrev pub function_or_first : Option FunId → FunId
function_or_first None = function_id 0
function_or_first (Some f) = f

-- the function in which the site lies
abbrev pub function_at : Laid → ℕ → FunId
function_at l s = function_or_first (S.function_at l.code s)

abbrev pub is_active_row : Option SharedRow → Bool
is_active_row None = false
is_active_row (Some row) = C.is_active_kind row.kind

-- a call of the shared thing is active
abbrev pub is_active : Laid → ℕ → Bool
is_active l b = is_active_row (slice_get l.code.shared b)

abbrev pub hands_of_row : Option SharedRow → Bool
hands_of_row None = false
hands_of_row (Some row) = C.hands_arguments row.kind

-- a call of the shared thing may answer from its arguments
abbrev pub hands_arguments : Laid → ℕ → Bool
hands_arguments l b = hands_of_row (slice_get l.code.shared b)

-- the node is a shared thing that has a listed member of this name
abbrev pub is_listed : Laid → NodeName → List ℕ → Bool
is_listed l (Shared b) name = is_some (member_of l.code.shared b name)
is_listed l _ name = false

-- values have a property of this name from the start
abbrev pub is_built_in : List ℕ → Bool
is_built_in name = list_any (λ listed. bytes_eq listed name) built_in_names

-- the column of a property name
abbrev pub column_of : Laid → List ℕ → Column
column_of l name = column (N.column_of l.code.columns name)

abbrev pub exports_name : List ℕ
exports_name = codes "exports"

-- a write of column q leaves column r as it was: each other column, and the one that all other names share
abbrev pub is_kept : Laid → ℕ → ℕ → Bool
is_kept l q r = not (r == q) || (q == length l.code.columns)

-- the node stands for an object, which has fields
abbrev pub is_object : Laid → NodeName → Bool
is_object l (Src f i) = nat_lt i (parameters_in l f.0)
is_object l (Shared b) = nat_lt b.0 (shared_count l)
is_object l (AtSite s) = (shape_at l s.0).fields
is_object l (Ext s) = (shape_at l s.0).outside
is_object l Caller = false

abbrev pub is_shared : NodeName → Bool
is_shared (Shared b) = true
is_shared _ = false

-- an object of which outside code may make a new version: no shared thing
abbrev pub is_loose : Laid → NodeName → Bool
is_loose l n = is_object l n && not (is_shared n)

-- the row outlives a statement, and no statement has it of its own
abbrev pub outlives : Row → Bool
outlives (Loc s x) = false
outlives (Cell v) = true
outlives (Field n q) = true
outlives (Newer n) = false
outlives (Dep n) = false
outlives (Ret f) = false
outlives (Known s) = false
outlives Exp = true
outlives (IsFunction f) = true
outlives (IsShared b) = true
outlives Vague = true
outlives Foreign = true

-- the row with this number, where it is one of these
abbrev pub IsLasting : Laid → ℕ → Option Row → Type 0
IsLasting l r None = (row : Row) → row_number l row ≡ Some r → outlives row ≡ false
IsLasting l r (Some row) = (row_number l row ≡ Some r) × (outlives row ≡ true)

abbrev pub is_at : ℕ → ℕ → Option ℕ → Bool
is_at sites s None = false
is_at sites s (Some r) = (r % sites) == s

-- the row belongs to the site by its number: the remainder of the number by the sites
abbrev pub is_owner : Laid → ℕ → Row → Bool
is_owner l s row = is_at (site_count l) s (row_number l row)
