-- What a name means in a function.
use Rattle.std.specs.Prelude.{ℕ, zero, suc, ◌+◌, Bool, ◌||◌, if◌then◌else◌, List, length, slice_get, Option, Some, None, codes}
use Rattle.std.specs.Str.{bytes_eq}
use Rattle.mdg_base.specs.declared.number.Local.{Local}
use Rattle.mdg_base.specs.declared.number.FunId.{FunId}
use Rattle.mdg_scope.specs.Names.{has_name, place_of}
use Rattle.mdg_scope.specs.Resolution.{is_literal}
use Rattle.mdg_lower.specs.declared.scope.Bindings.{Bindings}
use Rattle.mdg_lower.specs.declared.scope.Meaning.{Meaning}
use Rattle.mdg_lower.specs.declared.scope.Meaning.TheVariants as m
use Rattle.mdg_lower.specs.declared.scope.Scope.{Scope}
use Rattle.mdg_lower.specs.declared.scope.Dependency.{Dependency}
use Rattle.mdg_lower.specs.Offsets.{place_of_offset}

abbrev pub Name : Type 0
Name = List ℕ

-- the name means the function itself
abbrev pub is_own : Bindings → Name → Bool
is_own bindings name = has_name bindings.own name

abbrev pub cell_with : Bindings → Name → Option ℕ → Option Meaning
cell_with bindings name None = None
cell_with bindings name (Some i) = Some (m.Cell (record { 0 = bindings.first_cell + i }) (is_own bindings name))

-- the cell of the function that has this name
abbrev pub cell_in : Bindings → Name → Option Meaning
cell_in bindings name = cell_with bindings name (place_of bindings.cells name)

abbrev pub local_with : Bindings → Name → Option ℕ → Option Meaning
local_with bindings name None = None
local_with bindings name (Some i) = Some (m.Local (record { 0 = i }) (is_own bindings name))

-- the local of the function that has this name
abbrev pub local_in : Bindings → Name → Option Meaning
local_in bindings name = local_with bindings name (place_of bindings.locals name)

abbrev pub or_else : Option Meaning → Option Meaning → Option Meaning
or_else None other = other
or_else (Some meaning) other = Some meaning

abbrev pub enclosing_by : Option Bindings → Name → (Option ℕ → Option Meaning) → Option Meaning
enclosing_by None name further = None
enclosing_by (Some bindings) name further = or_else (cell_in bindings name) (further bindings.parent)

abbrev pub bindings_at : List Bindings → Option ℕ → Option Bindings
bindings_at all_bindings None = None
bindings_at all_bindings (Some function) = slice_get all_bindings function

-- the cell with this name of a function, or of one around it; each time one function outwards
unfoldable pub enclosing_cell : List Bindings → ℕ → Option ℕ → Name → Option Meaning
enclosing_cell all_bindings zero function name = None
enclosing_cell all_bindings (suc steps) function name =
    enclosing_by (bindings_at all_bindings function) name (λ parent. enclosing_cell all_bindings steps parent name)

-- what the innermost binding around gives
abbrev pub bound_by : List Bindings → Option Bindings → Name → Option Meaning
bound_by all_bindings None name = None
bound_by all_bindings (Some bindings) name =
    or_else (cell_in bindings name) (or_else (local_in bindings name) (enclosing_cell all_bindings (length all_bindings) bindings.parent name))

-- what a name means that nothing around binds
abbrev pub free_meaning : List Name → Name → Meaning
free_meaning globals name =
    if bytes_eq name (codes "require") then m.Require
    else (if is_literal name then m.Literal else (if has_name globals name then m.Global else m.Nothing))

abbrev pub meaning_by : List Name → Name → Option Meaning → Meaning
meaning_by globals name None = free_meaning globals name
meaning_by globals name (Some meaning) = meaning

unfoldable pub meaning : Scope → Name → Meaning
meaning scope name =
    meaning_by scope.globals name (bound_by scope.all_bindings (slice_get scope.all_bindings scope.number) name)

-- the local that a name is
abbrev pub local_of : Meaning → Option Local
local_of (m.Local local own) = Some local
local_of _ = None

-- the temporary %d
unfoldable pub temp : Scope → ℕ → Local
temp scope d = record { 0 = scope.temporaries + d }

abbrev pub function_number : ℕ → Option ℕ → ℕ
function_number first None = first
function_number first (Some i) = first + i

-- the function whose keyword stands at this offset
unfoldable pub function_at : Scope → ℕ → FunId
function_at scope offset = record { 0 = function_number scope.first_function (place_of_offset scope.functions offset) }

abbrev pub loop_number : ℕ → Option ℕ → ℕ
loop_number first None = first
loop_number first (Some i) = first + i

-- the local of the `for` with `in` that stands at this offset
unfoldable pub loop_at : Scope → ℕ → Local
loop_at scope offset = record { 0 = loop_number scope.first_loop (place_of_offset scope.loops offset) }

abbrev pub dependency_by : List Dependency → Option ℕ → Option Dependency
dependency_by dependencies None = None
dependency_by dependencies (Some i) = slice_get dependencies i

-- what the call asks for whose name `require` stands at this offset
unfoldable pub dependency_at : Scope → ℕ → Option Dependency
dependency_at scope offset = dependency_by scope.dependencies (place_of_offset scope.required offset)
