-- The functions of a file with their names, and its requires.
use Rattle.std.specs.Prelude.{ℕ, ◌+◌, ◌==◌, Bool, true, false, ◌&&◌, not, List, [], ◌∷◌, ◌++◌, map, filter, Option, Some, None, if◌then◌else◌}
use Rattle.mdg_tree.specs.declared.tree.At.{At}
use Rattle.mdg_scope.specs.declared.occurrence.Occurrence.{Occurrence}
use Rattle.mdg_scope.specs.declared.occurrence.Head.{Head}
use Rattle.mdg_scope.specs.declared.occurrence.OccurrenceKind.{OccurrenceKind}
use Rattle.mdg_scope.specs.declared.occurrence.OccurrenceKind.TheVariants as r
use Rattle.mdg_scope.specs.declared.resolution.Resolution.{Resolution}
use Rattle.mdg_scope.specs.declared.resolution.Resolution.TheVariants as s
use Rattle.mdg_scope.specs.declared.resolution.Scopes.{Scopes}
use Rattle.mdg_scope.specs.declared.function.Filter.{Filter}
use Rattle.mdg_scope.specs.declared.function.Filter.TheVariants as filters
use Rattle.mdg_scope.specs.declared.function.Uses.{Uses}
use Rattle.mdg_scope.specs.declared.bound.BoundFunction.{BoundFunction}
use Rattle.mdg_scope.specs.declared.bound.Require.{Require}
use Rattle.mdg_scope.specs.declared.bound.Goal.TheVariants as goal
use Rattle.mdg_scope.specs.declared.require_target.RequireTarget.{RequireTarget}
use Rattle.mdg_scope.specs.declared.require_target.RequireTarget.TheVariants as a
use Rattle.mdg_scope.specs.Names.{ScopedName, has_named, add_named}
use Rattle.mdg_scope.specs.Resolution.{is_own, is_use, resolution}
use Rattle.mdg_scope.specs.RequireTargets.{target_of}
use Rattle.mdg_scope.specs.Violations.{is_require}

-- it binds a name or uses it
abbrev pub is_naming : OccurrenceKind → Bool
is_naming r.Given = true
is_naming r.Parameter = true
is_naming r.RepeatedParameter = true
is_naming r.Variable = true
is_naming r.Declared = true
is_naming r.Own = true
is_naming r.Read = true
is_naming r.Assigned = true
is_naming r.TypeOperand = true
is_naming (r.Called callee) = true
is_naming _ = false

-- A function expression's name where the function binds that name otherwise: its token neither binds nor means that binding (13).
abbrev pub is_overridden : Scopes → Occurrence → Bool
is_overridden t w = is_own w.kind && has_named t.bindings (w.within, w.name)

-- it is an appearance of what its name means
abbrev pub is_appearance : Scopes → Occurrence → Bool
is_appearance t w = is_naming w.kind && not (is_overridden t w)

-- Which occurrences pass: all appearances; those of them in a nested function; those that use a name.
abbrev pub passes : Filter → Scopes → Occurrence → ℕ → Bool
passes filters.Any t w function = is_appearance t w
passes filters.Nested t w function = is_appearance t w && not (w.within == function)
passes filters.Used t w function = is_use w.kind

-- the binding that the name means, where the occurrence passes
abbrev pub filtered : Filter → Scopes → Occurrence → Resolution → List ScopedName → List ScopedName
filtered which t w s.Require table = table
filtered which t w s.Literal table = table
filtered which t w s.Global table = table
filtered which t w s.Nothing table = table
filtered which t w (s.Bound function) table = if passes which t w function then add_named table (function, w.name) else table

-- the bindings that passing occurrences mean, each once, in the order of the first such occurrence, after those of the table
abbrev pub filtered_from : Filter → Scopes → List ScopedName → List Occurrence → List ScopedName
filtered_from which t table [] = table
filtered_from which t table (w ∷ ws) = filtered_from which t (filtered which t w (resolution t w.within w.name) table) ws

-- how the bindings of a file are used
abbrev pub uses : Scopes → List Occurrence → Uses
uses t ws = record {
  names = filtered_from filters.Any t [] ws;
  cells = filtered_from filters.Nested t [] ws;
  used = filtered_from filters.Used t [] ws;
}

-- The binding is a cell of the function: a nested function uses it.
abbrev pub is_cell_of : Uses → ℕ → ScopedName → Bool
is_cell_of u function n = (n.0 == function) && has_named u.cells n

-- The binding is a local of the function that is no parameter.
abbrev pub is_local_of : Scopes → Uses → ℕ → ScopedName → Bool
is_local_of t u function n = (n.0 == function) && (not (has_named u.cells n) && not (has_named t.parameters n))

abbrev pub cells : Uses → ℕ → List ScopedName → List (List ℕ)
cells u function names = map (λ n. n.1) (filter (is_cell_of u function) names)

abbrev pub locals : Scopes → Uses → ℕ → List ScopedName → List (List ℕ)
locals t u function names = map (λ n. n.1) (filter (is_local_of t u function) names)

-- a function expression's own name is bound in it to the function itself, and is used
abbrev pub has_own_name : Scopes → Uses → ℕ → Option (List ℕ) → Bool
has_own_name t u function None = false
has_own_name t u function (Some name) = (has_named t.owns (function, name) && not (has_named t.bindings (function, name))) && has_named u.used (function, name)

-- a function before its names are known
abbrev pub head_function : Scopes → Uses → Occurrence → Head → BoundFunction
head_function t u w head = record {
  parent = Some w.within;
  name = head.name;
  parameters = head.parameters;
  locals = [];
  cells = [];
  own_name = has_own_name t u head.number head.name;
  line = head.line;
  offset = w.offset;
}

abbrev pub begun_by_kind : Scopes → Uses → Occurrence → OccurrenceKind → List BoundFunction
begun_by_kind t u w (r.Begins head) = head_function t u w head ∷ []
begun_by_kind t u w _ = []

-- the function that begins there
abbrev pub begun_by : Scopes → Uses → Occurrence → List BoundFunction
begun_by t u w = begun_by_kind t u w w.kind

abbrev pub heads : Scopes → Uses → List Occurrence → List BoundFunction
heads t u [] = []
heads t u (w ∷ ws) = begun_by t u w ++ heads t u ws

-- the body of a file whose first token stands here
abbrev pub body : At → BoundFunction
body at = record { parent = None; name = None; parameters = []; locals = []; cells = []; own_name = false; line = at.line; offset = at.offset }

abbrev pub with_lists : List (List ℕ) → List (List ℕ) → BoundFunction → BoundFunction
with_lists locals cells f = record { parent = f.parent; name = f.name; parameters = f.parameters; locals = f.locals ++ locals; cells = f.cells ++ cells; own_name = f.own_name; line = f.line; offset = f.offset }

-- the functions, numbered from this number on, with those of the names that are theirs
abbrev pub with_names : Scopes → Uses → List ScopedName → ℕ → List BoundFunction → List BoundFunction
with_names t u names number [] = []
with_names t u names number (f ∷ fs) =
    with_lists (locals t u number names) (cells u number names) f ∷ with_names t u names (number + 1) fs

-- one more name of a function: a cell, or else a parameter, or else another local
abbrev pub placed_by : Bool → Bool → List ℕ → BoundFunction → BoundFunction
placed_by true parameter name f = record { parent = f.parent; name = f.name; parameters = f.parameters; locals = f.locals; cells = f.cells ++ name ∷ []; own_name = f.own_name; line = f.line; offset = f.offset }
placed_by false true name f = f
placed_by false false name f = record { parent = f.parent; name = f.name; parameters = f.parameters; locals = f.locals ++ name ∷ []; cells = f.cells; own_name = f.own_name; line = f.line; offset = f.offset }

abbrev pub placed : Scopes → Uses → ScopedName → BoundFunction → BoundFunction
placed t u n f = placed_by (has_named u.cells n) (has_named t.parameters n) n.1 f

-- the functions, numbered from this number on, with that name in its function
abbrev pub put_name : Scopes → Uses → ScopedName → ℕ → List BoundFunction → List BoundFunction
put_name t u n number [] = []
put_name t u n number (f ∷ fs) = if n.0 == number then placed t u n f ∷ fs else f ∷ put_name t u n (number + 1) fs

-- the functions in the order of their numbers, of a file whose first token stands here
abbrev pub functions_by : Scopes → Uses → At → List Occurrence → List BoundFunction
functions_by t u at ws = with_names t u u.names 0 (body at ∷ heads t u ws)

abbrev pub functions : Scopes → At → List Occurrence → List BoundFunction
functions t at ws = functions_by t (uses t ws) at ws

-- the require of a call, by what its text asks for
abbrev pub require_of : ℕ → ℕ → List ℕ → RequireTarget → List Require
require_of offset line text a.Refused = []
require_of offset line text (a.Bare name) = record { offset = offset; line = line; text = name; goal = goal.Bare } ∷ []
require_of offset line text a.InPackage = record { offset = offset; line = line; text = text; goal = goal.Path } ∷ []

abbrev pub called_require : List ℕ → ℕ → OccurrenceKind → Resolution → List Require
called_require path offset (r.Called callee) means = if is_require means then require_of offset callee.line callee.text (target_of path callee.text) else []
called_require path offset _ means = []

-- the calls of `require`, in order
abbrev pub required : List ℕ → Scopes → List Occurrence → List Require
required path t [] = []
required path t (w ∷ ws) = called_require path w.offset w.kind (resolution t w.within w.name) ++ required path t ws
