-- What the names of a file mean. All is said of the file's occurrences.
use Rattle.std.specs.Prelude.{ℕ, zero, suc, ◌-◌, ◌==◌, Bool, true, false, ◌||◌, List, [], ◌∷◌, ◌++◌, codes, find, Option, Some, None, unwrap_or, slice_get, if◌then◌else◌}
use Rattle.std.specs.Str.{bytes_eq}
use Rattle.mdg_base.specs.declared.profile_word.Home.{Home}
use Rattle.mdg_base.specs.declared.profile_word.Home.TheVariants as home
use Rattle.mdg_profile.specs.declared.entry.Entry.{Entry}
use Rattle.mdg_profile.specs.declared.entry.Profile.{Profile}
use Rattle.mdg_scope.specs.declared.occurrence.Occurrence.{Occurrence}
use Rattle.mdg_scope.specs.declared.occurrence.OccurrenceKind.{OccurrenceKind}
use Rattle.mdg_scope.specs.declared.occurrence.OccurrenceKind.TheVariants as r
use Rattle.mdg_scope.specs.declared.resolution.BindingKind.{BindingKind}
use Rattle.mdg_scope.specs.declared.resolution.BindingKind.TheVariants as b
use Rattle.mdg_scope.specs.declared.resolution.Resolution.{Resolution}
use Rattle.mdg_scope.specs.declared.resolution.Resolution.TheVariants as s
use Rattle.mdg_scope.specs.declared.resolution.Scopes.{Scopes}
use Rattle.mdg_scope.specs.Names.{ScopedName, has_name, add_name, has_named, add_named}

-- A function binds its parameters, its `var` names and its declared functions, and the body of a file two names more.
abbrev pub is_binding : OccurrenceKind → Bool
is_binding r.Given = true
is_binding r.Parameter = true
is_binding r.RepeatedParameter = true
is_binding r.Variable = true
is_binding r.Declared = true
is_binding _ = false

abbrev pub is_own : OccurrenceKind → Bool
is_own r.Own = true
is_own _ = false

abbrev pub is_parameter : OccurrenceKind → Bool
is_parameter r.Parameter = true
is_parameter r.RepeatedParameter = true
is_parameter _ = false

abbrev pub is_use : OccurrenceKind → Bool
is_use r.Read = true
is_use r.Assigned = true
is_use r.TypeOperand = true
is_use (r.Called callee) = true
is_use _ = false

abbrev pub has_kind : BindingKind → OccurrenceKind → Bool
has_kind b.Binding kind = is_binding kind
has_kind b.Own kind = is_own kind
has_kind b.Parameter kind = is_parameter kind

-- the names of that kind, each once, after those of the table
abbrev pub named_from : BindingKind → List ScopedName → List Occurrence → List ScopedName
named_from which table [] = table
named_from which table (w ∷ ws) = named_from which (if has_kind which w.kind then add_named table (w.within, w.name) else table) ws

abbrev pub own_parent : Occurrence → List ℕ
own_parent w = parent_of w.kind w.within
  where
    parent_of : OccurrenceKind → ℕ → List ℕ
    parent_of (r.Begins head) within = within ∷ []
    parent_of _ within = []

-- the function around each function, from function 1 on
abbrev pub parents : List Occurrence → List ℕ
parents [] = []
parents (w ∷ ws) = own_parent w ++ parents ws

abbrev pub is_global : Home → Bool
is_global home.Global = true
is_global home.Module = false

-- the globals of the profile, each once, after those of the table
abbrev pub globals_from : List (List ℕ) → List Entry → List (List ℕ)
globals_from table [] = table
globals_from table (e ∷ es) = globals_from (if is_global e.home then add_name table e.name else table) es

-- what is bound where, under a profile
abbrev pub scopes : List Occurrence → Profile → Scopes
scopes ws profile = record {
  bindings = named_from b.Binding [] ws;
  owns = named_from b.Own [] ws;
  parameters = named_from b.Parameter [] ws;
  parents = parents ws;
  globals = globals_from [] profile.entries;
}

-- the function around this one
abbrev pub parent : List ℕ → ℕ → ℕ
parent parents function = unwrap_or (slice_get parents (function - 1)) 0

-- This function and those around it, inside out. Each has a greater number than the next, so as many steps as the number serve.
abbrev pub around : List ℕ → ℕ → ℕ → List ℕ
around parents zero function = function ∷ []
around parents (suc steps) function = if function == 0 then function ∷ [] else function ∷ around parents steps (parent parents function)

-- the function binds the name, be it as its own
abbrev pub binds : Scopes → ℕ → List ℕ → Bool
binds t function name = has_named t.bindings (function, name) || has_named t.owns (function, name)

-- the innermost function that binds the name, of this one and those around it
abbrev pub enclosing_binder : Scopes → ℕ → List ℕ → Option ℕ
enclosing_binder t function name = find (λ g. binds t g name) (around t.parents function function)

-- the names that stand for a value of the language
abbrev pub is_literal : List ℕ → Bool
is_literal name = bytes_eq name (codes "undefined") || (bytes_eq name (codes "NaN") || bytes_eq name (codes "Infinity"))

-- what a name means that nothing around binds, where the profile has these globals
abbrev pub free_resolution : List (List ℕ) → List ℕ → Resolution
free_resolution globals name =
    if bytes_eq name (codes "require") then s.Require
    else (if is_literal name then s.Literal else (if has_name globals name then s.Global else s.Nothing))

abbrev pub resolution_of : Scopes → List ℕ → Option ℕ → Resolution
resolution_of t name None = free_resolution t.globals name
resolution_of t name (Some function) = s.Bound function

-- what the name means in the function
abbrev pub resolution : Scopes → ℕ → List ℕ → Resolution
resolution t function name = resolution_of t name (enclosing_binder t function name)
