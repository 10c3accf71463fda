-- Properties and calls (11.2): the base of a property, a computed key, arguments, and the call.
use Rattle.std.specs.Prelude.{ℕ, ◌+◌, List, [], ◌∷◌, Option, Some, None}
use Rattle.mdg_base.specs.declared.number.Local.{Local}
use Rattle.mdg_tree.specs.declared.tree.At.{At}
use Rattle.mdg_code.specs.declared.statement.Statement.TheVariants as st
use Rattle.mdg_lower.specs.declared.scope.Meaning.{Meaning}
use Rattle.mdg_lower.specs.declared.scope.Meaning.TheVariants as m
use Rattle.mdg_lower.specs.declared.scope.Scope.{Scope}
use Rattle.mdg_lower.specs.Lookup.{Name, meaning, local_of, temp}
use Rattle.mdg_lower.specs.Builder.{Lines, ◌>>◌, nothing, one}
use Rattle.mdg_lower.specs.Operands.{Operand, Reference, any_assigns, keyed, member, named, other, stable_if}
use Rattle.mdg_lower.specs.Instructions.{complete, copy, get_at_from, get_from, operate_on, require}

module _ (scope : Scope) where
  abbrev pub stable_by : List Operand → Option Name → Option Local
  stable_by later None = None
  stable_by later (Some name) = stable_if (any_assigns later name) (local_of (meaning scope name))

  -- the local that stands for e itself, where no later part assigns it
  unfoldable pub stable_local : Operand → List Operand → Option Local
  stable_local e later = stable_by later e.name

  -- e's value, where no local stands for it
  abbrev pub lower_base : Option Local → Operand → ℕ → Lines
  lower_base None e d = e.value scope d
  lower_base (Some local) e d = nothing

  abbrev pub base_local : Option Local → ℕ → Local
  base_local None d = temp scope d
  base_local (Some local) d = local

  -- the first temporary after the base
  abbrev pub after_base : Option Local → ℕ → ℕ
  after_base None d = d + 1
  after_base (Some local) d = d

  -- %d = %c, where the two differ
  abbrev pub move_result : At → Option Local → ℕ → Lines
  move_result at None d = copy scope at (temp scope d) (temp scope (d + 1))
  move_result at (Some local) d = nothing

  -- a computed key in %c
  unfoldable pub lower_key : At → Operand → ℕ → Lines
  lower_key at key c = do
    key.value scope c
    operate_on scope at c

  -- e.p
  unfoldable pub get : At → Operand → Name → ℕ → Lines
  get at e p d = let k = stable_local e [] in do
    lower_base k e d
    get_from scope at d (base_local k d) p

  -- e[k]
  unfoldable pub get_at : At → Operand → Operand → ℕ → Lines
  get_at at e key d = let k = stable_local e (key ∷ []) in let c = after_base k d in do
    lower_base k e d
    lower_key at key c
    get_at_from scope at d (base_local k d) c

  -- the values of these from %c on
  unfoldable pub arguments : List Operand → ℕ → Lines
  arguments [] c = nothing
  arguments (e ∷ es) c = do
    e.value scope c
    arguments es (c + 1)

  unfoldable pub temps : List Operand → ℕ → List Local
  temps [] c = []
  temps (e ∷ es) c = temp scope c ∷ temps es (c + 1)

  -- the arguments, the call of %c and its land
  unfoldable pub emit_call : At → Option Local → ℕ → List Operand → ℕ → Lines
  emit_call at receiver c es d = do
    arguments es (c + 1)
    one scope at (complete (st.Call (temp scope d) (temp scope c) receiver (temps es (c + 1))))
    one scope at (complete st.Land)

  -- e.p(a..)
  unfoldable pub method : At → Operand → Name → List Operand → ℕ → Lines
  method at e p es d = let k = stable_local e es in let c = after_base k d in do
    lower_base k e d
    get_from scope at c (base_local k d) p
    emit_call at (Some (base_local k d)) c es d

  -- e[k](a..)
  unfoldable pub method_at : At → Operand → Operand → List Operand → ℕ → Lines
  method_at at e key es d = let k = stable_local e (key ∷ es) in let c = after_base k d in do
    lower_base k e d
    lower_key at key c
    get_at_from scope at c (base_local k d) c
    emit_call at (Some (base_local k d)) c es d

  -- f(a..)
  unfoldable pub plain_call : At → Operand → List Operand → ℕ → Lines
  plain_call at f es d = do
    f.value scope d
    emit_call at None d es d

  abbrev pub named_call : At → Meaning → ℕ → Operand → List Operand → ℕ → Lines
  named_call at m.Require offset f es d = require scope at offset d
  named_call at _ offset f es d = plain_call at f es d

  abbrev pub call_of : At → Reference → Operand → List Operand → ℕ → Lines
  call_of at (named name_at name) f es d = named_call at (meaning scope name) name_at.offset f es d
  call_of at (member e p) f es d = method at e p es d
  call_of at (keyed e key) f es d = method_at at e key es d
  call_of at other f es d = plain_call at f es d
