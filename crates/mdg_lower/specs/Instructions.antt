-- The lines of one instruction each, and of a name and a call of `require`.
use Rattle.std.specs.Prelude.{ℕ, false, List, [], ◌∷◌, Option, Some, None, codes}
use Rattle.mdg_base.specs.declared.number.Local.{Local}
use Rattle.mdg_base.specs.declared.profile_word.Home.TheVariants as home
use Rattle.mdg_tree.specs.declared.tree.At.{At}
use Rattle.mdg_code.specs.declared.statement.Statement.{Statement}
use Rattle.mdg_code.specs.declared.statement.Statement.TheVariants as st
use Rattle.mdg_lower.specs.declared.draft.Draft.{Draft}
use Rattle.mdg_lower.specs.declared.draft.Draft.TheVariants as draft
use Rattle.mdg_lower.specs.declared.scope.Meaning.{Meaning}
use Rattle.mdg_lower.specs.declared.scope.Meaning.TheVariants as m
use Rattle.mdg_lower.specs.declared.scope.Scope.{Scope}
use Rattle.mdg_lower.specs.declared.scope.Dependency.{Dependency}
use Rattle.mdg_lower.specs.declared.scope.Dependency.TheVariants as w
use Rattle.mdg_lower.specs.Lookup.{Name, meaning, temp, function_at, dependency_at}
use Rattle.mdg_lower.specs.Builder.{Lines, ◌>>◌, one}

abbrev pub complete : Statement → Draft
complete statement = draft.Complete statement

abbrev pub undefined_text : Option Name
undefined_text = Some (codes "undefined")

module _ (scope : Scope) where
  -- %d = literal
  unfoldable pub literal : At → Option Name → ℕ → Lines
  literal at text d = one scope at (complete (st.Literal (temp scope d) text))

  -- into = of
  unfoldable pub copy : At → Local → Local → Lines
  copy at into of = one scope at (complete (st.Copy into of))

  -- %d = op(of..)
  unfoldable pub operate : At → ℕ → List Local → Lines
  operate at d of = one scope at (complete (st.Op (temp scope d) of))

  -- %d = op(%d)
  unfoldable pub operate_on : At → ℕ → Lines
  operate_on at d = operate at d (temp scope d ∷ [])

  -- %d = of.name
  unfoldable pub get_from : At → ℕ → Local → Name → Lines
  get_from at d of name = one scope at (draft.Get (temp scope d) of name)

  -- of.name = value
  unfoldable pub set_to : At → Local → Name → Local → Lines
  set_to at of name value = one scope at (draft.Set of name value)

  -- %d = of[key]
  unfoldable pub get_at_from : At → ℕ → Local → ℕ → Lines
  get_at_from at d of key = one scope at (complete (st.GetAt (temp scope d) of (temp scope key)))

  -- of[key] = value
  unfoldable pub set_at_to : At → Local → ℕ → Local → Lines
  set_at_to at of key value = one scope at (complete (st.SetAt of (temp scope key) value))

  -- %d = shared b
  unfoldable pub global : At → Name → ℕ → Lines
  global at name d = one scope at (draft.Shared (temp scope d) home.Global name)

  abbrev pub load_name_by : At → Name → ℕ → Meaning → Lines
  load_name_by at name d (m.Local local own) = copy at (temp scope d) local
  load_name_by at name d (m.Cell cell own) = one scope at (complete (st.Cell (temp scope d) cell))
  load_name_by at name d m.Require = operate at d []
  load_name_by at name d m.Literal = literal at (Some name) d
  load_name_by at name d m.Global = global at name d
  load_name_by at name d m.Nothing = operate at d []

  -- a name's value
  unfoldable pub load_name : At → Name → ℕ → Lines
  load_name at name d = load_name_by at name d (meaning scope name)

  abbrev pub store_name_by : At → Local → Meaning → Lines
  store_name_by at value (m.Local local false) = copy at local value
  store_name_by at value (m.Cell cell false) = one scope at (complete (st.SetCell cell value))
  store_name_by at value _ = one scope at (complete (st.Throw value))

  -- the name becomes the value; a function expression's own name can't, and throws
  unfoldable pub store_name : At → Name → Local → Lines
  store_name at name value = store_name_by at value (meaning scope name)

  abbrev pub require_by : At → Option Dependency → ℕ → Lines
  require_by at None d = operate at d []
  require_by at (Some (w.Module name)) d = one scope at (draft.Shared (temp scope d) home.Module name)
  require_by at (Some (w.File file cell)) d = do
    one scope at (complete (st.Load file))
    one scope at (complete st.Land)
    one scope at (complete (st.Cell (temp scope d) cell))
    get_from at d (temp scope d) (codes "exports")

  -- a call of `require` whose name stands at this offset
  unfoldable pub require : At → ℕ → ℕ → Lines
  require at offset d = require_by at (dependency_at scope offset) d

  -- %d = object
  unfoldable pub object : At → ℕ → Lines
  object at d = one scope at (complete (st.Object (temp scope d)))

  -- %d = function f, whose keyword stands at this place
  unfoldable pub function_value : At → At → ℕ → Lines
  function_value at keyword d = one scope at (complete (st.Function (temp scope d) (function_at scope keyword.offset)))
