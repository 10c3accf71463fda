-- Where the offsets of a tree ascend, functions, requires and the first appearances of names stand in their order.
use Rattle.std.specs.Prelude.{◌≡◌, ℕ, ◌+◌, ◌≤◌, Bool, true, false, ◌&&◌, not, List, [], ◌∷◌, ◌++◌, map, if◌then◌else◌}
use Rattle.mdg_tree.specs.declared.tree.FileTree.{FileTree}
use Rattle.mdg_tree.specs.Offsets.{HasAscendingOffsets}
use Rattle.mdg_profile.specs.declared.entry.Profile.{Profile}
use Rattle.mdg_scope.specs.declared.bound.Bound.{Bound}
use Rattle.mdg_scope.specs.declared.occurrence.Occurrence.{Occurrence}
use Rattle.mdg_scope.specs.declared.occurrence.OccurrenceKind.{OccurrenceKind}
use Rattle.mdg_scope.specs.declared.occurrence.OccurrenceKind.TheVariants as r
use Rattle.mdg_scope.specs.declared.resolution.Resolution.{Resolution}
use Rattle.mdg_scope.specs.declared.resolution.Resolution.TheVariants as s
use Rattle.mdg_scope.specs.declared.resolution.Scopes.{Scopes}
use Rattle.mdg_scope.specs.declared.function.Filter.TheVariants as filters
use Rattle.mdg_scope.specs.Bindings.{Binds}
use Rattle.mdg_scope.specs.Functions.{is_appearance, filtered, uses}
use Rattle.mdg_scope.specs.Names.{ScopedName, has_named}
use Rattle.mdg_scope.specs.Occurrences.{file_occurrences}
use Rattle.mdg_scope.specs.Resolution.{resolution, scopes}

-- a function begins there
abbrev pub is_beginning : OccurrenceKind → Bool
is_beginning (r.Begins head) = true
is_beginning _ = false

-- A token spells a name there. A function expression's own name is left out, since it stands after the parameters
-- among the occurrences, and so are the two names that the body of a file binds by itself, which no token spells.
abbrev pub is_spelled : OccurrenceKind → Bool
is_spelled r.Parameter = true
is_spelled r.RepeatedParameter = true
is_spelled r.Variable = true
is_spelled r.Declared = true
is_spelled r.Read = true
is_spelled r.Assigned = true
is_spelled r.TypeOperand = true
is_spelled (r.Called callee) = true
is_spelled _ = false

-- the offsets of the occurrences of such kinds
abbrev pub offsets_of : (OccurrenceKind → Bool) → List Occurrence → List ℕ
offsets_of among [] = []
offsets_of among (w ∷ ws) = if among w.kind then w.offset ∷ offsets_of among ws else offsets_of among ws

-- each is greater than the one before it, and the first is no less than this
abbrev pub AscendFrom : ℕ → List ℕ → Type 0
AscendFrom low [] = Unit {0}
AscendFrom low (x ∷ xs) = (low ≤ x) × AscendFrom (x + 1) xs

-- the first appearance of a binding
pub record Appearance : Type 0 where
  pub occurrence : Occurrence
  pub binding : ScopedName

-- the occurrence, where it is the first appearance of the binding that its name means
abbrev pub appears : Scopes → List ScopedName → Occurrence → Resolution → List Appearance
appears t table w s.Require = []
appears t table w s.Literal = []
appears t table w s.Global = []
appears t table w s.Nothing = []
appears t table w (s.Bound function) =
    if is_appearance t w && not (has_named table (function, w.name))
    then record { occurrence = w; binding = (function, w.name) } ∷ [] else []

-- the first appearances of bindings that aren't among those of the table
abbrev pub first_appearances : Scopes → List ScopedName → List Occurrence → List Appearance
first_appearances t table [] = []
first_appearances t table (w ∷ ws) =
    appears t table w (resolution t w.within w.name)
    ++ first_appearances t (filtered filters.Any t w (resolution t w.within w.name) table) ws

-- What stands in the order of the offsets. The locals and the cells of a function are those of the file's bindings that
-- are its own, in the order in which the bindings stand.
pub record StandsInOrder (t : Scopes) (ws : List Occurrence) (bound : Bound) : Type 0 where
  -- functions
  pub functions : AscendFrom 0 (map (λ f. f.offset) bound.functions)
  -- calls of `require`
  pub required : AscendFrom 0 (map (λ one. one.offset) bound.required)
  -- bindings, by their first appearances
  pub bindings : (uses t ws).names ≡ map (λ a. a.binding) (first_appearances t [] ws)
  -- the first appearances that a token spells
  pub appearances : AscendFrom 0 (offsets_of is_spelled (map (λ a. a.occurrence) (first_appearances t [] ws)))

-- where the tree's offsets ascend
abbrev pub KeepsOrder : Type 0
KeepsOrder = (path : List ℕ) (tree : FileTree) (profile : Profile) (bound : Bound) → HasAscendingOffsets tree → Binds path tree profile bound
    → StandsInOrder (scopes (file_occurrences tree) profile) (file_occurrences tree) bound
