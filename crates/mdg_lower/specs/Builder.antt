-- Lines of a form, by the site at which it begins.
use Rattle.std.specs.Prelude.{◌≡◌, ℕ, ◌+◌, List, [], ◌∷◌, ◌++◌, length}
use Rattle.mdg_tree.specs.declared.tree.At.{At}
use Rattle.mdg_lower.specs.declared.draft.Draft.{Draft}
use Rattle.mdg_lower.specs.declared.draft.DraftLine.{DraftLine}
use Rattle.mdg_lower.specs.declared.scope.Scope.{Scope}

-- the lines of a form that begins at a site
abbrev pub Lines : Type 0
Lines = ℕ → List DraftLine

-- one form, and after it the next
infixl 10 ◌>>◌
unfoldable pub ◌>>◌ : Lines → Lines → Lines
(a >> b) s = a s ++ b (s + length (a s))

unfoldable pub nothing : Lines
nothing s = []

-- a line of the function, from this place of its file
abbrev pub line_of : Scope → At → Draft → DraftLine
line_of scope at it = record {
  draft = it;
  place = record { file = scope.file; line = at.line; offset = at.offset };
  function = scope.function;
}

unfoldable pub one : Scope → At → Draft → Lines
one scope at it s = line_of scope at it ∷ []

-- The lines grew by these.
unfoldable pub Emits : Lines → List DraftLine → List DraftLine → Type 0
Emits lines before now = now ≡ before ++ lines (length before)
