-- Serves only the proofs: which drafts are well-formed, as a part of a function and as a whole function.
use Rattle.std.specs.Prelude.{◌≡◌, ℕ, zero, suc, ◌+◌, ◌-◌, ◌<◌, ◌≤◌, Bool, true, false, List, [], ◌∷◌, All, length, IfSome}
use Rattle.mdg_code.specs.declared.statement.Statement.{Statement}
use Rattle.mdg_code.specs.declared.statement.Statement.TheVariants.{Literal, Copy, Op, Object, Function, Own, Shared, Get, GetAt, Set, SetAt, Cell, SetCell, Branch, Call, Land, Return, Load, Throw}
use Rattle.mdg_code.specs.Kinds.{awaits_land, is_land, is_last}
use Rattle.mdg_lower.specs.declared.draft.Draft.{Draft}
use Rattle.mdg_lower.specs.declared.draft.Draft.TheVariants as d
use Rattle.mdg_lower.specs.declared.draft.DraftLine.{DraftLine}
use Rattle.mdg_lower.specs.declared.draft.Label.{Label}
use Rattle.mdg_lower.specs.declared.draft.Label.TheVariants as to
use Rattle.mdg_lower.specs.declared.scope.Meaning.{Meaning}
use Rattle.mdg_lower.specs.declared.scope.Meaning.TheVariants as m
use Rattle.mdg_lower.specs.declared.scope.Scope.{Scope}
use Rattle.mdg_lower.specs.declared.scope.Dependency.{Dependency}
use Rattle.mdg_lower.specs.declared.scope.Dependency.TheVariants as w
use Rattle.mdg_lower.specs.Builder.{Lines}
use Rattle.mdg_lower.specs.Lookup.{Name, meaning, function_at, dependency_at}

-- how many functions, cells and files a package has
pub record Counts : Type 0 where
  pub functions : ℕ
  pub cells : ℕ
  pub files : ℕ

-- the numbers of a complete statement are in range, but for its locals; it names no property, shared thing and site
abbrev pub IsRanged : Counts → Statement → Type 0
IsRanged n (Literal into text) = Unit {0}
IsRanged n (Copy into of) = Unit {0}
IsRanged n (Op into of) = Unit {0}
IsRanged n (Object into) = Unit {0}
IsRanged n (Function into function) = function.0 < n.functions
IsRanged n (Own into) = Unit {0}
IsRanged n (Shared into shared) = ⊥
IsRanged n (Get into of name column) = ⊥
IsRanged n (GetAt into of key) = Unit {0}
IsRanged n (Set of name column value) = ⊥
IsRanged n (SetAt of key value) = Unit {0}
IsRanged n (Cell into cell) = cell.0 < n.cells
IsRanged n (SetCell cell value) = cell.0 < n.cells
IsRanged n (Branch left right) = ⊥
IsRanged n (Call into callee receiver arguments) = Unit {0}
IsRanged n Land = Unit {0}
IsRanged n (Return value) = Unit {0}
IsRanged n (Load file) = file.0 < n.files
IsRanged n (Throw value) = Unit {0}

abbrev pub IsRangedDraft : Counts → Draft → Type 0
IsRangedDraft n (d.Complete statement) = IsRanged n statement
IsRangedDraft n (d.Get into of name) = Unit {0}
IsRangedDraft n (d.Set of name value) = Unit {0}
IsRangedDraft n (d.Shared into home name) = Unit {0}
IsRangedDraft n (d.Branch left right) = Unit {0}

-- the draft runs a function and goes on at a land
abbrev pub awaits : Draft → Bool
awaits (d.Complete statement) = awaits_land statement
awaits (d.Get into of name) = false
awaits (d.Set of name value) = false
awaits (d.Shared into home name) = false
awaits (d.Branch left right) = false

abbrev pub lands : Draft → Bool
lands (d.Complete statement) = is_land statement
lands (d.Get into of name) = false
lands (d.Set of name value) = false
lands (d.Shared into home name) = false
lands (d.Branch left right) = false

abbrev pub ends : Draft → Bool
ends (d.Complete statement) = is_last statement
ends (d.Get into of name) = false
ends (d.Set of name value) = false
ends (d.Shared into home name) = false
ends (d.Branch left right) = false

-- each draft that awaits a land has one after it
abbrev pub AreLanded : List DraftLine → Type 0
AreLanded [] = Unit {0}
AreLanded (line ∷ []) = awaits line.draft ≡ false
AreLanded (line ∷ next ∷ lines) = (awaits line.draft ≡ true → lands next.draft ≡ true) × AreLanded (next ∷ lines)

-- so many lines on, among them or right after them, no draft that awaits a land stands right before
abbrev pub IsApartAt : List DraftLine → ℕ → Type 0
IsApartAt lines zero = Unit {0}
IsApartAt [] (suc n) = ⊥
IsApartAt (line ∷ lines) (suc zero) = awaits line.draft ≡ false
IsApartAt (line ∷ lines) (suc (suc n)) = IsApartAt lines (suc n)

-- a label is a site of the lines that begin at a site, or the one right after them, and no land of a call;
-- or it still waits for a loop
abbrev pub LabelInto : List DraftLine → ℕ → Label → Type 0
LabelInto lines s (to.Site site) = (s ≤ site.0) × IsApartAt lines (site.0 - s)
LabelInto lines s to.Break = Unit {0}
LabelInto lines s to.Continue = Unit {0}

abbrev pub BranchesInto : List DraftLine → ℕ → Draft → Type 0
BranchesInto lines s (d.Complete statement) = Unit {0}
BranchesInto lines s (d.Get into of name) = Unit {0}
BranchesInto lines s (d.Set of name value) = Unit {0}
BranchesInto lines s (d.Shared into home name) = Unit {0}
BranchesInto lines s (d.Branch left right) = LabelInto lines s left × LabelInto lines s right

-- the line is of this function and this file
abbrev pub IsOf : Scope → DraftLine → Type 0
IsOf scope line = (line.function ≡ scope.function) × (line.place.file ≡ scope.file)

-- lines from a site on that are a part of a function
pub record WellFormed (n : Counts) (scope : Scope) (s : ℕ) (lines : List DraftLine) : Type 0 where
  pub ranged : All (λ line. IsRangedDraft n line.draft) lines
  pub own : All (IsOf scope) lines
  pub landed : AreLanded lines
  pub branches : All (λ line. BranchesInto lines s line.draft) lines

unfoldable pub WellFormedLines : Counts → Scope → Lines → Type 0
WellFormedLines n scope code = (s : ℕ) → WellFormed n scope s (code s)

-- no label waits for a loop
abbrev pub IsResolvedLabel : Label → Type 0
IsResolvedLabel (to.Site site) = Unit {0}
IsResolvedLabel to.Break = ⊥
IsResolvedLabel to.Continue = ⊥

abbrev pub IsResolved : Draft → Type 0
IsResolved (d.Complete statement) = Unit {0}
IsResolved (d.Get into of name) = Unit {0}
IsResolved (d.Set of name value) = Unit {0}
IsResolved (d.Shared into home name) = Unit {0}
IsResolved (d.Branch left right) = IsResolvedLabel left × IsResolvedLabel right

-- the last line ends the function
abbrev pub EndWell : List DraftLine → Type 0
EndWell [] = ⊥
EndWell (line ∷ []) = ends line.draft ≡ true
EndWell (line ∷ next ∷ lines) = EndWell (next ∷ lines)

abbrev pub StaysWithin : ℕ → ℕ → Label → Type 0
StaysWithin s count (to.Site site) = site.0 < s + count
StaysWithin s count to.Break = Unit {0}
StaysWithin s count to.Continue = Unit {0}

abbrev pub BranchesWithin : ℕ → ℕ → Draft → Type 0
BranchesWithin s count (d.Complete statement) = Unit {0}
BranchesWithin s count (d.Get into of name) = Unit {0}
BranchesWithin s count (d.Set of name value) = Unit {0}
BranchesWithin s count (d.Shared into home name) = Unit {0}
BranchesWithin s count (d.Branch left right) = StaysWithin s count left × StaysWithin s count right

-- the lines of a whole function: each branch also stays within them
pub record WellFormedFunction (n : Counts) (scope : Scope) (s : ℕ) (lines : List DraftLine) : Type 0 where
  pub well_formed : WellFormed n scope s lines
  pub resolved : All (λ line. IsResolved line.draft) lines
  pub end_well : EndWell lines
  -- no branch goes right after the last line
  pub within : All (λ line. BranchesWithin s (length lines) line.draft) lines

abbrev pub IsMeaningThere : Counts → Meaning → Type 0
IsMeaningThere n (m.Local local own) = Unit {0}
IsMeaningThere n (m.Cell cell own) = cell.0 < n.cells
IsMeaningThere n m.Require = Unit {0}
IsMeaningThere n m.Literal = Unit {0}
IsMeaningThere n m.Global = Unit {0}
IsMeaningThere n m.Nothing = Unit {0}

abbrev pub IsDependencyThere : Counts → Dependency → Type 0
IsDependencyThere n (w.Module name) = Unit {0}
IsDependencyThere n (w.File file cell) = (file.0 < n.files) × (cell.0 < n.cells)

-- what names, keywords and calls of `require` stand for in the scope is in range
pub record ScopeFits (n : Counts) (scope : Scope) : Type 0 where
  pub meanings_there : (name : Name) → IsMeaningThere n (meaning scope name)
  pub functions_there : (offset : ℕ) → (function_at scope offset).0 < n.functions
  pub dependencies_there : (offset : ℕ) → IfSome (dependency_at scope offset) (IsDependencyThere n)
  pub module_there : scope.«module».0 < n.cells
