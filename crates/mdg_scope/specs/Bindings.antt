-- What `bind` answers.
use Rattle.std.specs.Prelude.{◌≡◌, ℕ, List, Result, Ok, Err}
use Rattle.mdg_tree.specs.declared.tree.At.{At}
use Rattle.mdg_tree.specs.declared.tree.FileTree.{FileTree}
use Rattle.mdg_profile.specs.declared.entry.Profile.{Profile}
use Rattle.mdg_scope.specs.declared.bound.Bound.{Bound}
use Rattle.mdg_scope.specs.declared.binding.Parts.{Parts}
use Rattle.mdg_scope.specs.declared.occurrence.Occurrence.{Occurrence}
use Rattle.mdg_scope.specs.declared.resolution.Scopes.{Scopes}
use Rattle.mdg_scope.specs.declared.violation.Violation.{Violation}
use Rattle.mdg_scope.specs.declared.refusal.ScopeRefusal.{ScopeRefusal}
use Rattle.mdg_scope.specs.declared.refusal.ScopeRefusal.TheVariants.{NoMemory}
use Rattle.mdg_scope.specs.Occurrences.{file_occurrences}
use Rattle.mdg_scope.specs.Resolution.{scopes}
use Rattle.mdg_scope.specs.Violations.{IsFirst, IsClean, refusal_of}
use Rattle.mdg_scope.specs.Functions.{functions, required}

-- The refusal is that of the first violation.
pub record Refuses (path : List ℕ) (t : Scopes) (ws : List Occurrence) (refusal : ScopeRefusal) : Type 0 where
  pub violation : Violation
  pub first : IsFirst path t ws violation
  pub is : refusal ≡ refusal_of violation

-- what a refusal shows; out of memory may come at any time
abbrev pub IsRefusal : List ℕ → Scopes → List Occurrence → ScopeRefusal → Type 0
IsRefusal path t ws NoMemory = Unit {0}
IsRefusal path t ws refusal = Refuses path t ws refusal

-- whether a rule is violated
abbrev pub Checks : List ℕ → Scopes → List Occurrence → Result (Unit {0}) ScopeRefusal → Type 0
Checks path t ws (Ok nothing) = IsClean path t ws
Checks path t ws (Err refusal) = IsRefusal path t ws refusal

-- what the occurrences of a file bind and require, whose first token stands here
pub record HasParts (path : List ℕ) (t : Scopes) (at : At) (ws : List Occurrence) (parts : Parts) : Type 0 where
  pub all_functions : parts.functions ≡ functions t at ws
  pub all_required : parts.required ≡ required path t ws

-- The file at this path with this tree has these bindings under the profile. It violates no rule.
pub record Binds (path : List ℕ) (tree : FileTree) (profile : Profile) (bound : Bound) : Type 0 where
  pub same_path : bound.path ≡ path
  pub same_tree : bound.tree ≡ tree
  pub all_functions : bound.functions ≡ functions (scopes (file_occurrences tree) profile) tree.at (file_occurrences tree)
  pub all_required : bound.required ≡ required path (scopes (file_occurrences tree) profile) (file_occurrences tree)
  pub clean : IsClean path (scopes (file_occurrences tree) profile) (file_occurrences tree)

-- What each answer says. A file that violates a rule has no bindings, and one that violates none has no refusal, so each comes exactly where this holds, unless memory is refused.
abbrev pub IsAnswer : List ℕ → FileTree → Profile → Result Bound ScopeRefusal → Type 0
IsAnswer path tree profile (Ok bound) = Binds path tree profile bound
IsAnswer path tree profile (Err refusal) = IsRefusal path (scopes (file_occurrences tree) profile) (file_occurrences tree) refusal

-- a tree has at most one answer but the refusal of memory,
abbrev pub HasOneAnswer : Type 0
HasOneAnswer = (path : List ℕ) (tree : FileTree) (profile : Profile) (one other : Result Bound ScopeRefusal)
    → (one ≡ Err NoMemory → ⊥) → (other ≡ Err NoMemory → ⊥) → IsAnswer path tree profile one → IsAnswer path tree profile other → one ≡ other

-- and at least one
abbrev pub HasSomeAnswer : Type 0
HasSomeAnswer = (path : List ℕ) (tree : FileTree) (profile : Profile)
    → (answer : Result Bound ScopeRefusal) × (answer ≡ Err NoMemory → ⊥) × IsAnswer path tree profile answer

-- the same of the parts of an answer, over the occurrences
abbrev pub IsAnswerOver : List ℕ → Scopes → At → List Occurrence → Result Parts ScopeRefusal → Type 0
IsAnswerOver path t at ws (Ok parts) = HasParts path t at ws parts × IsClean path t ws
IsAnswerOver path t at ws (Err refusal) = IsRefusal path t ws refusal
