-- Which rules the occurrences of a file violate, and which violation stands first.
use Rattle.std.specs.Prelude.{◌≡◌, ℕ, ◌<◌, ◌≤◌, ◌==◌, nat_lt, Bool, true, false, ◌&&◌, ◌||◌, not, ◌⊎◌, List, ◌∷◌, ◌++◌, codes, Contains, Option, Some, None, MatchOption, if◌then◌else◌}
use Rattle.std.specs.Str.{bytes_eq}
use Rattle.mdg_scope.specs.declared.occurrence.Occurrence.{Occurrence}
use Rattle.mdg_scope.specs.declared.occurrence.OccurrenceKind.{OccurrenceKind}
use Rattle.mdg_scope.specs.declared.occurrence.OccurrenceKind.TheVariants as r
use Rattle.mdg_scope.specs.declared.resolution.Resolution.{Resolution}
use Rattle.mdg_scope.specs.declared.resolution.Resolution.TheVariants as s
use Rattle.mdg_scope.specs.declared.resolution.Scopes.{Scopes}
use Rattle.mdg_scope.specs.declared.require_target.RequireTarget.{RequireTarget}
use Rattle.mdg_scope.specs.declared.require_target.RequireTarget.TheVariants as a
use Rattle.mdg_scope.specs.declared.violation.ViolationKind.{ViolationKind}
use Rattle.mdg_scope.specs.declared.violation.ViolationKind.TheVariants as kind
use Rattle.mdg_scope.specs.declared.violation.Violation.{Violation}
use Rattle.mdg_scope.specs.declared.refusal.ScopeRefusal.{ScopeRefusal}
use Rattle.mdg_scope.specs.declared.refusal.ScopeRefusal.TheVariants as refusal
use Rattle.mdg_scope.specs.Resolution.{resolution}
use Rattle.mdg_scope.specs.RequireTargets.{target_of}

abbrev pub is_eval : List ℕ → Bool
is_eval name = bytes_eq name (codes "eval")

-- a name that may not be assigned
abbrev pub is_fixed : Resolution → Bool
is_fixed s.Literal = true
is_fixed s.Global = true
is_fixed _ = false

abbrev pub is_require : Resolution → Bool
is_require s.Require = true
is_require _ = false

abbrev pub is_global : Resolution → Bool
is_global s.Global = true
is_global _ = false

abbrev pub is_nothing : Resolution → Bool
is_nothing s.Nothing = true
is_nothing _ = false

abbrev pub is_refused : RequireTarget → Bool
is_refused a.Refused = true
is_refused _ = false

-- `eval` is bound or assigned, two parameters have one name, a name is deleted, two keys are equal, or a global or literal name is assigned
abbrev pub violates_binding : OccurrenceKind → List ℕ → Resolution → Bool
violates_binding r.Parameter name means = is_eval name
violates_binding r.RepeatedParameter name means = true
violates_binding r.Variable name means = is_eval name
violates_binding r.Declared name means = is_eval name
violates_binding r.Own name means = is_eval name
violates_binding r.Assigned name means = is_eval name || is_fixed means
violates_binding r.Deleted name means = true
violates_binding r.RepeatedKey name means = true
violates_binding _ name means = false

-- a name means nothing, and isn't the whole operand of `typeof`
abbrev pub violates_meaning : OccurrenceKind → Resolution → Bool
violates_meaning r.Read means = is_nothing means
violates_meaning r.Assigned means = is_nothing means
violates_meaning (r.Called callee) means = is_nothing means
violates_meaning _ means = false

-- `require` isn't called with one text, or the text is refused
abbrev pub violates_require : List ℕ → OccurrenceKind → Resolution → Bool
violates_require path r.Read means = is_require means
violates_require path r.Assigned means = is_require means
violates_require path r.TypeOperand means = is_require means
violates_require path (r.Called callee) means = is_require means && is_refused (target_of path callee.text)
violates_require path _ means = false

-- the operand of `new` isn't a name that means a global
abbrev pub violates_new : OccurrenceKind → Resolution → Bool
violates_new r.Constructed means = not (is_global means)
violates_new r.OtherConstructed means = true
violates_new _ means = false

-- `break` or `continue` stands in no loop of its function
abbrev pub violates_jump : OccurrenceKind → Bool
violates_jump r.LooseJump = true
violates_jump _ = false

-- the occurrence, whose name means this, violates the rule
abbrev pub violates : List ℕ → ViolationKind → Occurrence → Resolution → Bool
violates path kind.Binding w means = violates_binding w.kind w.name means
violates path kind.Meaning w means = violates_meaning w.kind means
violates path kind.Requiring w means = violates_require path w.kind means
violates path kind.Constructing w means = violates_new w.kind means
violates path kind.Jumping w means = violates_jump w.kind

-- of rules that are violated at one offset the one of the least number comes first
abbrev pub rank : ViolationKind → ℕ
rank kind.Binding = 0
rank kind.Meaning = 1
rank kind.Requiring = 2
rank kind.Constructing = 3
rank kind.Jumping = 4

abbrev pub violation_of : Occurrence → ViolationKind → Violation
violation_of w kind = record { offset = w.offset; kind = kind; name = w.name }

-- an occurrence violates that rule
pub record Violates (path : List ℕ) (t : Scopes) (ws : List Occurrence) (b : Violation) : Type 0 where
  pub occurrence : Occurrence
  pub there : Contains ws occurrence
  pub violation : violates path b.kind occurrence (resolution t occurrence.within occurrence.name) ≡ true
  pub is : b ≡ violation_of occurrence b.kind

-- one stands no later than the other
abbrev pub Sooner : Violation → Violation → Type 0
Sooner one other = (one.offset < other.offset) ⊎ ((one.offset ≡ other.offset) × (rank one.kind ≤ rank other.kind))

-- the violation is there, none stands before it, and of those that stand at its place it is that of the first occurrence
pub record IsFirst (path : List ℕ) (t : Scopes) (ws : List Occurrence) (b : Violation) : Type 0 where
  pub violation : Violates path t ws b
  pub first : (other : Violation) → Violates path t ws other → Sooner b other
  pub before : List Occurrence
  pub rest : List Occurrence
  pub cut : ws ≡ before ++ violation.occurrence ∷ rest
  pub earliest : (other : Violation) → Violates path t before other → Sooner other b → ⊥

abbrev pub IsClean : List ℕ → Scopes → List Occurrence → Type 0
IsClean path t ws = (b : Violation) → Violates path t ws b → ⊥

-- the first violation, if there is one
abbrev pub FirstOf : List ℕ → Scopes → List Occurrence → Option Violation → Type 0
FirstOf path t ws best = MatchOption best (IsClean path t ws) (IsFirst path t ws)

-- the first rule that an occurrence violates
abbrev pub first_kind : List ℕ → Occurrence → Resolution → Option ViolationKind
first_kind path w means =
    if violates path kind.Binding w means then Some kind.Binding
    else (if violates path kind.Meaning w means then Some kind.Meaning
    else (if violates path kind.Requiring w means then Some kind.Requiring
    else (if violates path kind.Constructing w means then Some kind.Constructing
    else (if violates path kind.Jumping w means then Some kind.Jumping else None))))

abbrev pub is_sooner : Violation → Violation → Bool
is_sooner one other = nat_lt one.offset other.offset || ((one.offset == other.offset) && nat_lt (rank one.kind) (rank other.kind))

-- the sooner of two violates, the first of them where neither is
abbrev pub sooner_of : Option Violation → Option Violation → Option Violation
sooner_of best None = best
sooner_of None (Some b) = Some b
sooner_of (Some a) (Some b) = if is_sooner b a then Some b else Some a

abbrev pub found_by : Occurrence → Option ViolationKind → Option Violation
found_by w None = None
found_by w (Some kind) = Some (violation_of w kind)

abbrev pub refusal_of : Violation → ScopeRefusal
refusal_of b = by_rule b.kind b.offset b.name
  where
    by_rule : ViolationKind → ℕ → List ℕ → ScopeRefusal
    by_rule kind.Binding offset name = refusal.BadBinding name offset
    by_rule kind.Meaning offset name = refusal.Unbound name offset
    by_rule kind.Requiring offset name = refusal.BadRequire offset
    by_rule kind.Constructing offset name = refusal.BadNew offset
    by_rule kind.Jumping offset name = refusal.BadJump offset
