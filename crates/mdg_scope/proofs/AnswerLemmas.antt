-- A tree has one answer but for the refusal of memory: at most one, and at least one.
use Rattle.std.proofs.Common.{◌≡◌, ℕ, zero, suc, ◌+◌, ◌≤◌, List, [], ◌∷◌, ◌++◌, length, take, get_or, refl, sym, ◌∙◌, ap, subst, arith, inl, inr}
use Rattle.std.specs.Prelude.{◌⊎◌, Contains, Option, Some, None, Result, Ok, Err}
use Rattle.std.proofs.lemmas.List.{take_all}
use Rattle.mdg_profile.specs.declared.entry.Profile.{Profile}
use Rattle.mdg_tree.specs.declared.tree.FileTree.{FileTree}
use Rattle.mdg_scope.specs.Bindings.{Binds, Refuses, IsRefusal, IsAnswer, HasOneAnswer, HasSomeAnswer}
use Rattle.mdg_scope.specs.Resolution.{scopes, resolution}
use Rattle.mdg_scope.specs.Violations.{Violates, Sooner, IsFirst, IsClean, FirstOf, violation_of, rank, refusal_of, sooner_of, found_by, first_kind}
use Rattle.mdg_scope.specs.Occurrences.{file_occurrences}
use Rattle.mdg_scope.specs.Functions.{functions, required}
use Rattle.mdg_scope.specs.declared.bound.Bound.{Bound}
use Rattle.mdg_scope.specs.declared.resolution.Scopes.{Scopes}
use Rattle.mdg_scope.specs.declared.refusal.ScopeRefusal.{ScopeRefusal}
use Rattle.mdg_scope.specs.declared.refusal.ScopeRefusal.TheVariants as scope
use Rattle.mdg_scope.specs.declared.violation.Violation.{Violation}
use Rattle.mdg_scope.specs.declared.violation.ViolationKind.{ViolationKind}
use Rattle.mdg_scope.specs.declared.violation.ViolationKind.TheVariants as kind
use Rattle.mdg_scope.specs.declared.occurrence.Occurrence.{Occurrence}
use Rattle.mdg_scope.specs.declared.occurrence.OccurrenceKind.TheVariants as r
use Rattle.mdg_scope.proofs.ViolationLemmas.{one_more}
use Rattle.mdg_scope.proofs.RefusalLemmas.{refused}

same_bound : (path : List ℕ) (tree : FileTree) (profile : Profile) (x y : Bound) → Binds path tree profile x → Binds path tree profile y → x ≡ y
same_bound path tree profile x y p q =
    let paths : x.path ≡ y.path = p.same_path ∙ sym q.same_path in
    let trees : x.tree ≡ y.tree = p.same_tree ∙ sym q.same_tree in
    let functions_same : x.functions ≡ y.functions = p.all_functions ∙ sym q.all_functions in
    let required_same : x.required ≡ y.required = p.all_required ∙ sym q.all_required in
    ap (λ z. record { path = z; tree = x.tree; functions = x.functions; required = x.required }) paths
    ∙ ap (λ z. record { path = y.path; tree = z; functions = x.functions; required = x.required }) trees
    ∙ ap (λ z. record { path = y.path; tree = y.tree; functions = z; required = x.required }) functions_same
    ∙ ap (λ z. record { path = y.path; tree = y.tree; functions = y.functions; required = z }) required_same

-- ---- the first violation

-- two places of a list are the same, or one stands before the other
abbrev Placed : List Occurrence → List Occurrence → Occurrence → Occurrence → Type 0
Placed before other v w = (v ≡ w) ⊎ (Contains before w ⊎ Contains other v)

later : (u v w : Occurrence) (before other : List Occurrence) → Placed before other v w → Placed (u ∷ before) (u ∷ other) v w
later u v w before other (inl same) = inl same
later u v w before other (inr (inl (k, lt, is))) = inr (inl (suc k, omega arith, is))
later u v w before other (inr (inr (k, lt, is))) = inr (inr (suc k, omega arith, is))

first_there : (u : Occurrence) (before : List Occurrence) → Contains (u ∷ before) u
first_there u before = (zero, omega arith, refl)

head_same : (u v : Occurrence) (us vs : List Occurrence) → u ∷ us ≡ v ∷ vs → u ≡ v
head_same u v us vs is = cc

tail_same : (u v : Occurrence) (us vs : List Occurrence) → u ∷ us ≡ v ∷ vs → us ≡ vs
tail_same u v us vs is = cc

placed : (before other rest after : List Occurrence) (v w : Occurrence) → before ++ v ∷ rest ≡ other ++ w ∷ after → Placed before other v w
placed [] [] rest after v w is = inl (head_same v w rest after is)
placed [] (u ∷ other) rest after v w is = inr (inr (subst (λ x. Contains (u ∷ other) x) (sym (head_same v u rest (other ++ w ∷ after) is)) (first_there u other)))
placed (u ∷ before) [] rest after v w is = inr (inl (subst (λ x. Contains (u ∷ before) x) (head_same u w (before ++ v ∷ rest) after is) (first_there u before)))
placed (u ∷ before) (t ∷ other) rest after v w is =
    let same : u ≡ t = head_same u t (before ++ v ∷ rest) (other ++ w ∷ after) is in
    subst (λ x. Placed (u ∷ before) (x ∷ other) v w) same (later u v w before other (placed before other rest after v w (tail_same u t (before ++ v ∷ rest) (other ++ w ∷ after) is)))

same_rule : (a b : ViolationKind) → rank a ≡ rank b → a ≡ b
same_rule kind.Binding kind.Binding is = refl
same_rule kind.Binding kind.Meaning is = absurd (omega arith)
same_rule kind.Binding kind.Requiring is = absurd (omega arith)
same_rule kind.Binding kind.Constructing is = absurd (omega arith)
same_rule kind.Binding kind.Jumping is = absurd (omega arith)
same_rule kind.Meaning kind.Binding is = absurd (omega arith)
same_rule kind.Meaning kind.Meaning is = refl
same_rule kind.Meaning kind.Requiring is = absurd (omega arith)
same_rule kind.Meaning kind.Constructing is = absurd (omega arith)
same_rule kind.Meaning kind.Jumping is = absurd (omega arith)
same_rule kind.Requiring kind.Binding is = absurd (omega arith)
same_rule kind.Requiring kind.Meaning is = absurd (omega arith)
same_rule kind.Requiring kind.Requiring is = refl
same_rule kind.Requiring kind.Constructing is = absurd (omega arith)
same_rule kind.Requiring kind.Jumping is = absurd (omega arith)
same_rule kind.Constructing kind.Binding is = absurd (omega arith)
same_rule kind.Constructing kind.Meaning is = absurd (omega arith)
same_rule kind.Constructing kind.Requiring is = absurd (omega arith)
same_rule kind.Constructing kind.Constructing is = refl
same_rule kind.Constructing kind.Jumping is = absurd (omega arith)
same_rule kind.Jumping kind.Binding is = absurd (omega arith)
same_rule kind.Jumping kind.Meaning is = absurd (omega arith)
same_rule kind.Jumping kind.Requiring is = absurd (omega arith)
same_rule kind.Jumping kind.Constructing is = absurd (omega arith)
same_rule kind.Jumping kind.Jumping is = refl

-- each stands no later than the other
record Level (a b : Violation) : Type 0 where
  pub offsets : a.offset ≡ b.offset
  pub ranks : rank a.kind ≡ rank b.kind

level : (a b : Violation) → Sooner a b → Sooner b a → Level a b
level a b (inl p) (inl q) = absurd (omega arith)
level a b (inl p) (inr q) = let e = q.0 in absurd (omega arith)
level a b (inr p) (inl q) = let e = p.0 in absurd (omega arith)
level a b (inr p) (inr q) = record { offsets = p.0; ranks = (let x = p.1 in let y = q.1 in omega arith) }

module _ (path : List ℕ) (t : Scopes) (ws : List Occurrence) where
  of_prefix : (before : List Occurrence) (b : Violation) (p : Violates path t ws b) → Contains before p.occurrence → Violates path t before b
  of_prefix before b p there = record { occurrence = p.occurrence; there = there; violation = p.violation; is = p.is }

  one_first : (a b : Violation) → IsFirst path t ws a → IsFirst path t ws b → a ≡ b
  one_first a b p q =
      let even = level a b (p.first b q.violation) (q.first a p.violation) in
      let rules_same : a.kind ≡ b.kind = same_rule a.kind b.kind even.ranks in
      by rules_same (placed p.before q.before p.rest q.rest p.violation.occurrence q.violation.occurrence (sym p.cut ∙ q.cut))
    where
      by : a.kind ≡ b.kind → Placed p.before q.before p.violation.occurrence q.violation.occurrence → a ≡ b
      by rules_same (inl occurrences) = p.violation.is ∙ ap (λ w. violation_of w a.kind) occurrences ∙ ap (λ r. violation_of q.violation.occurrence r) rules_same ∙ sym q.violation.is
      by rules_same (inr (inl there)) = absurd (p.earliest b (of_prefix p.before b q.violation there) (q.first a p.violation))
      by rules_same (inr (inr there)) = absurd (q.earliest a (of_prefix q.before a p.violation there) (p.first b q.violation))

-- ---- at most one answer

abbrev OutOfMemory : Result Bound ScopeRefusal → Type 0
OutOfMemory answer = answer ≡ Err scope.NoMemory

-- a refusal that isn't out of memory is that of the first violation
refuses : (path : List ℕ) (t : Scopes) (ws : List Occurrence) (refusal : ScopeRefusal) → (OutOfMemory (Err refusal) → ⊥) → IsRefusal path t ws refusal → Refuses path t ws refusal
refuses path t ws scope.NoMemory i p = absurd (i refl)
refuses path t ws (scope.BadBinding n o) i p = p
refuses path t ws (scope.Unbound n o) i p = p
refuses path t ws (scope.BadRequire o) i p = p
refuses path t ws (scope.BadNew o) i p = p
refuses path t ws (scope.BadJump o) i p = p

pub one_answer : HasOneAnswer
one_answer path tree profile (Ok x) (Ok y) i j p q = ap Ok (same_bound path tree profile x y p q)
one_answer path tree profile (Ok x) (Err s) i j p q = let w = refuses path (scopes (file_occurrences tree) profile) (file_occurrences tree) s j q in absurd (p.clean w.violation w.first.violation)
one_answer path tree profile (Err r) (Ok y) i j p q = let w = refuses path (scopes (file_occurrences tree) profile) (file_occurrences tree) r i p in absurd (q.clean w.violation w.first.violation)
one_answer path tree profile (Err r) (Err s) i j p q =
    let t = scopes (file_occurrences tree) profile in
    let ws = file_occurrences tree in
    let one = refuses path t ws r i p in
    let other = refuses path t ws s j q in
    ap Err (one.is ∙ ap refusal_of (one_first path t ws one.violation other.violation one.first other.first) ∙ sym other.is)

-- ---- at least one

none_there : (path : List ℕ) (t : Scopes) → IsClean path t []
none_there path t b is = let there = is.there in absurd (omega (arith, there.1))

any_occurrence : Occurrence
any_occurrence = record { kind = r.Given; offset = 0; within = 0; name = [] }

-- the first violation of the first occurrences, or none
first_in : (path : List ℕ) (t : Scopes) (ws : List Occurrence) (i : ℕ) → i ≤ length ws → (best : Option Violation) × FirstOf path t (take i ws) best
first_in path t ws zero h = (None, none_there path t)
first_in path t ws (suc i) h =
    let w = get_or ws i any_occurrence in
    let found = first_in path t ws i (omega arith) in
    let e : i + 1 ≡ suc i = omega arith in
    let best = sooner_of found.0 (found_by w (first_kind path w (resolution t w.within w.name))) in
    (best, subst (λ n. FirstOf path t (take n ws) best) e (one_more path t ws i any_occurrence w found.0 (omega arith) refl found.1))

first_of : (path : List ℕ) (t : Scopes) (ws : List Occurrence) → (best : Option Violation) × FirstOf path t ws best
first_of path t ws =
    let found = first_in path t ws (length ws) (omega arith) in
    (found.0, subst (λ l. FirstOf path t l found.0) (take_all (length ws) ws (omega arith)) found.1)

-- the refusal of a violation isn't that of memory
decided : (b : Violation) → refusal_of b ≡ scope.NoMemory → ⊥
decided b = by b.kind
  where
    by : (k : ViolationKind) → refusal_of (record { offset = b.offset; kind = k; name = b.name }) ≡ scope.NoMemory → ⊥
    by kind.Binding e = absurd cc
    by kind.Meaning e = absurd cc
    by kind.Requiring e = absurd cc
    by kind.Constructing e = absurd cc
    by kind.Jumping e = absurd cc

pub some_answer : HasSomeAnswer
some_answer path tree profile = let found = first_of path (scopes (file_occurrences tree) profile) (file_occurrences tree) in by found.0 found.1
  where
    by : (best : Option Violation) → FirstOf path (scopes (file_occurrences tree) profile) (file_occurrences tree) best
        → (answer : Result Bound ScopeRefusal) × (answer ≡ Err scope.NoMemory → ⊥) × IsAnswer path tree profile answer
    by None clean = (
      Ok (record {
        path = path;
        tree = tree;
        functions = functions (scopes (file_occurrences tree) profile) tree.at (file_occurrences tree);
        required = required path (scopes (file_occurrences tree) profile) (file_occurrences tree);
      }),
      (λ e. absurd cc),
      record { same_path = refl; same_tree = refl; all_functions = refl; all_required = refl; clean = clean },
    )
    by (Some b) first = (
      Err (refusal_of b),
      (λ e. decided b cc),
      refused path (scopes (file_occurrences tree) profile) (file_occurrences tree) b first,
    )
