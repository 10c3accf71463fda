-- What occurrences add: as many beginnings of functions as functions stand in their part.
use Rattle.std.specs.Prelude.{◌≡◌, ℕ, ◌+◌, ◌≤◌, Bool, true, false, if◌then◌else◌, List, [], ◌∷◌, ◌++◌, Option, Some, None, All, IfSome, length}
use Rattle.std.proofs.Common.{refl, sym, ap, ◌∙◌, subst, arith, append-nil, append_assoc, length-append, add_assoc, add-zero}
use Rattle.std.proofs.lemmas.List.Elements.{All-append, All-nil, All-cons, All-weaker}
use Rattle.mdg_tree.specs.declared.operator.UnaryOperator.{UnaryOperator}
use Rattle.mdg_tree.specs.declared.operator.UnaryOperator.TheVariants as u
use Rattle.mdg_tree.specs.declared.tree.Function.{Function}
use Rattle.mdg_scope.specs.declared.bound.BoundFunction.{BoundFunction}
use Rattle.mdg_scope.specs.declared.function.Uses.{Uses}
use Rattle.mdg_scope.specs.declared.resolution.Scopes.{Scopes}
use Rattle.mdg_scope.specs.declared.occurrence.Occurrences.{Occurrences}
use Rattle.mdg_scope.specs.declared.occurrence.OccurrenceKind.{OccurrenceKind}
use Rattle.mdg_scope.specs.declared.occurrence.OccurrenceKind.TheVariants as r
use Rattle.mdg_scope.specs.declared.occurrence.Context.{Context}
use Rattle.mdg_scope.specs.declared.occurrence.Use.{Use}
use Rattle.mdg_scope.specs.declared.occurrence.Use.TheVariants as v
use Rattle.mdg_scope.specs.declared.occurrence.Occurrence.{Occurrence}
use Rattle.mdg_scope.specs.Names.{has_name, add_name}
use Rattle.mdg_scope.specs.Collectors.{Collector, PropertyCollector, add, use_kind, deleted_occurrence, constructed_occurrence, operator_occurrence, repeated_keys, offset_at, parameter_kind, parameter_occurrences, begin_occurrence, head_occurrences, name_occurrence, jump_occurrences, silent, within_loop, inside, collect_all, expressed_occurrences, declared_occurrences}
use Rattle.mdg_scope.specs.Functions.{heads, begun_by}

-- its parent's number is at most this
abbrev pub ParentWithin : ℕ → BoundFunction → Type 0
ParentWithin n f = IfSome f.parent (λ parent. parent ≤ n)

-- a parent's number that is at most this is at most a greater one
parent_later : (n more : ℕ) (f : BoundFunction) → n ≤ more → ParentWithin n f → ParentWithin more f
parent_later n more f le h = by f.parent h
  where
    by : (o : Option ℕ) → IfSome o (λ parent. parent ≤ n) → IfSome o (λ parent. parent ≤ more)
    by None h = tt
    by (Some parent) h = let low : parent ≤ n = h in omega arith

-- so many functions have begun, and so many begin in the occurrences, each in a function whose number is at most this
pub record Stands (t : Scopes) (uses : Uses) (n : ℕ) (c : Occurrences) : Type 0 where
  pub begun : c.begun ≡ n
  pub counted : length (heads t uses c.all) ≡ n
  pub within : All (ParentWithin n) (heads t uses c.all)

-- the occurrences begin these functions, wherever they stand in a function that has begun
abbrev pub Adds : Scopes → Uses → List Function → Collector → Type 0
Adds t uses fs w = (n : ℕ) (p : Context) (c : Occurrences) → p.function ≤ n → Stands t uses n c → Stands t uses (n + length fs) (w p c)

-- the occurrences begin no function, wherever they stand in a function that has begun
abbrev pub Keeps : Scopes → Uses → Collector → Type 0
Keeps t uses w = (n : ℕ) (p : Context) (c : Occurrences) → p.function ≤ n → Stands t uses n c → Stands t uses n (w p c)

-- a kind that begins no function
abbrev pub IsQuiet : OccurrenceKind → Type 0
IsQuiet (r.Begins head) = ⊥
IsQuiet _ = Unit {0}

module _ (t : Scopes) (uses : Uses) where
  -- the functions that begin in occurrences, and in others after them
  heads_append : (one other : List Occurrence) → heads t uses (one ++ other) ≡ heads t uses one ++ heads t uses other
  heads_append [] other = refl
  heads_append (w ∷ ws) other = ap (λ l. begun_by t uses w ++ l) (heads_append ws other) ∙ sym (append_assoc (begun_by t uses w) (heads t uses ws) (heads t uses other))

  -- a occurrence that begins no function changes nothing
  quiet_role : (kind : OccurrenceKind) (offset within : ℕ) (name : List ℕ) → IsQuiet kind → heads t uses (record { kind = kind; offset = offset; within = within; name = name } ∷ []) ≡ []
  quiet_role r.Given offset within name q = refl
  quiet_role r.Parameter offset within name q = refl
  quiet_role r.RepeatedParameter offset within name q = refl
  quiet_role r.Variable offset within name q = refl
  quiet_role r.Declared offset within name q = refl
  quiet_role r.Own offset within name q = refl
  quiet_role r.Read offset within name q = refl
  quiet_role r.Assigned offset within name q = refl
  quiet_role r.TypeOperand offset within name q = refl
  quiet_role (r.Called callee) offset within name q = refl
  quiet_role r.Deleted offset within name q = refl
  quiet_role r.RepeatedKey offset within name q = refl
  quiet_role r.Constructed offset within name q = refl
  quiet_role r.OtherConstructed offset within name q = refl
  quiet_role r.LooseJump offset within name q = refl
  quiet_role (r.Begins head) offset within name q = absurd q

  pub stands_add : (kind : OccurrenceKind) (offset within : ℕ) (name : List ℕ) (n : ℕ) (c : Occurrences) → IsQuiet kind → Stands t uses n c → Stands t uses n (add kind offset within name c)
  stands_add kind offset within name n c q s =
      let same : heads t uses (c.all ++ record { kind = kind; offset = offset; within = within; name = name } ∷ []) ≡ heads t uses c.all
      = heads_append c.all _ ∙ ap (λ l. heads t uses c.all ++ l) (quiet_role kind offset within name q) ∙ append-nil (heads t uses c.all) in
      record {
        begun = s.begun;
        counted = ap length same ∙ s.counted;
        within = subst (All (ParentWithin n)) (sym same) s.within;
      }

  -- a function begins, in one that has begun
  pub stands_begin : (name : Option (List ℕ)) (parameters : List (List ℕ)) (line offset within n : ℕ) (c : Occurrences) → within ≤ n → Stands t uses n c
      → Stands t uses (n + 1) (begin_occurrence name parameters line offset within c)
  stands_begin name parameters line offset within n c le s =
      let occurrence : Occurrence = record { kind = r.Begins (record { number = c.begun + 1; name = name; parameters = parameters; line = line }); offset = offset; within = within; name = [] } in
      let more : heads t uses (c.all ++ occurrence ∷ []) ≡ heads t uses c.all ++ heads t uses (occurrence ∷ []) = heads_append c.all (occurrence ∷ []) in
      let later : (f : BoundFunction) → ParentWithin n f → ParentWithin (n + 1) f = λ f. parent_later n (n + 1) f (omega arith) in
      let here : within ≤ n + 1 = omega arith in
      record {
        begun = ap (λ k. k + 1) s.begun;
        counted = ap length more ∙ length-append (heads t uses c.all) (heads t uses (occurrence ∷ [])) ∙ ap (λ k. k + 1) s.counted;
        within = subst (All (ParentWithin (n + 1))) (sym more)
            (All-append (ParentWithin (n + 1)) (heads t uses c.all) (heads t uses (occurrence ∷ [])) (All-weaker (ParentWithin n) (ParentWithin (n + 1)) later (heads t uses c.all) s.within)
            (All-cons (ParentWithin (n + 1)) _ [] here (All-nil (ParentWithin (n + 1)))));
      }

  -- what the parts of a form add, one after the other
  pub adds_then : (fs gs : List Function) (w v : Collector) → Adds t uses fs w → Adds t uses gs v → Adds t uses (fs ++ gs) (λ p c. v p (w p c))
  adds_then fs gs w v first second n p c le s =
      let there : p.function ≤ n + length fs = omega arith in
      let sum : (n + length fs) + length gs ≡ n + length (fs ++ gs) = add_assoc n (length fs) (length gs) ∙ ap (λ k. n + k) (sym (length-append fs gs)) in
      subst (λ k. Stands t uses k (v p (w p c))) sum (second (n + length fs) p (w p c) there (first n p c le s))

  -- occurrences that are these, expr_collector of a part with these functions
  pub adds_as : (fs gs : List Function) (w v : Collector) → gs ≡ fs → ((p : Context) (c : Occurrences) → v p c ≡ w p c) → Adds t uses fs w → Adds t uses gs v
  adds_as fs gs w v is same adds n p c le s =
      subst (λ l. Stands t uses (n + length l) (v p c)) (sym is) (subst (Stands t uses (n + length fs)) (sym (same p c)) (adds n p c le s))

  -- occurrences that begin no function
  pub adds_none : (w : Collector) → Keeps t uses w → Adds t uses [] w
  adds_none w keeps n p c le s = subst (λ k. Stands t uses k (w p c)) (sym (add-zero n)) (keeps n p c le s)

  -- occurrences after those that begin no function
  pub adds_after : (gs : List Function) (w v : Collector) → Keeps t uses w → Adds t uses gs v → Adds t uses gs (λ p c. v p (w p c))
  adds_after gs w v keeps adds n p c le s = adds n p (w p c) le (keeps n p c le s)

  -- occurrences in a loop
  pub adds_looped : (fs : List Function) (w : Collector) → Adds t uses fs w → Adds t uses fs (λ p. w (within_loop p))
  adds_looped fs w adds n p c le s = adds n (within_loop p) c le s

  -- nothing
  pub keeps_silent : Keeps t uses silent
  keeps_silent n p c le s = s

  -- a occurrence that begins no function
  pub keeps_occurrence : (kind : OccurrenceKind) (offset : ℕ) (name : List ℕ) → IsQuiet kind → Keeps t uses (λ p c. add kind offset p.function name c)
  keeps_occurrence kind offset name q n p c le s = stands_add kind offset p.function name n c q s

  -- a name that is used
  pub keeps_use : (manner : Use) (line offset : ℕ) (name : List ℕ) → Keeps t uses (λ p c. add (use_kind manner line) offset p.function name c)
  keeps_use v.Read line offset name = keeps_occurrence r.Read offset name tt
  keeps_use v.Assigned line offset name = keeps_occurrence r.Assigned offset name tt
  keeps_use v.TypeOperand line offset name = keeps_occurrence r.TypeOperand offset name tt
  keeps_use (v.Called text) line offset name = keeps_occurrence (r.Called (record { line = line; text = text })) offset name tt

  -- a jump
  pub keeps_jump : (offset : ℕ) → Keeps t uses (jump_occurrences offset)
  keeps_jump offset n p c le s = by p.in_loop
    where
      by : (in_loop : Bool) → Stands t uses n (if in_loop then c else add r.LooseJump offset p.function [] c)
      by true = s
      by false = stands_add r.LooseJump offset p.function [] n c tt s

  -- `delete`
  keeps_deleted : (name : Option (List ℕ)) (offset : ℕ) → Keeps t uses (deleted_occurrence name offset)
  keeps_deleted None offset n p c le s = s
  keeps_deleted (Some name) offset n p c le s = stands_add r.Deleted offset p.function name n c tt s

  -- `new`
  pub keeps_constructed : (name : Option (List ℕ)) (offset : ℕ) → Keeps t uses (constructed_occurrence name offset)
  keeps_constructed None offset n p c le s = stands_add r.OtherConstructed offset p.function [] n c tt s
  keeps_constructed (Some name) offset n p c le s = stands_add r.Constructed offset p.function name n c tt s

  -- an operator
  pub keeps_operator : (operator : UnaryOperator) (name : Option (List ℕ)) (offset : ℕ) → Keeps t uses (operator_occurrence operator name offset)
  keeps_operator u.Delete name offset n p c le s = keeps_deleted name offset n p c le s
  keeps_operator u.Void name offset n p c le s = s
  keeps_operator u.TypeOf name offset n p c le s = s
  keeps_operator u.Plus name offset n p c le s = s
  keeps_operator u.Minus name offset n p c le s = s
  keeps_operator u.BitNot name offset n p c le s = s
  keeps_operator u.Not name offset n p c le s = s

  -- keys that stand among those before them
  pub stands_keys : (within : ℕ) (seen : List (List ℕ)) (xs : List PropertyCollector) (n : ℕ) (c : Occurrences) → Stands t uses n c → Stands t uses n (repeated_keys within seen xs c)
  stands_keys within seen [] n c s = s
  stands_keys within seen (x ∷ xs) n c s = stands_keys within (add_name seen x.key) xs n _ (by (has_name seen x.key))
    where
      by : (again : Bool) → Stands t uses n (if again then add r.RepeatedKey x.offset within x.key c else c)
      by true = stands_add r.RepeatedKey x.offset within x.key n c tt s
      by false = s

  -- parameters
  stands_parameters : (offsets : List ℕ) (other within : ℕ) (seen : List (List ℕ)) (index : ℕ) (xs : List (List ℕ)) (n : ℕ) (c : Occurrences) → Stands t uses n c
      → Stands t uses n (parameter_occurrences offsets other within seen index xs c)
  stands_parameters offsets other within seen index [] n c s = s
  stands_parameters offsets other within seen index (x ∷ xs) n c s =
      stands_parameters offsets other within (add_name seen x) (index + 1) xs n _ (stands_add (parameter_kind (has_name seen x)) (offset_at offsets other index) within x n c (quiet (has_name seen x)) s)
    where
      quiet : (again : Bool) → IsQuiet (parameter_kind again)
      quiet true = tt
      quiet false = tt

  -- a function's head
  pub stands_head : (name : Option (List ℕ)) (parameters : List (List ℕ)) (offsets : List ℕ) (line offset within n : ℕ) (c : Occurrences) → within ≤ n → Stands t uses n c
      → Stands t uses (n + 1) (head_occurrences name parameters offsets line offset within c)
  stands_head name parameters offsets line offset within n c le s =
      stands_parameters offsets offset (c.begun + 1) [] 0 parameters (n + 1) _ (stands_begin name parameters line offset within n c le s)

  -- a function's name
  pub stands_name : (kind : OccurrenceKind) (name : Option (List ℕ)) (offset within n : ℕ) (c : Occurrences) → IsQuiet kind → Stands t uses n c → Stands t uses n (name_occurrence kind name offset within c)
  stands_name kind None offset within n c q s = s
  stands_name kind (Some name) offset within n c q s = stands_add kind offset within name n c q s

  -- a function expression begins, and then those of its body
  pub adds_expressed : (f : Function) (fs : List Function) (name : Option (List ℕ)) (name_offset : ℕ) (parameters : List (List ℕ)) (offsets : List ℕ) (body : List Collector) (line offset : ℕ)
      → Adds t uses fs (collect_all body) → Adds t uses (f ∷ fs) (expressed_occurrences name name_offset parameters offsets body line offset)
  adds_expressed f fs name name_offset parameters offsets body line offset adds n p c le s =
      let begun : c.begun ≡ n = s.begun in
      let inner : c.begun + 1 ≤ n + 1 = omega arith in
      let sum : (n + 1) + length fs ≡ n + length (f ∷ fs) = omega arith in
      let head : Stands t uses (n + 1) (head_occurrences name parameters offsets line offset p.function c) = stands_head name parameters offsets line offset p.function n c le s in
      subst (λ k. Stands t uses k (expressed_occurrences name name_offset parameters offsets body line offset p c)) sum
      (adds (n + 1) (inside (c.begun + 1)) _ inner (stands_name r.Own name name_offset (c.begun + 1) (n + 1) _ tt head))

  -- the same of a declared function
  pub adds_declared : (f : Function) (fs : List Function) (name : Option (List ℕ)) (name_offset : ℕ) (parameters : List (List ℕ)) (offsets : List ℕ) (body : List Collector) (line offset : ℕ)
      → Adds t uses fs (collect_all body) → Adds t uses (f ∷ fs) (declared_occurrences name name_offset parameters offsets body line offset)
  adds_declared f fs name name_offset parameters offsets body line offset adds n p c le s =
      let begun : c.begun ≡ n = s.begun in
      let inner : c.begun + 1 ≤ n + 1 = omega arith in
      let sum : (n + 1) + length fs ≡ n + length (f ∷ fs) = omega arith in
      let named : Stands t uses n (name_occurrence r.Declared name name_offset p.function c) = stands_name r.Declared name name_offset p.function n c tt s in
      subst (λ k. Stands t uses k (declared_occurrences name name_offset parameters offsets body line offset p c)) sum
      (adds (n + 1) (inside (c.begun + 1)) _ inner (stands_head name parameters offsets line offset p.function n _ le named))
