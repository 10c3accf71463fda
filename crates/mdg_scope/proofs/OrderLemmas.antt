-- Functions, requires and the first appearances of names stand in the order of the offsets.
use Rattle.std.proofs.Common.{◌≡◌, ℕ, ◌+◌, ◌<◌, ◌≤◌, Bool, true, false, ◌&&◌, not, List, [], ◌∷◌, ◌++◌, map, refl, sym, ◌∙◌, ap, subst, arith, append_assoc, append-nil, ltb-true, if◌then◌else◌}
use Rattle.std.specs.Prelude.{nat_lt}
use Rattle.mdg_base.proofs.Decisions.{both_true}
use Rattle.mdg_tree.specs.declared.tree.Stmt.{Stmt}
use Rattle.mdg_tree.specs.Offsets.{Extent, point, in_turn, in_turn_all, stmt_extent}
use Rattle.mdg_scope.specs.declared.bound.BoundFunction.{BoundFunction}
use Rattle.mdg_scope.specs.declared.function.Filter.TheVariants as filters
use Rattle.mdg_scope.specs.declared.function.Uses.{Uses}
use Rattle.mdg_scope.specs.declared.occurrence.Callee.{Callee}
use Rattle.mdg_scope.specs.declared.occurrence.Context.{Context}
use Rattle.mdg_scope.specs.declared.occurrence.Occurrence.{Occurrence}
use Rattle.mdg_scope.specs.declared.occurrence.OccurrenceKind.{OccurrenceKind}
use Rattle.mdg_scope.specs.declared.occurrence.OccurrenceKind.TheVariants as r
use Rattle.mdg_scope.specs.declared.occurrence.Occurrences.{Occurrences}
use Rattle.mdg_scope.specs.declared.require_target.RequireTarget.{RequireTarget}
use Rattle.mdg_scope.specs.declared.require_target.RequireTarget.TheVariants as a
use Rattle.mdg_scope.specs.declared.resolution.Resolution.{Resolution}
use Rattle.mdg_scope.specs.declared.resolution.Resolution.TheVariants as s
use Rattle.mdg_scope.specs.declared.resolution.Scopes.{Scopes}
use Rattle.mdg_scope.specs.Collectors.{Collector, collect_all, inside}
use Rattle.mdg_scope.specs.Functions.{is_appearance, filtered, filtered_from, uses, heads, body, with_names, required, called_require, require_of}
use Rattle.mdg_scope.specs.Names.{ScopedName, has_named}
use Rattle.mdg_scope.specs.OccurrenceOrder.{is_beginning, is_spelled, offsets_of, AscendFrom, Appearance, appears, first_appearances, KeepsOrder}
use Rattle.mdg_scope.specs.Occurrences.{file_occurrences, given, stmt_occurrences}
use Rattle.mdg_scope.specs.RequireTargets.{target_of}
use Rattle.mdg_scope.specs.Resolution.{resolution, scopes}
use Rattle.mdg_scope.specs.Violations.{is_require}
use Rattle.mdg_scope.proofs.OffsetLemmas.{Adds, AddsWithin, Between, adds_then_in}
use Rattle.mdg_scope.proofs.OffsetTrees.{adds_stmt}

-- ---- lists of numbers

ascend_lower : (low next : ℕ) (xs : List ℕ) → low ≤ next → AscendFrom next xs → AscendFrom low xs
ascend_lower low next [] h is = tt
ascend_lower low next (x ∷ xs) h is = (omega (arith, is.0), is.1)

between_ascends : (low high : ℕ) (xs : List ℕ) → Between low high xs → AscendFrom low xs
between_ascends low high [] b = tt
between_ascends low high (x ∷ xs) b = (b.0, between_ascends (x + 1) high xs b.2)

-- the one list is the other without some of its items
data Within (A : Type 0) : List A → List A → Type 0 where
  none : Within A [] []
  skip : {xs ys : List A} {y : A} → Within A xs ys → Within A xs (y ∷ ys)
  keep : {xs ys : List A} {y : A} → Within A xs ys → Within A (y ∷ xs) (y ∷ ys)

within_ascends : (low : ℕ) (xs ys : List ℕ) → Within ℕ xs ys → AscendFrom low ys → AscendFrom low xs
within_ascends low [] [] none is = tt
within_ascends low (x ∷ xs) [] w is = elim w [ ]
within_ascends low xs (y ∷ ys) (skip w) is = ascend_lower low (y + 1) xs (let here = is.0 in omega arith) (within_ascends (y + 1) xs ys w is.1)
within_ascends low (x ∷ xs) (y ∷ ys) (keep w) is = (is.0, within_ascends (x + 1) xs ys w is.1)

within_offsets : (among : OccurrenceKind → Bool) (xs ys : List Occurrence) → Within Occurrence xs ys → Within ℕ (offsets_of among xs) (offsets_of among ys)
within_offsets among [] [] none = none
within_offsets among (x ∷ xs) [] w = elim w [ ]
within_offsets among xs (y ∷ ys) (skip w) = by (among y.kind) (within_offsets among xs ys w)
  where
    by : (b : Bool) → Within ℕ (offsets_of among xs) (offsets_of among ys) → Within ℕ (offsets_of among xs) (if b then y.offset ∷ offsets_of among ys else offsets_of among ys)
    by true rest = skip rest
    by false rest = rest
within_offsets among (x ∷ xs) (y ∷ ys) (keep w) = by (among y.kind) (within_offsets among xs ys w)
  where
    by : (b : Bool) → Within ℕ (offsets_of among xs) (offsets_of among ys)
        → Within ℕ (if b then y.offset ∷ offsets_of among xs else offsets_of among xs) (if b then y.offset ∷ offsets_of among ys else offsets_of among ys)
    by true rest = keep rest
    by false rest = rest

-- ---- functions

names_keep_offsets : (t : Scopes) (u : Uses) (names : List ScopedName) (number : ℕ) (fs : List BoundFunction)
    → map (λ f. f.offset) (with_names t u names number fs) ≡ map (λ f. f.offset) fs
names_keep_offsets t u names number [] = refl
names_keep_offsets t u names number (f ∷ fs) = ap (λ l. f.offset ∷ l) (names_keep_offsets t u names (number + 1) fs)

heads_offsets : (t : Scopes) (u : Uses) (ws : List Occurrence) → map (λ f. f.offset) (heads t u ws) ≡ offsets_of is_beginning ws
heads_offsets t u [] = refl
heads_offsets t u (w ∷ ws) = by w.kind (heads_offsets t u ws)
  where
    by : (kind : OccurrenceKind) → map (λ f. f.offset) (heads t u ws) ≡ offsets_of is_beginning ws
        → map (λ f. f.offset) (heads t u (record { kind = kind; offset = w.offset; within = w.within; name = w.name } ∷ ws))
        ≡ offsets_of is_beginning (record { kind = kind; offset = w.offset; within = w.within; name = w.name } ∷ ws)
    by (r.Begins head) same = ap (λ l. w.offset ∷ l) same
    by r.Given same = same
    by r.Parameter same = same
    by r.RepeatedParameter same = same
    by r.Variable same = same
    by r.Declared same = same
    by r.Own same = same
    by r.Read same = same
    by r.Assigned same = same
    by r.TypeOperand same = same
    by (r.Called callee) same = same
    by r.Deleted same = same
    by r.RepeatedKey same = same
    by r.Constructed same = same
    by r.OtherConstructed same = same
    by r.LooseJump same = same

-- ---- calls of `require`

required_within : (path : List ℕ) (t : Scopes) (ws : List Occurrence) → Within ℕ (map (λ one. one.offset) (required path t ws)) (offsets_of is_spelled ws)
required_within path t [] = none
required_within path t (w ∷ ws) = by w.kind (resolution t w.within w.name) (required_within path t ws)
  where
    called : (callee : Callee) (is : Bool) (target : RequireTarget) → Within ℕ (map (λ one. one.offset) (required path t ws)) (offsets_of is_spelled ws)
        → Within ℕ (map (λ one. one.offset) ((if is then require_of w.offset callee.line callee.text target else []) ++ required path t ws)) (w.offset ∷ offsets_of is_spelled ws)
    called callee false target rest = skip rest
    called callee true a.Refused rest = skip rest
    called callee true (a.Bare name) rest = keep rest
    called callee true a.InPackage rest = keep rest

    by : (kind : OccurrenceKind) (means : Resolution) → Within ℕ (map (λ one. one.offset) (required path t ws)) (offsets_of is_spelled ws)
        → Within ℕ (map (λ one. one.offset) (called_require path w.offset kind means ++ required path t ws)) (if is_spelled kind then w.offset ∷ offsets_of is_spelled ws else offsets_of is_spelled ws)
    by (r.Called callee) means rest = called callee (is_require means) (target_of path callee.text) rest
    by r.Given means rest = rest
    by r.Parameter means rest = skip rest
    by r.RepeatedParameter means rest = skip rest
    by r.Variable means rest = skip rest
    by r.Declared means rest = skip rest
    by r.Own means rest = rest
    by r.Read means rest = skip rest
    by r.Assigned means rest = skip rest
    by r.TypeOperand means rest = skip rest
    by r.Deleted means rest = rest
    by r.RepeatedKey means rest = rest
    by r.Constructed means rest = rest
    by r.OtherConstructed means rest = rest
    by r.LooseJump means rest = rest
    by (r.Begins head) means rest = rest

-- ---- first appearances

bindings_are : (t : Scopes) (table : List ScopedName) (ws : List Occurrence)
    → filtered_from filters.Any t table ws ≡ table ++ map (λ one. one.binding) (first_appearances t table ws)
bindings_are t table [] = sym (append-nil table)
bindings_are t table (w ∷ ws) = by (resolution t w.within w.name) (λ more. bindings_are t more ws)
  where
    bound : (first again : Bool) (function : ℕ) (rest : List ScopedName → List Appearance) (total : List ScopedName → List ScopedName)
        → ((more : List ScopedName) → total more ≡ more ++ map (λ one. one.binding) (rest more))
        → total (if first then (if again then table else table ++ (function, w.name) ∷ []) else table)
        ≡ table ++ map (λ one. one.binding) ((if first && not again then record { occurrence = w; binding = (function, w.name) } ∷ [] else [])
        ++ rest (if first then (if again then table else table ++ (function, w.name) ∷ []) else table))
    bound true true function rest total same = same table
    bound false again function rest total same = same table
    bound true false function rest total same =
        same (table ++ (function, w.name) ∷ []) ∙ append_assoc table ((function, w.name) ∷ []) (map (λ one. one.binding) (rest (table ++ (function, w.name) ∷ [])))

    by : (means : Resolution) → ((more : List ScopedName) → filtered_from filters.Any t more ws ≡ more ++ map (λ one. one.binding) (first_appearances t more ws))
        → filtered_from filters.Any t (filtered filters.Any t w means table) ws
        ≡ table ++ map (λ one. one.binding) (appears t table w means ++ first_appearances t (filtered filters.Any t w means table) ws)
    by s.Require same = same table
    by s.Literal same = same table
    by s.Global same = same table
    by s.Nothing same = same table
    by (s.Bound function) same = bound (is_appearance t w) (has_named table (function, w.name)) function (λ more. first_appearances t more ws) (λ more. filtered_from filters.Any t more ws) same

appearances_within : (t : Scopes) (table : List ScopedName) (ws : List Occurrence) → Within Occurrence (map (λ one. one.occurrence) (first_appearances t table ws)) ws
appearances_within t table [] = none
appearances_within t table (w ∷ ws) = by (resolution t w.within w.name) (λ more. appearances_within t more ws)
  where
    bound : (first : Bool) (function : ℕ) (rest : List Appearance) → Within Occurrence (map (λ one. one.occurrence) rest) ws
        → Within Occurrence (map (λ one. one.occurrence) ((if first then record { occurrence = w; binding = (function, w.name) } ∷ [] else []) ++ rest)) (w ∷ ws)
    bound true function rest is = keep is
    bound false function rest is = skip is

    by : (means : Resolution) → ((more : List ScopedName) → Within Occurrence (map (λ one. one.occurrence) (first_appearances t more ws)) ws)
        → Within Occurrence (map (λ one. one.occurrence) (appears t table w means ++ first_appearances t (filtered filters.Any t w means table) ws)) (w ∷ ws)
    by s.Require is = skip (is table)
    by s.Literal is = skip (is table)
    by s.Global is = skip (is table)
    by s.Nothing is = skip (is table)
    by (s.Bound function) is = bound (is_appearance t w && not (has_named table (function, w.name))) function
        (first_appearances t (filtered filters.Any t w (s.Bound function) table) ws) (is (filtered filters.Any t w (s.Bound function) table))

-- ---- the items of a file

all_in_turn : (x : Extent) (w : Collector) (context : Context) → Adds x w → (items : List Stmt)
    → Adds (in_turn_all x (map stmt_extent items)) (λ p c. collect_all (map stmt_occurrences items) context (w p c))
all_in_turn x w context h [] = h
all_in_turn x w context h (item ∷ items) = all_in_turn (in_turn x (stmt_extent item)) (λ p c. stmt_occurrences item context (w p c)) context
    (adds_then_in x (stmt_extent item) w (stmt_occurrences item) (λ p c. context) h (adds_stmt item)) items

-- parts after one that ends where another does
all_moves : (x y : Extent) (rest : List Extent) → x.last ≡ y.last → y.ascends ≡ true → (in_turn_all x rest).ascends ≡ true → (in_turn_all y rest).ascends ≡ true
all_moves x y [] same there up = there
all_moves x y (z ∷ rest) same there up = all_moves (in_turn x z) (in_turn y z) rest refl (first (all_first (in_turn x z) rest up)) up
  where
    all_first : (one : Extent) (others : List Extent) → (in_turn_all one others).ascends ≡ true → one.ascends ≡ true
    all_first one [] is = is
    all_first one (other ∷ others) is = (both_true one.ascends (nat_lt one.last other.first && other.ascends) (all_first (in_turn one other) others is)).0

    first : (x.ascends && (nat_lt x.last z.first && z.ascends)) ≡ true → (y.ascends && (nat_lt y.last z.first && z.ascends)) ≡ true
    first is = let rest_is = (both_true x.ascends (nat_lt x.last z.first && z.ascends) is).1 in
        rw there (subst (λ n. (nat_lt n z.first && z.ascends) ≡ true) same rest_is)

-- The items of a file after its first token: where they begin, names are spelled and functions begin after that token.
record Items (at : ℕ) (items : List Stmt) (c : Occurrences) : Type 0 where
  pub added : List Occurrence
  pub all_is : (collect_all (map stmt_occurrences items) (inside 0) c).all ≡ c.all ++ added
  pub beginnings : AscendFrom (at + 1) (offsets_of is_beginning added)
  pub names : AscendFrom (at + 1) (offsets_of is_spelled added)

items_stand : (at : ℕ) (items : List Stmt) (c : Occurrences) → (in_turn_all (point at) (map stmt_extent items)).ascends ≡ true → Items at items c
items_stand at [] c up = record { added = []; all_is = sym (append-nil c.all); beginnings = tt; names = tt }
items_stand at (item ∷ items) c up =
    let first = first_of (in_turn (point at) (stmt_extent item)) (map stmt_extent items) up in
    let parts = both_true (nat_lt at (stmt_extent item).first) (stmt_extent item).ascends first in
    let lt : at < (stmt_extent item).first = ltb-true at (stmt_extent item).first parts.0 in
    let alone = all_moves (in_turn (point at) (stmt_extent item)) (stmt_extent item) (map stmt_extent items) refl parts.1 up in
    let whole = all_in_turn (stmt_extent item) (λ p c. stmt_occurrences item (inside 0) c) (inside 0) (λ is. by is) items alone in
    let added = whole.adds (inside 0) c in
    let start : (in_turn_all (stmt_extent item) (map stmt_extent items)).first ≡ (stmt_extent item).first = first_same (stmt_extent item) (map stmt_extent items) in
    record {
      added = added.added;
      all_is = added.all_is;
      beginnings = ascend_lower (at + 1) _ _ (omega (arith, start)) (between_ascends _ _ _ added.lies.beginnings);
      names = ascend_lower (at + 1) _ _ (omega (arith, start)) (between_ascends _ _ _ added.lies.names);
    }
  where
    first_of : (one : Extent) (others : List Extent) → (in_turn_all one others).ascends ≡ true → one.ascends ≡ true
    first_of one [] is = is
    first_of one (other ∷ others) is = (both_true one.ascends (nat_lt one.last other.first && other.ascends) (first_of (in_turn one other) others is)).0

    first_same : (one : Extent) (others : List Extent) → (in_turn_all one others).first ≡ one.first
    first_same one [] = refl
    first_same one (other ∷ others) = first_same (in_turn one other) others

    by : (stmt_extent item).ascends ≡ true → AddsWithin (stmt_extent item) (λ p c. stmt_occurrences item (inside 0) c)
    by is = let one = adds_stmt item is in record { ordered = one.ordered; adds = λ p c. one.adds (inside 0) c }

-- ---- the law

given_before : (among : OccurrenceKind → Bool) (added : List Occurrence) → among r.Given ≡ false → offsets_of among (given.all ++ added) ≡ offsets_of among added
given_before among added is = rw is refl

pub keeps_order : KeepsOrder
keeps_order path tree profile bound up binds =
    let ws = file_occurrences tree in
    let t = scopes ws profile in
    let items = items_stand tree.at.offset tree.items given up in
    let beginnings : offsets_of is_beginning ws ≡ offsets_of is_beginning items.added = ap (offsets_of is_beginning) items.all_is ∙ given_before is_beginning items.added refl in
    let spelled : offsets_of is_spelled ws ≡ offsets_of is_spelled items.added = ap (offsets_of is_spelled) items.all_is ∙ given_before is_spelled items.added refl in
    let names : AscendFrom 0 (offsets_of is_spelled ws) = subst (AscendFrom 0) (sym spelled) (ascend_lower 0 (tree.at.offset + 1) (offsets_of is_spelled items.added) (omega arith) items.names) in
    let places : map (λ f. f.offset) bound.functions ≡ tree.at.offset ∷ offsets_of is_beginning items.added
    = ap (map (λ f. f.offset)) binds.all_functions ∙ names_keep_offsets t (uses t ws) (uses t ws).names 0 (body tree.at ∷ heads t (uses t ws) ws)
    ∙ ap (λ l. tree.at.offset ∷ l) (heads_offsets t (uses t ws) ws ∙ beginnings) in
    record {
      functions = subst (AscendFrom 0) (sym places) (omega arith, items.beginnings);
      required = subst (λ l. AscendFrom 0 (map (λ one. one.offset) l)) (sym binds.all_required) (within_ascends 0 _ _ (required_within path t ws) names);
      bindings = bindings_are t [] ws;
      appearances = within_ascends 0 _ _ (within_offsets is_spelled _ _ (appearances_within t [] ws)) names;
    }
