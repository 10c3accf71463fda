-- What a part of a tree adds to the occurrences stands within its extent, in the order of the offsets.
use Rattle.std.proofs.Common.{◌≡◌, ℕ, ◌+◌, ◌<◌, ◌≤◌, Bool, true, false, ◌&&◌, List, [], ◌∷◌, ◌++◌, length, map, refl, sym, ◌∙◌, ap, subst, arith, append_assoc, append-nil, length-append, ltb-true, leb-true, eqb-true, if◌then◌else◌}
use Rattle.std.specs.Prelude.{Option, Some, None, slice_get, unwrap_or, nat_lt, nat_le, nat_eq}
use Rattle.mdg_base.proofs.Decisions.{both_true}
use Rattle.mdg_tree.specs.Offsets.{Extent, point, in_turn, in_turn_all, around, aligned}
use Rattle.mdg_tree.specs.declared.operator.UnaryOperator.{UnaryOperator}
use Rattle.mdg_tree.specs.declared.operator.UnaryOperator.TheVariants as u
use Rattle.mdg_scope.specs.declared.occurrence.Occurrences.{Occurrences}
use Rattle.mdg_scope.specs.declared.occurrence.Occurrence.{Occurrence}
use Rattle.mdg_scope.specs.declared.occurrence.OccurrenceKind.{OccurrenceKind}
use Rattle.mdg_scope.specs.declared.occurrence.OccurrenceKind.TheVariants as r
use Rattle.mdg_scope.specs.declared.occurrence.Context.{Context}
use Rattle.mdg_scope.specs.Collectors.{Collector, PropertyCollector, add, silent, repeated_keys, deleted_occurrence, constructed_occurrence, operator_occurrence, jump_occurrences, parameter_occurrences, parameter_kind, offset_at, begin_occurrence, name_occurrence}
use Rattle.mdg_scope.specs.Names.{has_name, add_name}
use Rattle.mdg_scope.specs.OccurrenceOrder.{is_beginning, is_spelled, offsets_of}

-- they ascend from the one number on, and none is greater than the other
abbrev pub Between : ℕ → ℕ → List ℕ → Type 0
Between low high [] = Unit {0}
Between low high (x ∷ xs) = (low ≤ x) × (x ≤ high) × Between (x + 1) high xs

between_lower : (low next high : ℕ) (xs : List ℕ) → low ≤ next → Between next high xs → Between low high xs
between_lower low next high [] h b = tt
between_lower low next high (x ∷ xs) h b = (omega (arith, b.0), b.1, b.2)

between_join : (low mid next high : ℕ) (xs ys : List ℕ) → mid < next → low ≤ next → mid ≤ high → Between low mid xs → Between next high ys → Between low high (xs ++ ys)
between_join low mid next high [] ys lt le up b d = between_lower low next high ys le d
between_join low mid next high (x ∷ xs) ys lt le up b d =
    (b.0, omega (arith, b.1), between_join (x + 1) mid next high xs ys lt (omega (arith, b.1)) up b.2 d)

offsets_join : (among : OccurrenceKind → Bool) (xs ys : List Occurrence) → offsets_of among (xs ++ ys) ≡ offsets_of among xs ++ offsets_of among ys
offsets_join among [] ys = refl
offsets_join among (w ∷ ws) ys = by (among w.kind) (offsets_join among ws ys)
  where
    by : (b : Bool) → offsets_of among (ws ++ ys) ≡ offsets_of among ws ++ offsets_of among ys
        → (if b then w.offset ∷ offsets_of among (ws ++ ys) else offsets_of among (ws ++ ys)) ≡ (if b then w.offset ∷ offsets_of among ws else offsets_of among ws) ++ offsets_of among ys
    by true same = ap (λ l. w.offset ∷ l) same
    by false same = same

-- beginnings and spelled names stand between these offsets, in order
pub record Lies (low high : ℕ) (ws : List Occurrence) : Type 0 where
  pub beginnings : Between low high (offsets_of is_beginning ws)
  pub names : Between low high (offsets_of is_spelled ws)

-- they are added
pub record Added (low high : ℕ) (c after : Occurrences) : Type 0 where
  pub added : List Occurrence
  pub all_is : after.all ≡ c.all ++ added
  pub lies : Lies low high added

-- what is added is neither
pub record Quiet (c after : Occurrences) : Type 0 where
  pub added : List Occurrence
  pub all_is : after.all ≡ c.all ++ added
  pub beginnings : offsets_of is_beginning added ≡ []
  pub names : offsets_of is_spelled added ≡ []

pub record AddsWithin (x : Extent) (w : Collector) : Type 0 where
  pub ordered : x.first ≤ x.last
  pub adds : (p : Context) (c : Occurrences) → Added x.first x.last c (w p c)

-- where its offsets ascend
abbrev pub Adds : Extent → Collector → Type 0
Adds x w = x.ascends ≡ true → AddsWithin x w

added_join : (low mid next high : ℕ) (c now after : Occurrences) → mid < next → low ≤ next → mid ≤ high → Added low mid c now → Added next high now after → Added low high c after
added_join low mid next high c now after lt le up a b = record {
  added = a.added ++ b.added;
  all_is = b.all_is ∙ ap (λ l. l ++ b.added) a.all_is ∙ append_assoc c.all a.added b.added;
  lies = record {
    beginnings = subst (Between low high) (sym (offsets_join is_beginning a.added b.added))
        (between_join low mid next high (offsets_of is_beginning a.added) (offsets_of is_beginning b.added) lt le up a.lies.beginnings b.lies.beginnings);
    names = subst (Between low high) (sym (offsets_join is_spelled a.added b.added))
        (between_join low mid next high (offsets_of is_spelled a.added) (offsets_of is_spelled b.added) lt le up a.lies.names b.lies.names);
  };
}

added_lower : (low next high : ℕ) (c after : Occurrences) → low ≤ next → Added next high c after → Added low high c after
added_lower low next high c after le a = record {
  added = a.added;
  all_is = a.all_is;
  lies = record {
    beginnings = between_lower low next high (offsets_of is_beginning a.added) le a.lies.beginnings;
    names = between_lower low next high (offsets_of is_spelled a.added) le a.lies.names;
  };
}

-- one occurrence
one_added : (low high begun : ℕ) (w : Occurrence) (c : Occurrences) → low ≤ w.offset → w.offset ≤ high → Added low high c (record { all = c.all ++ w ∷ []; begun = begun })
one_added low high begun w c le up = record {
  added = w ∷ [];
  all_is = refl;
  lies = record { beginnings = by (is_beginning w.kind); names = by (is_spelled w.kind) };
}
  where
    by : (b : Bool) → Between low high (if b then w.offset ∷ [] else [])
    by true = (le, up, tt)
    by false = tt

none_added : (low high : ℕ) (c : Occurrences) → Added low high c c
none_added low high c = record { added = []; all_is = sym (append-nil c.all); lies = record { beginnings = tt; names = tt } }

quiet_added : (low high : ℕ) (c after : Occurrences) → Quiet c after → Added low high c after
quiet_added low high c after q = record {
  added = q.added;
  all_is = q.all_is;
  lies = record { beginnings = subst (Between low high) (sym q.beginnings) tt; names = subst (Between low high) (sym q.names) tt };
}

-- before it, or after it
quiet_before : (low high : ℕ) (c now after : Occurrences) → Quiet c now → Added low high now after → Added low high c after
quiet_before low high c now after q a = record {
  added = q.added ++ a.added;
  all_is = a.all_is ∙ ap (λ l. l ++ a.added) q.all_is ∙ append_assoc c.all q.added a.added;
  lies = record {
    beginnings = subst (Between low high) (sym (offsets_join is_beginning q.added a.added ∙ ap (λ l. l ++ offsets_of is_beginning a.added) q.beginnings)) a.lies.beginnings;
    names = subst (Between low high) (sym (offsets_join is_spelled q.added a.added ∙ ap (λ l. l ++ offsets_of is_spelled a.added) q.names)) a.lies.names;
  };
}

quiet_after : (low high : ℕ) (c now after : Occurrences) → Added low high c now → Quiet now after → Added low high c after
quiet_after low high c now after a q = record {
  added = a.added ++ q.added;
  all_is = q.all_is ∙ ap (λ l. l ++ q.added) a.all_is ∙ append_assoc c.all a.added q.added;
  lies = record {
    beginnings = subst (Between low high) (sym (offsets_join is_beginning a.added q.added ∙ ap (λ l. offsets_of is_beginning a.added ++ l) q.beginnings ∙ append-nil (offsets_of is_beginning a.added))) a.lies.beginnings;
    names = subst (Between low high) (sym (offsets_join is_spelled a.added q.added ∙ ap (λ l. offsets_of is_spelled a.added ++ l) q.names ∙ append-nil (offsets_of is_spelled a.added))) a.lies.names;
  };
}

-- ---- parts of a form

pub adds_as : (x y : Extent) (w v : Collector) → y ≡ x → ((p : Context) (c : Occurrences) → v p c ≡ w p c) → Adds x w → Adds y v
adds_as x y w v is same h = subst (λ z. Adds z v) (sym is) (λ up. let a = h up in record {
  ordered = a.ordered;
  adds = λ p c. subst (Added x.first x.last c) (sym (same p c)) (a.adds p c);
})

-- a part and another after it, in a context of its own
pub adds_then_in : (a b : Extent) (w v : Collector) (context : Context → Occurrences → Context) → Adds a w → Adds b v → Adds (in_turn a b) (λ p c. v (context p c) (w p c))
adds_then_in a b w v context f g up =
    let p = both_true a.ascends (nat_lt a.last b.first && b.ascends) up in
    let q = both_true (nat_lt a.last b.first) b.ascends p.1 in
    let lt : a.last < b.first = ltb-true a.last b.first q.0 in
    let one = f p.0 in
    let other = g q.1 in
    let le = one.ordered in
    let up = other.ordered in
    record {
      ordered = omega arith;
      adds = λ k c. added_join a.first a.last b.first b.last c (w k c) (v (context k c) (w k c)) lt (omega arith) (omega arith) (one.adds k c) (other.adds (context k c) (w k c));
    }

pub adds_then : (a b : Extent) (w v : Collector) → Adds a w → Adds b v → Adds (in_turn a b) (λ p c. v p (w p c))
adds_then a b w v f g = adds_then_in a b w v (λ p c. p) f g

-- a form around a part
pub adds_around : (offset : ℕ) (a : Extent) (w : Collector) → Adds a w → Adds (around offset a) w
adds_around offset a w f up =
    let p = both_true (nat_le offset a.first) a.ascends up in
    let le : offset ≤ a.first = leb-true offset a.first p.0 in
    let one = f p.1 in
    let inner = one.ordered in
    record { ordered = omega arith; adds = λ k c. added_lower offset a.first a.last c (w k c) le (one.adds k c) }

-- a place at which nothing is added
pub adds_silent : (offset : ℕ) → Adds (point offset) silent
adds_silent offset up = record { ordered = omega arith; adds = λ p c. none_added offset offset c }

-- one occurrence
pub adds_one : (kind : OccurrenceKind) (offset : ℕ) (name : List ℕ) → Adds (point offset) (λ p c. add kind offset p.function name c)
adds_one kind offset name up = record {
  ordered = omega arith;
  adds = λ p c. one_added offset offset c.begun (record { kind = kind; offset = offset; within = p.function; name = name }) c (omega arith) (omega arith);
}

pub adds_constructed : (name : Option (List ℕ)) (offset : ℕ) → Adds (point offset) (constructed_occurrence name offset)
adds_constructed None offset = adds_one r.OtherConstructed offset []
adds_constructed (Some name) offset = adds_one r.Constructed offset name

adds_deleted : (name : Option (List ℕ)) (offset : ℕ) → Adds (point offset) (deleted_occurrence name offset)
adds_deleted None offset = adds_silent offset
adds_deleted (Some name) offset = adds_one r.Deleted offset name

pub adds_operator : (operator : UnaryOperator) (name : Option (List ℕ)) (offset : ℕ) → Adds (point offset) (operator_occurrence operator name offset)
adds_operator u.Delete name offset = adds_deleted name offset
adds_operator u.Void name offset = adds_silent offset
adds_operator u.TypeOf name offset = adds_silent offset
adds_operator u.Plus name offset = adds_silent offset
adds_operator u.Minus name offset = adds_silent offset
adds_operator u.BitNot name offset = adds_silent offset
adds_operator u.Not name offset = adds_silent offset

pub adds_jump : (offset : ℕ) → Adds (point offset) (jump_occurrences offset)
adds_jump offset up = record { ordered = omega arith; adds = λ p c. by p c p.in_loop }
  where
    by : (p : Context) (c : Occurrences) (in_loop : Bool) → Added offset offset c (if in_loop then c else add r.LooseJump offset p.function [] c)
    by p c true = none_added offset offset c
    by p c false = one_added offset offset c.begun (record { kind = r.LooseJump; offset = offset; within = p.function; name = [] }) c (omega arith) (omega arith)

-- keys that are repeated, before a part
quiet_keys : (within : ℕ) (seen : List (List ℕ)) (xs : List PropertyCollector) (c : Occurrences) → Quiet c (repeated_keys within seen xs c)
quiet_keys within seen [] c = record { added = []; all_is = sym (append-nil c.all); beginnings = refl; names = refl }
quiet_keys within seen (x ∷ xs) c = by (has_name seen x.key) (λ more. quiet_keys within (add_name seen x.key) xs more)
  where
    by : (again : Bool) → ((more : Occurrences) → Quiet more (repeated_keys within (add_name seen x.key) xs more))
        → Quiet c (repeated_keys within (add_name seen x.key) xs (if again then add r.RepeatedKey x.offset within x.key c else c))
    by false rest = rest c
    by true rest =
        let key : Occurrence = record { kind = r.RepeatedKey; offset = x.offset; within = within; name = x.key } in
        let q = rest (add r.RepeatedKey x.offset within x.key c) in
        record { added = key ∷ q.added; all_is = q.all_is ∙ append_assoc c.all (key ∷ []) q.added; beginnings = q.beginnings; names = q.names }

pub adds_after_keys : (x : Extent) (w : Collector) (xs : List PropertyCollector) → Adds x w → Adds x (λ p c. w p (repeated_keys p.function [] xs c))
adds_after_keys x w xs h up = let a = h up in record {
  ordered = a.ordered;
  adds = λ p c. quiet_before x.first x.last c (repeated_keys p.function [] xs c) (w p (repeated_keys p.function [] xs c)) (quiet_keys p.function [] xs c) (a.adds p (repeated_keys p.function [] xs c));
}

-- ---- functions

-- where a list of parts ascends, the first of them does
all_first : (a : Extent) (xs : List Extent) → (in_turn_all a xs).ascends ≡ true → a.ascends ≡ true
all_first a [] up = up
all_first a (b ∷ xs) up = (both_true a.ascends (nat_lt a.last b.first && b.ascends) (all_first (in_turn a b) xs up)).0

slice_get-here : (done : List ℕ) (offset : ℕ) (rest : List ℕ) → slice_get (done ++ offset ∷ rest) (length done) ≡ Some offset
slice_get-here [] offset rest = refl
slice_get-here (x ∷ done) offset rest = slice_get-here done offset rest

-- one more occurrence, at the offset after a part
adds_then_one : (a : Extent) (offset : ℕ) (w : Collector) (kind : OccurrenceKind) (at : ℕ) (within : Context → Occurrences → ℕ) (name : List ℕ) → at ≡ offset → Adds a w
    → Adds (in_turn a (point offset)) (λ p c. add kind at (within p c) name (w p c))
adds_then_one a offset w kind at within name is f up =
    let p = both_true a.ascends (nat_lt a.last offset && true) up in
    let q = both_true (nat_lt a.last offset) true p.1 in
    let lt : a.last < offset = ltb-true a.last offset q.0 in
    let one = f p.0 in
    let le = one.ordered in
    record {
      ordered = omega arith;
      adds = λ k c. added_join a.first a.last offset offset c (w k c) (add kind at (within k c) name (w k c)) lt (omega arith) (omega arith) (one.adds k c)
          (one_added offset offset (w k c).begun (record { kind = kind; offset = at; within = within k c; name = name }) (w k c) (omega arith) (omega arith));
    }

-- parameters, each with its offset
pub adds_parameters : (done rest : List ℕ) (other : ℕ) (within : Context → Occurrences → ℕ) (seen : List (List ℕ)) (names : List (List ℕ)) (a : Extent) (w : Collector)
    → length names ≡ length rest → Adds a w
    → Adds (in_turn_all a (map point rest)) (λ p c. parameter_occurrences (done ++ rest) other (within p c) seen (length done) names (w p c))
adds_parameters done [] other within seen [] a w same h = h
adds_parameters done [] other within seen (x ∷ xs) a w same h = absurd (omega (arith, same))
adds_parameters done (o ∷ rest) other within seen [] a w same h = absurd (omega (arith, same))
adds_parameters done (o ∷ rest) other within seen (x ∷ xs) a w same h =
    let at : offset_at (done ++ o ∷ rest) other (length done) ≡ o = ap (λ z. unwrap_or z other) (slice_get-here done o rest) in
    let kind = parameter_kind (has_name seen x) in
    let one : Adds (in_turn a (point o)) (λ p c. add kind (offset_at (done ++ o ∷ rest) other (length done)) (within p c) x (w p c))
    = adds_then_one a o w kind (offset_at (done ++ o ∷ rest) other (length done)) within x at h in
    let all : (done ++ o ∷ []) ++ rest ≡ done ++ o ∷ rest = append_assoc done (o ∷ []) rest in
    let more : length (done ++ o ∷ []) ≡ length done + 1 = omega (arith, length-append done (o ∷ [])) in
    let left : length xs ≡ length rest = omega (arith, same) in
    let go = adds_parameters (done ++ o ∷ []) rest other within (add_name seen x) xs (in_turn a (point o)) (λ p c. add kind (offset_at (done ++ o ∷ rest) other (length done)) (within p c) x (w p c)) left one in
    subst (λ offsets. Adds (in_turn_all (in_turn a (point o)) (map point rest)) (λ p c. parameter_occurrences offsets other (within p c) (add_name seen x) (length done + 1) xs (add kind (offset_at (done ++ o ∷ rest) other (length done)) (within p c) x (w p c)))) all
    (subst (λ index. Adds (in_turn_all (in_turn a (point o)) (map point rest)) (λ p c. parameter_occurrences ((done ++ o ∷ []) ++ rest) other (within p c) (add_name seen x) index xs (add kind (offset_at (done ++ o ∷ rest) other (length done)) (within p c) x (w p c)))) more go)

-- a function expression begins
pub adds_begin : (name : Option (List ℕ)) (parameters : List (List ℕ)) (line offset name_offset : ℕ)
    → Adds (around offset (point name_offset)) (λ p c. begin_occurrence name parameters line offset p.function c)
adds_begin name parameters line offset name_offset up =
    let p = both_true (nat_le offset name_offset) true up in
    let le : offset ≤ name_offset = leb-true offset name_offset p.0 in
    record {
      ordered = le;
      adds = λ k c. one_added offset name_offset (c.begun + 1)
          (record { kind = r.Begins (record { number = c.begun + 1; name = name; parameters = parameters; line = line }); offset = offset; within = k.function; name = [] }) c (omega arith) le;
    }

-- a declared function begins, after its name
pub adds_declared_begin : (name : Option (List ℕ)) (parameters : List (List ℕ)) (line offset name_offset : ℕ)
    → Adds (around offset (point name_offset)) (λ p c. begin_occurrence name parameters line offset p.function (name_occurrence r.Declared name name_offset p.function c))
adds_declared_begin None parameters line offset name_offset up = adds_begin None parameters line offset name_offset up
adds_declared_begin (Some name) parameters line offset name_offset up =
    let p = both_true (nat_le offset name_offset) true up in
    let le : offset ≤ name_offset = leb-true offset name_offset p.0 in
    record { ordered = le; adds = λ k c. by k c le }
  where
    by : (k : Context) (c : Occurrences) → offset ≤ name_offset
        → Added offset name_offset c (begin_occurrence (Some name) parameters line offset k.function (add r.Declared name_offset k.function name c))
    by k c le =
        let one : Occurrence = record { kind = r.Declared; offset = name_offset; within = k.function; name = name } in
        let other : Occurrence = record { kind = r.Begins (record { number = c.begun + 1; name = Some name; parameters = parameters; line = line }); offset = offset; within = k.function; name = [] } in
        record {
          added = one ∷ other ∷ [];
          all_is = append_assoc c.all (one ∷ []) (other ∷ []);
          lies = record { beginnings = (omega arith, le, tt); names = (le, omega arith, tt) };
        }

-- its own name, after the parameters
pub adds_own_name : (x : Extent) (w : Collector) (name : Option (List ℕ)) (offset : ℕ) (within : Context → Occurrences → ℕ) → Adds x w → Adds x (λ p c. name_occurrence r.Own name offset (within p c) (w p c))
adds_own_name x w None offset within h up = h up
adds_own_name x w (Some name) offset within h up = let a = h up in record {
  ordered = a.ordered;
  adds = λ p c. quiet_after x.first x.last c (w p c) (add r.Own offset (within p c) name (w p c)) (a.adds p c) (record {
    added = record { kind = r.Own; offset = offset; within = within p c; name = name } ∷ [];
    all_is = refl;
    beginnings = refl;
    names = refl;
  });
}

-- where each parameter has an offset
pub adds_aligned : (names : List (List ℕ)) (offsets : List ℕ) (x : Extent) (w : Collector) → (length names ≡ length offsets → Adds x w) → Adds (aligned names offsets x) w
adds_aligned names offsets x w h up =
    let p = both_true (nat_eq (length names) (length offsets)) x.ascends up in
    let a = h (eqb-true (length names) (length offsets) p.0) p.1 in
    record { ordered = a.ordered; adds = a.adds }
