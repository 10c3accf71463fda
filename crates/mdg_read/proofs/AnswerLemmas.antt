-- Tokens have at most one tree, one due item and one answer, and they have an answer.
use Rattle.std.proofs.Common.{◌≡◌, ℕ, zero, suc, ◌+◌, ◌<◌, ◌≤◌, Bool, true, false, ◌⊎◌, inl, inr, List, [], ◌∷◌, ◌++◌, length, refl, sym, ◌∙◌, ap, ap₂, subst, arith, true≢false}
use Rattle.std.specs.Prelude.{map, Option, Some, None, Result, Ok, Err, slice_get}
use native.Mathlib.Decide.{dec_lt}
use Rattle.mdg_tree.specs.declared.tree.FileTree.{FileTree}
use Rattle.mdg_tree.specs.declared.tree.Stmt.{Stmt}
use Rattle.mdg_tree.specs.Height.{stmt_height, highest}
use Rattle.mdg_read.specs.declared.parsed.Parsed.{Parsed}
use Rattle.mdg_read.specs.declared.refusal.ReadRefusal.{ReadRefusal}
use Rattle.mdg_read.specs.declared.refusal.ReadRefusal.TheVariants.{NotStrict, NotCore, NoTree, NoMemory}
use Rattle.mdg_read.specs.declared.semicolon.Terminator.TheVariants as terminator
use Rattle.mdg_read.specs.Tokens.{Tokens, position_at, offset_at, text_at}
use Rattle.mdg_read.specs.Grammar.{SpellsStatement, SpellsItems, done, item}
use Rattle.mdg_read.specs.Excluded.{IsCore, IsFirstExcluded, is_excluded}
use Rattle.mdg_read.specs.Files.{AreItems, Begins, HasCause, IsDue, IsFile, is_directive, item_height_limit}
use Rattle.mdg_read.specs.Combinators.{insert_semicolon}
use Rattle.mdg_read.specs.Reference.{stmt_at}
use Rattle.mdg_read.proofs.Progress.{statement_moves, items_moves}
use Rattle.mdg_read.proofs.Complete.{one_stmt}
use Rattle.mdg_read.proofs.Files.{one_file, one_start, due_no_file, grown, due, file_low, begins_inside, no_directive, no_close, begun, more_core, all_core}

pub one_tree : (ts : Tokens) (a b : FileTree) → IsFile ts a → IsFile ts b → a ≡ b
one_tree ts a b f g = ap (λ z. record { at = z; items = a.items }) f.first ∙ one_file ts f.start a.items f.begins f.spelled b g

pub never_both : (ts : Tokens) (i : ℕ) (tree : FileTree) → IsDue ts i → IsFile ts tree → ⊥
never_both ts i tree d f = due_no_file ts i d tree f

module _ (ts : Tokens) where
  reach : {a b : List Stmt} {k i j : ℕ} → k ≤ length ts → SpellsItems ts true a k i → ((t : Stmt) (m : ℕ) → SpellsStatement ts true t i m → stmt_height t ≤ item_height_limit → ⊥)
      → SpellsItems ts true b k j → highest (map stmt_height b) ≤ item_height_limit → j ≤ i
  reach lt done none done low = omega arith
  reach lt done none (item {m = m} {t = t} d b) low = absurd (none t m d (omega arith))
  reach lt (item d a) none done low = let r = statement_moves ts d in let q = items_moves ts a r.to in omega (arith, q.from, q.to, r.from)
  reach {j = j} lt (item d a) none (item {body = more} d' b) low =
      let e = one_stmt ts true _ _ _ _ _ d d' in
      let r = statement_moves ts d in
      reach r.to a none (subst (λ m. SpellsItems ts true more m j) (sym e.1) b) (omega arith)

  starts_inside : {a : List Stmt} {k e : ℕ} → SpellsItems ts true a k e → e < length ts → k ≤ length ts
  starts_inside done lt = omega arith
  starts_inside (item d b) lt = let r = statement_moves ts d in omega (arith, r.from, r.to)

  pub one_due : (i j : ℕ) → IsDue ts i → IsDue ts j → i ≡ j
  one_due i j p q =
      let same : p.start ≡ q.start = one_start ts p.begins q.begins in
      let there : SpellsItems ts true q.before p.start j = subst (λ m. SpellsItems ts true q.before m j) (sym same) q.reached in
      let back : SpellsItems ts true p.before q.start i = subst (λ m. SpellsItems ts true p.before m i) same p.reached in
      let m = starts_inside p.reached p.inside in
      let n = starts_inside q.reached q.inside in
      let one = reach m p.reached p.nothing there q.low in
      let two = reach n q.reached q.nothing back p.low in
      omega arith

  one_excluded : (i j : ℕ) → IsFirstExcluded ts i → IsFirstExcluded ts j → i ≡ j
  one_excluded i j p q = elim (dec_lt i j) [
    | yes before ↦ absurd (true≢false (sym p.here ∙ q.first i before))
    | no after ↦ elim (dec_lt j i) [ yes follows ↦ absurd (true≢false (sym q.here ∙ p.first j follows)) | no same ↦ omega (arith, after, same) ]
  ]

pub one_answer : (ts : Tokens) (a b : Result FileTree ReadRefusal) → (a ≡ Err NoMemory → ⊥) → (b ≡ Err NoMemory → ⊥) → HasCause ts a → HasCause ts b → a ≡ b
one_answer ts (Err NoMemory) b i j p q = absurd (i refl)
one_answer ts (Ok t) (Ok u) i j p q = ap Ok (one_tree ts t u p.1 q.1)
one_answer ts (Ok t) (Err NoMemory) i j p q = absurd (j refl)
one_answer ts (Ok t) (Err NotStrict) i j p q = absurd (q p.1.start p.1.begins)
one_answer ts (Ok t) (Err (NotCore w o)) i j p q = absurd (true≢false (sym q.2.1.here ∙ p.0 q.2.0))
one_answer ts (Ok t) (Err (NoTree o)) i j p q = absurd (due_no_file ts q.1.0 q.1.1 t p.1)
one_answer ts (Err NotStrict) (Ok u) i j p q = absurd (p q.1.start q.1.begins)
one_answer ts (Err NotStrict) (Err NoMemory) i j p q = absurd (j refl)
one_answer ts (Err NotStrict) (Err NotStrict) i j p q = refl
one_answer ts (Err NotStrict) (Err (NotCore w o)) i j p q = absurd (p q.0 q.1)
one_answer ts (Err NotStrict) (Err (NoTree o)) i j p q = absurd (p q.1.1.start q.1.1.begins)
one_answer ts (Err (NotCore w o)) (Ok u) i j p q = absurd (true≢false (sym p.2.1.here ∙ q.0 p.2.0))
one_answer ts (Err (NotCore w o)) (Err NoMemory) i j p q = absurd (j refl)
one_answer ts (Err (NotCore w o)) (Err NotStrict) i j p q = absurd (q p.0 p.1)
one_answer ts (Err (NotCore w o)) (Err (NotCore w' o')) i j p q =
    let same : p.2.0 ≡ q.2.0 = one_excluded ts p.2.0 q.2.0 p.2.1 q.2.1 in
    ap₂ (λ (x : List ℕ) (y : ℕ). Err (NotCore x y)) (p.2.2 ∙ ap (text_at ts) same ∙ sym q.2.2) (p.2.3 ∙ ap (offset_at ts) same ∙ sym q.2.3)
one_answer ts (Err (NotCore w o)) (Err (NoTree o')) i j p q = absurd (true≢false (sym p.2.1.here ∙ q.0 p.2.0))
one_answer ts (Err (NoTree o)) (Ok u) i j p q = absurd (due_no_file ts p.1.0 p.1.1 u q.1)
one_answer ts (Err (NoTree o)) (Err NoMemory) i j p q = absurd (j refl)
one_answer ts (Err (NoTree o)) (Err NotStrict) i j p q = absurd (q p.1.1.start p.1.1.begins)
one_answer ts (Err (NoTree o)) (Err (NotCore w o')) i j p q = absurd (true≢false (sym q.2.1.here ∙ p.0 q.2.0))
one_answer ts (Err (NoTree o)) (Err (NoTree o')) i j p q =
    let same : p.1.0 ≡ q.1.0 = one_due ts p.1.0 q.1.0 p.1.1 q.1.1 in
    ap (λ (x : ℕ). Err (NoTree x)) (p.1.2 ∙ ap (offset_at ts) same ∙ sym q.1.2)

abbrev Answered : Tokens → Type 0
Answered ts = (answer : Result FileTree ReadRefusal) × (answer ≡ Err NoMemory → ⊥) × HasCause ts answer

-- The reference reader reads items up to the end, or up to a due item that it doesn't read.
module _ (ts : Tokens) where
  record Further (start : ℕ) (i : ℕ) : Type 0 where
    items : List Stmt
    next : ℕ
    are : AreItems ts start items next
    more : i < next

  next_item : (start : ℕ) (before : List Stmt) (i : ℕ) → Begins ts start → AreItems ts start before i → i < length ts → (o : Option (Parsed Stmt)) → stmt_at ts item_height_limit true i ≡ o
      → IsDue ts i ⊎ Further start i
  next_item start before i g a lt None e = inl (due ts start before i g e a.reached a.low lt)
  next_item start before i g a lt (Some r) e =
      let m = grown ts start before i r e a.reached a.low in
      inr (record { items = before ++ r.tree ∷ []; next = r.next; are = record { reached = m.reached; low = m.low; inside = m.inside }; more = m.from })

  abbrev AllItems : ℕ → Type 0
  AllItems start = (items : List Stmt) × AreItems ts start items (length ts)

  abbrev SomeDue : Type 0
  SomeDue = (k : ℕ) × IsDue ts k

  whole : (start : ℕ) (before : List Stmt) (i : ℕ) → AreItems ts start before i → length ts ≤ i → AllItems start
  whole start before i a past = let e : i ≡ length ts = omega (arith, a.inside) in (before, subst (AreItems ts start before) e a)

  items_answer : (w start : ℕ) (before : List Stmt) (i : ℕ) → Begins ts start → AreItems ts start before i → length ts ≤ w + i → AllItems start ⊎ SomeDue
  items_answer zero start before i g a fuel = inl (whole start before i a (omega arith))
  items_answer (suc w) start before i g a fuel = elim (dec_lt i (length ts)) [
    | yes lt ↦ elim (next_item start before i g a lt (stmt_at ts item_height_limit true i) refl) [
      | inl d ↦ inr (i, d)
      | inr x ↦ items_answer w start x.items x.next g x.are (omega (arith, x.more, fuel))
    ]
    | no past ↦ inl (whole start before i a (omega (arith, past)))
  ]

  abbrev CoreBelow : ℕ → Type 0
  CoreBelow n = (k : ℕ) → k < n → is_excluded ts k ≡ false

  abbrev SomeExcluded : Type 0
  SomeExcluded = (i : ℕ) × IsFirstExcluded ts i

  next_excluded : (n : ℕ) → CoreBelow n → (b : Bool) → is_excluded ts n ≡ b → CoreBelow (n + 1) ⊎ SomeExcluded
  next_excluded n h true e = inr (n, record { here = e; first = h })
  next_excluded n h false e = inl (more_core ts n h e)

  first_excluded : (n : ℕ) → CoreBelow n ⊎ SomeExcluded
  first_excluded zero = inl (λ k lt. absurd (omega arith))
  first_excluded (suc n) = elim (first_excluded n) [
    | inl h ↦ elim (next_excluded n h (is_excluded ts n) refl) [ inl g ↦ inl (λ k lt. g k (omega arith)) | inr x ↦ inr x ]
    | inr x ↦ inr x
  ]

  items_cause : (start : ℕ) → Begins ts start → IsCore ts → AllItems start ⊎ SomeDue → Answered ts
  items_cause start g core (inl a) =
      (Ok (record { at = position_at ts 0; items = a.0 }), (λ e. cc), (core, record { start = start; begins = g; first = refl; spelled = a.1.reached; low = file_low ts _ _ a.1.low }))
  items_cause start g core (inr d) = (Err (NoTree (offset_at ts d.0)), (λ e. cc), (core, (d.0, d.1, refl)))

  core_cause : (start : ℕ) → Begins ts start → CoreBelow (length ts) ⊎ SomeExcluded → Answered ts
  core_cause start g (inl h) =
      items_cause start g (all_core ts (length ts) (omega arith) h) (items_answer (length ts) start [] start g (record { reached = done; low = omega arith; inside = begins_inside ts g }) (omega arith))
  core_cause start g (inr x) = (Err (NotCore (text_at ts x.0) (offset_at ts x.0)), (λ e. cc), (start, g, (x.0, x.1, refl, refl)))

  start_cause : (b : Bool) → is_directive (slice_get ts 0) ≡ b → (o : Option ℕ) → insert_semicolon ts terminator.Plain 1 ≡ o → Answered ts
  start_cause false d o e = (Err NotStrict, (λ x. cc), no_directive ts d)
  start_cause true d None e = (Err NotStrict, (λ x. cc), no_close ts e)
  start_cause true d (Some j) e = let g = begun ts j d e in core_cause j g (first_excluded (length ts))

  pub some_answer : Answered ts
  some_answer = start_cause (is_directive (slice_get ts 0)) refl (insert_semicolon ts terminator.Plain 1) refl
