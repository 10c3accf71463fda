-- At most one tree spells a file, and none where a due item is missing.
use Rattle.std.proofs.Common.{◌≡◌, ℕ, ◌+◌, ◌<◌, ◌≤◌, true, false, List, [], ◌∷◌, ◌++◌, length, arith, refl, sym, ap, ap₂, subst, ◌∙◌, true≢false}
use Rattle.std.specs.Prelude.{map, Some, None, Err, slice_get, slice_index_or}
use Rattle.std.proofs.lemmas.Option.{slice_get-get_or, slice_get_past}
use native.Mathlib.Decide.{dec_lt}
use Rattle.mdg_text.specs.declared.token.Token.{Token}
use Rattle.mdg_tree.specs.declared.tree.At.{At}
use Rattle.mdg_tree.specs.declared.tree.FileTree.{FileTree}
use Rattle.mdg_tree.specs.declared.tree.Stmt.{Stmt}
use Rattle.mdg_tree.specs.Height.{stmt_height, file_height, highest}
use Rattle.mdg_read.specs.declared.parsed.Parsed.{Parsed}
use Rattle.mdg_read.specs.declared.semicolon.Terminator.TheVariants as terminator
use Rattle.mdg_read.specs.Excluded.{IsCore, is_excluded}
use Rattle.mdg_read.specs.Files.{IsFile, IsDue, item_height_limit, file_height_limit, Begins, directive, is_directive, ItemsCause, HasCause, Reads}
use Rattle.mdg_read.specs.Grammar.{SpellsStatement, SpellsItems, done, item}
use Rattle.mdg_read.specs.Reference.{stmt_at}
use Rattle.mdg_read.specs.Tokens.{Tokens, position_at, position_of, text_at, text_of, offset_at}
use Rattle.mdg_read.specs.Combinators as combinators
use Rattle.mdg_read.specs.declared.refusal.ReadRefusal.{ReadRefusal}
use Rattle.mdg_read.specs.declared.refusal.ReadRefusal.TheVariants.{NotStrict, NotCore, NoTree, NoMemory}
use Rattle.mdg_read.proofs.Progress.{statement_moves, items_moves, semicolon_moves}
use Rattle.mdg_read.proofs.Combinators.{some_is}
use Rattle.mdg_read.proofs.Sound.{stmt_sound, semicolon_found}
use Rattle.mdg_read.proofs.Complete.{one_stmt, stmt_complete, semicolon_ok}

module _ (ts : Tokens) where
  pub one_start : {j k : ℕ} → Begins ts j → Begins ts k → j ≡ k
  one_start {j} {k} (directive d c) (directive d' c') = some_is j k (sym (semicolon_ok ts c) ∙ semicolon_ok ts c')

  one_body : {a b : List Stmt} {i j k : ℕ} → SpellsItems ts true a i j → SpellsItems ts true b i k → j ≡ length ts → k ≡ length ts → a ≡ b
  one_body done done e f = refl
  one_body done (item d b) e f = let r = statement_moves ts d in let q = items_moves ts b r.to in absurd (omega (arith, q.from, q.to, r.from))
  one_body (item d b) done e f = let r = statement_moves ts d in let q = items_moves ts b r.to in absurd (omega (arith, q.from, q.to, r.from))
  one_body {k = k} (item {t = t} d b) (item {t = u} {body = more} d' b') e f =
      let same = one_stmt ts true _ _ _ _ _ d d' in
      ap₂ (λ x xs. x ∷ xs) same.0 (one_body b (subst (λ m. SpellsItems ts true more m k) (sym same.1) b') e f)

  pub one_file : (start : ℕ) (items : List Stmt) → Begins ts start → SpellsItems ts true items start (length ts) → (tree : FileTree) → IsFile ts tree → record { at = position_at ts 0; items = items } ≡ tree
  one_file start items g b tree x =
      let same : start ≡ x.start = one_start g x.begins in
      ap (λ z. record { at = z; items = items }) (sym x.first) ∙ ap (λ z. record { at = tree.at; items = z }) (one_body b (subst (λ m. SpellsItems ts true tree.items m (length ts)) (sym same) x.spelled) refl refl)

  due_stops : {a b : List Stmt} {k i : ℕ} → SpellsItems ts true a k i → i < length ts → ((t : Stmt) (j : ℕ) → SpellsStatement ts true t i j → stmt_height t ≤ item_height_limit → ⊥)
      → SpellsItems ts true b k (length ts) → highest (map stmt_height b) ≤ item_height_limit → ⊥
  due_stops done lt none done low = absurd (omega arith)
  due_stops done lt none (item {m = m} {t = t} d b) low = none t m d (omega arith)
  due_stops (item d b) lt none done low = let r = statement_moves ts d in let q = items_moves ts b r.to in absurd (omega (arith, q.from, q.to, r.from))
  due_stops (item d b) lt none (item {body = more} d' b') low =
      let e = one_stmt ts true _ _ _ _ _ d d' in
      due_stops b lt none (subst (λ m. SpellsItems ts true more m (length ts)) (sym e.1) b') (omega arith)

  low_items : (tree : FileTree) → file_height tree ≤ file_height_limit → highest (map stmt_height tree.items) ≤ item_height_limit
  unfolding file_height
  low_items tree h = omega arith

  pub due_no_file : (i : ℕ) → IsDue ts i → (tree : FileTree) → IsFile ts tree → ⊥
  due_no_file i d tree x =
      let same : d.start ≡ x.start = one_start d.begins x.begins in
      due_stops d.reached d.inside d.nothing (subst (λ m. SpellsItems ts true tree.items m (length ts)) (sym same) x.spelled) (low_items tree x.low)

  pub body_more : {a : List Stmt} {t : Stmt} {i m j : ℕ} → SpellsItems ts true a i m → SpellsStatement ts true t m j → SpellsItems ts true (a ++ t ∷ []) i j
  body_more done s = item s done
  body_more (item d b) s = item d (body_more b s)

  one_more_low : (a : List Stmt) (t : Stmt) → highest (map stmt_height a) ≤ item_height_limit → stmt_height t ≤ item_height_limit → highest (map stmt_height (a ++ t ∷ [])) ≤ item_height_limit
  one_more_low [] t h g = omega arith
  one_more_low (x ∷ xs) t h g = let r = one_more_low xs t (omega arith) g in omega arith

  nothing_read : (i : ℕ) → stmt_at ts item_height_limit true i ≡ None → (t : Stmt) (j : ℕ) → SpellsStatement ts true t i j → stmt_height t ≤ item_height_limit → ⊥
  nothing_read i e t j d low = let f = sym e ∙ stmt_complete ts item_height_limit true t i j d low in cc

  pub record Grown (start : ℕ) (before : List Stmt) (i : ℕ) (r : Parsed Stmt) : Type 0 where
    pub reached : SpellsItems ts true (before ++ r.tree ∷ []) start r.next
    pub low : highest (map stmt_height (before ++ r.tree ∷ [])) ≤ item_height_limit
    pub from : i < r.next
    pub inside : r.next ≤ length ts

  pub grown : (start : ℕ) (before : List Stmt) (i : ℕ) (r : Parsed Stmt) → stmt_at ts item_height_limit true i ≡ Some r → SpellsItems ts true before start i → highest (map stmt_height before) ≤ item_height_limit → Grown start before i r
  grown start before i r e reached low =
      let f = stmt_sound ts item_height_limit true i r e in
      let m = statement_moves ts f.spells in
      record { reached = body_more reached f.spells; low = one_more_low before r.tree low (omega (arith, f.low, f.tall)); from = m.from; inside = m.to }

  pub due : (start : ℕ) (before : List Stmt) (i : ℕ) → Begins ts start → stmt_at ts item_height_limit true i ≡ None → SpellsItems ts true before start i → highest (map stmt_height before) ≤ item_height_limit → i < length ts → IsDue ts i
  due start before i g e reached low inside = record { start = start; begins = g; before = before; reached = reached; low = low; inside = inside; nothing = nothing_read i e }

  pub offset_read : (i : ℕ) (d : Token) → i < length ts → (slice_index_or ts i d).from ≡ offset_at ts i
  unfolding position_at
  offset_read i d inside = ap (λ o. (position_of o).offset) (sym (slice_get-get_or ts i d inside))

  pub text_read : (i : ℕ) (d : Token) → i < length ts → (slice_index_or ts i d).text ≡ text_at ts i
  unfolding text_at
  text_read i d inside = ap text_of (sym (slice_get-get_or ts i d inside))

  pub file_low : (at : At) (items : List Stmt) → highest (map stmt_height items) ≤ item_height_limit → file_height (record { at = at; items = items }) ≤ file_height_limit
  unfolding file_height
  file_low at items h = omega arith

  pub begins_inside : {j : ℕ} → Begins ts j → j ≤ length ts
  begins_inside (directive d c) = (semicolon_moves ts c (first_there d)).to
    where
      has_first : (o : List Token) → is_directive (slice_get o 0) ≡ true → 1 ≤ length o
      has_first [] e = absurd cc
      has_first (x ∷ xs) e = omega arith

      first_there : is_directive (slice_get ts 0) ≡ true → 1 ≤ length ts
      first_there e = has_first ts e

  pub no_directive : is_directive (slice_get ts 0) ≡ false → (j : ℕ) → Begins ts j → ⊥
  no_directive e j (directive d c) = true≢false (sym d ∙ e)

  pub no_close : combinators.insert_semicolon ts terminator.Plain 1 ≡ None → (j : ℕ) → Begins ts j → ⊥
  no_close e j (directive d c) = let h = sym e ∙ semicolon_ok ts c in cc

  pub begun : (j : ℕ) → is_directive (slice_get ts 0) ≡ true → combinators.insert_semicolon ts terminator.Plain 1 ≡ Some j → Begins ts j
  begun j d e = directive d (semicolon_found ts terminator.Plain 1 j e)

  pub past_core : (k : ℕ) → length ts ≤ k → is_excluded ts k ≡ false
  unfolding is_excluded
  past_core k h = rw (slice_get_past ts k h) refl

  pub more_core : (n : ℕ) → ((k : ℕ) → k < n → is_excluded ts k ≡ false) → is_excluded ts n ≡ false → (k : ℕ) → k < n + 1 → is_excluded ts k ≡ false
  more_core n h e k lt = elim (dec_lt k n) [ yes a ↦ h k a | no b ↦ subst (λ z. is_excluded ts z ≡ false) (let q : n ≡ k = omega (arith, b) in q) e ]

  pub all_core : (n : ℕ) → length ts ≤ n → ((k : ℕ) → k < n → is_excluded ts k ≡ false) → IsCore ts
  all_core n inside h = λ k. elim (dec_lt k n) [ yes a ↦ h k a | no b ↦ past_core k (let q : length ts ≤ k = omega (arith, b) in q) ]

  pub items_only : (start : ℕ) (r : ReadRefusal) → ItemsCause ts start (Err r) → (tree : FileTree) → IsFile ts tree → Reads (Err r) tree
  items_only start NotStrict h tree f = absurd h
  items_only start (NotCore word o) h tree f = absurd h
  items_only start (NoTree o) h tree f = due_no_file h.0 h.1 tree f
  items_only start NoMemory h tree f = tt

  pub items_cause : (start : ℕ) (r : ReadRefusal) → IsCore ts → ItemsCause ts start (Err r) → HasCause ts (Err r)
  items_cause start NotStrict core h = absurd h
  items_cause start (NotCore word o) core h = absurd h
  items_cause start (NoTree o) core h = (core, h)
  items_cause start NoMemory core h = tt
