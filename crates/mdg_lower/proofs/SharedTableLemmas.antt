-- The table of shared things, one row at a time.
use Rattle.std.proofs.Common.{◌≡◌, ℕ, ◌+◌, Bool, true, false, List, [], ◌∷◌, refl, sym, ap, ◌∙◌, cond, true≢false, if◌then◌else◌}
use Rattle.std.specs.Prelude.{Option, Some, None, is_some, position}
use Rattle.std.specs.Borrow.{Bor}
use Rattle.std.specs.List.{position_from}
use Rattle.std.specs.Map.{lookup}
use Rattle.std.specs.Str.{bytes_eq}
use Rattle.std.proofs.lemmas.Iterator.Adapters.{position_from-zero}
use Rattle.std.proofs.lemmas.Slice.Eq.{bytes_eq-Decides}
use Rattle.indexmap.specs.IndexMap.{IndexMap}
use Rattle.mdg_base.specs.declared.number.SharedId.{SharedId}
use Rattle.mdg_base.specs.declared.profile_word.Home.{Home}
use Rattle.mdg_base.specs.declared.profile_word.Home.TheVariants as home
use Rattle.mdg_code.specs.declared.code.SharedRow.{SharedRow}
use Rattle.mdg_lower.specs.declared.shared.table.SharedTable.{SharedTable}
use Rattle.mdg_lower.specs.SharedRows.{is_row_of}
use Rattle.mdg_lower.specs.SharedTable.{number_at, else_number, number_if, found, shared_at, IsTableOf}

else_none : (number : Option SharedId) → else_number number None ≡ number
else_none None = refl
else_none (Some number) = refl

same_either_way : (one other : List ℕ) → bytes_eq one other ≡ bytes_eq other one
same_either_way one other = by (bytes_eq one other) refl (bytes_eq other one) refl
  where
    by : (b : Bool) → bytes_eq one other ≡ b → (c : Bool) → bytes_eq other one ≡ c → b ≡ c
    by true p true q = refl
    by false p false q = refl
    by true p false q = sym ((bytes_eq-Decides other one).1 (sym ((bytes_eq-Decides one other).0 p))) ∙ q
    by false p true q = sym p ∙ (bytes_eq-Decides one other).1 (sym ((bytes_eq-Decides other one).0 q))

pub is_none_there : (number : Option SharedId) → is_some number ≡ false → number ≡ None
is_none_there None e = refl
is_none_there (Some number) e = absurd (true≢false e)

-- a name that had no number gets one, and the others keep theirs
pub put_one : {S : Type 0} (old new : IndexMap (Bor (List ℕ)) SharedId S) (name : Bor (List ℕ)) (number : SharedId) → number_at old name.now ≡ None
    → ((asked : Bor (List ℕ)) → number_at new asked.now ≡ cond (bytes_eq name.now asked.now) (Some number) (number_at old asked.now))
    → (asked : Bor (List ℕ)) → number_at new asked.now ≡ else_number (number_at old asked.now) (number_if asked.now name.now number)
put_one old new name number none put asked = put asked ∙ by (bytes_eq name.now asked.now) refl
  where
    by : (b : Bool) → bytes_eq name.now asked.now ≡ b → cond b (Some number) (number_at old asked.now) ≡ else_number (number_at old asked.now) (number_if asked.now name.now number)
    by true is =
        let same : name.now ≡ asked.now = (bytes_eq-Decides name.now asked.now).0 is in
        ap (λ c. if c then Some number else None) (sym (same_either_way asked.now name.now ∙ is))
        ∙ ap (λ o. else_number o (number_if asked.now name.now number)) (sym none ∙ ap (λ n. number_at old n) same)
    by false is =
        sym (else_none (number_at old asked.now))
        ∙ ap (λ c. else_number (number_at old asked.now) (if c then Some number else None)) (sym (same_either_way asked.now name.now ∙ is))

-- with the rows that are left the table gives each global and each module the number of its row
abbrev pub IsFilled : SharedTable → ℕ → List SharedRow → List SharedRow → Type 0
IsFilled table number rest rows =
    (home : Home) (name : Bor (List ℕ)) → else_number (found home table name.now) (shared_at (position_from (is_row_of home name.now) number rest)) ≡ shared_at (position (is_row_of home name.now) rows)

else_step : (old : Option SharedId) (b : Bool) (number : ℕ) (rest : Option ℕ)
    → else_number (else_number old (if b then Some (record { 0 = number }) else None)) (shared_at rest) ≡ else_number old (shared_at (cond b (Some number) rest))
else_step None true number rest = refl
else_step None false number rest = refl
else_step (Some n) b number rest = refl

-- one more row
pub fill_one : (old new : SharedTable) (number : ℕ) (row : SharedRow) (rest rows : List SharedRow)
    → ((home : Home) (asked : Bor (List ℕ)) → found home new asked.now ≡ else_number (found home old asked.now) (if is_row_of home asked.now row then Some (record { 0 = number }) else None))
    → IsFilled old number (row ∷ rest) rows → IsFilled new (number + 1) rest rows
fill_one old new number row rest rows put filled home name =
    ap (λ o. else_number o (shared_at (position_from (is_row_of home name.now) (number + 1) rest))) (put home name)
    ∙ else_step (found home old name.now) (is_row_of home name.now row) number (position_from (is_row_of home name.now) (number + 1) rest)
    ∙ filled home name

-- no row was seen
pub start_filled : (table : SharedTable) (rows : List SharedRow) → table.globals.entries ≡ [] → table.modules.entries ≡ [] → IsFilled table 0 rows rows
start_filled table rows globals modules at name =
    ap (λ o. else_number o (shared_at (position_from (is_row_of at name.now) 0 rows))) (by at)
    ∙ ap shared_at (sym (position_from-zero (is_row_of at name.now) rows))
  where
    by : (at : Home) → found at table name.now ≡ None
    by home.Global = ap (λ es. lookup (λ key. bytes_eq name.now key.now) es) globals
    by home.Module = ap (λ es. lookup (λ key. bytes_eq name.now key.now) es) modules

-- no row is left
pub all_filled : (table : SharedTable) (number : ℕ) (rows : List SharedRow) → IsFilled table number [] rows → IsTableOf rows table
all_filled table number rows filled home name = sym (else_none (found home table name.now)) ∙ filled home name
