-- What is small enough for the tables.
use Rattle.std.proofs.Common.{◌≡◌, ℕ, zero, suc, ◌+◌, ◌*◌, ◌-◌, ◌^◌, ◌<◌, ◌≤◌, List, [], ◌∷◌, ◌++◌, length, get_or, refl, sym, ◌∙◌, ap, subst, ⊎_elim, arith, ◌⊎◌, inl, inr}
use Rattle.std.specs.Prelude.{slice_index}
use Rattle.std.proofs.lemmas.List.{get_or_past, get_or_append_left, get_or_push, length_push}
use Rattle.mdg_code.specs.Ranges.{IsCounted}
use Rattle.mdg_code.specs.declared.code.Code.{Code}
use Rattle.mdg_site.specs.declared.shape.Shape.{Shape}
use Rattle.mdg_site.specs.Answers.{carried, node_limit, word_limit}
use Rattle.mdg_site.specs.Blocks.{sum_below}
use Rattle.mdg_site.specs.Counts.{carried_sizes}
use Rattle.mdg_site.specs.Laid.{Laid, laid, locals_at, parameters_in, site_count}
use Rattle.mdg_site.specs.Nodes.{node_count, node_size_at, object_count, object_size_at, shared_count}
use Rattle.mdg_site.specs.Rows.{column_count, kind_size, kind_sizes, known_size_at, row_count, start, word_count}
use Rattle.mdg_site.specs.Shapes.{shape_at}
use Rattle.mdg_site.specs.Tables.{AreShapes, AreStarts, IsSmall, IsTable}
use Rattle.mdg_site.proofs.BlockLemmas.{sum_le}
use Rattle.mdg_site.proofs.CountLemmas.{carried_same, objects_le}
use Rattle.mdg_site.proofs.NumberLemmas.{rows_few}

pub small_of : (code : Code) (count : ℕ) → IsCounted code → count ≡ node_count (laid code) → count ≤ node_limit → word_count (laid code) ≤ word_limit → IsSmall (laid code)
small_of code count c e h w = let n : node_count (laid code) ≤ 16384 = omega (arith, e, h) in record { sites = c.0; functions = c.1; cells = c.2; columns = c.4; shared = c.5; nodes = n; words = w }

pub objects_below : (l : Laid) → node_count l ≤ node_limit → sum_below (object_size_at l) (site_count l) < 2 ^ 32
objects_below l h = let a = objects_le l (site_count l) in omega (arith, a, h)

-- a part of the rows
pub kind_below : (l : Laid) (k : ℕ) → k ≤ 12 → row_count l ≤ 2 ^ 27 → start l k < 2 ^ 32
kind_below l k h few = let a = sum_le (kind_size l) k 12 h in omega (arith, a, few)

pub known_below : (l : Laid) → row_count l ≤ 2 ^ 27 → sum_below (known_size_at l) (site_count l) < 2 ^ 32
known_below l few = let a = kind_below l 7 (omega arith) few in omega (arith, a)

pub locals_below : (l : Laid) → row_count l ≤ 2 ^ 27 → sum_below (locals_at l) (site_count l) < 2 ^ 32
locals_below l few = let a = kind_below l 1 (omega arith) few in omega (arith, a)

-- where they are few, the counts are carried as they are
pub sizes_same : (l : Laid) → row_count l ≤ 2 ^ 27 → carried_sizes l ≡ kind_sizes l
sizes_same l few =
    let a = locals_below l few in let b = known_below l few in
    ap (λ (n : ℕ). n ∷ length l.code.cells ∷ object_count l * column_count l ∷ node_count l ∷ node_count l ∷ length l.code.functions
    ∷ carried (sum_below (known_size_at l) (site_count l)) ∷ 1 ∷ length l.code.functions ∷ shared_count l ∷ 1 ∷ 1 ∷ [])
    (carried_same (sum_below (locals_at l) (site_count l)) (2 ^ 32) (omega (arith, a)) (omega arith))
    ∙ ap (λ (n : ℕ). sum_below (locals_at l) (site_count l) ∷ length l.code.cells ∷ object_count l * column_count l ∷ node_count l ∷ node_count l ∷ length l.code.functions
    ∷ n ∷ 1 ∷ length l.code.functions ∷ shared_count l ∷ 1 ∷ 1 ∷ [])
    (carried_same (sum_below (known_size_at l) (site_count l)) (2 ^ 32) (omega (arith, b)) (omega arith))

pub sizes_end : (l : Laid) (i : ℕ) → 12 ≤ i → kind_size l i ≡ 0
sizes_end l i h = get_or_past (kind_sizes l) i 0 h

pub table_of : (f : ℕ → ℕ) (n : ℕ) (xs : List ℕ) → AreStarts f n xs → ((i : ℕ) → n ≤ i → f i ≡ 0) → IsTable f n xs
table_of f n xs s e = record { sized = s.starts_sized; sums = s.starts_sums; ends = e }

-- the starts of the kinds, from the list of their sizes
pub kinds_of : (l : Laid) (sizes xs : List ℕ) → row_count l ≤ 2 ^ 27 → sizes ≡ carried_sizes l → AreStarts (λ i. slice_index sizes i) (length sizes) xs → IsTable (kind_size l) 12 xs
kinds_of l sizes xs few is s = table_of (kind_size l) 12 xs (subst (λ (z : List ℕ). AreStarts (λ i. slice_index z i) (length z) xs) (is ∙ sizes_same l few) s) (sizes_end l)

pub sizes_fit : (l : Laid) (sizes : List ℕ) → row_count l ≤ 2 ^ 27 → sizes ≡ carried_sizes l → sum_below (λ i. slice_index sizes i) (length sizes) < 2 ^ 32
sizes_fit l sizes few is = subst (λ (z : List ℕ). sum_below (λ i. slice_index z i) (length z) < 2 ^ 32) (sym (is ∙ sizes_same l few)) (kind_below l 12 (omega arith) few)

pub shapes_push : (l : Laid) (n : ℕ) (xs ys : List Shape) (x : Shape) → AreShapes l n xs → ys ≡ xs ++ x ∷ [] → x ≡ shape_at l n → AreShapes l (n + 1) ys
shapes_push l n xs ys x a is e = record {
  sized = ap length is ∙ length_push xs x ∙ ap (λ (z : ℕ). z + 1) a.sized;
  each_is = λ s d h. subst (λ (zs : List Shape). get_or zs s d ≡ shape_at l s) (sym is) (⊎_elim
      (λ q. get_or_append_left xs (x ∷ []) d s (let w = a.sized in omega (arith, w, q)) ∙ a.each_is s d q)
      (λ q. get_or_push xs x d s (a.sized ∙ sym q) ∙ e ∙ ap (shape_at l) (sym q))
      (split s n h));
}
  where
    split : (a b : ℕ) → a < b + 1 → (a < b) ⊎ (a ≡ b)
    split a b q = grind arith
