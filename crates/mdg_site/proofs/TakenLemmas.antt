-- Each number below the count is taken.
use Rattle.std.proofs.Common.{◌≡◌, ℕ, zero, suc, ◌+◌, ◌*◌, ◌/◌, ◌%◌, ◌-◌, ◌<◌, ◌≤◌, Bool, true, false, Option, length, refl, sym, ◌∙◌, ap, subst, ⊎_elim, arith, ◌⊎◌, inl, inr, mul-le-mul_right}
use Rattle.std.proofs.Math.Nat.{div-add-mod'}
use Rattle.std.specs.declared.option.Option.TheVariants.{Some, None}
use Rattle.mdg_base.specs.declared.node_name.NodeName.{NodeName}
use Rattle.mdg_base.specs.declared.node_name.NodeName.TheVariants.{Src, Shared, Site as AtSite, Ext, Caller}
use Rattle.mdg_site.specs.declared.row.Row.{Row}
use Rattle.mdg_site.specs.declared.row.Row.TheVariants.{Loc, Cell, Field, Newer, Dep, Ret, Known, Exp, IsFunction, IsShared, Vague, Foreign}
use Rattle.mdg_site.specs.Blocks.{sum_below, slot, slot_at, below, shift, grid}
use Rattle.mdg_site.specs.Laid.{Laid, site, local, column, shared_id, function_id, locals_at, parameters_in, site_count}
use Rattle.mdg_site.specs.Nodes.{node_size_at, object_size_at, source_count, shared_count, early_count, node_number, node_count, object_number, object_count}
use Rattle.mdg_site.specs.Rows.{known_size_at, column_count, kind_size, kind, place, start, row_number, row_count}
use Rattle.mdg_site.specs.Shapes.{first_of, second_of, pair_size, one_if, shape_at}
use Rattle.mdg_site.proofs.BlockLemmas.{sum_lt, sum_more, slot_some, slot_there}

-- the block of a number, and the place in it
pub block_at : (f : ℕ → ℕ) (n x : ℕ) → x < sum_below f n → (i : ℕ) × (y : ℕ) × (slot f i y ≡ Some x)
block_at f zero x h = absurd (omega (arith, h))
block_at f (suc n) x h = ⊎_elim
    (λ q. block_at f n x q)
    (λ q. (n, x - sum_below f n, slot_there f n (x - sum_below f n) (omega (arith, q, h)) ∙ ap (λ (z : ℕ). Some z) (omega (arith, q))))
    (split x (sum_below f n))
  where
    split : (a b : ℕ) → (a < b) ⊎ (b ≤ a)
    split a b = grind arith

split : (a b : ℕ) → (a < b) ⊎ (b ≤ a)
split a b = grind arith

pub some_is : (x y : ℕ) → x ≡ y → Some x ≡ Some y
some_is x y e = ap (λ (z : ℕ). Some z) e

pub below_there : (n i : ℕ) → i < n → below n i ≡ Some i
below_there n i h = grind arith

-- one of a pair has each number below its size
pub pair_at : (a b : Bool) (y : ℕ) → y < pair_size a b → (first_of a ≡ Some y) ⊎ (second_of a b ≡ Some y)
pair_at true true y h = ⊎_elim (λ q. inl (some_is 0 y q)) (λ q. inr (some_is 1 y q)) (two y h)
  where
    two : (y : ℕ) → y < 2 → (0 ≡ y) ⊎ (1 ≡ y)
    two y h = grind arith
pair_at true false y h = inl (some_is 0 y (omega (arith, h)))
pair_at false true y h = inr (some_is 0 y (omega (arith, h)))
pair_at false false y h = absurd (omega (arith, h))

-- where a pair stands in each block, a slot is of one of the two
module _ (f : ℕ → ℕ) (a b : ℕ → Bool) (size : (i : ℕ) → f i ≡ pair_size (a i) (b i)) where
  pub pair_slot : (i y x : ℕ) → slot f i y ≡ Some x → y < f i → (slot_at f i (first_of (a i)) ≡ Some x) ⊎ (slot_at f i (second_of (a i) (b i)) ≡ Some x)
  pair_slot i y x e h = ⊎_elim
      (λ q. inl (ap (slot_at f i) q ∙ e))
      (λ q. inr (ap (slot_at f i) q ∙ e))
      (pair_at (a i) (b i) y (subst (λ (z : ℕ). y < z) (size i) h))

pub slot_within : (f : ℕ → ℕ) (i y x : ℕ) → slot f i y ≡ Some x → y < f i
slot_within f i y x e = (slot_some f i y x e).0

pub shift_there : (k : ℕ) (o : Option ℕ) (x n : ℕ) → o ≡ Some x → k + x ≡ n → shift k o ≡ Some n
shift_there k o x n e f = ap (shift k) e ∙ some_is (k + x) n f

module _ (l : Laid) (f : ℕ → ℕ) (a b : ℕ → Bool) (size : (i : ℕ) → f i ≡ pair_size (a i) (b i)) (number : NodeName → Option ℕ)
    (own : (s : ℕ) → number (AtSite (site s)) ≡ shift (early_count l) (slot_at f s (first_of (a s))))
    (ext : (s : ℕ) → number (Ext (site s)) ≡ shift (early_count l) (slot_at f s (second_of (a s) (b s))))
    (source : (g i : ℕ) → number (Src (function_id g) i) ≡ slot (parameters_in l) g i)
    (shared : (i : ℕ) → number (Shared (shared_id i)) ≡ shift (source_count l) (below (shared_count l) i)) where
  late_taken : (n : ℕ) → early_count l ≤ n → n < early_count l + sum_below f (site_count l) → (x : NodeName) × (number x ≡ Some n)
  late_taken n h k =
      let t = block_at f (site_count l) (n - early_count l) (omega (arith, h, k)) in
      ⊎_elim
      (λ q. (AtSite (site t.0), own t.0 ∙ shift_there (early_count l) _ (n - early_count l) n q (omega (arith, h))))
      (λ q. (Ext (site t.0), ext t.0 ∙ shift_there (early_count l) _ (n - early_count l) n q (omega (arith, h))))
      (pair_slot f a b size t.0 t.1 (n - early_count l) t.2 (slot_within f t.0 t.1 _ t.2))

  pub name_taken : (n : ℕ) → n < early_count l + sum_below f (site_count l) → (x : NodeName) × (number x ≡ Some n)
  name_taken n k = ⊎_elim
      (λ q. let t = block_at (parameters_in l) (length l.code.functions) n q in (Src (function_id t.0) t.1, source t.0 t.1 ∙ t.2))
      (λ q. ⊎_elim
      (λ p. (Shared (shared_id (n - source_count l)), shared (n - source_count l) ∙ shift_there (source_count l) _ (n - source_count l) n (below_there (shared_count l) (n - source_count l) (omega (arith, q, p))) (omega (arith, q))))
      (λ p. late_taken n p k)
      (split n (early_count l)))
      (split n (source_count l))

pub node_taken : (l : Laid) (n : ℕ) → n < node_count l → (x : NodeName) × (node_number l x ≡ Some n)
node_taken l n h = name_taken l (node_size_at l) (λ s. (shape_at l s).own) (λ s. (shape_at l s).outside) (λ s. refl) (node_number l) (λ s. refl) (λ s. refl) (λ g i. refl) (λ i. refl) n h

pub object_taken : (l : Laid) (n : ℕ) → n < object_count l → (x : NodeName) × (object_number l x ≡ Some n)
object_taken l n h = name_taken l (object_size_at l) (λ s. (shape_at l s).fields) (λ s. (shape_at l s).outside) (λ s. refl) (object_number l) (λ s. refl) (λ s. refl) (λ g i. refl) (λ i. refl) n h

div_below : (d w n : ℕ) → d < n * w → d / w < n
div_below d w n h = ⊎_elim (λ q. q) (λ q. absurd (let m = mul-le-mul_right w q in let a = div-add-mod' d w in omega (arith, m))) (split (d / w) n)

grid_there : (n i x : ℕ) → x < n → grid n (Some i) x ≡ Some (i * n + x)
grid_there n i x h = grind arith

-- the place in a row of columns
pub field_there : (l : Laid) (d : ℕ) (n : NodeName) → object_number l n ≡ Some (d / column_count l) → grid (column_count l) (object_number l n) (d % column_count l) ≡ Some d
field_there l d n e = ap (λ (o : Option ℕ). grid (column_count l) o (d % column_count l)) e
    ∙ (grid_there (column_count l) (d / column_count l) (d % column_count l) (omega arith) ∙ some_is _ d (whole d (column_count l)))
  where
    whole : (d w : ℕ) → d / w * w + d % w ≡ d
    whole d w = grind arith

pub object_in : (l : Laid) (d : ℕ) → d < object_count l * column_count l → d / column_count l < object_count l
object_in l d h = div_below d (column_count l) (object_count l) h

pub known_one : (a : Bool) (y : ℕ) → y < one_if a → first_of a ≡ Some y
known_one true y h = some_is 0 y (omega (arith, h))
known_one false y h = absurd (omega (arith, h))

module _ (l : Laid) (r : ℕ) where
  local_taken : r < sum_below (locals_at l) (site_count l) → (x : Row) × (kind x ≡ 0) × (place l x ≡ Some r)
  local_taken h = let t = block_at (locals_at l) (site_count l) r h in (Loc (site t.0) (local t.1), refl, t.2)

  field_taken : r < object_count l * column_count l → (x : Row) × (kind x ≡ 2) × (place l x ≡ Some r)
  field_taken h = let t = object_taken l (r / column_count l) (object_in l r h) in (Field t.0 (column (r % column_count l)), refl, field_there l r t.0 t.1)

  known_taken : r < sum_below (known_size_at l) (site_count l) → (x : Row) × (kind x ≡ 6) × (place l x ≡ Some r)
  known_taken h = let t = block_at (known_size_at l) (site_count l) r h in
      (Known (site t.0), refl, ap (slot_at (known_size_at l) t.0) (known_one (shape_at l t.0).known t.1 (slot_within (known_size_at l) t.0 t.1 r t.2)) ∙ t.2)

  one_taken : (x : Row) → r < 1 → place l x ≡ Some 0 → place l x ≡ Some r
  one_taken x h e = e ∙ some_is 0 r (omega (arith, h))

  -- each place of a kind is taken
  place_taken : (k : ℕ) → r < kind_size l k → (x : Row) × (kind x ≡ k) × (place l x ≡ Some r)
  place_taken zero h = local_taken h
  place_taken (suc zero) h = (Cell (record { 0 = r }), refl, below_there (length l.code.cells) r h)
  place_taken (suc (suc zero)) h = field_taken h
  place_taken (suc (suc (suc zero))) h = let t = node_taken l r h in (Newer t.0, refl, t.1)
  place_taken (suc (suc (suc (suc zero)))) h = let t = node_taken l r h in (Dep t.0, refl, t.1)
  place_taken (suc (suc (suc (suc (suc zero))))) h = (Ret (function_id r), refl, below_there (length l.code.functions) r h)
  place_taken (suc (suc (suc (suc (suc (suc zero)))))) h = known_taken h
  place_taken (suc (suc (suc (suc (suc (suc (suc zero))))))) h = (Exp, refl, one_taken Exp h refl)
  place_taken (suc (suc (suc (suc (suc (suc (suc (suc zero)))))))) h = (IsFunction (function_id r), refl, below_there (length l.code.functions) r h)
  place_taken (suc (suc (suc (suc (suc (suc (suc (suc (suc zero))))))))) h = (IsShared (shared_id r), refl, below_there (shared_count l) r h)
  place_taken (suc (suc (suc (suc (suc (suc (suc (suc (suc (suc zero)))))))))) h = (Vague, refl, one_taken Vague h refl)
  place_taken (suc (suc (suc (suc (suc (suc (suc (suc (suc (suc (suc zero))))))))))) h = (Foreign, refl, one_taken Foreign h refl)
  place_taken (suc (suc (suc (suc (suc (suc (suc (suc (suc (suc (suc (suc k)))))))))))) h = absurd (omega (arith, h))

pub row_taken : (l : Laid) (r : ℕ) → r < row_count l → (x : Row) × (row_number l x ≡ Some r)
row_taken l r h =
    let t = block_at (kind_size l) 12 r h in
    let p = place_taken l t.1 t.0 (slot_within (kind_size l) t.0 t.1 r t.2) in
    (p.0, ap (shift (start l (kind p.0))) p.2 ∙ (some_is _ r (ap (λ (k : ℕ). start l k + t.1) p.1 ∙ sym (slot_some (kind_size l) t.0 t.1 r t.2).1)))
