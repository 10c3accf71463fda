-- No two nodes and no two rows have one number.
use Rattle.std.proofs.Common.{◌≡◌, ℕ, zero, suc, ◌+◌, ◌*◌, ◌<◌, ◌≤◌, Bool, true, false, Option, length, refl, sym, ◌∙◌, ap, subst, ⊎_elim, arith, ◌⊎◌, inl, inr, mul-le-mul_right}
use Rattle.std.specs.declared.option.Option.TheVariants.{Some, None}
use Rattle.mdg_base.specs.declared.number.Site.{Site}
use Rattle.mdg_base.specs.declared.number.Local.{Local}
use Rattle.mdg_base.specs.declared.number.Column.{Column}
use Rattle.mdg_base.specs.declared.number.FunId.{FunId}
use Rattle.mdg_base.specs.declared.number.CellId.{CellId}
use Rattle.mdg_base.specs.declared.number.SharedId.{SharedId}
use Rattle.mdg_base.specs.declared.node_name.NodeName.{NodeName}
use Rattle.mdg_base.specs.declared.node_name.NodeName.TheVariants.{Src, Shared, Site as AtSite, Ext, Caller}
use Rattle.mdg_site.specs.declared.row.Row.{Row}
use Rattle.mdg_site.specs.declared.row.Row.TheVariants.{Loc, Cell, Field, Newer, Dep, Ret, Known, Exp, IsFunction, IsShared, Vague, Foreign}
use Rattle.mdg_site.specs.Blocks.{sum_below, slot, slot_at, below, shift, grid}
use Rattle.mdg_site.specs.Laid.{Laid, locals_at, parameters_in, site_count}
use Rattle.mdg_site.specs.Nodes.{node_size_at, object_size_at, source_count, shared_count, early_count, node_number, object_number}
use Rattle.mdg_site.specs.Rows.{known_size_at, column_count, kind_size, kind, place, start, row_number}
use Rattle.mdg_site.specs.Shapes.{first_of, second_of, shape_at}
use Rattle.mdg_site.proofs.BlockLemmas.{sum_lt, slot_some}
use Rattle.mdg_site.proofs.NumberLemmas.{slot_lt, parameters_end, below_lt, shift_some, grid_some, kind_lt, place_lt}

three : (i j : ℕ) → (i < j) ⊎ ((i ≡ j) ⊎ (j < i))
three i j = grind arith

-- a sum tells its block and the place in it
pub block_same : (f : ℕ → ℕ) (i j x y : ℕ) → x < f i → y < f j → sum_below f i + x ≡ sum_below f j + y → (i ≡ j) × (x ≡ y)
block_same f i j x y h k e = ⊎_elim
    (λ q. absurd (let a = sum_lt f i j x q h in omega arith))
    (λ q. ⊎_elim
    (λ q. (q, let a : sum_below f i ≡ sum_below f j = ap (sum_below f) q in omega arith))
    (λ q. absurd (let a = sum_lt f j i y q k in omega arith)) q)
    (three i j)

pub slot_same : (f : ℕ → ℕ) (i j x y r : ℕ) → slot f i x ≡ Some r → slot f j y ≡ Some r → (i ≡ j) × (x ≡ y)
slot_same f i j x y r p q = let a = slot_some f i x r p in let b = slot_some f j y r q in block_same f i j x y a.0 b.0 (sym a.1 ∙ b.1)

pub slot_at_same : (f : ℕ → ℕ) (i j : ℕ) (o u : Option ℕ) (r : ℕ) → slot_at f i o ≡ Some r → slot_at f j u ≡ Some r → (i ≡ j) × (x : ℕ) × (o ≡ Some x) × (u ≡ Some x)
slot_at_same f i j (Some x) (Some y) r p q = let a = slot_same f i j x y r p q in (a.0, x, refl, ap (λ (z : ℕ). Some z) (sym a.1))
slot_at_same f i j None u r p q = absurd cc
slot_at_same f i j (Some x) None r p q = absurd cc

-- the two things of a pair have two numbers
pair_apart : (a b : Bool) (x : ℕ) → first_of a ≡ Some x → second_of a b ≡ Some x → ⊥
pair_apart true true x p q = apart x p q
  where
    apart : (x : ℕ) → Some 0 ≡ Some x → Some 1 ≡ Some x → ⊥
    apart x p q = let a : 0 ≡ x = cc in let b : 1 ≡ x = cc in omega arith
pair_apart true false x p q = cc
pair_apart false b x p q = cc

shift_same : (k : ℕ) (o u : Option ℕ) (r : ℕ) → shift k o ≡ Some r → shift k u ≡ Some r → (x : ℕ) × (o ≡ Some x) × (u ≡ Some x)
shift_same k o u r p q = let a = shift_some k o r p in let b = shift_some k u r q in (a.0, a.1, b.1 ∙ ap (λ (z : ℕ). Some z) (let c = a.2 in let d = b.2 in omega arith))

module _ (l : Laid) (r : ℕ) where
  -- early nodes
  src_low : (f : FunId) (i : ℕ) → slot (parameters_in l) f.0 i ≡ Some r → r < source_count l
  src_low f i e = slot_lt (parameters_in l) (length l.code.functions) f.0 i r (parameters_end l) e

  shared_mid : (b : SharedId) → shift (source_count l) (below (shared_count l) b.0) ≡ Some r → (source_count l ≤ r) × (r < early_count l) × (r ≡ source_count l + b.0)
  shared_mid b e = let q = shift_some (source_count l) (below (shared_count l) b.0) r e in let p = below_lt (shared_count l) b.0 q.0 q.1 in let w = q.2 in let u = p.0 in let v = p.1 in (omega arith, omega arith, omega arith)

  late : (o : Option ℕ) → shift (early_count l) o ≡ Some r → early_count l ≤ r
  late o e = let q = shift_some (early_count l) o r e in let w = q.2 in omega arith

  src_same : (f g : FunId) (i j : ℕ) → slot (parameters_in l) f.0 i ≡ Some r → slot (parameters_in l) g.0 j ≡ Some r → Src f i ≡ Src g j
  src_same f g i j p q = let a = slot_same (parameters_in l) f.0 g.0 i j r p q in ap (λ (z : ℕ). Src (record { 0 = z }) i) a.0 ∙ ap (λ (z : ℕ). Src g z) a.1

  shared_same : (b d : SharedId) → shift (source_count l) (below (shared_count l) b.0) ≡ Some r → shift (source_count l) (below (shared_count l) d.0) ≡ Some r → Shared b ≡ Shared d
  shared_same b d p q = let a = (shared_mid b p).2 in let e = (shared_mid d q).2 in ap (λ (z : ℕ). Shared (record { 0 = z })) (let k : b.0 ≡ d.0 = omega arith in k)

module _ (l : Laid) (f : ℕ → ℕ) (r : ℕ) where
  late_same : (s t : ℕ) (o u : Option ℕ) → shift (early_count l) (slot_at f s o) ≡ Some r → shift (early_count l) (slot_at f t u) ≡ Some r → (s ≡ t) × (x : ℕ) × (o ≡ Some x) × (u ≡ Some x)
  late_same s t o u p q = let a = shift_same (early_count l) (slot_at f s o) (slot_at f t u) r p q in slot_at_same f s t o u a.0 a.1 a.2

pub node_same : (l : Laid) (x y : NodeName) (r : ℕ) → node_number l x ≡ Some r → node_number l y ≡ Some r → x ≡ y
node_same l (Src f i) (Src g j) r p q = src_same l r f g i j p q
node_same l (Src f i) (Shared d) r p q = absurd (let a = src_low l r f i p in let b = (shared_mid l r d q).0 in omega arith)
node_same l (Src f i) (AtSite t) r p q = absurd (let a = src_low l r f i p in let b = late l r _ q in omega arith)
node_same l (Src f i) (Ext t) r p q = absurd (let a = src_low l r f i p in let b = late l r _ q in omega arith)
node_same l (Shared b) (Src g j) r p q = absurd (let a = src_low l r g j q in let c = (shared_mid l r b p).0 in omega arith)
node_same l (Shared b) (Shared d) r p q = shared_same l r b d p q
node_same l (Shared b) (AtSite t) r p q = absurd (let a = (shared_mid l r b p).1 in let c = late l r _ q in omega arith)
node_same l (Shared b) (Ext t) r p q = absurd (let a = (shared_mid l r b p).1 in let c = late l r _ q in omega arith)
node_same l (AtSite s) (Src g j) r p q = absurd (let a = src_low l r g j q in let c = late l r _ p in omega arith)
node_same l (AtSite s) (Shared d) r p q = absurd (let a = (shared_mid l r d q).1 in let c = late l r _ p in omega arith)
node_same l (AtSite s) (AtSite t) r p q = let a = late_same l (node_size_at l) r s.0 t.0 _ _ p q in ap (λ (z : ℕ). AtSite (record { 0 = z })) a.0
node_same l (AtSite s) (Ext t) r p q = let a = late_same l (node_size_at l) r s.0 t.0 _ _ p q in absurd (pair_apart (shape_at l t.0).own (shape_at l t.0).outside a.1 (subst (λ (z : ℕ). first_of (shape_at l z).own ≡ Some a.1) a.0 a.2) a.3)
node_same l (Ext s) (Src g j) r p q = absurd (let a = src_low l r g j q in let c = late l r _ p in omega arith)
node_same l (Ext s) (Shared d) r p q = absurd (let a = (shared_mid l r d q).1 in let c = late l r _ p in omega arith)
node_same l (Ext s) (AtSite t) r p q = let a = late_same l (node_size_at l) r s.0 t.0 _ _ p q in absurd (pair_apart (shape_at l t.0).own (shape_at l t.0).outside a.1 a.3 (subst (λ (z : ℕ). second_of (shape_at l z).own (shape_at l z).outside ≡ Some a.1) a.0 a.2))
node_same l (Ext s) (Ext t) r p q = let a = late_same l (node_size_at l) r s.0 t.0 _ _ p q in ap (λ (z : ℕ). Ext (record { 0 = z })) a.0
node_same l Caller y r p q = absurd cc
node_same l x Caller r p q = absurd cc

-- the same of objects
pub object_same : (l : Laid) (x y : NodeName) (r : ℕ) → object_number l x ≡ Some r → object_number l y ≡ Some r → x ≡ y
object_same l (Src f i) (Src g j) r p q = src_same l r f g i j p q
object_same l (Src f i) (Shared d) r p q = absurd (let a = src_low l r f i p in let b = (shared_mid l r d q).0 in omega arith)
object_same l (Src f i) (AtSite t) r p q = absurd (let a = src_low l r f i p in let b = late l r _ q in omega arith)
object_same l (Src f i) (Ext t) r p q = absurd (let a = src_low l r f i p in let b = late l r _ q in omega arith)
object_same l (Shared b) (Src g j) r p q = absurd (let a = src_low l r g j q in let c = (shared_mid l r b p).0 in omega arith)
object_same l (Shared b) (Shared d) r p q = shared_same l r b d p q
object_same l (Shared b) (AtSite t) r p q = absurd (let a = (shared_mid l r b p).1 in let c = late l r _ q in omega arith)
object_same l (Shared b) (Ext t) r p q = absurd (let a = (shared_mid l r b p).1 in let c = late l r _ q in omega arith)
object_same l (AtSite s) (Src g j) r p q = absurd (let a = src_low l r g j q in let c = late l r _ p in omega arith)
object_same l (AtSite s) (Shared d) r p q = absurd (let a = (shared_mid l r d q).1 in let c = late l r _ p in omega arith)
object_same l (AtSite s) (AtSite t) r p q = let a = late_same l (object_size_at l) r s.0 t.0 _ _ p q in ap (λ (z : ℕ). AtSite (record { 0 = z })) a.0
object_same l (AtSite s) (Ext t) r p q = let a = late_same l (object_size_at l) r s.0 t.0 _ _ p q in absurd (pair_apart (shape_at l t.0).fields (shape_at l t.0).outside a.1 (subst (λ (z : ℕ). first_of (shape_at l z).fields ≡ Some a.1) a.0 a.2) a.3)
object_same l (Ext s) (Src g j) r p q = absurd (let a = src_low l r g j q in let c = late l r _ p in omega arith)
object_same l (Ext s) (Shared d) r p q = absurd (let a = (shared_mid l r d q).1 in let c = late l r _ p in omega arith)
object_same l (Ext s) (AtSite t) r p q = let a = late_same l (object_size_at l) r s.0 t.0 _ _ p q in absurd (pair_apart (shape_at l t.0).fields (shape_at l t.0).outside a.1 a.3 (subst (λ (z : ℕ). second_of (shape_at l z).fields (shape_at l z).outside ≡ Some a.1) a.0 a.2))
object_same l (Ext s) (Ext t) r p q = let a = late_same l (object_size_at l) r s.0 t.0 _ _ p q in ap (λ (z : ℕ). Ext (record { 0 = z })) a.0
object_same l Caller y r p q = absurd cc
object_same l x Caller r p q = absurd cc

below_same : (n i j r : ℕ) → below n i ≡ Some r → below n j ≡ Some r → i ≡ j
below_same n i j r p q = sym (below_lt n i r p).1 ∙ (below_lt n j r q).1

-- a place in a table tells its row and its column
pub grid_same : (n i j x y : ℕ) → x < n → y < n → i * n + x ≡ j * n + y → (i ≡ j) × (x ≡ y)
grid_same n i j x y h k e = ⊎_elim
    (λ p. absurd (let m = mul-le-mul_right n (let w : i + 1 ≤ j = omega arith in w) in omega (arith, m)))
    (λ p. ⊎_elim
    (λ p. (p, let m : i * n ≡ j * n = ap (λ (z : ℕ). z * n) p in omega (arith, m)))
    (λ p. absurd (let m = mul-le-mul_right n (let w : j + 1 ≤ i = omega arith in w) in omega (arith, m))) p)
    (three i j)

module _ (l : Laid) (r : ℕ) where
  field_same : (n m : NodeName) (q u : Column) → grid (column_count l) (object_number l n) q.0 ≡ Some r → grid (column_count l) (object_number l m) u.0 ≡ Some r → Field n q ≡ Field m u
  field_same n m q u a b =
      let d = grid_some (column_count l) (object_number l n) q.0 r a in
      let e = grid_some (column_count l) (object_number l m) u.0 r b in
      let s = grid_same (column_count l) d.0 e.0 q.0 u.0 d.2 e.2 (sym d.3 ∙ e.3) in
      ap (λ (z : ℕ). Field n (record { 0 = z })) s.1 ∙ ap (λ (z : NodeName). Field z u) (object_same l n m d.0 d.1 (e.1 ∙ ap (λ (z : ℕ). Some z) (sym s.0)))

  place_same : (x y : Row) → kind x ≡ kind y → place l x ≡ Some r → place l y ≡ Some r → x ≡ y
  place_same (Loc s x) (Loc t y) k p q = let a = slot_same (locals_at l) s.0 t.0 x.0 y.0 r p q in ap (λ (z : ℕ). Loc (record { 0 = z }) x) a.0 ∙ ap (λ (z : ℕ). Loc t (record { 0 = z })) a.1
  place_same (Cell v) (Cell w) k p q = ap (λ (z : ℕ). Cell (record { 0 = z })) (below_same _ v.0 w.0 r p q)
  place_same (Field n q) (Field m u) k a b = field_same n m q u a b
  place_same (Newer n) (Newer m) k p q = ap Newer (node_same l n m r p q)
  place_same (Dep n) (Dep m) k p q = ap Dep (node_same l n m r p q)
  place_same (Ret f) (Ret g) k p q = ap (λ (z : ℕ). Ret (record { 0 = z })) (below_same _ f.0 g.0 r p q)
  place_same (Known s) (Known t) k p q = let a = slot_at_same (known_size_at l) s.0 t.0 _ _ r p q in ap (λ (z : ℕ). Known (record { 0 = z })) a.0
  place_same Exp Exp k p q = refl
  place_same (IsFunction f) (IsFunction g) k p q = ap (λ (z : ℕ). IsFunction (record { 0 = z })) (below_same _ f.0 g.0 r p q)
  place_same (IsShared b) (IsShared d) k p q = ap (λ (z : ℕ). IsShared (record { 0 = z })) (below_same _ b.0 d.0 r p q)
  place_same Vague Vague k p q = refl
  place_same Foreign Foreign k p q = refl
  place_same x y k p q = absurd (omega arith)

-- no two rows have one number
pub row_same : (l : Laid) (x y : Row) (r : ℕ) → row_number l x ≡ Some r → row_number l y ≡ Some r → x ≡ y
row_same l x y r p q =
    let a = shift_some (start l (kind x)) (place l x) r p in
    let b = shift_some (start l (kind y)) (place l y) r q in
    let s = block_same (kind_size l) (kind x) (kind y) a.0 b.0 (place_lt l x a.0 a.1) (place_lt l y b.0 b.1) (sym a.2 ∙ b.2) in
    place_same l a.0 x y s.0 a.1 (b.1 ∙ ap (λ (z : ℕ). Some z) (sym s.1))

-- where a row's number stands among the kinds
pub row_between : (l : Laid) (x : Row) (r : ℕ) → row_number l x ≡ Some r → (start l (kind x) ≤ r) × (r < start l (kind x + 1))
row_between l x r e =
    let q = shift_some (start l (kind x)) (place l x) r e in
    let h = sum_lt (kind_size l) (kind x) (kind x + 1) q.0 (omega arith) (place_lt l x q.0 q.1) in
    let w = q.2 in (omega (arith, w), subst (λ (z : ℕ). z < start l (kind x + 1)) (sym w) h)
