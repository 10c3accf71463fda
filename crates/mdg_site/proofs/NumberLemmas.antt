-- Where numbers stand.
use Rattle.std.proofs.Common.{◌≡◌, ℕ, zero, suc, ◌+◌, ◌*◌, ◌-◌, ◌^◌, ◌<◌, ◌≤◌, Bool, true, false, cond, ltb, ltb-true, List, [], ◌∷◌, length, get_or, Option, IfSome, refl, sym, ◌∙◌, ap, subst, ⊎_elim, arith, ◌⊎◌, inl, inr, mul-le-mul_right}
use Rattle.std.specs.declared.option.Option.TheVariants.{Some, None}
use Rattle.std.specs.Prelude.{nat_lt, slice_index}
use Rattle.std.specs.Option.{option_and_then, option_map}
use Rattle.std.proofs.lemmas.Option.{slice_get_past}
use Rattle.mdg_base.specs.declared.node_name.NodeName.{NodeName}
use Rattle.mdg_base.specs.declared.node_name.NodeName.TheVariants.{Src, Shared, Site as AtSite, Ext, Caller}
use Rattle.mdg_code.specs.Locals.{locals_of}
use Rattle.mdg_code.specs.declared.code.Line.{Line}
use Rattle.mdg_code.specs.declared.code.FunctionRow.{FunctionRow}
use Rattle.mdg_code.specs.declared.statement.Statement.TheVariants.{Land}
use Rattle.mdg_site.specs.declared.row.Row.{Row}
use Rattle.mdg_site.specs.declared.row.Row.TheVariants.{Loc, Cell, Field, Newer, Dep, Ret, Known, Exp, IsFunction, IsShared, Vague, Foreign}
use Rattle.mdg_site.specs.Blocks.{sum_below, slot, slot_at, below, shift, grid}
use Rattle.mdg_site.specs.Laid.{Laid, land_if_none, locals_at, parameters_in, parameters_of, site_count, zero_if_none}
use Rattle.mdg_site.specs.Nodes.{node_size, node_size_at, source_count, shared_count, early_count, node_number, node_count, object_size, object_size_at, object_number, object_count}
use Rattle.mdg_site.specs.Rows.{column_count, known_size, known_size_at, kind_sizes, kind_size, kind, place, start, row_number, row_count, width_of}
use Rattle.mdg_site.specs.Shapes.{first_of, second_of, shape_at, shape_of}
use Rattle.mdg_site.specs.Tables.{IsSmall}
use Rattle.mdg_site.proofs.BlockLemmas.{sum_le, sum_lt, sum_more, slot_some, cond_some}
use Rattle.mdg_site.proofs.CountLemmas.{objects_le}

-- beyond the end there is nothing
pub parameters_end : (l : Laid) (f : ℕ) → length l.code.functions ≤ f → parameters_in l f ≡ 0
parameters_end l f h = ap parameters_of (slice_get_past l.code.functions f h)

pub locals_end : (l : Laid) (s : ℕ) → site_count l ≤ s → locals_at l s ≡ 0
locals_end l s h = ap (λ (x : Option Line). zero_if_none (option_and_then (locals_of l.code) (option_map (λ line. line.function) x))) (slice_get_past l.code.lines s h)

pub shape_end : (l : Laid) (s : ℕ) → site_count l ≤ s → shape_at l s ≡ shape_of Land
shape_end l s h = ap (λ (x : Option Line). shape_of (land_if_none (option_map (λ line. line.statement) x))) (slice_get_past l.code.lines s h)

pub nodes_end : (l : Laid) (s : ℕ) → site_count l ≤ s → node_size_at l s ≡ 0
nodes_end l s h = ap node_size (shape_end l s h)

pub objects_end : (l : Laid) (s : ℕ) → site_count l ≤ s → object_size_at l s ≡ 0
objects_end l s h = ap object_size (shape_end l s h)

pub known_end : (l : Laid) (s : ℕ) → site_count l ≤ s → known_size_at l s ≡ 0
known_end l s h = ap known_size (shape_end l s h)

abbrev pub Ends : (ℕ → ℕ) → ℕ → Type 0
Ends f n = (i : ℕ) → n ≤ i → f i ≡ 0

-- a slot stands below the end
pub slot_lt : (f : ℕ → ℕ) (n i x r : ℕ) → Ends f n → slot f i x ≡ Some r → r < sum_below f n
slot_lt f n i x r ends e =
    let p = slot_some f i x r e in
    let h : i < n = within (ends i) p.0 in
    let q = sum_lt f i n x h p.0 in let w = p.1 in omega arith
  where
    within : (n ≤ i → f i ≡ 0) → x < f i → i < n
    within g k = grind (arith, g)

pub slot_at_lt : (f : ℕ → ℕ) (n i : ℕ) (o : Option ℕ) (r : ℕ) → Ends f n → slot_at f i o ≡ Some r → r < sum_below f n
slot_at_lt f n i None r ends e = absurd cc
slot_at_lt f n i (Some x) r ends e = slot_lt f n i x r ends e

pub below_lt : (n i r : ℕ) → below n i ≡ Some r → (r < n) × (r ≡ i)
below_lt n i r e = let p = cond_some (nat_lt i n) i r e in let h = ltb-true i n p.0 in let q = p.1 in (omega arith, sym q)

pub shift_some : (k : ℕ) (o : Option ℕ) (r : ℕ) → shift k o ≡ Some r → (x : ℕ) × (o ≡ Some x) × (r ≡ k + x)
shift_some k None r e = absurd cc
shift_some k (Some x) r e = (x, refl, cc)

pub grid_some : (n : ℕ) (o : Option ℕ) (x r : ℕ) → grid n o x ≡ Some r → (i : ℕ) × (o ≡ Some i) × (x < n) × (r ≡ i * n + x)
grid_some n None x r e = absurd cc
grid_some n (Some i) x r e = let p = cond_some (nat_lt x n) (i * n + x) r e in (i, refl, ltb-true x n p.0, sym p.1)

-- nodes
pub node_lt : (l : Laid) (x : NodeName) (r : ℕ) → node_number l x ≡ Some r → r < node_count l
node_lt l (Src f i) r e = let p = slot_lt (parameters_in l) (length l.code.functions) f.0 i r (parameters_end l) e in omega arith
node_lt l (Shared b) r e = let q = shift_some (source_count l) (below (shared_count l) b.0) r e in let p = (below_lt (shared_count l) b.0 q.0 q.1).0 in let w = q.2 in omega arith
node_lt l (AtSite s) r e = let q = shift_some (early_count l) (slot_at (node_size_at l) s.0 (first_of (shape_at l s.0).own)) r e in let p = slot_at_lt (node_size_at l) (site_count l) s.0 (first_of (shape_at l s.0).own) q.0 (nodes_end l) q.1 in let w = q.2 in omega arith
node_lt l (Ext s) r e = let q = shift_some (early_count l) (slot_at (node_size_at l) s.0 (second_of (shape_at l s.0).own (shape_at l s.0).outside)) r e in let p = slot_at_lt (node_size_at l) (site_count l) s.0 (second_of (shape_at l s.0).own (shape_at l s.0).outside) q.0 (nodes_end l) q.1 in let w = q.2 in omega arith
node_lt l Caller r e = absurd cc

pub object_lt : (l : Laid) (x : NodeName) (r : ℕ) → object_number l x ≡ Some r → r < object_count l
object_lt l (Src f i) r e = let p = slot_lt (parameters_in l) (length l.code.functions) f.0 i r (parameters_end l) e in omega arith
object_lt l (Shared b) r e = let q = shift_some (source_count l) (below (shared_count l) b.0) r e in let p = (below_lt (shared_count l) b.0 q.0 q.1).0 in let w = q.2 in omega arith
object_lt l (AtSite s) r e = let q = shift_some (early_count l) (slot_at (object_size_at l) s.0 (first_of (shape_at l s.0).fields)) r e in let p = slot_at_lt (object_size_at l) (site_count l) s.0 (first_of (shape_at l s.0).fields) q.0 (objects_end l) q.1 in let w = q.2 in omega arith
object_lt l (Ext s) r e = let q = shift_some (early_count l) (slot_at (object_size_at l) s.0 (second_of (shape_at l s.0).fields (shape_at l s.0).outside)) r e in let p = slot_at_lt (object_size_at l) (site_count l) s.0 (second_of (shape_at l s.0).fields (shape_at l s.0).outside) q.0 (objects_end l) q.1 in let w = q.2 in omega arith
object_lt l Caller r e = absurd cc

pub grid_lt : (n m i x : ℕ) → i < m → x < n → i * n + x < m * n
grid_lt n m i x h k = let p = mul-le-mul_right n (let q : i + 1 ≤ m = omega arith in q) in omega (arith, p)

pub place_lt : (l : Laid) (x : Row) (r : ℕ) → place l x ≡ Some r → r < kind_size l (kind x)
place_lt l (Loc s x) r e = slot_lt (locals_at l) (site_count l) s.0 x.0 r (locals_end l) e
place_lt l (Cell v) r e = (below_lt (length l.code.cells) v.0 r e).0
place_lt l (Field n q) r e = let p = grid_some (column_count l) (object_number l n) q.0 r e in let k = object_lt l n p.0 p.1 in subst (λ (z : ℕ). z < object_count l * column_count l) (sym p.3) (grid_lt (column_count l) (object_count l) p.0 q.0 k p.2)
place_lt l (Newer n) r e = node_lt l n r e
place_lt l (Dep n) r e = node_lt l n r e
place_lt l (Ret f) r e = (below_lt (length l.code.functions) f.0 r e).0
place_lt l (Known s) r e = slot_at_lt (known_size_at l) (site_count l) s.0 (first_of (shape_at l s.0).known) r (known_end l) e
place_lt l Exp r e = let p : 0 ≡ r = cc in omega arith
place_lt l (IsFunction f) r e = (below_lt (length l.code.functions) f.0 r e).0
place_lt l (IsShared b) r e = (below_lt (shared_count l) b.0 r e).0
place_lt l Vague r e = let p : 0 ≡ r = cc in omega arith
place_lt l Foreign r e = let p : 0 ≡ r = cc in omega arith

pub kind_lt : (x : Row) → kind x < 12
kind_lt (Loc s x) = omega arith
kind_lt (Cell v) = omega arith
kind_lt (Field n q) = omega arith
kind_lt (Newer n) = omega arith
kind_lt (Dep n) = omega arith
kind_lt (Ret f) = omega arith
kind_lt (Known s) = omega arith
kind_lt Exp = omega arith
kind_lt (IsFunction f) = omega arith
kind_lt (IsShared b) = omega arith
kind_lt Vague = omega arith
kind_lt Foreign = omega arith

pub row_lt : (l : Laid) (x : Row) (r : ℕ) → row_number l x ≡ Some r → r < row_count l
row_lt l x r e =
    let q = shift_some (start l (kind x)) (place l x) r e in
    subst (λ (z : ℕ). z < row_count l) (sym q.2) (sum_lt (kind_size l) (kind x) 12 q.0 (kind_lt x) (place_lt l x q.0 q.1))

-- no number is too large
pub some_fits : (o : Option ℕ) (k n b : ℕ) → ((x : ℕ) → o ≡ Some x → x < n) → k + n ≤ b → IfSome o (λ x. k + x < b)
some_fits None k n b f h = tt
some_fits (Some x) k n b f h = let p = f x refl in omega arith

pub shared_fits : (l : Laid) (b : ℕ) → node_count l ≤ 16384 → IfSome (below (shared_count l) b) (λ x. source_count l + x < 2 ^ 32)
shared_fits l b h = some_fits (below (shared_count l) b) (source_count l) (shared_count l) (2 ^ 32) (λ x e. (below_lt (shared_count l) b x e).0) (omega arith)

pub node_slot_fits : (l : Laid) (s : ℕ) (o : Option ℕ) → node_count l ≤ 16384 → IfSome (slot_at (node_size_at l) s o) (λ x. early_count l + x < 2 ^ 32)
node_slot_fits l s o h = some_fits (slot_at (node_size_at l) s o) (early_count l) (sum_below (node_size_at l) (site_count l)) (2 ^ 32) (λ x e. slot_at_lt (node_size_at l) (site_count l) s o x (nodes_end l) e) (omega arith)

pub object_slot_fits : (l : Laid) (s : ℕ) (o : Option ℕ) → node_count l ≤ 16384 → IfSome (slot_at (object_size_at l) s o) (λ x. early_count l + x < 2 ^ 32)
object_slot_fits l s o h = let q = objects_le l (site_count l) in some_fits (slot_at (object_size_at l) s o) (early_count l) (sum_below (object_size_at l) (site_count l)) (2 ^ 32) (λ x e. slot_at_lt (object_size_at l) (site_count l) s o x (objects_end l) e) (omega arith)

pub row_fits : (l : Laid) (x : Row) → row_count l ≤ 2 ^ 27 → IfSome (place l x) (λ r. start l (kind x) + r < 2 ^ 32)
row_fits l x h = go (place l x) (λ r e. place_lt l x r e)
  where
    go : (o : Option ℕ) → ((r : ℕ) → o ≡ Some r → r < kind_size l (kind x)) → IfSome o (λ r. start l (kind x) + r < 2 ^ 32)
    go None f = tt
    go (Some r) f = let a = sum_lt (kind_size l) (kind x) 12 r (kind_lt x) (f r refl) in omega arith

pub grid_fits : (l : Laid) (n : NodeName) → row_count l ≤ 2 ^ 27 → IfSome (object_number l n) (λ i. i * column_count l + column_count l < 2 ^ 32)
grid_fits l n h = go (object_number l n) (λ i e. object_lt l n i e)
  where
    go : (o : Option ℕ) → ((i : ℕ) → o ≡ Some i → i < object_count l) → IfSome o (λ i. i * column_count l + column_count l < 2 ^ 32)
    go None f = tt
    go (Some i) f =
        let a = grid_lt (column_count l) (object_count l) i (length l.code.columns) (f i refl) (omega arith) in
        let b = sum_le (kind_size l) 3 12 (omega arith) in
        omega arith

-- so few words, so few rows
pub rows_few : (l : Laid) → IsSmall l → row_count l ≤ 2 ^ 27
rows_few l h = few (row_count l) (width_of l) (omega arith) h.words
  where
    few : (r w : ℕ) → 1 ≤ w → r * w ≤ 2 ^ 27 → r ≤ 2 ^ 27
    few r w h k = let m = mul-le-mul_right r h in omega (arith, m, k)

-- a word of a row is one of all words
pub word_fits : (l : Laid) (r v w : ℕ) → v ≡ width_of l → r < row_count l → w < width_of l → r * v + w < row_count l * width_of l
word_fits l r v w e h k = subst (λ (z : ℕ). r * z + w < row_count l * width_of l) (sym e) (grid_lt (width_of l) (row_count l) r w h k)

pub words_fit : (l : Laid) (r v : ℕ) → r ≡ row_count l → v ≡ width_of l → r * v ≡ row_count l * width_of l
words_fit l r v d e = ap (λ (z : ℕ). z * v) d ∙ ap (λ (z : ℕ). row_count l * z) e
