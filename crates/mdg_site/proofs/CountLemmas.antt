-- Counts that fit their types.
use Rattle.std.proofs.Common.{◌≡◌, ℕ, zero, suc, ◌+◌, ◌*◌, ◌-◌, ◌^◌, ◌<◌, ◌≤◌, Bool, true, false, List, length, min, refl, sym, ◌∙◌, ap, subst, arith, mul-le-mul_right}
use Rattle.mdg_code.specs.Nodes.{has_site_node, has_fields}
use Rattle.mdg_code.specs.declared.statement.Statement.{Statement}
use Rattle.mdg_code.specs.declared.statement.Statement.TheVariants as S
use Rattle.mdg_site.specs.Answers.{carried, node_limit}
use Rattle.mdg_site.specs.Blocks.{sum_below}
use Rattle.mdg_site.specs.Laid.{Laid, laid, statement_at, site_count}
use Rattle.mdg_site.specs.Nodes.{node_size_at, object_size_at, node_count, object_count}
use Rattle.mdg_site.specs.Rows.{column_count}
use Rattle.mdg_site.specs.Shapes.{one_if, pair_size}

-- a node with fields is there
fields_own : (st : Statement) → one_if (has_fields st) ≤ one_if (has_site_node st)
fields_own (S.Literal into text) = omega arith
fields_own (S.Copy into of) = omega arith
fields_own (S.Op into of) = omega arith
fields_own (S.Object into) = omega arith
fields_own (S.Function into function) = omega arith
fields_own (S.Own into) = omega arith
fields_own (S.Shared into shared) = omega arith
fields_own (S.Get into of name column) = omega arith
fields_own (S.GetAt into of key) = omega arith
fields_own (S.Set of name column value) = omega arith
fields_own (S.SetAt of key value) = omega arith
fields_own (S.Cell into cell) = omega arith
fields_own (S.SetCell cell value) = omega arith
fields_own (S.Branch left right) = omega arith
fields_own (S.Call into callee receiver arguments) = omega arith
fields_own S.Land = omega arith
fields_own (S.Return value) = omega arith
fields_own (S.Load file) = omega arith
fields_own (S.Throw value) = omega arith

pub objects_le : (l : Laid) (n : ℕ) → sum_below (object_size_at l) n ≤ sum_below (node_size_at l) n
objects_le l zero = omega arith
objects_le l (suc n) = let a = objects_le l n in let b = fields_own (statement_at l n) in omega arith

-- no more objects than nodes
pub objects_few : (l : Laid) → object_count l ≤ node_count l
objects_few l = let a = objects_le l (site_count l) in omega arith

pub carried_same : (n b : ℕ) → n ≤ b → b < 2 ^ 64 → carried n ≡ n
carried_same n b h k = omega arith

-- a row of columns for each of so few objects
pub fields_fit : (l : Laid) (o k : ℕ) → node_count l ≤ node_limit → length l.code.columns < 2 ^ 32 → o ≡ carried (object_count l) → k ≡ length l.code.columns
    → (o ≡ object_count l) × (o * (k + 1) < 2 ^ 64)
fields_fit l o k h c e f =
    let a = objects_few l in
    let same : o ≡ object_count l = e ∙ carried_same (object_count l) node_limit (omega arith) (omega arith) in
    (same, let m = mul-le-mul_right (k + 1) (let few : o ≤ 16384 = omega arith in few) in omega (arith, m))
