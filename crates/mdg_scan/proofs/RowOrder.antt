-- The order of rows tells different rows apart.
use Rattle.std.proofs.Common.{◌≡◌, ℕ, true, refl, ap, ◌∙◌}
use Rattle.std.specs.declared.cmp.Ordering.{Ordering}
use Rattle.std.specs.declared.cmp.Ordering.TheVariants.{Less, Equal, Greater}
use Rattle.std.specs.Ordering.{ordering_then, nat_cmp, is_eq, eq_by_cmp}
use Rattle.std.proofs.lemmas.Cmp.{tied_itself}
use Rattle.std.proofs.lemmas.Map.Lookups.{exact_unsigned}
use Rattle.mdg_base.specs.contracts.node_name.NodeNameOrd.TheImpl as name_order
use Rattle.mdg_base.specs.declared.node_name.NodeName.{NodeName}
use Rattle.mdg_base.specs.declared.node_name.NodeName.TheVariants as name
use Rattle.mdg_base.specs.declared.number.CellId.{CellId}
use Rattle.mdg_base.specs.declared.number.Column.{Column}
use Rattle.mdg_base.specs.declared.number.FunId.{FunId}
use Rattle.mdg_base.specs.declared.number.Local.{Local}
use Rattle.mdg_base.specs.declared.number.SharedId.{SharedId}
use Rattle.mdg_base.specs.declared.number.Site.{Site}
use Rattle.mdg_scan.specs.Parts.{row_cmp}
use Rattle.mdg_scan.specs.contracts.first.fact.RowOrd.TheImpl.Laws.{total-law}
use Rattle.mdg_scan.specs.declared.first.fact.Row.{Row}
use Rattle.mdg_scan.specs.declared.first.fact.Row.TheVariants as row

-- both parts of a comparison are ties
ties : (o p : Ordering) → ordering_then o p ≡ Equal → (o ≡ Equal) × (p ≡ Equal)
ties Less p h = cc
ties Equal p h = (refl, h)
ties Greater p h = cc

site_from : (a b : Site) → nat_cmp a.0 b.0 ≡ Equal → a ≡ b
site_from a b h = let f : ℕ → Site = λ n. record { 0 = n } in ap f (exact_unsigned a.0 b.0 h)

local_from : (a b : Local) → nat_cmp a.0 b.0 ≡ Equal → a ≡ b
local_from a b h = let f : ℕ → Local = λ n. record { 0 = n } in ap f (exact_unsigned a.0 b.0 h)

column_from : (a b : Column) → nat_cmp a.0 b.0 ≡ Equal → a ≡ b
column_from a b h = let f : ℕ → Column = λ n. record { 0 = n } in ap f (exact_unsigned a.0 b.0 h)

cell_from : (a b : CellId) → nat_cmp a.0 b.0 ≡ Equal → a ≡ b
cell_from a b h = let f : ℕ → CellId = λ n. record { 0 = n } in ap f (exact_unsigned a.0 b.0 h)

function_from : (a b : FunId) → nat_cmp a.0 b.0 ≡ Equal → a ≡ b
function_from a b h = let f : ℕ → FunId = λ n. record { 0 = n } in ap f (exact_unsigned a.0 b.0 h)

shared_from : (a b : SharedId) → nat_cmp a.0 b.0 ≡ Equal → a ≡ b
shared_from a b h = let f : ℕ → SharedId = λ n. record { 0 = n } in ap f (exact_unsigned a.0 b.0 h)

name_from : (m n : NodeName) → (name_order.ghosts).cmp m n ≡ Equal → m ≡ n
name_from (name.Src f i) (name.Src g j) h =
    let both : (nat_cmp f.0 g.0 ≡ Equal) × (nat_cmp i j ≡ Equal) = ties (nat_cmp f.0 g.0) (nat_cmp i j) h in
    ap (λ x. name.Src x i) (function_from f g both.0) ∙ ap (λ x. name.Src g x) (exact_unsigned i j both.1)
name_from (name.Shared a) (name.Shared b) h = ap (λ x. name.Shared x) (shared_from a b h)
name_from (name.Site a) (name.Site b) h = ap (λ x. name.Site x) (site_from a b h)
name_from (name.Ext a) (name.Ext b) h = ap (λ x. name.Ext x) (site_from a b h)
name_from name.Caller name.Caller h = refl
name_from m n h = cc

row_from : (a b : Row) → row_cmp a b ≡ Equal → a ≡ b
row_from (row.Loc s x) (row.Loc t y) h =
    let both : (nat_cmp s.0 t.0 ≡ Equal) × (nat_cmp x.0 y.0 ≡ Equal) = ties (nat_cmp s.0 t.0) (nat_cmp x.0 y.0) h in
    ap (λ z. row.Loc z x) (site_from s t both.0) ∙ ap (λ z. row.Loc t z) (local_from x y both.1)
row_from (row.Cell a) (row.Cell b) h = ap (λ z. row.Cell z) (cell_from a b h)
row_from (row.Field m p) (row.Field n q) h =
    let both : ((name_order.ghosts).cmp m n ≡ Equal) × (nat_cmp p.0 q.0 ≡ Equal) = ties ((name_order.ghosts).cmp m n) (nat_cmp p.0 q.0) h in
    ap (λ z. row.Field z p) (name_from m n both.0) ∙ ap (λ z. row.Field n z) (column_from p q both.1)
row_from (row.Newer m) (row.Newer n) h = ap (λ z. row.Newer z) (name_from m n h)
row_from (row.Dep m) (row.Dep n) h = ap (λ z. row.Dep z) (name_from m n h)
row_from (row.Known a) (row.Known b) h = ap (λ z. row.Known z) (site_from a b h)
row_from row.Exp row.Exp h = refl
row_from (row.IsFunction a) (row.IsFunction b) h = ap (λ z. row.IsFunction z) (function_from a b h)
row_from (row.IsShared a) (row.IsShared b) h = ap (λ z. row.IsShared z) (shared_from a b h)
row_from a b h = cc

equal_from : (o : Ordering) → is_eq o ≡ true → o ≡ Equal
equal_from Less h = cc
equal_from Equal h = refl
equal_from Greater h = cc

pub row_cmp-tied : (a b : Row) → eq_by_cmp row_cmp a b ≡ true → a ≡ b
row_cmp-tied a b h = row_from a b (equal_from (row_cmp a b) h)

pub row_cmp-itself : (a : Row) → eq_by_cmp row_cmp a a ≡ true
row_cmp-itself a = ap is_eq (tied_itself total-law a)
