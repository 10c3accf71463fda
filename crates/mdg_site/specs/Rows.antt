-- The rows and their numbers, kind by kind.
use Rattle.std.specs.Prelude.{◌≡◌, ℕ, ◌+◌, ◌*◌, ◌/◌, max, List, [], ◌∷◌, length, slice_index, Option, Some, None}
use Rattle.mdg_base.specs.declared.node_name.NodeName.{NodeName}
use Rattle.mdg_site.specs.declared.row.Row.{Row}
use Rattle.mdg_site.specs.declared.row.Row.TheVariants.{Loc, Cell, Field, Newer, Dep, Ret, Known, Exp, IsFunction, IsShared, Vague, Foreign}
use Rattle.mdg_site.specs.declared.shape.Shape.{Shape}
use Rattle.mdg_site.specs.Blocks.{sum_below, slot, slot_at, below, shift, grid}
use Rattle.mdg_site.specs.Laid.{Laid, locals_at, site_count}
use Rattle.mdg_site.specs.Nodes.{node_count, node_number, object_count, object_number, shared_count}
use Rattle.mdg_site.specs.Shapes.{first_of, one_if, shape_at}

-- one column for each static property name, and one for all others
abbrev pub column_count : Laid → ℕ
column_count l = length l.code.columns + 1

abbrev pub known_size : Shape → ℕ
known_size shape = one_if shape.known

abbrev pub known_size_at : Laid → ℕ → ℕ
known_size_at l s = known_size (shape_at l s)

-- how many rows there are of each kind
abbrev pub kind_sizes : Laid → List ℕ
kind_sizes l = sum_below (locals_at l) (site_count l) ∷ length l.code.cells ∷ object_count l * column_count l ∷ node_count l ∷ node_count l
    ∷ length l.code.functions ∷ sum_below (known_size_at l) (site_count l) ∷ 1 ∷ length l.code.functions ∷ shared_count l ∷ 1 ∷ 1 ∷ []

abbrev pub kind_size : Laid → ℕ → ℕ
kind_size l k = slice_index (kind_sizes l) k

abbrev pub kind : Row → ℕ
kind (Loc s x) = 0
kind (Cell v) = 1
kind (Field n q) = 2
kind (Newer n) = 3
kind (Dep n) = 4
kind (Ret f) = 5
kind (Known s) = 6
kind Exp = 7
kind (IsFunction f) = 8
kind (IsShared b) = 9
kind Vague = 10
kind Foreign = 11

-- the number among the rows of its kind, where there is such a row
abbrev pub place : Laid → Row → Option ℕ
place l (Loc s x) = slot (locals_at l) s.0 x.0
place l (Cell v) = below (length l.code.cells) v.0
place l (Field n q) = grid (column_count l) (object_number l n) q.0
place l (Newer n) = node_number l n
place l (Dep n) = node_number l n
place l (Ret f) = below (length l.code.functions) f.0
place l (Known s) = slot_at (known_size_at l) s.0 (first_of (shape_at l s.0).known)
place l Exp = Some 0
place l (IsFunction f) = below (length l.code.functions) f.0
place l (IsShared b) = below (shared_count l) b.0
place l Vague = Some 0
place l Foreign = Some 0

-- where the rows of the kind begin
abbrev pub start : Laid → ℕ → ℕ
start l k = sum_below (kind_size l) k

-- the number of a row, where there is such a row
abbrev pub row_number : Laid → Row → Option ℕ
row_number l row = shift (start l (kind row)) (place l row)

abbrev pub row_count : Laid → ℕ
row_count l = start l 12

-- there is such a row
abbrev pub IsRow : Laid → Row → Type 0
IsRow l row = (r : ℕ) × (row_number l row ≡ Some r)

-- the words of 64 nodes in one row
abbrev pub width_of : Laid → ℕ
width_of l = max 1 ((node_count l + 63) / 64)

-- the words of all rows
abbrev pub word_count : Laid → ℕ
word_count l = row_count l * width_of l

-- the word of the fact that node n is in row r, among the words of all rows. Its bit there is n % 64.
abbrev pub word_index : Laid → ℕ → ℕ → ℕ
word_index l r n = r * width_of l + n / 64
