-- The tables of a layout. These definitions serve the proofs alone.
use Rattle.std.specs.Prelude.{◌≡◌, ℕ, ◌+◌, ◌-◌, ◌*◌, ◌≤◌, ◌<◌, ◌^◌, ◌==◌, ◌&&◌, if◌then◌else◌, Bool, List, length, slice_index, slice_index_or, Some}
use Rattle.mdg_base.specs.declared.node_name.NodeName.{NodeName}
use Rattle.mdg_base.specs.declared.node_name.NodeName.TheVariants.{Site as AtSite, Ext}
use Rattle.mdg_base.specs.declared.number.Site.{Site}
use Rattle.mdg_site.specs.declared.shape.Shape.{Shape}
use Rattle.mdg_site.specs.Blocks.{sum_below}
use Rattle.mdg_site.specs.Laid.{Laid, locals_at, parameters_in, site_count}
use Rattle.mdg_site.specs.Nodes.{node_count, node_number, node_size_at, object_count, object_number, object_size_at}
use Rattle.mdg_site.specs.Rows.{column_count, kind_size, known_size_at, row_count, width_of}
use Rattle.mdg_site.specs.Shapes.{shape_at}

-- where each of n blocks begins, and where the last one ends
pub record IsTable (f : ℕ → ℕ) (n : ℕ) (xs : List ℕ) : Type 0 where
  pub sized : length xs ≡ n + 1
  pub sums : (i : ℕ) → i ≤ n → slice_index xs i ≡ sum_below f i
  -- beyond them all blocks are empty
  pub ends : (i : ℕ) → n ≤ i → f i ≡ 0

-- the number is that of a thing in one of the blocks
pub record HasNumber (xs : List ℕ) (number : ℕ) : Type 0 where
  pub several : 2 ≤ length xs
  pub begun : slice_index xs 0 ≤ number
  pub not_ended : number < slice_index xs (length xs - 1)

-- the first part of it, of a list alone
pub record AreStarts (f : ℕ → ℕ) (n : ℕ) (xs : List ℕ) : Type 0 where
  pub starts_sized : length xs ≡ n + 1
  pub starts_sums : (i : ℕ) → i ≤ n → slice_index xs i ≡ sum_below f i

-- which nodes and rows the statements at the first sites have
pub record AreShapes (l : Laid) (count : ℕ) (shapes : List Shape) : Type 0 where
  pub sized : length shapes ≡ count
  pub each_is : (s : ℕ) (x : Shape) → s < count → slice_index_or shapes s x ≡ shape_at l s

pub record AreTables (l : Laid) (sources nodes objects locals known starts : List ℕ) (shapes : List Shape) : Type 0 where
  pub sources_are : IsTable (parameters_in l) (length l.code.functions) sources
  pub nodes_are : IsTable (node_size_at l) (site_count l) nodes
  pub objects_are : IsTable (object_size_at l) (site_count l) objects
  pub locals_are : IsTable (locals_at l) (site_count l) locals
  pub known_are : IsTable (known_size_at l) (site_count l) known
  pub starts_are : IsTable (kind_size l) 12 starts
  pub shapes_are : AreShapes l (site_count l) shapes

-- the names of the first nodes, by number
pub record AreNodeNames (l : Laid) (count : ℕ) (names : List NodeName) : Type 0 where
  pub sized : length names ≡ count
  pub named : (i : ℕ) (x : NodeName) → i < count → node_number l (slice_index_or names i x) ≡ Some i

-- the names of the first nodes that stand for objects
pub record AreObjectNames (l : Laid) (count : ℕ) (names : List NodeName) : Type 0 where
  pub sized : length names ≡ count
  pub named : (i : ℕ) (x : NodeName) → i < count → object_number l (slice_index_or names i x) ≡ Some i

-- there are fewer than 2 ^ 32 of each thing, and no more nodes and words than a layout may have
pub record IsSmall (l : Laid) : Type 0 where
  pub sites : site_count l < 2 ^ 32
  pub functions : length l.code.functions < 2 ^ 32
  pub cells : length l.code.cells < 2 ^ 32
  pub columns : length l.code.columns < 2 ^ 32
  pub shared : length l.code.shared < 2 ^ 32
  pub nodes : node_count l ≤ 16384
  pub words : row_count l * width_of l ≤ 2 ^ 27

-- of a site's own node and its outside node, the one with this number
abbrev pub pair_name : Bool → Site → ℕ → NodeName
pair_name own s place = if own && (place == 0) then AtSite s else Ext s
