-- The nodes and their numbers: parameters, shared things, and then site by site the statement's own node and
-- the one for what outside code hands back there.
use Rattle.std.specs.Prelude.{◌≡◌, ℕ, ◌+◌, length, Option, Some, None}
use Rattle.mdg_base.specs.declared.node_name.NodeName.{NodeName}
use Rattle.mdg_base.specs.declared.node_name.NodeName.TheVariants.{Src, Shared, Site as AtSite, Ext, Caller}
use Rattle.mdg_base.specs.declared.number.Node.{Node}
use Rattle.mdg_site.specs.declared.shape.Shape.{Shape}
use Rattle.mdg_site.specs.Blocks.{sum_below, slot, slot_at, below, shift}
use Rattle.mdg_site.specs.Laid.{Laid, parameters_in, site_count}
use Rattle.mdg_site.specs.Shapes.{first_of, pair_size, second_of, shape_at}

abbrev pub node_size : Shape → ℕ
node_size shape = pair_size shape.own shape.outside

abbrev pub node_size_at : Laid → ℕ → ℕ
node_size_at l s = node_size (shape_at l s)

abbrev pub source_count : Laid → ℕ
source_count l = sum_below (parameters_in l) (length l.code.functions)

abbrev pub shared_count : Laid → ℕ
shared_count l = length l.code.shared

-- how many nodes stand before those of the sites
abbrev pub early_count : Laid → ℕ
early_count l = source_count l + shared_count l

-- the number of a node, where there is such a node. No node has the name `Caller`.
abbrev pub node_number : Laid → NodeName → Option ℕ
node_number l (Src f i) = slot (parameters_in l) f.0 i
node_number l (Shared b) = shift (source_count l) (below (shared_count l) b.0)
node_number l (AtSite s) = shift (early_count l) (slot_at (node_size_at l) s.0 (first_of (shape_at l s.0).own))
node_number l (Ext s) = shift (early_count l)
    (slot_at (node_size_at l) s.0 (second_of (shape_at l s.0).own (shape_at l s.0).outside))
node_number l Caller = None

abbrev pub number_of : Option Node → Option ℕ
number_of None = None
number_of (Some node) = Some node.0

abbrev pub node_count : Laid → ℕ
node_count l = early_count l + sum_below (node_size_at l) (site_count l)

-- there is such a node
abbrev pub IsNode : Laid → NodeName → Type 0
IsNode l name = (n : ℕ) × (node_number l name ≡ Some n)

abbrev pub object_size : Shape → ℕ
object_size shape = pair_size shape.fields shape.outside

abbrev pub object_size_at : Laid → ℕ → ℕ
object_size_at l s = object_size (shape_at l s)

-- the number among the nodes that stand for objects: all but the own nodes of operators and lookups
abbrev pub object_number : Laid → NodeName → Option ℕ
object_number l (Src f i) = slot (parameters_in l) f.0 i
object_number l (Shared b) = shift (source_count l) (below (shared_count l) b.0)
object_number l (AtSite s) = shift (early_count l) (slot_at (object_size_at l) s.0 (first_of (shape_at l s.0).fields))
object_number l (Ext s) = shift (early_count l)
    (slot_at (object_size_at l) s.0 (second_of (shape_at l s.0).fields (shape_at l s.0).outside))
object_number l Caller = None

abbrev pub object_count : Laid → ℕ
object_count l = early_count l + sum_below (object_size_at l) (site_count l)
