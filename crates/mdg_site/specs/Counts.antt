-- The counts of rows, as 64 bits carry them. These definitions serve the proofs alone.
use Rattle.std.specs.Prelude.{ℕ, ◌*◌, List, [], ◌∷◌, length}
use Rattle.mdg_site.specs.Answers.{carried}
use Rattle.mdg_site.specs.Blocks.{sum_below}
use Rattle.mdg_site.specs.Laid.{Laid, locals_at, site_count}
use Rattle.mdg_site.specs.Nodes.{node_count, object_count, shared_count}
use Rattle.mdg_site.specs.Rows.{column_count, known_size_at}

-- how many rows there are of each kind, where those of locals may be more than 64 bits carry
abbrev pub carried_sizes : Laid → List ℕ
carried_sizes l = carried (sum_below (locals_at l) (site_count l)) ∷ length l.code.cells ∷ object_count l * column_count l ∷ node_count l
    ∷ node_count l ∷ length l.code.functions ∷ carried (sum_below (known_size_at l) (site_count l)) ∷ 1 ∷ length l.code.functions ∷ shared_count l
    ∷ 1 ∷ 1 ∷ []
