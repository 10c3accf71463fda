-- The base facts, case by case. They belong to site 0.
use Rattle.std.specs.Prelude.{ℕ, ◌==◌, length, slice_get}
use Rattle.mdg_base.specs.declared.node_name.NodeName.{NodeName}
use Rattle.mdg_base.specs.declared.node_name.NodeName.TheVariants.{Src, Shared}
use Rattle.mdg_code.specs.declared.code.SharedRow.{SharedRow}
use Rattle.mdg_site.specs.declared.row.Row.TheVariants.{Field, IsShared, Vague, Foreign}
use Rattle.mdg_site.specs.CodeTests.{column_of, is_call, is_lookup}
use Rattle.mdg_site.specs.Laid.{Laid, function_id, parameters_in, shared_id, site_count, statement_at}
use Rattle.mdg_site.specs.Nodes.{shared_count}
use Rattle.mdg_site.specs.Rule.{Rule, puts, upto, under, both, for_some, static}
use Rattle.mdg_site.specs.StatementRules.{outside_node, own_node}

-- shared: a shared thing is itself
abbrev pub shared_self : Laid → Rule
shared_self l = upto (shared_count l) (λ b. puts (IsShared (shared_id b)) (Shared (shared_id b)))

-- shared: a listed member is in the property of its name of its base
abbrev pub shared_member_of : Laid → ℕ → SharedRow → Rule
shared_member_of l m row = for_some row.member (λ name. puts (Field (Shared row.base) (column_of l name)) (Shared (shared_id m)))

abbrev pub shared_member : Laid → Rule
shared_member l = upto (shared_count l) (λ m. for_some (slice_get l.code.shared m) (shared_member_of l m))

-- a value of which nothing is known: it may have any property, and its call runs outside code
abbrev pub is_unknown : NodeName → Rule
is_unknown n = both (puts Vague n) (puts Foreign n)

-- outside values: what the outer caller hands over
abbrev pub outside_values_source : Laid → Rule
outside_values_source l = upto (length l.code.functions) (λ f. upto (parameters_in l f) (λ i. is_unknown (Src (function_id f) i)))

-- outside values: what outside code hands back at a lookup
abbrev pub outside_values_lookup : Laid → Rule
outside_values_lookup l = upto (site_count l) (λ s. under (static (is_lookup (statement_at l s))) (is_unknown (outside_node s)))

-- outside values: what a call makes
abbrev pub outside_values_call : Laid → Rule
outside_values_call l = upto (site_count l) (λ s. under (static (is_call (statement_at l s))) (is_unknown (own_node s)))

-- outside values: a shared thing may have any property
abbrev pub outside_values_shared : Laid → Rule
outside_values_shared l = upto (shared_count l) (λ b. puts Vague (Shared (shared_id b)))

abbrev pub base_facts : Laid → Rule
base_facts l = both (shared_self l) (both (shared_member l) (both (outside_values_source l) (both (outside_values_lookup l)
    (both (outside_values_call l) (outside_values_shared l)))))

abbrev pub base : Laid → ℕ → Rule
base l s = under (static (s == 0)) (base_facts l)
