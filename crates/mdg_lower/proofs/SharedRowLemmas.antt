-- Bases are added one by one.
use Rattle.std.proofs.Common.{◌≡◌, List, [], ◌∷◌, ◌++◌, refl}
use Rattle.mdg_lower.specs.declared.shared.names.SharedName.{SharedName}
use Rattle.mdg_lower.specs.SharedRows.{add_shared_name, add_shared_names}

pub add_shared_names_append : (bases one other : List SharedName) → add_shared_names bases (one ++ other) ≡ add_shared_names (add_shared_names bases one) other
add_shared_names_append bases [] other = refl
add_shared_names_append bases (b ∷ bs) other = add_shared_names_append (add_shared_name bases b) bs other
