-- One more key of an initialiser.
use Rattle.std.proofs.Common.{◌≡◌, ℕ, ◌+◌, ◌<◌, List, length, get_or, drop, map, sym, ap, ◌∙◌, ◌∷◌, if◌then◌else◌}
use Rattle.mdg_tree.specs.declared.tree.Property.{Property}
use Rattle.mdg_scope.specs.declared.occurrence.Occurrences.{Occurrences}
use Rattle.mdg_scope.specs.declared.occurrence.OccurrenceKind.TheVariants as r
use Rattle.mdg_scope.specs.Names.{add_name, has_name}
use Rattle.mdg_tree.specs.Views.{key_name}
use Rattle.mdg_scope.specs.Collectors.{add, repeated_keys}
use Rattle.mdg_scope.specs.Occurrences.{property_occurrences}
use Rattle.mdg_scope.proofs.Equations.{property-key, property-offset}
use Rattle.mdg_base.proofs.Lists.{drop_at}

pub one_key : (within : ℕ) (seen seen' : List (List ℕ)) (c c' : Occurrences) (ps : List Property) (i : ℕ) (d one : Property) → i < length ps → one ≡ get_or ps i d
    → seen' ≡ add_name seen (key_name one.key)
    → c' ≡ (if has_name seen (key_name one.key) then add r.RepeatedKey one.at.offset within (key_name one.key) c else c)
    → repeated_keys within seen (map property_occurrences (drop i ps)) c ≡ repeated_keys within seen' (map property_occurrences (drop (i + 1) ps)) c'
one_key within seen seen' c c' ps i d one h is more expr_collector =
    ap (λ l. repeated_keys within seen (map property_occurrences l) c) (drop_at ps i d h)
    ∙ ap (λ x. repeated_keys within seen (map property_occurrences (x ∷ drop (i + 1) ps)) c) (sym is)
    ∙ ap (λ k. repeated_keys within (add_name seen k) (map property_occurrences (drop (i + 1) ps)) (if has_name seen k then add r.RepeatedKey (property_occurrences one).offset within k c else c)) (property-key one)
    ∙ ap (λ o. repeated_keys within (add_name seen (key_name one.key)) (map property_occurrences (drop (i + 1) ps)) (if has_name seen (key_name one.key) then add r.RepeatedKey o within (key_name one.key) c else c)) (property-offset one)
    ∙ ap (λ s. repeated_keys within s (map property_occurrences (drop (i + 1) ps)) (if has_name seen (key_name one.key) then add r.RepeatedKey one.at.offset within (key_name one.key) c else c)) (sym more)
    ∙ ap (λ x. repeated_keys within seen' (map property_occurrences (drop (i + 1) ps)) x) (sym expr_collector)
