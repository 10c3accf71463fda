-- The names of an object's members, read from the map that holds them.
use Rattle.std.proofs.Common.{ℕ, ◌≡◌, ◌&&◌, List, [], ◌∷◌, map, refl, ap, String, string_bytes, Bor, ◌||◌}
use Rattle.std.specs.List.{list_all, list_any}
use Rattle.std.specs.Str.{bytes_eq}
use Rattle.std.specs.declared.alloc.Global.{Global}
use Rattle.mdg_profile.specs.Members.{is_one_of, are_among}
use Rattle.serde_json.specs.View.{members_view}
use Rattle.serde_json.specs.declared.value.Value.{Value}

pub among_keys : (names : List (List ℕ)) (entries : List (String Global × Value)) → are_among names (members_view entries) ≡ list_all (λ key. is_one_of names (string_bytes key)) (map (λ entry. entry.0) entries)
among_keys names [] = refl
among_keys names (entry ∷ entries) = ap (λ rest. is_one_of names (string_bytes entry.0) && rest) (among_keys names entries)

pub one_of_borrowed : (names : List (Bor (List ℕ))) (text : List ℕ) → is_one_of (map (λ name. name.now) names) text ≡ list_any (λ name. bytes_eq name.now text) names
one_of_borrowed [] text = refl
one_of_borrowed (name ∷ names) text = ap (λ rest. bytes_eq name.now text || rest) (one_of_borrowed names text)
