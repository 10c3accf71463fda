-- The line that exports a function.
use Rattle.std.proofs.Common.{◌≡◌, ◌≢◌, ℕ, List, ◌++◌, sym, ◌∙◌, ap, refl, Bool, true, false}
use Rattle.std.specs.Prelude.{codes}
use Rattle.std.specs.Str.{bytes_eq}
use Rattle.std.specs.Cmp.Lexicographic.{bytes_decides}
use Rattle.std.proofs.lemmas.List.{append_cancel_left, append_cancel_right}
use Rattle.std.proofs.lemmas.Bool.Decides.{same_from_decides}
use Rattle.mdg_scan.specs.FormLines.{exports_line}

false_from_not : (b : Bool) → (b ≡ true → ⊥) → false ≡ b
false_from_not true never = absurd (never refl)
false_from_not false never = refl

pub no_export : (line name : List ℕ) → ((rest : List ℕ) → line ≢ codes "module.exports = " ++ rest) → false ≡ bytes_eq line (exports_line name)
no_export line name none =
    false_from_not (bytes_eq line (exports_line name)) (λ is. none (name ++ codes ";") ((bytes_decides line (exports_line name)).0 is))

pub no_export_end : (line rest name : List ℕ) → line ≡ codes "module.exports = " ++ rest → ((front : List ℕ) → rest ≢ front ++ codes ";") → false ≡ bytes_eq line (exports_line name)
no_export_end line rest name begins none =
    false_from_not (bytes_eq line (exports_line name)) (λ is. none name (append_cancel_left (codes "module.exports = ") rest (name ++ codes ";") (sym begins ∙ (bytes_decides line (exports_line name)).0 is)))

-- two names are exported by one line only where they are one
pub exports_once : (a b : List ℕ) → exports_line a ≡ exports_line b → a ≡ b
exports_once a b same =
    append_cancel_right a b (codes ";") (append_cancel_left (codes "module.exports = ") (a ++ codes ";") (b ++ codes ";") same)

pub export_test : (line rest exported name : List ℕ) → line ≡ codes "module.exports = " ++ rest → rest ≡ exported ++ codes ";" → bytes_eq exported name ≡ bytes_eq line (exports_line name)
export_test line rest exported name begins ends =
    let is : line ≡ exports_line exported = begins ∙ ap (λ w. codes "module.exports = " ++ w) ends in
    same_from_decides (bytes_eq exported name) (bytes_eq line (exports_line name))
    (bytes_decides exported name)
    (λ e. exports_once exported name (sym is ∙ (bytes_decides line (exports_line name)).0 e), λ e. (bytes_decides line (exports_line name)).1 (is ∙ ap exports_line e))
