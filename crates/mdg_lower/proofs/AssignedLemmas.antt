-- Whether any of several parts assigns a name.
use Rattle.std.proofs.Common.{◌≡◌, ◌++◌, ◌||◌, Bool, true, false, List, [], ◌∷◌, refl, ap, ◌∙◌, sym}
use Rattle.mdg_lower.specs.Lookup.{Name}
use Rattle.mdg_lower.specs.Operands.{Operand, any_assigns}

or_assoc : (a b c : Bool) → ((a || b) || c) ≡ (a || (b || c))
or_assoc true b c = refl
or_assoc false b c = refl

any_of_both : (a b : List Operand) (x : Name) → any_assigns (a ++ b) x ≡ (any_assigns a x || any_assigns b x)
any_of_both [] b x = refl
any_of_both (e ∷ es) b x = ap (λ w. e.assigns x || w) (any_of_both es b x) ∙ sym (or_assoc (e.assigns x) (any_assigns es x) (any_assigns b x))

pub any_of_three : (a b c : List Operand) (x : Name) → any_assigns (a ++ (b ++ c)) x ≡ ((any_assigns a x || any_assigns b x) || any_assigns c x)
any_of_three a b c x =
    any_of_both a (b ++ c) x ∙ ap (λ w. any_assigns a x || w) (any_of_both b c x)
    ∙ sym (or_assoc (any_assigns a x) (any_assigns b x) (any_assigns c x))

pub ruleset laters = (any_of_three)
