-- What was seen of bases, and one more base.
use Rattle.std.proofs.Common.{◌≡◌, ℕ, Bool, true, false, ◌||◌, ◌&&◌, not, List, [], ◌∷◌, ◌++◌, refl, sym, ap, ◌∙◌, subst, append-nil, if◌then◌else◌}
use Rattle.std.specs.List.{list_any}
use Rattle.std.specs.Str.{bytes_eq}
use Rattle.std.proofs.lemmas.Bool.{not-true, not-false}
use Rattle.mdg_base.specs.declared.profile_word.Home.{Home}
use Rattle.mdg_base.specs.declared.profile_word.Home.TheVariants as home
use Rattle.mdg_scope.specs.Names.{has_name, add_name}
use Rattle.mdg_lower.specs.declared.shared.names.SharedNames.{SharedNames}
use Rattle.mdg_lower.specs.declared.shared.names.SharedName.{SharedName}
use Rattle.mdg_lower.specs.SharedRows.{is_home, is_same, add_shared_name}
use Rattle.mdg_lower.specs.SharedNames.{names_at, with_name, names_of, seen_in}

any_step : (home : Home) (name : List ℕ) (base : SharedName) (bases : List SharedName) (b : Bool) → is_home home base.home ≡ b
    → list_any (is_same (record { home = home; name = name })) bases ≡ has_name (names_of home bases) name
    → (b && bytes_eq name base.name) || list_any (is_same (record { home = home; name = name })) bases ≡ has_name (if b then base.name ∷ names_of home bases else names_of home bases) name
any_step home name base bases true is rest = ap (λ r. bytes_eq name base.name || r) rest
any_step home name base bases false is rest = rest

-- a base is among them where its name is among those of its home
pub any_named : (home : Home) (name : List ℕ) (bases : List SharedName)
    → list_any (is_same (record { home = home; name = name })) bases ≡ has_name (names_of home bases) name
any_named home name [] = refl
any_named home name (base ∷ bases) = any_step home name base bases (is_home home base.home) refl (any_named home name bases)

names_step : (home : Home) (bases : List SharedName) (one base : SharedName) (b : Bool)
    → names_of home (bases ++ base ∷ []) ≡ names_of home bases ++ names_of home (base ∷ [])
    → (if b then one.name ∷ names_of home (bases ++ base ∷ []) else names_of home (bases ++ base ∷ [])) ≡ (if b then one.name ∷ names_of home bases else names_of home bases) ++ names_of home (base ∷ [])
names_step home bases one base true rest = ap (λ l. one.name ∷ l) rest
names_step home bases one base false rest = rest

-- the names with one more base
pub names_after : (home : Home) (bases : List SharedName) (base : SharedName) → names_of home (bases ++ base ∷ []) ≡ names_of home bases ++ names_of home (base ∷ [])
names_after home [] base = refl
names_after home (one ∷ bases) base = names_step home bases one base (is_home home one.home) (names_after home bases base)

-- the names of the home, of what was seen of bases
pub names_seen : (home : Home) (bases : List SharedName) → names_at home (seen_in bases) ≡ names_of home bases
names_seen home.Global bases = refl
names_seen home.Module bases = refl

-- a base is among those that were seen where its name is among those of its home
among : (home : Home) (name : List ℕ) (bases : List SharedName) (seen : SharedNames) → seen ≡ seen_in bases
    → list_any (is_same (record { home = home; name = name })) bases ≡ has_name (names_at home seen) name
among home name bases seen is =
    any_named home name bases
    ∙ ap (λ l. has_name l name) (sym (names_seen home bases))
    ∙ ap (λ s. has_name (names_at home s) name) (sym is)

-- a base that is new goes after the others
pub new_base : (home : Home) (name : List ℕ) (bases : List SharedName) (seen : SharedNames) → not (has_name (names_at home seen) name) ≡ true → seen ≡ seen_in bases
    → bases ++ record { home = home; name = name } ∷ [] ≡ add_shared_name bases (record { home = home; name = name })
new_base home name bases seen new is =
    ap (λ b. if b then bases else bases ++ record { home = home; name = name } ∷ []) (sym (among home name bases seen is ∙ not-true _ new))

-- a base that was seen is not added
pub known_base : (home : Home) (name : List ℕ) (bases : List SharedName) (seen : SharedNames) → not (has_name (names_at home seen) name) ≡ false → seen ≡ seen_in bases
    → bases ≡ add_shared_name bases (record { home = home; name = name })
known_base home name bases seen known is =
    ap (λ b. if b then bases else bases ++ record { home = home; name = name } ∷ []) (sym (among home name bases seen is ∙ not-false _ known))

after_new : (names : List (List ℕ)) (name : List ℕ) → not (has_name names name) ≡ true → add_name names name ≡ names ++ name ∷ []
after_new names name new = ap (λ b. if b then names else names ++ name ∷ []) (not-true _ new)

-- the names of a home that the base hasn't stay
names_stay : (other : Home) (bases : List SharedName) (base : SharedName) → is_home other base.home ≡ false → names_of other (bases ++ base ∷ []) ≡ names_of other bases
names_stay other bases base is =
    names_after other bases base
    ∙ ap (λ b. names_of other bases ++ (if b then base.name ∷ [] else [])) is
    ∙ append-nil (names_of other bases)

-- what was seen with a base that is new
seen_more : (home : Home) (name : List ℕ) (bases : List SharedName) → not (has_name (names_at home (seen_in bases)) name) ≡ true
    → with_name home (seen_in bases) name ≡ seen_in (bases ++ record { home = home; name = name } ∷ [])
seen_more home.Global name bases new =
    ap (λ l. record { globals = l; modules = names_of home.Module bases }) (after_new (names_of home.Global bases) name new ∙ sym (names_after home.Global bases (record { home = home.Global; name = name })))
    ∙ ap (λ l. record { globals = names_of home.Global (bases ++ record { home = home.Global; name = name } ∷ []); modules = l }) (sym (names_stay home.Module bases (record { home = home.Global; name = name }) refl))
seen_more home.Module name bases new =
    ap (λ l. record { globals = names_of home.Global bases; modules = l }) (after_new (names_of home.Module bases) name new ∙ sym (names_after home.Module bases (record { home = home.Module; name = name })))
    ∙ ap (λ l. record { globals = l; modules = names_of home.Module (bases ++ record { home = home.Module; name = name } ∷ []) }) (sym (names_stay home.Global bases (record { home = home.Module; name = name }) refl))

pub new_seen : (home : Home) (name : List ℕ) (bases : List SharedName) (seen : SharedNames) → not (has_name (names_at home seen) name) ≡ true → seen ≡ seen_in bases
    → with_name home seen name ≡ seen_in (bases ++ record { home = home; name = name } ∷ [])
new_seen home name bases seen new is =
    ap (λ s. with_name home s name) is
    ∙ seen_more home name bases (subst (λ s. not (has_name (names_at home s) name) ≡ true) is new)
