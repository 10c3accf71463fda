-- The default profile has one entry a name: its parts are compared one with another.
use Rattle.std.proofs.Common.{ℕ, zero, suc, Bool, true, false, not, ◌&&◌, ◌≡◌, List, [], ◌∷◌, ◌++◌, get_or, Option, Some, None, All, refl, sym, subst, arith, IfOk, Result, Ok, Err, true≢false}
use Rattle.std.specs.List.{list_all}
use Rattle.std.specs.Str.{bytes_eq}
use Rattle.std.proofs.lemmas.Slice.Eq.{bytes_eq-Decides}
use Rattle.std.proofs.lemmas.List.Elements.{All-append}
use Rattle.std.proofs.lemmas.List.Folds.{list_all-append}
use Rattle.std.proofs.lemmas.List.Kept.{AllPairs-cons}
use Rattle.mdg_base.specs.declared.profile_word.Home.{Home}
use Rattle.mdg_base.specs.declared.profile_word.Home.TheVariants.{Global, Module}
use Rattle.mdg_profile.specs.declared.entry.Entry.{Entry}
use Rattle.mdg_profile.specs.declared.entry.Profile.{Profile}
use Rattle.mdg_profile.specs.Distinct.{SameName, AreDistinct, HasDistinctEntries}
use Rattle.mdg_profile.specs.Table.{active_globals, default_table, listed_globals, modules, quiet_globals}

abbrev is_home : Home → Home → Bool
is_home Global Global = true
is_home Global Module = false
is_home Module Global = false
is_home Module Module = true

abbrev is_member : Option (List ℕ) → Option (List ℕ) → Bool
is_member None None = true
is_member None (Some other) = false
is_member (Some one) None = false
is_member (Some one) (Some other) = bytes_eq one other

abbrev is_same : Entry → Entry → Bool
is_same one other = is_home one.home other.home && is_member one.member other.member && bytes_eq one.name other.name

-- each of the one list differs from each of the other
abbrev are_apart : List Entry → List Entry → Bool
are_apart ones others = list_all (λ one. list_all (λ other. not (is_same one other)) others) ones

-- each of the list differs from each later one
abbrev differ : List Entry → Bool
differ [] = true
differ (entry ∷ entries) = list_all (λ other. not (is_same entry other)) entries && differ entries

home_is : (one other : Home) → one ≡ other → is_home one other ≡ true
home_is Global Global e = refl
home_is Global Module e = absurd (cc)
home_is Module Global e = absurd (cc)
home_is Module Module e = refl

bytes_are : (one other : List ℕ) → one ≡ other → bytes_eq one other ≡ true
bytes_are one other e = (bytes_eq-Decides one other).1 e

member_is : (one other : Option (List ℕ)) → one ≡ other → is_member one other ≡ true
member_is None None e = refl
member_is None (Some other) e = absurd (cc)
member_is (Some one) None e = absurd (cc)
member_is (Some one) (Some other) e = bytes_are one other (cc)

same_is : (one other : Entry) → SameName one other → is_same one other ≡ true
same_is one other same =
    let home = home_is one.home other.home same.home in
    let name = bytes_are one.name other.name same.name in
    let member = member_is one.member other.member same.member in
    cc

other_is : (one other : Entry) → not (is_same one other) ≡ true → SameName one other → ⊥
other_is one other differs same = let is = same_is one other same in cc

first_part : (a b : Bool) → (a && b) ≡ true → a ≡ true
first_part true b e = refl
first_part false b e = absurd (true≢false (sym e))

second_part : (a b : Bool) → (a && b) ≡ true → b ≡ true
second_part true b e = e
second_part false b e = absurd (true≢false (sym e))

all_pass : {X : Type 0} (p : X → Bool) (xs : List X) → list_all p xs ≡ true → All (λ x. p x ≡ true) xs
all_pass p [] e i d within = absurd (omega arith)
all_pass p (x ∷ xs) e zero d within = first_part (p x) (list_all p xs) e
all_pass p (x ∷ xs) e (suc i) d within = all_pass p xs (second_part (p x) (list_all p xs) e) i d (omega arith)

all_others : (one : Entry) (others : List Entry) → list_all (λ other. not (is_same one other)) others ≡ true
    → All (λ other. SameName one other → ⊥) others
all_others one others e i d within = other_is one (get_or others i d) (all_pass (λ other. not (is_same one other)) others e i d within)

each_differs : (entries : List Entry) → differ entries ≡ true → AreDistinct entries
each_differs [] e = λ i j d lt within. absurd (omega arith)
each_differs (entry ∷ entries) e =
    let here = list_all (λ other. not (is_same entry other)) entries in
    AllPairs-cons (λ one other. SameName one other → ⊥) entry entries
    (all_others entry entries (first_part here (differ entries) e))
    (each_differs entries (second_part here (differ entries) e))

joined : (ones others : List Entry) → AreDistinct ones → AreDistinct others → are_apart ones others ≡ true → AreDistinct (ones ++ others)
joined [] others distinct rest e = rest
joined (one ∷ ones) others distinct rest e =
    let here = list_all (λ other. not (is_same one other)) others in
    AllPairs-cons (λ x y. SameName x y → ⊥) one (ones ++ others)
    (All-append (λ other. SameName one other → ⊥) ones others
    (λ i d within. distinct zero (suc i) d (omega arith) (omega arith))
    (all_others one others (first_part here (are_apart ones others) e)))
    (joined ones others (λ i j d lt within. distinct (suc i) (suc j) d (omega arith) (omega arith)) rest (second_part here (are_apart ones others) e))

listed_differ : differ listed_globals ≡ true
unfolding listed_globals
listed_differ = refl

quiet_differ : differ quiet_globals ≡ true
unfolding quiet_globals
quiet_differ = refl

active_differ : differ active_globals ≡ true
unfolding active_globals
active_differ = refl

modules_differ : differ modules ≡ true
unfolding modules
modules_differ = refl

listed_quiet : are_apart listed_globals quiet_globals ≡ true
unfolding listed_globals quiet_globals
listed_quiet = refl

listed_active : are_apart listed_globals active_globals ≡ true
unfolding listed_globals active_globals
listed_active = refl

quiet_active : are_apart quiet_globals active_globals ≡ true
unfolding quiet_globals active_globals
quiet_active = refl

listed_modules : are_apart listed_globals modules ≡ true
unfolding listed_globals modules
listed_modules = refl

quiet_modules : are_apart quiet_globals modules ≡ true
unfolding quiet_globals modules
quiet_modules = refl

active_modules : are_apart active_globals modules ≡ true
unfolding active_globals modules
active_modules = refl

-- where each of two lists differs from a third, both together do
both_apart : (ones others more : List Entry) → are_apart ones more ≡ true → are_apart others more ≡ true → are_apart (ones ++ others) more ≡ true
both_apart ones others more first second =
    let both = list_all-append (λ one. list_all (λ other. not (is_same one other)) more) ones others in
    cc

-- no two entries of the default profile have the same home, name and member
pub table_distinct : AreDistinct default_table.entries
unfolding default_table
table_distinct =
    let globals = joined listed_globals quiet_globals (each_differs listed_globals listed_differ) (each_differs quiet_globals quiet_differ) listed_quiet in
    let all_globals = joined (listed_globals ++ quiet_globals) active_globals globals (each_differs active_globals active_differ)
    (both_apart listed_globals quiet_globals active_globals listed_active quiet_active) in
    joined (listed_globals ++ quiet_globals ++ active_globals) modules all_globals (each_differs modules modules_differ)
    (both_apart (listed_globals ++ quiet_globals) active_globals modules
    (both_apart listed_globals quiet_globals modules listed_modules quiet_modules) active_modules)

pub built_distinct : {E : Type 0} (result : Result Profile E) → IfOk result (λ profile. profile ≡ default_table) → IfOk result HasDistinctEntries
built_distinct (Ok profile) is = subst HasDistinctEntries (sym is) table_distinct
built_distinct (Err fault) is = tt
