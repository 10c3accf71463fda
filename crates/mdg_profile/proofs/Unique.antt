-- A value is at most one entry, and lists at most one list of values.
use Rattle.std.proofs.Common.{ℕ, ◌≡◌, List, [], ◌∷◌, map, Some, None, Option, refl, sym, ◌∙◌, ap, arith}
use Rattle.mdg_base.specs.declared.profile_word.Home.{Home}
use Rattle.mdg_base.specs.declared.profile_word.Home.TheVariants.{Global, Module}
use Rattle.mdg_base.specs.declared.profile_word.Kind.{Kind}
use Rattle.mdg_base.specs.declared.profile_word.Kind.TheVariants.{Sink, Quiet, Active}
use Rattle.mdg_profile.specs.declared.entry.Entry.{Entry}
use Rattle.mdg_profile.specs.Entries.{IsEntry, IsText, IsMember, HasArguments, home_word, kind_word}
use Rattle.mdg_profile.specs.Format.{IsJson, IsListing, Lists}
use Rattle.mdg_profile.specs.Members.{natural}
use Rattle.serde_json.specs.Data.{Data}
use Rattle.serde_json.specs.View.{items_of}

pub same_items : (xs ys : List Data) → items_of xs ≡ items_of ys → xs ≡ ys
same_items [] [] e = refl
same_items [] (y ∷ ys) e = absurd (cc)
same_items (x ∷ xs) [] e = absurd (cc)
same_items (x ∷ xs) (y ∷ ys) e =
    let tails : items_of xs ≡ items_of ys = cc in
    let rest = same_items xs ys tails in
    cc

pub same_numbers : (xs ys : List ℕ) → map Some xs ≡ map Some ys → xs ≡ ys
same_numbers [] [] e = refl
same_numbers [] (y ∷ ys) e = absurd (cc)
same_numbers (x ∷ xs) [] e = absurd (cc)
same_numbers (x ∷ xs) (y ∷ ys) e =
    let tails : map Some xs ≡ map Some ys = cc in
    let rest = same_numbers xs ys tails in
    cc

one_home : (a b : Home) → home_word a ≡ home_word b → a ≡ b
one_home Global Global e = refl
one_home Global Module e = absurd (grind arith)
one_home Module Global e = absurd (grind arith)
one_home Module Module e = refl

one_kind : (found : Option Data) (a b : Kind) → kind_word a ≡ kind_word b → HasArguments found a → HasArguments found b → a ≡ b
one_kind found (Sink ms) (Sink ns) e m n =
    let listed : Some (items_of m.items) ≡ Some (items_of n.items) = sym m.listed ∙ n.listed in
    let items : m.items ≡ n.items = same_items m.items n.items (cc) in
    let read : map Some ms ≡ map Some ns = sym m.read ∙ ap (map natural) items ∙ n.read in
    ap Sink (same_numbers ms ns read)
one_kind found (Sink ms) Quiet e m n = absurd (grind arith)
one_kind found (Sink ms) Active e m n = absurd (grind arith)
one_kind found Quiet (Sink ns) e m n = absurd (grind arith)
one_kind found Quiet Quiet e m n = refl
one_kind found Quiet Active e m n = absurd (grind arith)
one_kind found Active (Sink ns) e m n = absurd (grind arith)
one_kind found Active Quiet e m n = absurd (grind arith)
one_kind found Active Active e m n = refl

one_member : (found : Option Data) (a b : Option (List ℕ)) → IsMember found a → IsMember found b → a ≡ b
one_member found None None m n = refl
one_member found None (Some b) m n = absurd (none_is found b m n)
  where
    none_is : (found : Option Data) (b : List ℕ) → found ≡ None → IsText found b → ⊥
    none_is None b e t = let s = t.0 in cc
    none_is (Some d) b e t = cc
one_member found (Some a) None m n = absurd (none_is found a n m)
  where
    none_is : (found : Option Data) (b : List ℕ) → found ≡ None → IsText found b → ⊥
    none_is None b e t = let s = t.0 in cc
    none_is (Some d) b e t = cc
one_member found (Some a) (Some b) m n = let s = m.0 in let t = n.0 in cc

abbrev make : Home → List ℕ → Option (List ℕ) → Kind → Entry
make home name member kind = record { home = home; name = name; member = member; kind = kind }

same_parts : (h g : Home) (n o : List ℕ) (m p : Option (List ℕ)) (k j : Kind) → h ≡ g → n ≡ o → m ≡ p → k ≡ j → make h n m k ≡ make g o p j
same_parts h g n o m p k j a b d e =
    ap (λ (x : Home). make x n m k) a
    ∙ ap (λ (x : List ℕ). make g x m k) b
    ∙ ap (λ (x : Option (List ℕ)). make g o x k) d
    ∙ ap (λ (x : Kind). make g o p x) e

pub one_entry : (value : Data) (a b : Entry) → IsEntry value a → IsEntry value b → a ≡ b
one_entry value a b is other =
    let words : Some (home_word a.home) ≡ Some (home_word b.home) = sym is.home ∙ other.home in
    let home : a.home ≡ b.home = one_home a.home b.home (cc) in
    let names : Some a.name ≡ Some b.name = sym is.name.0 ∙ other.name.0 in
    let name : a.name ≡ b.name = cc in
    let member : a.member ≡ b.member = one_member _ a.member b.member is.member other.member in
    let kinds : Some (kind_word a.kind) ≡ Some (kind_word b.kind) = sym is.kind ∙ other.kind in
    let kind : a.kind ≡ b.kind = one_kind _ a.kind b.kind (cc) is.arguments other.arguments in
    same_parts a.home b.home a.name b.name a.member b.member a.kind b.kind home name member kind

pub one_listing : (value : Data) (xs ys : List Data) → IsListing value xs → IsListing value ys → xs ≡ ys
one_listing value xs ys is other =
    let both : Some (items_of xs) ≡ Some (items_of ys) = sym is.entries ∙ other.entries in
    same_items xs ys (cc)

pub one_value : (bytes : List ℕ) (a b : Data) → IsJson bytes a → IsJson bytes b → a ≡ b
one_value bytes a b is other =
    let both : Some a ≡ Some b = sym is.read_as ∙ other.read_as in
    cc

pub one_list : (bytes : List ℕ) (xs ys : List Data) → Lists bytes xs → Lists bytes ys → xs ≡ ys
one_list bytes xs ys is other =
    let value : is.value ≡ other.value = one_value bytes is.value other.value is.json other.json in
    one_listing other.value xs ys (rw value at is.listing) other.listing
