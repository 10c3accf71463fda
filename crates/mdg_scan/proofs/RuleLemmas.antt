-- A rule gives what it concludes from the facts that it starts from.
use Rattle.std.proofs.Common.{◌≡◌, ℕ, ◌<◌, ◌≤◌, ◌+◌, List, [], ◌∷◌, ◌++◌, take, get_or, length, map, refl, ap, sym, ◌∙◌, subst, inl, inr, arith}
use Rattle.std.specs.Prelude.{Contains, Option, Some, IfSome}
use Rattle.std.proofs.lemmas.List.{take_more, take_all, append-nil}
use Rattle.std.proofs.lemmas.List.Elements.{Contains-append_left, Contains-append_right, Contains-append_cases, Contains-push, Contains-push_cases}
use Rattle.mdg_base.specs.declared.node_name.NodeName.{NodeName}
use Rattle.mdg_base.specs.declared.number.Site.{Site}
use Rattle.mdg_scan.specs.declared.first.fact.Fact.{Fact}
use Rattle.mdg_scan.specs.declared.first.fact.Row.{Row}
use Rattle.mdg_scan.specs.declared.first.fact.Row.TheVariants as row
use Rattle.mdg_scan.specs.declared.first.rule.Rule.{Rule}
use Rattle.mdg_scan.specs.declared.first.rule.Rule.TheVariants as rule
use Rattle.mdg_scan.specs.Parts.{IsPart, IsFieldOf}
use Rattle.mdg_scan.specs.Rules.{In, in_row, RuleGives}
use Rattle.mdg_scan.specs.Steps.{Lists, IsHeld, IsNewer, IsPremise, Concludes, ConcludesSome}

-- a fact stands in its row
in_its_row : (facts : List Fact) (g : Fact) (r : Row) → g.row ≡ r → Contains facts g → In facts r g.node
in_its_row facts g r is found = subst (λ (r : Row). In facts r g.node) is found

-- what a rule concludes from a fact that it starts from is given
gives_from : (rule : Rule) (facts : List Fact) (g f : Fact) → IsPremise rule facts g → Concludes rule g f → RuleGives rule facts f
gives_from (rule.Holds fact) facts g f p c = c ∙ p
gives_from (rule.Carry from to except) facts g f p c =
    let same : row.Loc c.0 c.1 ≡ row.Loc from p.1.0 = sym c.2 ∙ p.1.1 in
    let at : row.Loc c.0 c.1 ≡ row.Loc from c.1 = ap (λ (s : Site). row.Loc s c.1) cc in
    (c.1, g.node, in_its_row facts g (row.Loc from c.1) (c.2 ∙ at) p.0, c.3, c.4)
gives_from (rule.Into from to) facts g f p c = (g.node, in_its_row facts g from p.1 p.0, c)
gives_from (rule.Given from fact) facts g f p c = (g.node, in_its_row facts g from p.1 p.0, c)
gives_from (rule.MarkNewer from newer) facts g f p c = (g.node, in_its_row facts g from p.1 p.0, c)
gives_from (rule.MarkDep from computed) facts g f p c = (g.node, in_its_row facts g from p.1 p.0, c)
gives_from (rule.Fields from to) facts g f p c = (p.0, p.3.0, g.node, p.1, in_its_row facts g (row.Field p.0 p.3.0) p.3.1 p.2, c)
gives_from (rule.Property from q to) facts g f p c =
    let same : row.Field c.0 q ≡ row.Field p.0 p.3.0 = sym c.1 ∙ p.3.1 in
    let at : row.Field c.0 q ≡ row.Field p.0 q = ap (λ (n : NodeName). row.Field n q) cc in
    (p.0, g.node, p.1, in_its_row facts g (row.Field p.0 q) (c.1 ∙ at) p.2, c.2)
gives_from (rule.TakeOver from into replaced) facts g f p c =
    let same : row.Field c.0 c.1 ≡ row.Field p.0 p.3.0 = sym c.2 ∙ p.3.1 in
    let at : row.Field c.0 c.1 ≡ row.Field p.0 c.1 = ap (λ (n : NodeName). row.Field n c.1) cc in
    (p.0, c.1, g.node, p.1, in_its_row facts g (row.Field p.0 c.1) (c.2 ∙ at) p.2, c.3, c.4)
gives_from (rule.Alias from object to newer) facts g f p c =
    let same : row.Loc c.0 c.1 ≡ row.Loc from p.0.1.0 = sym c.2 ∙ p.0.1.1 in
    let at : row.Loc c.0 c.1 ≡ row.Loc from c.1 = ap (λ (s : Site). row.Loc s c.1) cc in
    (c.1, g.node, in_its_row facts g (row.Loc from c.1) (c.2 ∙ at) p.0.0, c.3, p.1, c.4)
gives_from (rule.Meet one other fact) facts g f p c = (g.node, p.1, in_its_row facts g other p.0.1 p.0.0, c)
gives_from rule.Versions facts g f p c =
    let is : g ≡ in_row p.0.row g.node = ap (λ (r : Row). in_row r g.node) p.2.1 in
    (p.0.row, p.0.node, g.node, p.1.1, p.1.0, p.2.0, c ∙ is)
gives_from (rule.VersionsAt site) facts g f p c =
    let is : g ≡ in_row (row.Loc site p.1.1.0) g.node = ap (λ (r : Row). in_row r g.node) (p.2.1 ∙ p.1.1.1) in
    (p.1.1.0, p.0.node, g.node, in_its_row facts p.0 (row.Loc site p.1.1.0) p.1.1.1 p.1.0, p.2.0, c ∙ is)

-- what is given is concluded from some fact that the rule starts from
premise_of : (rule : Rule) (facts : List Fact) (f : Fact) → RuleGives rule facts f → (g : Fact) × IsPremise rule facts g × Concludes rule g f
premise_of (rule.Holds fact) facts f g = (fact, refl, g)
premise_of (rule.Carry from to except) facts f g = (in_row (row.Loc from g.0) g.1, (g.2, (g.0, refl)), (from, g.0, refl, g.3, g.4))
premise_of (rule.Into from to) facts f g = (in_row from g.0, (g.1, refl), g.2)
premise_of (rule.Given from fact) facts f g = (in_row from g.0, (g.1, refl), g.2)
premise_of (rule.MarkNewer from newer) facts f g = (in_row from g.0, (g.1, refl), g.2)
premise_of (rule.MarkDep from computed) facts f g = (in_row from g.0, (g.1, refl), g.2)
premise_of (rule.Fields from to) facts f g = (in_row (row.Field g.0 g.1) g.2, (g.0, g.3, g.4, (g.1, refl)), g.5)
premise_of (rule.Property from q to) facts f g = (in_row (row.Field g.0 q) g.1, (g.0, g.2, g.3, (q, refl)), (g.0, refl, g.4))
premise_of (rule.TakeOver from into replaced) facts f g =
    (in_row (row.Field g.0 g.1) g.2, (g.0, g.3, g.4, (g.1, refl)), (g.0, g.1, refl, g.5, g.6))
premise_of (rule.Alias from object to newer) facts f g =
    (in_row (row.Loc from g.0) g.1, ((g.2, (g.0, refl)), g.4), (from, g.0, refl, g.3, g.5))
premise_of (rule.Meet one other fact) facts f g = (in_row other g.0, ((g.2, refl), g.1), g.3)
premise_of rule.Versions facts f g = (in_row g.0 g.2, (in_row g.0 g.1, (g.4, g.3), (g.5, refl)), g.6)
premise_of (rule.VersionsAt site) facts f g =
    (in_row (row.Loc site g.0) g.2, (in_row (row.Loc site g.0) g.1, (g.3, (g.0, refl)), (g.4, refl)), g.5)

pub Lists-RuleGives : (rule : Rule) (facts premises given : List Fact) → Lists (IsPremise rule facts) premises → Lists (ConcludesSome rule premises) given → Lists (RuleGives rule facts) given
Lists-RuleGives rule facts premises given starts ends f = (
  λ found. let w = (ends f).0 found in gives_from rule facts w.0 f ((starts w.0).0 w.1) w.2,
  λ gives. let w = premise_of rule facts f gives in (ends f).1 (w.0, (starts w.0).1 w.1, w.2),
)

-- what some fact of a list leads to
abbrev pub SomeOf : (Fact → Fact → Type 0) → List Fact → Fact → Type 0
SomeOf Q xs f = (g : Fact) × Contains xs g × Q g f

pub Lists-none : (Q : Fact → Fact → Type 0) → Lists (SomeOf Q []) []
Lists-none Q f = (λ found. absurd (omega (arith, found.1)), λ w. absurd (omega (arith, w.1.1)))

-- what one more fact of a list leads to
pub Lists-more : (Q : Fact → Fact → Type 0) (xs given more : List Fact) (i : ℕ) (d : Fact) → i < length xs → Lists (SomeOf Q (take i xs)) given → Lists (Q (get_or xs i d)) more → Lists (SomeOf Q (take (i + 1) xs)) (given ++ more)
Lists-more Q xs given more i d inside before now =
    subst (λ (ys : List Fact). Lists (SomeOf Q ys) (given ++ more)) (sym (take_more xs i d inside)) (λ f. (
      λ found. elim (Contains-append_cases given more f found) [
        | inl in_given ↦ let w = (before f).0 in_given in (w.0, Contains-append_left (take i xs) (get_or xs i d ∷ []) w.0 w.1, w.2)
        | inr in_more ↦ (get_or xs i d, Contains-push (take i xs) (get_or xs i d), (now f).0 in_more)
      ],
      λ w. elim (Contains-push_cases (take i xs) (get_or xs i d) w.0 w.1) [
        | inl earlier ↦ Contains-append_left given more f ((before f).1 (w.0, earlier, w.2))
        | inr same ↦ Contains-append_right given more f ((now f).1 (subst (λ (g : Fact). Q g f) (sym same) w.2))
      ],
    ))

-- where it leads to nothing
pub Lists-same : (Q : Fact → Fact → Type 0) (xs given : List Fact) (i : ℕ) (d : Fact) → i < length xs → Lists (SomeOf Q (take i xs)) given → ((f : Fact) → Q (get_or xs i d) f → ⊥) → Lists (SomeOf Q (take (i + 1) xs)) given
Lists-same Q xs given i d inside before nothing =
    subst (λ (ys : List Fact). Lists (SomeOf Q (take (i + 1) xs)) ys) (append-nil given)
    (Lists-more Q xs given [] i d inside before (λ f. (λ found. absurd (omega (arith, found.1)), λ leads. absurd (nothing f leads))))

-- at the end of the list
pub Lists-end : (Q : Fact → Fact → Type 0) (xs given : List Fact) (i : ℕ) → length xs ≤ i → Lists (SomeOf Q (take i xs)) given → Lists (SomeOf Q xs) given
Lists-end Q xs given i past lists = subst (λ (ys : List Fact). Lists (SomeOf Q ys) given) (take_all i xs past) lists

-- a list of one fact
pub Lists-one : (P : Fact → Type 0) (f : Fact) → P f → ((g : Fact) → P g → g ≡ f) → Lists P (f ∷ [])
Lists-one P f holds only g = (
  λ found. elim (Contains-push_cases [] f g found) [
    | inl none ↦ absurd (omega (arith, none.1))
    | inr same ↦ subst P same holds
  ],
  λ other. subst (λ (x : Fact). Contains (f ∷ []) x) (sym (only g other)) (Contains-push [] f),
)

-- what the properties of the nodes in a row hold
pub Lists-IsHeld : (from : Row) (facts part held : List Fact) → IsPart (λ g. g.row ≡ from) facts part → Lists (SomeOf (λ g f. Contains facts f × IsFieldOf g.node f) part) held → Lists (IsHeld from facts) held
Lists-IsHeld from facts part held is lists f = (
  λ found. let w = (lists f).0 found in let at = (is w.0).0 w.1 in (w.0.node, in_its_row facts w.0 from at.1 at.0, w.2.0, w.2.1),
  λ h. (lists f).1 (in_row from h.0, (is (in_row from h.0)).1 (h.1, refl), (h.2, h.3)),
)

Contains-map : (F : Fact → Fact) (xs : List Fact) (y : Fact) → Contains (map F xs) y → (x : Fact) × Contains xs x × (y ≡ F x)
Contains-map F [] y found = absurd (omega (arith, found.1))
Contains-map F (x ∷ xs) y found =
    elim (Contains-append_cases (F x ∷ []) (map F xs) y found) [
      | inl first ↦ elim (Contains-push_cases [] (F x) y first) [
        | inl none ↦ absurd (omega (arith, none.1))
        | inr same ↦ (x, Contains-append_left (x ∷ []) xs x (Contains-push [] x), sym same)
      ]
      | inr later ↦ let w = Contains-map F xs y later in (w.0, Contains-append_right (x ∷ []) xs w.0 w.1, w.2)
    ]

Contains-map_of : (F : Fact → Fact) (xs : List Fact) (x : Fact) → Contains xs x → Contains (map F xs) (F x)
Contains-map_of F [] x found = absurd (omega (arith, found.1))
Contains-map_of F (y ∷ xs) x found =
    elim (Contains-append_cases (y ∷ []) xs x found) [
      | inl first ↦ elim (Contains-push_cases [] y x first) [
        | inl none ↦ absurd (omega (arith, none.1))
        | inr same ↦ subst (λ (z : Fact). Contains (F y ∷ map F xs) (F z)) same (Contains-append_left (F y ∷ []) (map F xs) (F y) (Contains-push [] (F y)))
      ]
      | inr later ↦ Contains-append_right (F y ∷ []) (map F xs) (F x) (Contains-map_of F xs x later)
    ]

-- the newer versions of one node, moved into a row
pub Lists-moved : (facts part : List Fact) (n : NodeName) (r : Row) → IsPart (λ g. g.row ≡ row.Newer n) facts part → Lists (λ f. In facts (row.Newer n) f.node × (f.row ≡ r)) (map (λ g. in_row r g.node) part)
Lists-moved facts part n r is f = (
  λ found.
      let w = Contains-map (λ g. in_row r g.node) part f found in
      let at = (is w.0).0 w.1 in
      (subst (λ (m : NodeName). In facts (row.Newer n) m) (sym (ap (λ (x : Fact). x.node) w.2)) (in_its_row facts w.0 (row.Newer n) at.1 at.0), ap (λ (x : Fact). x.row) w.2),
  λ w.
      let there : Contains (map (λ g. in_row r g.node) part) (in_row r f.node) =
      Contains-map_of (λ g. in_row r g.node) part (in_row (row.Newer n) f.node) ((is (in_row (row.Newer n) f.node)).1 (w.0, refl)) in
      subst (λ (s : Row). Contains (map (λ g. in_row r g.node) part) (in_row s f.node)) (sym w.1) there,
)

-- the newer versions of a part's nodes
pub Lists-IsNewer : (P : Fact → Type 0) (facts of newer : List Fact) → IsPart P facts of → Lists (IsNewer of facts) newer
    → Lists (λ g. (h : Fact) × (Contains facts h × P h) × (In facts (row.Newer h.node) g.node × (g.row ≡ h.row))) newer
Lists-IsNewer P facts of newer is lists f = (
  λ found. let w = (lists f).0 found in (w.0, (is w.0).0 w.1, w.2),
  λ w. (lists f).1 (w.0, (is w.0).1 w.1, w.2),
)

-- those of a part that stand in another row too
pub Lists-common : (P Q : Fact → Type 0) (facts part common : List Fact) → IsPart P facts part → IsPart Q part common → Lists (λ g. (Contains facts g × P g) × Q g) common
Lists-common P Q facts part common is both f = (
  λ found. let w = (both f).0 found in ((is f).0 w.0, w.1),
  λ w. (both f).1 ((is f).1 w.0, w.1),
)

-- a conclusion is the one fact that is concluded
pub Lists-some : (P : Fact → Type 0) (o : Option Fact) (f : Fact) → o ≡ Some f → IfSome o P → ((g : Fact) → P g → o ≡ Some g) → Lists P (f ∷ [])
Lists-some P o f is only all =
    Lists-one P f (subst (λ (o : Option Fact). IfSome o P) is only) (λ g holds. let e : o ≡ Some g = all g holds in cc)
