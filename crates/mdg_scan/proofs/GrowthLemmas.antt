-- How facts grow.
use Rattle.std.proofs.Common.{◌≡◌, ℕ, ◌<◌, ◌≤◌, ◌+◌, List, [], ◌∷◌, ◌++◌, length, get_or, refl, sym, subst, arith, below_more, length-append, inl, inr}
use Rattle.std.specs.Prelude.{Contains}
use Rattle.std.proofs.lemmas.List.Elements.{Contains-append_left, Contains-get_or, Contains-push, Contains-push_cases}
use Rattle.std.proofs.lemmas.List.{get_or_default}
use Rattle.mdg_scan.specs.declared.first.code.Code.{Code}
use Rattle.mdg_scan.specs.declared.first.fact.Fact.{Fact}
use Rattle.mdg_scan.specs.declared.first.rule.Rule.{Rule}
use Rattle.mdg_scan.specs.declared.first.rule.Rule.TheVariants as rule
use Rattle.mdg_scan.specs.Graph.{GivenBy, Led, same, more, IsGraph}
use Rattle.mdg_scan.specs.Parts.{Within, Adds, none, one}
use Rattle.mdg_scan.specs.Rules.{RuleGives}
use Rattle.mdg_scan.specs.Steps.{Lists}
use Rattle.mdg_scan.specs.Table.{rules_of}

-- a larger set gives what the smaller one gives
pub RuleGives-within : (r : Rule) (old new : List Fact) (f : Fact) → Within old new → RuleGives r old f → RuleGives r new f
RuleGives-within (rule.Holds fact) old new f within g = g
RuleGives-within (rule.Carry from to except) old new f within g = (g.0, g.1, within _ g.2, g.3, g.4)
RuleGives-within (rule.Into from to) old new f within g = (g.0, within _ g.1, g.2)
RuleGives-within (rule.Given from fact) old new f within g = (g.0, within _ g.1, g.2)
RuleGives-within (rule.MarkNewer from newer) old new f within g = (g.0, within _ g.1, g.2)
RuleGives-within (rule.MarkDep from computed) old new f within g = (g.0, within _ g.1, g.2)
RuleGives-within (rule.Fields from to) old new f within g = (g.0, g.1, g.2, within _ g.3, within _ g.4, g.5)
RuleGives-within (rule.Property from q to) old new f within g = (g.0, g.1, within _ g.2, within _ g.3, g.4)
RuleGives-within (rule.TakeOver from into replaced) old new f within g = (g.0, g.1, g.2, within _ g.3, within _ g.4, g.5, g.6)
RuleGives-within (rule.Alias from object to newer) old new f within g = (g.0, g.1, within _ g.2, g.3, within _ g.4, g.5)
RuleGives-within (rule.Meet a b fact) old new f within g = (g.0, within _ g.1, within _ g.2, g.3)
RuleGives-within rule.Versions old new f within g = (g.0, g.1, g.2, g.3, within _ g.4, within _ g.5, g.6)
RuleGives-within (rule.VersionsAt site) old new f within g = (g.0, g.1, g.2, within _ g.3, within _ g.4, g.5)

pub GivenBy-within : {rules : List Rule} {old new : List Fact} {f : Fact} → Within old new → GivenBy rules old f → GivenBy rules new f
GivenBy-within {old = old} {new = new} {f = f} within g = record { rule = g.rule; listed = g.listed; gives = RuleGives-within g.rule old new f within g.gives }

pub Led-within : {rules : List Rule} {old new : List Fact} → Led rules old new → Within old new
Led-within same f h = h
Led-within (more facts g led gives) f h = Contains-append_left facts (g ∷ []) f (Led-within led f h)

pub Led-trans : {rules : List Rule} {old mid new : List Fact} → Led rules old mid → Led rules mid new → Led rules old new
Led-trans first same = first
Led-trans first (more facts g led gives) = more facts g (Led-trans first led) gives

pub Led-length : {rules : List Rule} {old new : List Fact} → Led rules old new → length old ≤ length new
Led-length same = omega arith
Led-length (more facts g led gives) = omega (arith, Led-length led, length-append facts (g ∷ []))

-- facts that are no more are the same
pub Led-no_more : {rules : List Rule} {old new : List Fact} → Led rules old new → length new ≤ length old → new ≡ old
Led-no_more same less = refl
Led-no_more (more facts g led gives) less = absurd (omega (arith, Led-length led, length-append facts (g ∷ [])))

pub Adds-within : {old wanted new : List Fact} → Adds old wanted new → Within old new
Adds-within none f h = h
Adds-within (one facts g adds wanted) f h = Contains-append_left facts (g ∷ []) f (Adds-within adds f h)

-- facts are added that the rules give
pub Led-Adds : {rules : List Rule} {old wanted new : List Fact} → ((f : Fact) → Contains wanted f → GivenBy rules old f) → Adds old wanted new → Led rules old new
Led-Adds given none = same
Led-Adds given (one facts f adds wanted) = more facts f (Led-Adds given adds) (GivenBy-within (Adds-within adds) (given f wanted))

-- what each rule gives is what some rule gives
pub GivenBy-each : (rules : List Rule) (old new : List Fact) → ((k : ℕ) → k < length rules → (d : Rule) (f : Fact) → RuleGives (get_or rules k d) old f → Contains new f) → (f : Fact) → GivenBy rules old f → Contains new f
GivenBy-each rules old new each f g =
    let P : Rule → Type 0 = λ r. RuleGives r old f in each g.listed.0 g.listed.1 g.rule f (subst P (sym g.listed.2) g.gives)

-- a derivation stays within each set that is closed under the rules
Led-in_closed : {rules : List Rule} {old facts : List Fact} (all : List Fact) → Within old all → ((f : Fact) → GivenBy rules all f → Contains all f) → Led rules old facts → Within facts all
Led-in_closed all start closed same f found = start f found
Led-in_closed all start closed (more facts g led gives) f found =
    elim (Contains-push_cases facts g f found) [
      | inl before ↦ Led-in_closed all start closed led f before
      | inr is ↦ let P : Fact → Type 0 = λ x. Contains all x in subst P is (closed g (GivenBy-within (Led-in_closed all start closed led) gives))
    ]

-- a derivation that is closed under the rules has the facts of the graph
pub IsGraph-closed : (code : Code) (facts : List Fact) → Led (rules_of code) [] facts → ((f : Fact) → GivenBy (rules_of code) facts f → Contains facts f) → IsGraph code facts
IsGraph-closed code facts led closed f = (
  λ found. (facts, led, found),
  λ some. Led-in_closed facts (Led-within led) closed some.1 f some.2,
)

-- facts that a pass leaves no more are closed under the rules
pub IsGraph-at_end : (code : Code) (old new : List Fact) → Led (rules_of code) [] old → Led (rules_of code) old new → length new ≤ length old → ((f : Fact) → GivenBy (rules_of code) old f → Contains new f) → IsGraph code new
IsGraph-at_end code old new before led still all =
    let is : new ≡ old = Led-no_more led still in
    let P : List Fact → Type 0 = λ xs. (f : Fact) → GivenBy (rules_of code) xs f → Contains new f in
    IsGraph-closed code new (Led-trans before led) (subst P (sym is) all)

-- the next of the facts that are wanted
pub Adds-next : (old wanted facts new : List Fact) (i : ℕ) (d : Fact) → i < length wanted → Adds old wanted facts → new ≡ facts ++ get_or wanted i d ∷ [] → Adds old wanted new
Adds-next old wanted facts new i d inside adds pushed =
    let P : List Fact → Type 0 = λ xs. Adds old wanted xs in
    subst P (sym pushed) (one facts (get_or wanted i d) adds (Contains-get_or wanted i d inside))

pub Contains-added : (facts new : List Fact) (f : Fact) → new ≡ facts ++ f ∷ [] → Contains new f
Contains-added facts new f pushed = let P : List Fact → Type 0 = λ xs. Contains xs f in subst P (sym pushed) (Contains-push facts f)

pub Within-added : (facts new : List Fact) (f : Fact) → new ≡ facts ++ f ∷ [] → Within facts new
Within-added facts new f pushed g found = let P : List Fact → Type 0 = λ xs. Contains xs g in subst P (sym pushed) (Contains-append_left facts (f ∷ []) g found)

-- one more of them is there
pub there-next : (wanted facts new : List Fact) (i : ℕ) (d : Fact) → i < length wanted → Within facts new → ((k : ℕ) → k < i → (e : Fact) → Contains facts (get_or wanted k e)) → Contains new (get_or wanted i d) → (k : ℕ) → k < i + 1 → (e : Fact) → Contains new (get_or wanted k e)
there-next wanted facts new i d inside within before now =
    below_more _ _ (λ k below e. within (get_or wanted k e) (before k below e))
    (λ e. let P : Fact → Type 0 = λ f. Contains new f in subst P (get_or_default wanted i d e inside) now)

-- one more was there before
pub there-kept : (wanted facts new : List Fact) (i : ℕ) (d : Fact) → i < length wanted → facts ≡ new → ((k : ℕ) → k < i → (e : Fact) → Contains facts (get_or wanted k e)) → Contains facts (get_or wanted i d) → (k : ℕ) → k < i + 1 → (e : Fact) → Contains new (get_or wanted k e)
there-kept wanted facts new i d inside kept before now =
    let P : List Fact → Type 0 = λ xs. (k : ℕ) → k < i + 1 → (e : Fact) → Contains xs (get_or wanted k e) in
    subst P kept (there-next wanted facts facts i d inside (λ f found. found) before now)

pub there-end : (wanted facts : List Fact) (i : ℕ) → length wanted ≤ i → ((k : ℕ) → k < i → (e : Fact) → Contains facts (get_or wanted k e)) → Within wanted facts
there-end wanted facts i past before f found =
    let P : Fact → Type 0 = λ g. Contains facts g in subst P found.2 (before found.0 (omega arith) f)

-- what a rule of the list gives
pub GivenBy-at : (rules : List Rule) (facts given slice : List Fact) (i : ℕ) (d : Rule) → i < length rules → slice ≡ given → Lists (RuleGives (get_or rules i d) facts) given → (f : Fact) → Contains slice f → GivenBy rules facts f
GivenBy-at rules facts given slice i d inside is lists f found =
    let P : List Fact → Type 0 = λ xs. Contains xs f in
    record { rule = get_or rules i d; listed = Contains-get_or rules i d inside; gives = (lists f).0 (subst P is found) }

-- what one more rule gives is there
pub given-next : (rules : List Rule) (old facts given slice new : List Fact) (i : ℕ) (d : Rule) → i < length rules → Within old facts → Within facts new → slice ≡ given → Lists (RuleGives (get_or rules i d) facts) given → Within slice new → ((k : ℕ) → k < i → (e : Rule) (f : Fact) → RuleGives (get_or rules k e) old f → Contains facts f) → (k : ℕ) → k < i + 1 → (e : Rule) (f : Fact) → RuleGives (get_or rules k e) old f → Contains new f
given-next rules old facts given slice new i d inside start within is lists added before =
    below_more _ _ (λ k below e f gives. within f (before k below e f gives))
    (λ e f gives.
    let P : Rule → Type 0 = λ r. RuleGives r old f in
    let same : RuleGives (get_or rules i d) old f = subst P (get_or_default rules i e d inside) gives in
    let there : Contains given f = (lists f).1 (RuleGives-within (get_or rules i d) old facts f start same) in
    let Q : List Fact → Type 0 = λ xs. Contains xs f in
    added f (subst Q (sym is) there))

pub given-end : (rules : List Rule) (old new : List Fact) (i : ℕ) → length rules ≤ i → ((k : ℕ) → k < i → (e : Rule) (f : Fact) → RuleGives (get_or rules k e) old f → Contains new f) → (f : Fact) → GivenBy rules old f → Contains new f
given-end rules old new i past before = GivenBy-each rules old new (λ k below. before k (omega arith))
