-- How found nodes spread along edges.
use Rattle.std.proofs.Common.{◌≡◌, List, [], ◌∷◌, ◌++◌, ℕ, ◌<◌, ◌≤◌, length, get_or, sym, subst, arith, length-append, refl, ◌↔◌, ⊎_elim}
use Rattle.std.specs.Prelude.{Contains}
use Rattle.std.proofs.lemmas.List.{get_or_default}
use Rattle.std.proofs.lemmas.List.Elements.{Contains-append_left, Contains-push_cases}
use Rattle.mdg_base.specs.declared.node_name.NodeName.{NodeName}
use Rattle.mdg_scan.specs.declared.first.reach.Edge.{Edge}
use Rattle.mdg_scan.specs.Reaching.{Spreads, same, more, Follows}
use Rattle.mdg_scan.specs.Walks.{Walk, here, along, Leads, IsReached}

pub Spreads-kept : {edges : List Edge} {old new : List NodeName} → Spreads edges old new → (n : NodeName) → Contains old n → Contains new n
Spreads-kept same n there = there
Spreads-kept (more found m o spreads known leads) n there = Contains-append_left found (o ∷ []) n (Spreads-kept spreads n there)

pub Spreads-trans : {edges : List Edge} {old mid new : List NodeName} → Spreads edges old mid → Spreads edges mid new → Spreads edges old new
Spreads-trans first same = first
Spreads-trans first (more found n m spreads known leads) = more found n m (Spreads-trans first spreads) known leads

pub Spreads-push : {edges : List Edge} (old new : List NodeName) (edge : Edge) → Contains edges edge → Contains old edge.from → new ≡ old ++ edge.to ∷ [] → Spreads edges old new
Spreads-push {edges} old new edge listed known is = let P : List NodeName → Type 0 = λ found. Spreads edges old found in
    subst P (sym is) (more old edge.from edge.to same known listed)

pub Spreads-longer : {edges : List Edge} {old new : List NodeName} → Spreads edges old new → length old ≤ length new
Spreads-longer same = omega arith
Spreads-longer (more found n m spreads known leads) = omega (arith, Spreads-longer spreads, length-append found (m ∷ []))

pub Spreads-no_more : {edges : List Edge} {old new : List NodeName} → Spreads edges old new → length new ≤ length old → new ≡ old
Spreads-no_more same none = refl
Spreads-no_more (more found n m spreads known leads) none = absurd (omega (arith, Spreads-longer spreads, length-append found (m ∷ [])))

-- what is found from the starts is reached from them
pub Spreads-reached : {edges : List Edge} {starts found : List NodeName} → Spreads edges starts found → (n : NodeName) → Contains found n → IsReached (Leads edges) starts n
Spreads-reached same n there = (n, there, here)
Spreads-reached {edges} {starts} (more found from to spreads known leads) n there =
    let walked = Spreads-reached spreads from known in
    let P : NodeName → Type 0 = λ m. IsReached (Leads edges) starts m in
    let last : IsReached (Leads edges) starts to = (walked.0, walked.1, along walked.2 leads) in
    ⊎_elim (λ h. Spreads-reached spreads n h) (λ is. subst P is last) (Contains-push_cases found to n there)

-- nodes that all edges keep have all that is reached from them
pub Walk-kept : (edges : List Edge) {start n : NodeName} (found : List NodeName) → ((edge : Edge) → Contains edges edge → Follows found found edge) → Contains found start → Walk (Leads edges) start n → Contains found n
Walk-kept edges found kept there here = there
Walk-kept edges found kept there (along walked leads) = kept (record { from = _; to = _ }) leads (Walk-kept edges found kept there walked)

pub reached_exactly : {edges : List Edge} {starts found : List NodeName} → Spreads edges starts found → ((edge : Edge) → Contains edges edge → Follows found found edge) → (n : NodeName) → Contains found n ↔ IsReached (Leads edges) starts n
reached_exactly {edges} {starts} {found} spreads kept n =
    (λ there. Spreads-reached spreads n there, λ reached. Walk-kept edges found kept (Spreads-kept spreads reached.0 reached.1) reached.2)

pub Spreads-equal : {edges : List Edge} (old new : List NodeName) → new ≡ old → Spreads edges old new
Spreads-equal {edges} old new is = let P : List NodeName → Type 0 = λ found. Spreads edges old found in subst P (sym is) same

-- what each edge up to a place keeps, all edges keep
pub Follows-each : (edges : List Edge) (old new : List NodeName) → ((k : ℕ) → k < length edges → (d : Edge) → Follows old new (get_or edges k d)) → (edge : Edge) → Contains edges edge → Follows old new edge
Follows-each edges old new each edge listed =
    let P : Edge → Type 0 = λ x. Follows old new x in subst P listed.2 (each listed.0 listed.1 edge)

pub Follows-at : (edges : List Edge) (old new : List NodeName) (d e : Edge) (k : ℕ) → k < length edges → Follows old new (get_or edges k d) → Follows old new (get_or edges k e)
Follows-at edges old new d e k inside follows = let P : Edge → Type 0 = λ x. Follows old new x in subst P (get_or_default edges k d e inside) follows

pub Follows-kept : {edges : List Edge} (old : List NodeName) {mid new : List NodeName} (edge : Edge) → Spreads edges mid new → Follows old mid edge → Follows old new edge
Follows-kept old edge spreads follows known = Spreads-kept spreads _ (follows known)

pub Follows-earlier : {edges : List Edge} {old mid : List NodeName} (new : List NodeName) (edge : Edge) → Spreads edges old mid → Follows mid new edge → Follows old new edge
Follows-earlier new edge spreads follows known = follows (Spreads-kept spreads _ known)

-- a search that adds nothing has found all
pub found_all : (edges : List Edge) (starts before found : List NodeName) → Spreads edges starts before → Spreads edges before found → length found ≡ length before → ((edge : Edge) → Contains edges edge → Follows before found edge) → (n : NodeName) → Contains found n ↔ IsReached (Leads edges) starts n
found_all edges starts before found first last none follows =
    let is : found ≡ before = Spreads-no_more last (omega (arith, none)) in
    let P : List NodeName → Type 0 = λ xs. (edge : Edge) → Contains edges edge → Follows xs found edge in
    reached_exactly (Spreads-trans first last) (subst P (sym is) follows)
