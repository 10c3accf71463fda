-- What a finite set within the graph gives is within the graph.
use Rattle.std.proofs.Common.{◌≡◌, ℕ, zero, suc, ◌<◌, Bool, true, false, List, [], ◌∷◌, ◌++◌, ◌⊎◌, refl, sym, ◌∙◌, subst, ap, inl, inr, ⊎_elim, arith}
use Rattle.mdg_site.specs.Laid.{Laid}
use Rattle.mdg_site.specs.Facts.{NumberSet, Has, Within, Same}
use Rattle.mdg_site.specs.Graph.{none, along, DerivesFrom, Extends, Grown, InGraph, IsClosedByNumber, IsGraph, IsWithinGraph, GivesNumbers}
use Rattle.mdg_site.proofs.SetLemmas.{along_cases, along_head, along_rest, along_base, along_within, along_append, Same-back}
use Rattle.mdg_site.proofs.RuleLemmas.{given_grows}
use Rattle.mdg_site.proofs.GraphLemmas.{derives_grows, derives_append, none_within, closed_has}

record Covered (l : Laid) (from : List (ℕ × ℕ)) (P : ℕ → ℕ → Type 0) : Type 0 where
  steps : List (ℕ × ℕ)
  derived : DerivesFrom l none steps
  kept : Within (along none from) (along none steps)
  covers : (r n : ℕ) → P r n → Has (along none steps) r n

-- one derivation after another
joined : (l : Laid) (fs : List (ℕ × ℕ)) → DerivesFrom l none fs → (r n : ℕ) → InGraph l r n → Covered l fs (λ q m. (q ≡ r) × (m ≡ n))
joined l fs d r n g = record {
  steps = g.steps ++ fs;
  derived = derives_append l none fs g.steps d (derives_grows l none (along none fs) (none_within (along none fs)) g.steps g.derived);
  kept = λ q m h. along_append none fs g.steps q m ∙ along_base (along none fs) g.steps q m h;
  covers = λ q m e. subst (λ (x : ℕ). Has (along none (g.steps ++ fs)) x m) (sym e.0) (subst (λ (x : ℕ). Has (along none (g.steps ++ fs)) r x) (sym e.1)
      (along_append none fs g.steps r n ∙ list_more g.steps r n g.stands));
}
  where
    list_more : (gs : List (ℕ × ℕ)) (q m : ℕ) → Has (along none gs) q m → Has (along (along none fs) gs) q m
    list_more gs q m h = along_within none (along none fs) gs (none_within (along none fs)) q m h

split : (x y : ℕ) → x < suc y → (x ≡ y) ⊎ (x < y)
split x y q = grind arith

module _ (l : Laid) (F : NumberSet) (within : IsWithinGraph l F) where
  one_more : (r n : ℕ) (t : Bool) → F r n ≡ t → (fs : List (ℕ × ℕ)) → DerivesFrom l none fs → Covered l fs (λ q m. (q ≡ r) × (m ≡ n) × Has F q m)
  one_more r n true e fs d = let c = joined l fs d r n (within r n e) in record { steps = c.steps; derived = c.derived; kept = c.kept; covers = λ q m h. c.covers q m (h.0, h.1) }
  one_more r n false e fs d = record { steps = fs; derived = d; kept = λ q m h. h; covers = λ q m h. absurd (no (sym e ∙ subst (λ (x : ℕ). Has F x n) h.0 (subst (λ (x : ℕ). Has F q x) h.1 h.2))) }
    where
      no : false ≡ true → ⊥
      no x = grind arith

  row_covered : (r n : ℕ) (fs : List (ℕ × ℕ)) → DerivesFrom l none fs → Covered l fs (λ q m. (q ≡ r) × (m < n) × Has F q m)
  row_covered r zero fs d = record { steps = fs; derived = d; kept = λ q m h. h; covers = λ q m h. let x = h.1 in absurd (omega arith) }
  row_covered r (suc n) fs d =
      let a = row_covered r n fs d in
      let b = one_more r n (F r n) refl a.steps a.derived in
      record {
        steps = b.steps;
        derived = b.derived;
        kept = λ q m h. b.kept q m (a.kept q m h);
        covers = λ q m h. ⊎_elim (λ (e : m ≡ n). b.covers q m (h.0, e, h.2)) (λ (e : m < n). b.kept q m (a.covers q m (h.0, e, h.2))) (split m n h.1);
      }

  all_covered : (r n : ℕ) → Covered l [] (λ q m. (q < r) × (m < n) × Has F q m)
  all_covered zero n = record { steps = []; derived = tt; kept = λ q m h. h; covers = λ q m h. let x = h.0 in absurd (omega arith) }
  all_covered (suc r) n =
      let a = all_covered r n in
      let b = row_covered r n a.steps a.derived in
      record {
        steps = b.steps;
        derived = b.derived;
        kept = λ q m h. b.kept q m (a.kept q m h);
        covers = λ q m h. ⊎_elim (λ (e : q ≡ r). b.covers q m (e, h.1, h.2)) (λ (e : q < r). b.kept q m (a.covers q m (e, h.1, h.2))) (split q r h.0);
      }

  pub given_within : (rows nodes : ℕ) → ((r n : ℕ) → Has F r n → (r < rows) × (n < nodes)) → (r n : ℕ) → GivesNumbers l F r n → InGraph l r n
  given_within rows nodes ranged r n g =
      let c = all_covered rows nodes in
      record {
        steps = (r, n) ∷ c.steps;
        derived = (given_grows l F (along none c.steps) (λ q m h. let k = ranged q m h in c.covers q m (k.0, k.1, h)) r n g, c.derived);
        stands = along_head none (r, n) c.steps;
      }

list_within : (l : Laid) (F G : NumberSet) (rows nodes : ℕ) → IsWithinGraph l F → ((r n : ℕ) → Has G r n → (r < rows) × (n < nodes)) → (fs : List (ℕ × ℕ)) → Within (along F fs) G → DerivesFrom l F fs → IsWithinGraph l (along F fs)
list_within l F G rows nodes w k [] i d r n h = w r n h
list_within l F G rows nodes w k (f ∷ fs) i d r n h =
    let smaller : Within (along F fs) G = λ q m e. i q m (along_rest F f fs q m e) in
    let rest = list_within l F G rows nodes w k fs smaller d.1 in
    ⊎_elim (λ e. subst (λ (x : ℕ). InGraph l x n) (sym e.0) (subst (λ (x : ℕ). InGraph l f.0 x) (sym e.1) (given_within l (along F fs) rest rows nodes (λ q m p. k q m (smaller q m p)) f.0 f.1 d.0)))
    (λ e. rest r n e) (along_cases F f fs r n h)

-- what extends a set within the graph is within the graph
pub extends_within_graph : (l : Laid) (F G : NumberSet) (rows nodes : ℕ) → ((r n : ℕ) → Has G r n → (r < rows) × (n < nodes)) → IsWithinGraph l F → Extends l F G → IsWithinGraph l G
extends_within_graph l F G rows nodes k w e r n h =
    list_within l F G rows nodes w k e.steps (λ q m p. sym (e.exact q m) ∙ p) e.derived r n (e.exact r n ∙ h)

pub within_closed : (l : Laid) (F : NumberSet) → IsWithinGraph l F → IsClosedByNumber l F → IsGraph l F
within_closed l F w c r n = ((λ h. w r n h), (λ h. closed_has l none F c (none_within F) h.steps h.derived r n h.stands))
