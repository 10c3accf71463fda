-- The least set.
use Rattle.std.proofs.Common.{◌≡◌, ℕ, ◌<◌, List, [], ◌∷◌, ◌++◌, ◌⊎◌, ◌↔◌, refl, sym, ap, ◌∙◌, subst, inl, inr, ⊎_elim, arith}
use Rattle.mdg_site.specs.Laid.{Laid}
use Rattle.mdg_site.specs.Facts.{NumberSet, Has, Within, Same}
use Rattle.mdg_site.specs.Graph.{none, along, DerivesFrom, Extends, Grown, InGraph, IsClosedByNumber, IsGraph, GivesNumbers}
use Rattle.mdg_site.proofs.SetLemmas.{along_cases, along_head, along_rest, along_base, along_within, along_append, Same-within, Same-back, Within-refl, Within-trans}
use Rattle.mdg_site.proofs.RuleLemmas.{given_grows}

-- a derivation from F is one from a larger set
pub derives_grows : (l : Laid) (F G : NumberSet) → Within F G → (fs : List (ℕ × ℕ)) → DerivesFrom l F fs → DerivesFrom l G fs
derives_grows l F G w [] d = tt
derives_grows l F G w (f ∷ fs) d = (given_grows l (along F fs) (along G fs) (along_within F G fs w) f.0 f.1 d.0, derives_grows l F G w fs d.1)

-- one derivation goes on from another
pub derives_append : (l : Laid) (F : NumberSet) (fs gs : List (ℕ × ℕ)) → DerivesFrom l F fs → DerivesFrom l (along F fs) gs → DerivesFrom l F (gs ++ fs)
derives_append l F fs [] d e = d
derives_append l F fs (g ∷ gs) d e =
    (given_grows l (along (along F fs) gs) (along F (gs ++ fs)) (Same-back (along F (gs ++ fs)) (along (along F fs) gs) (along_append F fs gs)) g.0 g.1 e.0, derives_append l F fs gs d e.1)

pub extends_refl : (l : Laid) (F : NumberSet) → Extends l F F
extends_refl l F = record { steps = []; derived = tt; exact = λ r n. refl }

along_same : (F G : NumberSet) → Same F G → (fs : List (ℕ × ℕ)) → Same (along F fs) (along G fs)
along_same F G e [] r n = e r n
along_same F G e (f ∷ fs) r n = grind (arith, along_same F G e fs r n)

pub extends_trans : (l : Laid) (F G H : NumberSet) → Extends l F G → Extends l G H → Extends l F H
extends_trans l F G H a b = record {
  steps = b.steps ++ a.steps;
  derived = derives_append l F a.steps b.steps a.derived (derives_grows l G (along F a.steps) (Same-back (along F a.steps) G a.exact) b.steps b.derived);
  exact = λ r n. along_append F a.steps b.steps r n ∙ along_same (along F a.steps) G a.exact b.steps r n ∙ b.exact r n;
}

pub extends_within : (l : Laid) (F G : NumberSet) → Extends l F G → Within F G
extends_within l F G a r n h = sym (a.exact r n) ∙ along_base F a.steps r n h

-- one more fact that is given
pub extends_one : (l : Laid) (F G : NumberSet) (r n : ℕ) → GivesNumbers l F r n → Same (along F ((r, n) ∷ [])) G → Extends l F G
extends_one l F G r n g e = record { steps = (r, n) ∷ []; derived = (g, tt); exact = e }

-- a derivation stays within a closed set
pub closed_has : (l : Laid) (F G : NumberSet) → IsClosedByNumber l G → Within F G → (fs : List (ℕ × ℕ)) → DerivesFrom l F fs → Within (along F fs) G
closed_has l F G c w [] d r n h = w r n h
closed_has l F G c w (f ∷ fs) d r n h =
    let rest = closed_has l F G c w fs d.1 in
    ⊎_elim (λ e. subst (λ (x : ℕ). Has G x n) (sym e.0) (subst (λ (x : ℕ). Has G f.0 x) (sym e.1) (c f.0 f.1 (given_grows l (along F fs) G rest f.0 f.1 d.0)))) (λ e. rest r n e) (along_cases F f fs r n h)

pub none_within : (F : NumberSet) → Within none F
none_within F r n h = grind arith

-- a grown set that is closed is exactly the graph
pub grown_closed : (l : Laid) (F : NumberSet) → Grown l F → IsClosedByNumber l F → IsGraph l F
grown_closed l F g c r n = (
  (λ h. record { steps = g.steps; derived = g.derived; stands = g.exact r n ∙ h }),
  (λ h. closed_has l none F c (none_within F) h.steps h.derived r n h.stands),
)

pub grown_in_graph : (l : Laid) (F : NumberSet) → Grown l F → (r n : ℕ) → Has F r n → InGraph l r n
grown_in_graph l F g r n h = record { steps = g.steps; derived = g.derived; stands = g.exact r n ∙ h }
