-- States of a holder, one after another.
use Rattle.std.proofs.Common.{◌≡◌, ℕ, ◌<◌, ◌≤◌, Bool, true, false, IsTrue, ◌⊎◌, ◌↔◌, Option, length, refl, sym, ap, ◌∙◌, subst, inl, inr, ⊎_elim, le_refl, le_trans, arith}
use Rattle.mdg_site.specs.Laid.{Laid}
use Rattle.mdg_site.specs.Facts.{NumberSet, Has, Within}
use Rattle.mdg_site.specs.Holders.{Holder, IsFirm, Goes, Looks, Answers, Flowed, Serves}

pub goes_refl : (h : Holder) → Goes h h
goes_refl h = record { layout = refl; keeps = refl; site = refl; kept = λ r n p. p; later = le_refl _; larger = λ k e. absurd (omega arith) }

bigger : (a b c : Holder) → Goes a b → Goes b c → a.keeps ≡ true → a.news < c.news → (a.news < b.news) ⊎ (b.news < c.news) → (r : ℕ) × (n : ℕ) × (a.facts r n ≡ false) × Has c.facts r n
bigger a b c p q k e (inl x) = let t = p.larger k x in (t.0, t.1, t.2, q.kept t.0 t.1 t.3)
bigger a b c p q k e (inr x) = let t = q.larger (p.keeps ∙ k) x in (t.0, t.1, not_before (a.facts t.0 t.1) (b.facts t.0 t.1) (p.kept t.0 t.1) t.2, t.3)
  where
    not_before : (x y : Bool) → (x ≡ true → y ≡ true) → y ≡ false → x ≡ false
    not_before true y f e = sym (f refl) ∙ e
    not_before false y f e = refl

pub goes_trans : (a b c : Holder) → Goes a b → Goes b c → Goes a c
goes_trans a b c p q = record {
  layout = q.layout ∙ p.layout;
  keeps = q.keeps ∙ p.keeps;
  site = q.site ∙ p.site;
  kept = λ r n h. q.kept r n (p.kept r n h);
  later = le_trans p.later q.later;
  larger = λ k e. bigger a b c p q k e (let x = p.later in let y = q.later in grind arith);
}

-- firm at the end, firm before
pub firm_before : (a b : Holder) → Goes a b → IsFirm b → IsFirm a
firm_before a b g (inl e) = inl (sym g.keeps ∙ e)
firm_before a b g (inr e) = inr (let x = g.later in omega arith)

pub look_then : (a b c : Holder) (r : Bool) → Looks a b → Answers b c r → Answers a c r
look_then a b c r p q = record { goes = goes_trans a b c p.goes q.goes; tells = subst (λ (x : ℕ). IsTrue r ↔ (x < c.news)) p.still q.tells }

pub look_only : (a b : Holder) → Looks a b → Answers a b false
look_only a b p = record { goes = p.goes; tells = ((λ e. absurd (not_both e)), (λ e. let s = p.still in absurd (omega arith))) }
  where
    not_both : false ≡ true → ⊥
    not_both e = grind arith

pub looks_refl : (h : Holder) → Looks h h
looks_refl h = record { goes = goes_refl h; still = refl }

pub looks_trans : (a b c : Holder) → Looks a b → Looks b c → Looks a c
looks_trans a b c p q = record { goes = goes_trans a b c p.goes q.goes; still = q.still ∙ p.still }

-- something new in the first step, or in the second
pub answers_first : (a b c : Holder) (r : Bool) → Answers a b true → Answers b c r → Answers a c true
answers_first a b c r p q = record { goes = goes_trans a b c p.goes q.goes; tells = ((λ e. let x = p.tells.0 refl in let y = q.goes.later in omega arith), (λ e. refl)) }

pub answers_second : (a b c : Holder) (r : Bool) → Answers a b false → Answers b c r → Answers a c r
answers_second a b c r p q = record { goes = goes_trans a b c p.goes q.goes; tells = ((λ e. let x = q.tells.0 e in let y = p.goes.later in omega arith), (λ e. q.tells.1 (no_news (λ h. p.tells.1 h) e p.goes.later))) }
  where
    no_news : (a.news < b.news → false ≡ true) → a.news < c.news → a.news ≤ b.news → b.news < c.news
    no_news f e le = grind (arith, f)

pub answers_refl : (h : Holder) → Answers h h false
answers_refl h = look_only h h (looks_refl h)

-- in a loop: one more answer goes into the flag
pub answers_flagged : (a b c : Holder) (any r flag : Bool) → Answers a b any → Answers b c r → ((r ≡ true) × (flag ≡ true)) ⊎ ((r ≡ false) × (flag ≡ any)) → Answers a c flag
answers_flagged a b c any r flag p q (inl h) = subst (λ (x : Bool). Answers a c x) (sym h.1) (
    record { goes = goes_trans a b c p.goes q.goes; tells = ((λ e. let x = q.tells.0 h.0 in let y = p.goes.later in omega arith), (λ e. refl)) })
answers_flagged a b c true r flag p q (inr h) = subst (λ (x : Bool). Answers a c x) (sym h.1) (answers_first a b c r p q)
answers_flagged a b c false r flag p q (inr h) = subst (λ (x : Bool). Answers a c x) (sym h.1) (
    subst (λ (x : Bool). Answers a c x) h.0 (answers_second a b c r p q))
