-- What rules give, from larger sets and part by part.
use Rattle.std.proofs.Common.{◌≡◌, ℕ, ◌<◌, Bool, true, false, ◌||◌, IsTrue, ◌⊎◌, inl, inr, ⊎_elim, Option, refl, sym, ◌∙◌, ap, subst, arith}
use Rattle.std.specs.declared.option.Option.TheVariants.{Some, None}
use Rattle.mdg_base.specs.declared.node_name.NodeName.{NodeName}
use Rattle.mdg_site.specs.declared.row.Row.{Row}
use Rattle.mdg_site.specs.Laid.{Laid, site_count}
use Rattle.mdg_site.specs.Nodes.{IsNode, node_number}
use Rattle.mdg_site.specs.Rows.{IsRow, row_number}
use Rattle.mdg_site.specs.Facts.{NumberSet, FactSet, Has, In, Less, Meets, Within, at_numbers, named}
use Rattle.mdg_site.specs.Rule.{Test, meeting, standing, static, either, also, some, Met, Rule, nothing, puts, flow, each, upto, rows, under, both, gives}
use Rattle.mdg_site.specs.Rules.{Gives, GivesAt, rule_at}
use Rattle.mdg_site.specs.Carries.{Carries, CarriesAt}
use Rattle.mdg_site.specs.Graph.{GivesNumbers}
use Rattle.mdg_site.specs.Holders.{Holder, IsFirm, Goes, Looks, Answers, Serves, GivesFor, CarriesFor, MayAdd, MayJoin, Flowed}
use Rattle.mdg_site.specs.Steps.{Ready, Gave, Tried}
use Rattle.mdg_site.proofs.HolderLemmas.{goes_refl, goes_trans, firm_before, look_then, look_only, looks_refl, looks_trans, answers_first, answers_second, answers_refl, answers_flagged}

numbers_less : (F G : NumberSet) → Within F G → (a b : Option ℕ) → at_numbers F a b ≡ true → at_numbers G a b ≡ true
numbers_less F G w (Some r) (Some n) h = w r n h
numbers_less F G w (Some r) None h = h
numbers_less F G w None b h = h

pub named_less : (l : Laid) (F G : NumberSet) → Within F G → Less (named l F) (named l G)
named_less l F G w x y h = numbers_less F G w (row_number l x) (node_number l y) h

pub met_less : (t : Test) (F G : FactSet) → Less F G → Met t F → Met t G
met_less (meeting a b) F G w h = (h.0, w a h.0 h.1, w b h.0 h.2)
met_less (standing a n) F G w h = w a n h
met_less (static b) F G w h = h
met_less (either s t) F G w (inl h) = inl (met_less s F G w h)
met_less (either s t) F G w (inr h) = inr (met_less t F G w h)
met_less (also s t) F G w h = (met_less s F G w h.0, met_less t F G w h.1)
met_less (some k f) F G w h = (h.0, h.1, met_less (f h.0) F G w h.2)

-- a larger set gives more
pub gives_less : (p : Rule) (F G : FactSet) → Less F G → (x : Row) (y : NodeName) → gives p F x y → gives p G x y
gives_less nothing F G w x y h = h
gives_less (puts a n) F G w x y h = h
gives_less (flow a b) F G w x y h = (h.0, w a y h.1)
gives_less (each a f) F G w x y h = (h.0, w a h.0 h.1, gives_less (f h.0) F G w x y h.2)
gives_less (upto k f) F G w x y h = (h.0, h.1, gives_less (f h.0) F G w x y h.2)
gives_less (rows f) F G w x y h = (h.0, gives_less (f h.0) F G w x y h.1)
gives_less (under t p) F G w x y h = (met_less t F G w h.0, gives_less p F G w x y h.1)
gives_less (both p q) F G w x y (inl h) = inl (gives_less p F G w x y h)
gives_less (both p q) F G w x y (inr h) = inr (gives_less q F G w x y h)

pub given_at_less : (l : Laid) (s : ℕ) (F G : FactSet) → Less F G → (x : Row) (y : NodeName) → GivesAt l s F x y → GivesAt l s G x y
given_at_less l s F G w x y h = gives_less (rule_at l s) F G w x y h

pub given_less : (l : Laid) (F G : FactSet) → Less F G → (x : Row) (y : NodeName) → Gives l F x y → Gives l G x y
given_less l F G w x y h = (h.0, h.1, given_at_less l h.0 F G w x y h.2)

pub given_grows : (l : Laid) (F G : NumberSet) → Within F G → (r n : ℕ) → GivesNumbers l F r n → GivesNumbers l G r n
given_grows l F G w r n h = record { row = h.row; node = h.node; row_is = h.row_is; node_is = h.node_is; given = given_less l (named l F) (named l G) (named_less l F G w) h.row h.node h.given }

-- the numbers of a fact that is there
pub both_numbers : (G : NumberSet) (a b : Option ℕ) → at_numbers G a b ≡ true → (r : ℕ) × (n : ℕ) × (a ≡ Some r) × (b ≡ Some n) × Has G r n
both_numbers G (Some r) (Some n) e = (r, n, refl, refl, e)
both_numbers G (Some r) None e = absurd (let p : false ≡ true = e in grind arith)
both_numbers G None b e = absurd (let p : false ≡ true = e in grind arith)

pub has_named : (G : NumberSet) (a b : Option ℕ) (r n : ℕ) → a ≡ Some r → b ≡ Some n → Has G r n → at_numbers G a b ≡ true
has_named G a b r n p q h = subst (λ (z : Option ℕ). at_numbers G z b ≡ true) (sym p) (subst (λ (z : Option ℕ). at_numbers G (Some r) z ≡ true) (sym q) h)

module _ (l : Laid) (s : ℕ) where
  pub ready_goes : (p : Rule) (a b : Holder) → Ready l s p a → Goes a b → Ready l s p b
  ready_goes p a b r g = record { same = g.layout ∙ r.same; serves = subst (λ (z : Option ℕ). Serves z s) (sym g.site) r.serves; site = r.site; part = λ G w x y h. r.part G (λ m n q. w m n (g.kept m n q)) x y h }

  -- the rule q is a part of the rule p wherever facts are as they are here, or more
  pub ready_part : (p q : Rule) (a : Holder) → Ready l s p a → ((G : NumberSet) → Within a.facts G → (x : Row) (y : NodeName) → gives q (named l G) x y → gives p (named l G) x y) → Ready l s q a
  ready_part p q a r f = record { same = r.same; serves = r.serves; site = r.site; part = λ G w x y h. r.part G w x y (f G w x y h) }

  pub ready_left : (p q : Rule) (a : Holder) → Ready l s (both p q) a → Ready l s p a
  ready_left p q a r = ready_part (both p q) p a r (λ G w x y h. inl h)

  pub ready_right : (p q : Rule) (a : Holder) → Ready l s (both p q) a → Ready l s q a
  ready_right p q a r = ready_part (both p q) q a r (λ G w x y h. inr h)

  pub ready_each : (row : Row) (f : NodeName → Rule) (n : NodeName) (a : Holder) → Ready l s (each row f) a → In (named l a.facts) row n → Ready l s (f n) a
  ready_each row f n a r h = ready_part (each row f) (f n) a r (λ G w x y k. (n, named_less l a.facts G w row n h, k))

  pub ready_upto : (k : ℕ) (f : ℕ → Rule) (i : ℕ) (a : Holder) → Ready l s (upto k f) a → i < k → Ready l s (f i) a
  ready_upto k f i a r h = ready_part (upto k f) (f i) a r (λ G w x y q. (i, h, q))

  pub ready_rows : (f : Row → Rule) (row : Row) (a : Holder) → Ready l s (rows f) a → Ready l s (f row) a
  ready_rows f row a r = ready_part (rows f) (f row) a r (λ G w x y q. (row, q))

  pub ready_under : (t : Test) (p : Rule) (a : Holder) → Ready l s (under t p) a → Met t (named l a.facts) → Ready l s p a
  ready_under t p a r h = ready_part (under t p) p a r (λ G w x y q. (met_less t (named l a.facts) (named l G) (named_less l a.facts G w) h, q))

  given_for : (t : Option ℕ) (F : FactSet) (x : Row) (y : NodeName) → Serves t s → s < site_count l → GivesAt l s F x y → GivesFor l t F x y
  given_for None F x y v h g = (s, h, g)
  given_for (Some k) F x y v h g = subst (λ (z : ℕ). GivesAt l z F x y) (sym v) g

  carried_for : (t : Option ℕ) (F : NumberSet) (a b : Row) → Serves t s → s < site_count l → CarriesAt l s F a b → CarriesFor l t F a b
  carried_for None F a b v h g = λ G w y q. (s, h, g G w y q)
  carried_for (Some k) F a b v h g = subst (λ (z : ℕ). CarriesAt l z F a b) (sym v) g

  -- what a ready rule puts may be added
  pub may_add : (row : Row) (node : NodeName) (h : Holder) (r n : ℕ) → Ready l s (puts row node) h → row_number l row ≡ Some r → node_number l node ≡ Some n → MayAdd h r n
  may_add row node h r n e p q = record {
    row = row;
    node = node;
    row_is = subst (λ (z : Laid). row_number z row ≡ Some r) (sym e.same) p;
    node_is = subst (λ (z : Laid). node_number z node ≡ Some n) (sym e.same) q;
    given = subst (λ (z : Laid). GivesFor z h.site (named z h.facts) row node) (sym e.same) (given_for h.site (named l h.facts) row node e.serves e.site (e.part h.facts (λ x y k. k) row node (refl, refl)));
  }

  pub may_join : (a b : Row) (h : Holder) (r n : ℕ) → Ready l s (flow a b) h → row_number l a ≡ Some r → row_number l b ≡ Some n → MayJoin h r n
  may_join a b h r n e p q = record {
    source = a;
    goal = b;
    source_is = subst (λ (z : Laid). row_number z a ≡ Some r) (sym e.same) p;
    goal_is = subst (λ (z : Laid). row_number z b ≡ Some n) (sym e.same) q;
    given = subst (λ (z : Laid). CarriesFor z h.site h.facts a b) (sym e.same) (carried_for h.site h.facts a b e.serves e.site (λ G w y k. e.part G w b y (refl, k)));
  }

module _ (l : Laid) where
  -- after one step and another
  pub gave_both : (p q : Rule) (a b c : Holder) (r t : Bool) → Gave l p a b r → Gave l q b c t → Gave l (both p q) a c (r || t)
  gave_both p q a b c r t g h = record {
    answers = joined r t g.answers h.answers;
    there = λ firm x y k row node. ⊎_elim
        (λ k. named_less l b.facts c.facts h.answers.goes.kept x y (g.there (firm_before b c h.answers.goes firm) x y k row node))
        (λ k. h.there firm x y (gives_less q (named l a.facts) (named l b.facts) (named_less l a.facts b.facts g.answers.goes.kept) x y k) row node) k;
  }
    where
      joined : (r t : Bool) → Answers a b r → Answers b c t → Answers a c (r || t)
      joined true t p q = answers_first a b c t p q
      joined false t p q = answers_second a b c t p q

  -- where a condition was tried first
  pub gave_under : (t : Test) (p : Rule) (a b c : Holder) (r : Bool) → Tried l t a b true → Gave l p b c r → Gave l (under t p) a c r
  gave_under t p a b c r w g = record {
    answers = look_then a b c r w.looks g.answers;
    there = λ firm x y k row node. g.there firm x y (gives_less p (named l a.facts) (named l b.facts) (named_less l a.facts b.facts w.looks.goes.kept) x y k.1) row node;
  }

  pub gave_under_no : (t : Test) (p : Rule) (a b : Holder) → Tried l t a b false → Gave l (under t p) a b false
  gave_under_no t p a b w = record {
    answers = look_only a b w.looks;
    there = λ firm x y k row node. absurd (w.failing refl k.0);
  }

  pub gave_nothing : (a : Holder) → Gave l nothing a a false
  gave_nothing a = record { answers = answers_refl a; there = λ firm x y k row node. absurd k }

  -- a rule that gives no more than another
  pub gave_less : (p q : Rule) (a b : Holder) (r : Bool) → Gave l p a b r → ((x : Row) (y : NodeName) → gives q (named l a.facts) x y → gives p (named l a.facts) x y) → Gave l q a b r
  gave_less p q a b r g f = record { answers = g.answers; there = λ firm x y k row node. g.there firm x y (f x y k) row node }

  -- the same, with the answer's value beside it
  pub gave_or : (p q : Rule) (a b c : Holder) (r t k : Bool) → Gave l p a b r → Gave l q b c t → k ≡ (r || t) → Gave l (both p q) a c k
  gave_or p q a b c r t k g h e = subst (λ (z : Bool). Gave l (both p q) a c z) (sym e) (gave_both p q a b c r t g h)

  -- a condition that the code decides
  pub gave_static : (b : Bool) (p : Rule) (a c : Holder) (r : Bool) → Gave l p a c r → Gave l (under (static b) p) a c r
  gave_static b p a c r g = gave_less p (under (static b) p) a c r g (λ x y k. k.1)

  pub gave_static_no : (b : Bool) (p : Rule) (a : Holder) → b ≡ false → Gave l (under (static b) p) a a false
  gave_static_no b p a e = record { answers = answers_refl a; there = λ firm x y k row node. absurd (let h = k.0 in false-not (sym e ∙ h)) }
    where
      false-not : false ≡ true → ⊥
      false-not e = grind arith

module _ (l : Laid) (s : ℕ) where
  -- the second part, after the first
  pub ready_then : (p q : Rule) (a b : Holder) (r : Bool) → Ready l s (both p q) a → Gave l p a b r → Ready l s q b
  ready_then p q a b r e g = ready_goes l s q a b (ready_right l s p q a e) g.answers.goes

  -- under a condition that was tried
  pub ready_tried : (t : Test) (p : Rule) (a b : Holder) → Ready l s (under t p) a → Tried l t a b true → Ready l s p b
  ready_tried t p a b e w = ready_under l s t p b (ready_goes l s (under t p) a b e w.looks.goes) (w.holding refl)

  pub ready_static : (b : Bool) (p : Rule) (a : Holder) → Ready l s (under (static b) p) a → b ≡ true → Ready l s p a
  ready_static b p a e h = ready_under l s (static b) p a e h

  pub ready_when : (k : Bool) (t : Test) (p : Rule) (a b : Holder) → Ready l s (under t p) a → Tried l t a b k → k ≡ true → Ready l s p b
  ready_when k t p a b e w h = ready_tried t p a b e (subst (λ (z : Bool). Tried l t a b z) h w)

module _ (l : Laid) where
  -- the same, with the answer's value beside it
  pub gave_when : (k : Bool) (t : Test) (p : Rule) (a b c : Holder) (r : Bool) → Tried l t a b k → k ≡ true → Gave l p b c r → Gave l (under t p) a c r
  gave_when k t p a b c r w h g = gave_under l t p a b c r (subst (λ (z : Bool). Tried l t a b z) h w) g

  pub gave_unless : (k : Bool) (t : Test) (p : Rule) (a b : Holder) → Tried l t a b k → k ≡ false → Gave l (under t p) a b false
  gave_unless k t p a b w h = gave_under_no l t p a b (subst (λ (z : Bool). Tried l t a b z) h w)
