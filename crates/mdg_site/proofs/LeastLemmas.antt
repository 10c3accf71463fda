-- The graph is the least closed set.
use Rattle.std.proofs.Common.{◌≡◌, ℕ, ◌<◌, Bool, true, false, List, [], ◌∷◌, ◌⊎◌, ◌↔◌, Option, refl, sym, ap, ◌∙◌, subst, inl, inr, ⊎_elim, arith}
use Rattle.std.specs.declared.option.Option.TheVariants.{Some, None}
use Rattle.mdg_base.specs.declared.node_name.NodeName.{NodeName}
use Rattle.mdg_site.specs.declared.row.Row.{Row}
use Rattle.mdg_site.specs.Facts.{FactSet, Has, In, Less, NumberSet, Within, named}
use Rattle.mdg_site.specs.Graph.{DerivesFrom, GivesNumbers, InGraph, IsClosed, IsClosedByNumber, IsGraph, along, none}
use Rattle.mdg_site.specs.Laid.{Laid}
use Rattle.mdg_site.specs.Laws.{IsGraphOf}
use Rattle.mdg_site.specs.Nodes.{IsNode, node_count, node_number}
use Rattle.mdg_site.specs.Rows.{IsRow, row_count, row_number}
use Rattle.mdg_site.specs.Rules.{Gives}
use Rattle.mdg_site.proofs.GraphLemmas.{closed_has, none_within}
use Rattle.mdg_site.proofs.NumberLemmas.{node_lt, row_lt}
use Rattle.mdg_site.proofs.RuleLemmas.{both_numbers, given_grows, has_named}
use Rattle.mdg_site.proofs.SetLemmas.{along_cases}
use Rattle.mdg_site.proofs.WithinLemmas.{given_within}

-- closed by name, closed by number
pub closed_numbers : (l : Laid) (F : NumberSet) → IsClosed l (named l F) → IsClosedByNumber l F
closed_numbers l F c r n g =
    let h = both_numbers F (row_number l g.row) (node_number l g.node) (c g.row g.node g.given (r, g.row_is) (n, g.node_is)) in
    let same_r : h.0 ≡ r = some_same h.0 r (sym h.2 ∙ g.row_is) in
    let same_n : h.1 ≡ n = some_same h.1 n (sym h.3 ∙ g.node_is) in
    subst (λ (x : ℕ). Has F x n) same_r (subst (λ (x : ℕ). Has F h.0 x) same_n h.4)
  where
    some_same : (x y : ℕ) → Some x ≡ Some y → x ≡ y
    some_same x y e = cc

pub closed_names : (l : Laid) (F : NumberSet) → IsClosedByNumber l F → IsClosed l (named l F)
closed_names l F c row node g r n = has_named F (row_number l row) (node_number l node) r.0 n.0 r.1 n.1
    (c r.0 n.0 (record { row = row; node = node; row_is = r.1; node_is = n.1; given = g }))

-- each fact of a derivation is given by the facts of the graph
stands_given : (l : Laid) (F : NumberSet) → ((r n : ℕ) → InGraph l r n → Has F r n) → (fs : List (ℕ × ℕ)) → DerivesFrom l none fs
    → (r n : ℕ) → Has (along none fs) r n → GivesNumbers l F r n
stands_given l F has [] d r n h = absurd (none_is r n h)
  where
    none_is : (r n : ℕ) → none r n ≡ true → ⊥
    none_is r n e = grind arith
stands_given l F has (f ∷ fs) d r n h = ⊎_elim
    (λ e. subst (λ (x : ℕ). GivesNumbers l F x n) (sym e.0) (subst (λ (x : ℕ). GivesNumbers l F f.0 x) (sym e.1)
    (given_grows l (along none fs) F (λ q m k. has q m (record { steps = fs; derived = d.1; stands = k })) f.0 f.1 d.0)))
    (λ e. stands_given l F has fs d.1 r n e)
    (along_cases none f fs r n h)

module _ (l : Laid) (F : NumberSet) (g : IsGraph l F) where
  pub graph_given : (r n : ℕ) → Has F r n → GivesNumbers l F r n
  graph_given r n h = let i = (g r n).0 h in stands_given l F (λ q m k. (g q m).1 k) i.steps i.derived r n i.stands

  -- each fact of the graph names a row and a node
  pub graph_ranged : (r n : ℕ) → Has F r n → (r < row_count l) × (n < node_count l)
  graph_ranged r n h = let i = graph_given r n h in (row_lt l i.row r i.row_is, node_lt l i.node n i.node_is)

  pub graph_of : IsGraphOf l F
  graph_of = record {
    closed = closed_names l F (λ r n h. (g r n).1 (given_within l F (λ q m k. (g q m).0 k) (row_count l) (node_count l) graph_ranged r n h));
    least = λ G c r n h. let i = (g r n).0 h in closed_has l none G (closed_numbers l G c) (none_within G) i.steps i.derived r n i.stands;
    given = graph_given;
  }
