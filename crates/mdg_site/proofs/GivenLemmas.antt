-- What may be added to a holder, and what its rows may be joined with, the rules give.
use Rattle.std.proofs.Common.{◌≡◌, ℕ, ◌<◌, Bool, true, Option, refl, sym, ap, ◌∙◌, subst}
use Rattle.std.specs.declared.option.Option.TheVariants.{Some, None}
use Rattle.mdg_base.specs.declared.node_name.NodeName.{NodeName}
use Rattle.mdg_site.specs.declared.row.Row.{Row}
use Rattle.mdg_site.specs.Carries.{Carries, CarriesAt}
use Rattle.mdg_site.specs.Facts.{FactSet, Has, In, NumberSet, Within, named}
use Rattle.mdg_site.specs.Graph.{GivesNumbers, IsClosed, IsClosedAt}
use Rattle.mdg_site.specs.Holders.{CarriesFor, GivesFor, Holder, MayAdd, MayJoin}
use Rattle.mdg_site.specs.Laid.{Laid, site_count}
use Rattle.mdg_site.specs.Nodes.{IsNode, node_count, node_number}
use Rattle.mdg_site.specs.Rows.{IsRow, row_number}
use Rattle.mdg_site.specs.Rules.{Gives, GivesAt}
use Rattle.mdg_site.proofs.RuleLemmas.{has_named}
use Rattle.mdg_site.proofs.TakenLemmas.{node_taken}

pub add_gives : (h : Holder) (r n : ℕ) → h.site ≡ None → MayAdd h r n → GivesNumbers h.layout h.facts r n
add_gives h r n none m = record {
  row = m.row;
  node = m.node;
  row_is = m.row_is;
  node_is = m.node_is;
  given = subst (λ (t : Option ℕ). GivesFor h.layout t (named h.layout h.facts) m.row m.node) none m.given;
}

pub join_gives : (h : Holder) (a b n : ℕ) (G : NumberSet) → h.site ≡ None → MayJoin h a b → Within h.facts G → Has G a n → n < node_count h.layout
    → GivesNumbers h.layout G b n
join_gives h a b n G none m w has below =
    let carries = subst (λ (t : Option ℕ). CarriesFor h.layout t h.facts m.source m.goal) none m.given in
    let taken = node_taken h.layout n below in
    record {
      row = m.goal;
      node = taken.0;
      row_is = m.goal_is;
      node_is = taken.1;
      given = carries G w taken.0 (has_named G (row_number h.layout m.source) (node_number h.layout taken.0) a n m.source_is taken.1 has);
    }

-- the same at a holder that is bound to a site
pub add_gives_at : (h : Holder) (r n s : ℕ) → h.site ≡ Some s → (m : MayAdd h r n) → GivesAt h.layout s (named h.layout h.facts) m.row m.node
add_gives_at h r n s bound m = subst (λ (t : Option ℕ). GivesFor h.layout t (named h.layout h.facts) m.row m.node) bound m.given

pub join_gives_at : (h : Holder) (a b s : ℕ) → h.site ≡ Some s → (m : MayJoin h a b) (G : NumberSet) → Within h.facts G → (node : NodeName)
    → In (named h.layout G) m.source node → GivesAt h.layout s (named h.layout G) m.goal node
join_gives_at h a b s bound m = subst (λ (t : Option ℕ). CarriesFor h.layout t h.facts m.source m.goal) bound m.given

-- closed at each site, closed
pub closed_sites : (l : Laid) (F : FactSet) → ((s : ℕ) → s < site_count l → IsClosedAt l s F) → IsClosed l F
closed_sites l F at row node g r n = at g.0 g.1 row node g.2 r n
