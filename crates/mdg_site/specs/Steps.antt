-- What a step of the rules owes its caller: for what it may be called, what it gave, what it tried.
use Rattle.std.specs.Prelude.{◌≡◌, ℕ, ◌<◌, Bool, IsTrue, IsFalse}
use Rattle.mdg_base.specs.declared.node_name.NodeName.{NodeName}
use Rattle.mdg_site.specs.declared.row.Row.{Row}
use Rattle.mdg_site.specs.Facts.{In, NumberSet, Within, named}
use Rattle.mdg_site.specs.Holders.{Answers, Holder, IsFirm, Looks, Serves}
use Rattle.mdg_site.specs.Laid.{Laid, site_count}
use Rattle.mdg_site.specs.Nodes.{IsNode}
use Rattle.mdg_site.specs.Rows.{IsRow}
use Rattle.mdg_site.specs.Rule.{Met, Rule, Test, gives}
use Rattle.mdg_site.specs.Rules.{GivesAt}

-- the holder is of this layout, the site's rules may add to it, and the rule is one of them
pub record Ready (l : Laid) (s : ℕ) (p : Rule) (h : Holder) : Type 0 where
  pub same : h.layout ≡ l
  pub serves : Serves h.site s
  pub site : s < site_count l
  pub part : (G : NumberSet) → Within h.facts G → (row : Row) (node : NodeName)
      → gives p (named l G) row node → GivesAt l s (named l G) row node

-- all that the rule gives from what the holder had is there, and the answer tells whether something was new
pub record Gave (l : Laid) (p : Rule) (old new : Holder) (answer : Bool) : Type 0 where
  pub answers : Answers old new answer
  pub there : IsFirm new → (row : Row) (node : NodeName)
      → gives p (named l old.facts) row node → IsRow l row → IsNode l node → In (named l new.facts) row node

-- whether the condition holds: true speaks of the facts at the end, false of those before
pub record Tried (l : Laid) (t : Test) (old new : Holder) (answer : Bool) : Type 0 where
  pub looks : Looks old new
  pub holding : IsTrue answer → Met t (named l new.facts)
  pub failing : IsFalse answer → ¬ Met t (named l old.facts)
