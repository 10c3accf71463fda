use Rattle.mdg_site.specs.Tables.{AreNodeNames}
use Rattle.mdg_site.proofs.build.node_names.Given as goal

abbrev pub invariant-loop-number : goal.invariant-loop-number
invariant-loop-number l = record { names_are : AreNodeNames l.tables l.number l.names.items }
