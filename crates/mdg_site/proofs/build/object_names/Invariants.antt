use Rattle.mdg_site.specs.Tables.{AreObjectNames}
use Rattle.mdg_site.proofs.build.object_names.Given as goal

abbrev pub invariant-loop-number : goal.invariant-loop-number
invariant-loop-number l = record { names_are : AreObjectNames l.tables l.number l.names.items }
