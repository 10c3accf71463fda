use Rattle.mdg_site.specs.Laid.{laid}
use Rattle.mdg_site.specs.Tables.{AreShapes}
use Rattle.mdg_site.proofs.build.shapes.Given as goal

abbrev pub invariant-loop-site : goal.invariant-loop-site
invariant-loop-site l = record { shapes_are : AreShapes (laid l.code) l.site l.shapes.items }
