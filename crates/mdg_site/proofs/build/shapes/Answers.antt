use Rattle.mdg_site.specs.Laid.{laid}
use Rattle.mdg_site.proofs.FitLemmas.{shapes_push}
use Rattle.mdg_site.proofs.build.shapes.Goals as goal

pub loop-site-preserved : goal.loop-site-preserved
loop-site-preserved c = record { shapes_are = shapes_push (laid c.args.code.now) c.loop-site.site _ _ c.shape_at.result c.loop-site.invariant.shapes_are c.in_ok-push.ensures.items c.shape_at.ensures }
