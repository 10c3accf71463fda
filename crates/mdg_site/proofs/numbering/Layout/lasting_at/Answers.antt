use Rattle.std.proofs.Common.{◌≡◌, ◌∙◌, ap, sym}
use Rattle.mdg_site.specs.CodeTests.{outlives}
use Rattle.mdg_site.proofs.OneToOne.{row_same}
use Rattle.mdg_site.proofs.numbering.Layout.lasting_at.Goals as goal

pub returns-else-outlives : goal.returns-else-outlives
returns-else-outlives c row is = ap outlives (row_same c.args.self.now row c.row_at-found.result c.args.row is c.row_at-found.ensures) ∙ sym c.outlives.ensures ∙ c.if-outlives.false
