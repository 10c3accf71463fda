use Rattle.std.proofs.Common.{◌∙◌}
use Rattle.mdg_scan.proofs.FormExports.{no_export, no_export_end, export_test}
use Rattle.mdg_scan.proofs.first.read.is_export_of.Goals as goal

pub returns-in_default : goal.returns-in_default
returns-in_default c = no_export c.args.line.now c.args.name.now c.in_default.ensures

pub returns-in_default-before : goal.returns-in_default-before
returns-in_default-before c = no_export_end c.args.line.now c.in-Some.rest.now c.args.name.now c.in-Some.ensures c.in_default-before.ensures

pub returns : goal.returns
returns c = c.eq.ensures ∙ export_test c.args.line.now c.in-Some.rest.now c.in-Some-before.exported.now c.args.name.now c.in-Some.ensures c.in-Some-before.ensures
