use Rattle.std.proofs.Common.{rules}
use Rattle.std.proofs.lemmas.Result.{IfOk-equal}
use mathlib.Core.List.{append_assoc}
use Rattle.mdg_scan.specs.Report.{sink_argument}
use Rattle.mdg_scan.proofs.first.flow_report.add_sink_argument.Goals as goal

pub returns : goal.returns
unfolding sink_argument
returns c = search (rules, IfOk-equal, append_assoc)
