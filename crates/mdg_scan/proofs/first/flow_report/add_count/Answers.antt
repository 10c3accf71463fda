use Rattle.std.proofs.Common.{rules}
use Rattle.std.proofs.lemmas.Result.{IfOk-equal}
use mathlib.Core.List.{append_assoc}
use Rattle.mdg_scan.proofs.first.flow_report.add_count.Goals as goal

pub returns : goal.returns
returns c = search (rules, IfOk-equal, append_assoc)
