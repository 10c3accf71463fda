use Rattle.std.proofs.Common.{◌≡◌, ◌++◌, take}
use Rattle.mdg_scan.specs.Report.{flow_lines}
use Rattle.mdg_scan.proofs.first.flow_report.add_flows.Given as goal

abbrev pub invariant-loop-flow : goal.invariant-loop-flow
invariant-loop-flow l = l.text ≡ l.fn.text ++ flow_lines l.code (take l.flow-index l.flows)
