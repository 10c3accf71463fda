use Rattle.mdg_scan.proofs.AnswerLemmas.{flow_lines-step}
use Rattle.mdg_scan.proofs.first.flow_report.add_flows.Goals as goal

pub loop-flow-preserved : goal.loop-flow-preserved
loop-flow-preserved c = flow_lines-step c.args.code.now c.args.flows.now c.loop-flow.flow-index _ c.args.text.now c.loop-flow.text _ c.loop-flow-test.true c.loop-flow.invariant c.in_ok-add_flow.ensures
