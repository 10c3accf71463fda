use Rattle.std.proofs.Common.{arith, subst}
use Rattle.std.proofs.lemmas.Result.{IfOk-weaker}
use Rattle.mdg_scan.specs.declared.first.code.Code.{Code}
use Rattle.mdg_scan.specs.Answer.{IsReport}
use Rattle.mdg_scan.proofs.AnswerLemmas.{few_functions, few_lines, few_shared, report_of_graph}
use Rattle.mdg_scan.proofs.first.answer.answer_of_form.Goals as goal

pub grow-requires-clause-lines : goal.grow-requires-clause-lines
grow-requires-clause-lines c = few_lines c.args.form.now c.in_ok-code.code c.in_ok-code.ensures.code c.in_ok-code.ensures.shape c.requires.few

pub grow-requires-clause-functions : goal.grow-requires-clause-functions
grow-requires-clause-functions c = omega (arith, few_functions c.args.form.now c.in_ok-code.code c.in_ok-code.ensures.code c.requires.few)

pub grow-requires-clause-shared : goal.grow-requires-clause-shared
grow-requires-clause-shared c = omega (arith, few_shared c.args.form.now c.in_ok-code.code c.in_ok-code.ensures.code)

pub flows-requires : goal.flows-requires
flows-requires c = (
  omega (arith, few_shared c.args.form.now c.in_ok-code.code c.in_ok-code.ensures.code),
  omega (arith, few_lines c.args.form.now c.in_ok-code.code c.in_ok-code.ensures.code c.in_ok-code.ensures.shape c.requires.few),
)

pub returns : goal.returns
returns c = IfOk-weaker c.report.result _ _ (λ reply is.
    let P : Code → Type 0 = λ code. IsReport code reply in
    subst P c.in_ok-code.ensures.code (report_of_graph c.in_ok-code.code c.in_ok-facts.facts c.in_ok-flows.flows reply c.in_ok-facts.ensures c.in_ok-flows.ensures is))
    (rw c.as_slice.ensures at c.report.ensures)
