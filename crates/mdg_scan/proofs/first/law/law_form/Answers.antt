use Rattle.std.proofs.Common.{subst}
use Rattle.mdg_scan.specs.Lines.{lines_of}
use Rattle.mdg_scan.proofs.FormLaw.{IsRight, all_right, complete}
use Rattle.mdg_scan.proofs.FormFronts.{read_other, read_unfit}
use Rattle.mdg_scan.proofs.first.law.law_form.Goals as goal

pub returns-clause-form : goal.returns-clause-form
returns-clause-form c = λ bytes form. (λ is. subst (IsRight (lines_of bytes)) is (all_right (lines_of bytes)), λ is. complete (lines_of bytes) form is)

pub returns-clause-strict : goal.returns-clause-strict
returns-clause-strict c = λ bytes. (λ is. subst (IsRight (lines_of bytes)) is (all_right (lines_of bytes)), λ other. read_other (lines_of bytes) other)

pub returns-clause-unfit : goal.returns-clause-unfit
returns-clause-unfit c = λ bytes number. (λ is. subst (IsRight (lines_of bytes)) is (all_right (lines_of bytes)), λ unfit. read_unfit (lines_of bytes) number unfit)
