use Rattle.std.proofs.Common.{◌≡◌, ◌++◌, length, ap, arith, subst, sym}
use Rattle.std.proofs.lemmas.Grind.{common_steps}
use Rattle.mdg_scan.specs.CodeShape.{IsWellFormed}
use Rattle.mdg_scan.specs.Lowered.{body_lines}
use Rattle.mdg_scan.proofs.CodeShapes.{IsWellFormed-lowered}
use Rattle.mdg_scan.proofs.CodeLengths.{length-body_lines}
use Rattle.mdg_scan.proofs.first.lowering.lower.Goals as goal

pub lower_functions-requires : goal.lower_functions-requires
lower_functions-requires c =
    let made : c.lower_body.new.lines ≡ c.create-lines.result ++ body_lines c.args.form.now = c.in_ok-lower_body.ensures in
    let lines : c.lower_body.new.lines ≡ body_lines c.args.form.now = cc in
    let statements : length c.lower_body.new.lines ≡ length (body_lines c.args.form.now) = ap length lines in
    let functions : length c.as_slice.result.now ≡ length c.args.form.now.functions = ap length c.as_slice.ensures in
    omega (arith, length-body_lines c.args.form.now)

pub returns-clause-code : goal.returns-clause-code
returns-clause-code c = grind (arith, common_steps)

pub returns-clause-shape : goal.returns-clause-shape
returns-clause-shape c = subst IsWellFormed (sym (returns-clause-code c)) (IsWellFormed-lowered c.args.form.now)
