use Rattle.std.proofs.Common.{arith, rules, ap, ◌∙◌}
use Rattle.std.proofs.lemmas.Grind.{common_steps}
use Rattle.mdg_read.proofs.Files.{items_only, one_file, file_low}
use Rattle.mdg_read.proofs.file.read_file.Goals as goal

pub returns-in_err-items-clause-only : goal.returns-in_err-items-clause-only
returns-in_err-items-clause-only c = λ core tree f.
    let only = items_only c.args.tokens.now c.in_ok-start.start _ c.in_err-items.ensures tree f in
    let same = c.from_residual-in_err-items.ensures in
    first_of (search rules, grind (arith, common_steps))

pub returns-clause-cause : goal.returns-clause-cause
returns-clause-cause c =
    (c.in_default.ensures, record { start = c.in_ok-start.start; begins = c.in_ok-start.ensures; first = c.position_at.ensures; spelled = c.in_ok-items.ensures.reached; low = file_low c.args.tokens.now _ _ c.in_ok-items.ensures.low })

pub returns-clause-only : goal.returns-clause-only
returns-clause-only c = λ core tree f. ap (λ z. record { at = z; items = c.in_ok-items.items }) c.position_at.ensures ∙ one_file c.args.tokens.now c.in_ok-start.start c.in_ok-items.items c.in_ok-start.ensures c.in_ok-items.ensures.reached tree f
