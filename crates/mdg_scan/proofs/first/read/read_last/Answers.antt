use Rattle.std.proofs.Common.{◌∙◌, ◌+◌, sym, ap}
use Rattle.mdg_scan.specs.Form.{exported_of, no_tree}
use Rattle.mdg_scan.proofs.FormRest.{last_after}
use Rattle.mdg_scan.proofs.first.read.read_last.Goals as goal

pub returns-then-not-is_empty-clause-told : goal.returns-then-not-is_empty-clause-told
returns-then-not-is_empty-clause-told c =
    last_after c.args.functions c.args.number c.args.line.now c.args.rest.now c.in-Some.at
    (c.in-Some.ensures.value ∙ ap (λ fs. exported_of fs c.args.line.now) c.as_slice.ensures) (sym c.if-not-is_empty.ensures)
    ∙ ap (λ n. no_tree (n + 1)) (sym c.from-then-not-is_empty.ensures)
