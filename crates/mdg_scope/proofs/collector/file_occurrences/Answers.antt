use Rattle.std.proofs.Common.{ap, ◌∙◌, map}
use Rattle.std.specs.Prelude.{codes}
use Rattle.mdg_scope.specs.declared.occurrence.OccurrenceKind.TheVariants as r
use Rattle.mdg_scope.specs.Collectors.{add, collect_all, inside}
use Rattle.mdg_scope.specs.Occurrences.{stmt_occurrences}
use Rattle.mdg_scope.proofs.collector.file_occurrences.Goals as goal

pub returns : goal.returns
returns c =
    ap (λ x. x.all)
    (c.in_ok-statements.ensures
    ∙ ap (λ p. collect_all (map stmt_occurrences c.as_slice.result.now) p c.add-2.new.into) c.inside.ensures
    ∙ ap (λ l. collect_all (map stmt_occurrences l) (inside 0) c.add-2.new.into) c.as_slice.ensures
    ∙ ap (collect_all (map stmt_occurrences c.args.tree.now.items) (inside 0))
    (c.in_ok-add-2.ensures ∙ ap (add r.Given 0 0 (codes "exports")) (c.in_ok-add.ensures ∙ ap (λ l. add r.Given 0 0 (codes "module") (record { all = l; begun = 0 })) c.create.ensures)))
