use Rattle.std.proofs.Common.{[], ◌∷◌, ◌++◌, sym, ap, ◌∙◌}
use Rattle.mdg_lower.specs.SharedNames.{seen_in}
use Rattle.mdg_lower.proofs.SharedNameLemmas.{new_base, known_base, new_seen}
use Rattle.mdg_lower.proofs.shared.rows.add_shared_name.Goals as goal

pub returns-in_ok-push-clause-bases : goal.returns-in_ok-push-clause-bases
returns-in_ok-push-clause-bases c is =
    c.in_ok-push.ensures.ok
    ∙ ap (λ n. c.args.bases.now ++ record { home = c.args.home; name = n } ∷ []) c.in_ok-of.ensures
    ∙ new_base c.args.home c.args.name.now c.args.bases.now c.args.seen.now (sym c.in_ok-add.ensures.added ∙ c.if-branch.true) is

pub returns-in_ok-push-clause-seen : goal.returns-in_ok-push-clause-seen
returns-in_ok-push-clause-seen c is =
    c.in_ok-add.ensures.names
    ∙ new_seen c.args.home c.args.name.now c.args.bases.now c.args.seen.now (sym c.in_ok-add.ensures.added ∙ c.if-branch.true) is
    ∙ ap (λ n. seen_in (c.args.bases.now ++ record { home = c.args.home; name = n } ∷ [])) (sym c.in_ok-of.ensures)
    ∙ ap seen_in (sym c.in_ok-push.ensures.ok)

pub returns-else-branch-clause-bases : goal.returns-else-branch-clause-bases
returns-else-branch-clause-bases c is =
    known_base c.args.home c.args.name.now c.args.bases.now c.args.seen.now (sym c.in_ok-add.ensures.added ∙ c.if-branch.false) is
