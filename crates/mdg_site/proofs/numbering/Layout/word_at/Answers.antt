use Rattle.std.proofs.Common.{◌≡◌, ◌≤◌, ◌<◌, ◌+◌, ◌*◌, ◌∙◌, ap, subst, arith}
use Rattle.std.specs.Prelude.{ℕ}
use Rattle.mdg_site.specs.Answers.{word_limit}
use Rattle.mdg_site.specs.Laid.{Laid}
use Rattle.mdg_site.specs.Rows.{row_count, width_of, word_count}
use Rattle.mdg_site.proofs.NumberLemmas.{word_fits}
use Rattle.mdg_site.proofs.numbering.Layout.word_at.Goals as goal

pub overflow_mul-result : goal.overflow_mul-result
overflow_mul-result c =
    let few = subst (λ (z : Laid). word_count z ≤ word_limit) c.self.view_is c.self.invariant.few_words in
    let fits = word_fits c.args.self.now c.args.row c.self.inside.width c.args.word (c.self.invariant.width_is ∙ ap width_of c.self.view_is) c.requires.row_in_range c.requires.word_in_range in
    omega (arith, few, fits)

pub overflow_add-result : goal.overflow_add-result
overflow_add-result c =
    let few = subst (λ (z : Laid). word_count z ≤ word_limit) c.self.view_is c.self.invariant.few_words in
    let fits = word_fits c.args.self.now c.args.row c.self.inside.width c.args.word (c.self.invariant.width_is ∙ ap width_of c.self.view_is) c.requires.row_in_range c.requires.word_in_range in
    omega (arith, few, fits)

pub returns-clause-within : goal.returns-clause-within
returns-clause-within c = word_fits c.args.self.now c.args.row c.self.inside.width c.args.word (c.self.invariant.width_is ∙ ap width_of c.self.view_is) c.requires.row_in_range c.requires.word_in_range
