use Rattle.std.proofs.Common.{◌≡◌, ◌≤◌, ◌<◌, ◌+◌, ◌*◌, ◌∙◌, ap, subst, arith}
use Rattle.std.specs.Prelude.{ℕ}
use Rattle.mdg_site.specs.Answers.{word_limit}
use Rattle.mdg_site.specs.Laid.{Laid}
use Rattle.mdg_site.specs.Rows.{row_count, width_of, word_count}
use Rattle.mdg_site.proofs.NumberLemmas.{words_fit}
use Rattle.mdg_site.proofs.numbering.Layout.words.Goals as goal

pub overflow_mul-result : goal.overflow_mul-result
overflow_mul-result c =
    let few = subst (λ (z : Laid). word_count z ≤ word_limit) c.self.view_is c.self.invariant.few_words in
    let is = words_fit c.args.self.now c.rows.result c.self.inside.width c.rows.ensures (c.self.invariant.width_is ∙ ap width_of c.self.view_is) in
    omega (arith, few, is)

pub returns-clause-within : goal.returns-clause-within
returns-clause-within c =
    let few = subst (λ (z : Laid). word_count z ≤ word_limit) c.self.view_is c.self.invariant.few_words in
    let is = words_fit c.args.self.now c.rows.result c.self.inside.width c.rows.ensures (c.self.invariant.width_is ∙ ap width_of c.self.view_is) in
    omega (arith, few, is)
