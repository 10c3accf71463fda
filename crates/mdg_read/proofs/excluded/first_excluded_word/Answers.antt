use Rattle.std.proofs.Common.{sym, ◌∙◌}
use Rattle.mdg_read.proofs.Files.{more_core, all_core}
use Rattle.mdg_read.proofs.excluded.first_excluded_word.Goals as goal

pub loop-at-preserved : goal.loop-at-preserved
loop-at-preserved c = more_core c.args.tokens.now c.loop-at.at c.loop-at.invariant (sym c.is_excluded.ensures ∙ c.if-is_excluded.false)

pub returns-then-is_excluded : goal.returns-then-is_excluded
returns-then-is_excluded c = (record { here = sym c.is_excluded.ensures ∙ c.if-is_excluded.true; first = c.loop-at.invariant }, c.loop-at-test.true)

pub returns : goal.returns
returns c = all_core c.args.tokens.now c.loop-at.at c.loop-at-test.false c.loop-at.invariant
