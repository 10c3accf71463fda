use Rattle.std.proofs.Common.{rules, arith, drop}
use Rattle.std.proofs.lemmas.Grind.{common_steps}
use Rattle.mdg_text.specs.Scanner.{skip_trivia}
use Rattle.mdg_base.proofs.Counts.{one_more, no_more}
use Rattle.mdg_text.proofs.trivia.skip_trivia.Goals as goal

pub returns-in_default-clause-rest : goal.returns-in_default-clause-rest
unfolding Rattle.mdg_text.specs.Scanner.skip_trivia
returns-in_default-clause-rest c =
    let e = one_more (λ n. skip_trivia n (drop c.loop-turn.i c.args.text.now)) _ c.loop-turn._turn c.loop-turn-test.true c.loop-turn.invariant.same in
    first_of (search rules, grind (arith, common_steps))

pub loop-turn-preserved : goal.loop-turn-preserved
unfolding Rattle.mdg_text.specs.Scanner.skip_trivia
loop-turn-preserved c =
    let e = one_more (λ n. skip_trivia n (drop c.loop-turn.i c.args.text.now)) _ c.loop-turn._turn c.loop-turn-test.true c.loop-turn.invariant.same in
    first_of (search rules, grind (arith, common_steps))

pub returns-clause-rest : goal.returns-clause-rest
unfolding Rattle.mdg_text.specs.Scanner.skip_trivia
returns-clause-rest c =
    let e = no_more (λ n. skip_trivia n (drop c.loop-turn.i c.args.text.now)) _ c.loop-turn._turn c.loop-turn-test.false c.loop-turn.invariant.same in
    first_of (search rules, grind (arith, common_steps))
