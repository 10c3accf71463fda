use Rattle.std.proofs.Common.{rules, arith}
use Rattle.std.proofs.lemmas.Grind.{common_steps}
use Rattle.mdg_read.specs.Combinators as combinators
use Rattle.mdg_read.proofs.Fuel.{one_more, no_more}
use Rattle.mdg_read.proofs.parser.Parser.names_from.Goals as goal

pub returns-in_err-next : goal.returns-in_err-next
unfolding Rattle.mdg_read.specs.Combinators.names_from
returns-in_err-next g c =
    let e = one_more (λ n. combinators.names_from c.args.self.now.tokens.now n c.loop-iteration.names c.loop-iteration.offsets c.loop-iteration.at) _ c.loop-iteration._iteration c.loop-iteration-test.true c.loop-iteration.invariant.same in
    first_of (search rules, grind (arith, common_steps))

pub returns-then-not-same : goal.returns-then-not-same
unfolding Rattle.mdg_read.specs.Combinators.names_from
returns-then-not-same g c =
    let e = one_more (λ n. combinators.names_from c.args.self.now.tokens.now n c.loop-iteration.names c.loop-iteration.offsets c.loop-iteration.at) _ c.loop-iteration._iteration c.loop-iteration-test.true c.loop-iteration.invariant.same in
    first_of (search rules, grind (arith, common_steps))

pub loop-iteration-preserved : goal.loop-iteration-preserved
unfolding Rattle.mdg_read.specs.Combinators.names_from
loop-iteration-preserved g c =
    let e = one_more (λ n. combinators.names_from c.args.self.now.tokens.now n c.loop-iteration.names c.loop-iteration.offsets c.loop-iteration.at) _ c.loop-iteration._iteration c.loop-iteration-test.true c.loop-iteration.invariant.same in
    first_of (search rules, grind (arith, common_steps))

pub returns : goal.returns
unfolding Rattle.mdg_read.specs.Combinators.names_from
returns g c =
    let e = no_more (λ n. combinators.names_from c.args.self.now.tokens.now n c.loop-iteration.names c.loop-iteration.offsets c.loop-iteration.at) _ c.loop-iteration._iteration c.loop-iteration-test.false c.loop-iteration.invariant.same in
    first_of (search rules, grind (arith, common_steps))
