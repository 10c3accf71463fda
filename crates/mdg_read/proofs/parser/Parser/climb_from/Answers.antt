use Rattle.std.proofs.Common.{rules, arith}
use Rattle.std.proofs.lemmas.Grind.{common_steps}
use Rattle.mdg_read.specs.AtDepth as at_depth
use Rattle.mdg_read.proofs.Fuel.{one_more, no_more}
use Rattle.mdg_read.proofs.parser.Parser.climb_from.Goals as goal

pub returns-in_err-left-clause-reads : goal.returns-in_err-left-clause-reads
unfolding Rattle.mdg_read.specs.ReferenceExpressions.climb_from
returns-in_err-left-clause-reads g c =
    let e = one_more (λ n. at_depth.climb_from c.args.self.now.tokens.now c.args.self.now.depth c.args.no_in n c.args.least c.args.start c.loop-iteration.left) _ c.loop-iteration._iteration c.loop-iteration-test.true c.loop-iteration.invariant.same in
    first_of (search rules, grind (arith, common_steps))

pub returns-in_default-clause-reads : goal.returns-in_default-clause-reads
unfolding Rattle.mdg_read.specs.ReferenceExpressions.climb_from
returns-in_default-clause-reads g c =
    let e = one_more (λ n. at_depth.climb_from c.args.self.now.tokens.now c.args.self.now.depth c.args.no_in n c.args.least c.args.start c.loop-iteration.left) _ c.loop-iteration._iteration c.loop-iteration-test.true c.loop-iteration.invariant.same in
    first_of (search rules, grind (arith, common_steps))

pub returns-then-precedence-least-clause-reads : goal.returns-then-precedence-least-clause-reads
unfolding Rattle.mdg_read.specs.ReferenceExpressions.climb_from
returns-then-precedence-least-clause-reads g c =
    let e = one_more (λ n. at_depth.climb_from c.args.self.now.tokens.now c.args.self.now.depth c.args.no_in n c.args.least c.args.start c.loop-iteration.left) _ c.loop-iteration._iteration c.loop-iteration-test.true c.loop-iteration.invariant.same in
    first_of (search rules, grind (arith, common_steps))

pub loop-iteration-preserved : goal.loop-iteration-preserved
unfolding Rattle.mdg_read.specs.ReferenceExpressions.climb_from
loop-iteration-preserved g c =
    let e = one_more (λ n. at_depth.climb_from c.args.self.now.tokens.now c.args.self.now.depth c.args.no_in n c.args.least c.args.start c.loop-iteration.left) _ c.loop-iteration._iteration c.loop-iteration-test.true c.loop-iteration.invariant.same in
    first_of (search rules, grind (arith, common_steps))

pub returns-clause-reads : goal.returns-clause-reads
unfolding Rattle.mdg_read.specs.ReferenceExpressions.climb_from
returns-clause-reads g c =
    let e = no_more (λ n. at_depth.climb_from c.args.self.now.tokens.now c.args.self.now.depth c.args.no_in n c.args.least c.args.start c.loop-iteration.left) _ c.loop-iteration._iteration c.loop-iteration-test.false c.loop-iteration.invariant.same in
    first_of (search rules, grind (arith, common_steps))
