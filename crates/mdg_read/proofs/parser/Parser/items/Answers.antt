use Rattle.std.proofs.Common.{rules, arith}
use Rattle.std.proofs.lemmas.Grind.{common_steps}
use Rattle.mdg_read.specs.AtDepth as at_depth
use Rattle.mdg_read.proofs.Fuel.{one_more, no_more}
use Rattle.mdg_read.proofs.parser.Parser.items.Goals as goal

pub returns-then-ends_block-clause-reads : goal.returns-then-ends_block-clause-reads
unfolding Rattle.mdg_read.specs.ReferenceOperands.items_from Rattle.mdg_read.specs.ReferenceOperands.items
returns-then-ends_block-clause-reads g c =
    let e = one_more (λ n. at_depth.items_from c.args.self.now.tokens.now c.args.self.now.depth c.args.top n c.loop-iteration.body c.loop-iteration.height c.loop-iteration.at) _ c.loop-iteration._iteration c.loop-iteration-test.true c.loop-iteration.invariant.same in
    first_of (search rules, grind (arith, common_steps))

pub returns-in_err-one-clause-reads : goal.returns-in_err-one-clause-reads
unfolding Rattle.mdg_read.specs.ReferenceOperands.items_from Rattle.mdg_read.specs.ReferenceOperands.items
returns-in_err-one-clause-reads g c =
    let e = one_more (λ n. at_depth.items_from c.args.self.now.tokens.now c.args.self.now.depth c.args.top n c.loop-iteration.body c.loop-iteration.height c.loop-iteration.at) _ c.loop-iteration._iteration c.loop-iteration-test.true c.loop-iteration.invariant.same in
    first_of (search rules, grind (arith, common_steps))

pub loop-iteration-preserved : goal.loop-iteration-preserved
unfolding Rattle.mdg_read.specs.ReferenceOperands.items_from Rattle.mdg_read.specs.ReferenceOperands.items
loop-iteration-preserved g c =
    let e = one_more (λ n. at_depth.items_from c.args.self.now.tokens.now c.args.self.now.depth c.args.top n c.loop-iteration.body c.loop-iteration.height c.loop-iteration.at) _ c.loop-iteration._iteration c.loop-iteration-test.true c.loop-iteration.invariant.same in
    first_of (search rules, grind (arith, common_steps))

pub returns-clause-reads : goal.returns-clause-reads
unfolding Rattle.mdg_read.specs.ReferenceOperands.items_from Rattle.mdg_read.specs.ReferenceOperands.items
returns-clause-reads g c =
    let e = no_more (λ n. at_depth.items_from c.args.self.now.tokens.now c.args.self.now.depth c.args.top n c.loop-iteration.body c.loop-iteration.height c.loop-iteration.at) _ c.loop-iteration._iteration c.loop-iteration-test.false c.loop-iteration.invariant.same in
    first_of (search rules, grind (arith, common_steps))
