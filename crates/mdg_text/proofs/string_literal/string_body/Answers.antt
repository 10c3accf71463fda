use Rattle.std.proofs.Common.{rules, arith, ◌<◌, length, drop}
use Rattle.std.proofs.lemmas.Grind.{common_steps}
use Rattle.std.proofs.lemmas.List.{drop_more, drop_all}
use Rattle.mdg_text.specs.Scanner.{string_body}
use Rattle.mdg_base.proofs.Counts.{one_more}
use Rattle.mdg_text.proofs.string_literal.string_body.Goals as goal

pub returns-then-i-text-clause-reads : goal.returns-then-i-text-clause-reads
unfolding Rattle.mdg_text.specs.Scanner.string_body
returns-then-i-text-clause-reads c =
    let e = one_more (λ n. string_body n c.args.quote c.loop-turn.value.items (drop c.loop-turn.i c.args.text.now)) _ c.loop-turn._turn c.loop-turn-test.true c.loop-turn.invariant.same in
    let d = drop_all c.loop-turn.i c.args.text.now (omega arith) in first_of (search rules, grind (arith, common_steps))

pub returns-then-text-i-clause-reads : goal.returns-then-text-i-clause-reads
unfolding Rattle.mdg_text.specs.Scanner.string_body
returns-then-text-i-clause-reads c =
    let e = one_more (λ n. string_body n c.args.quote c.loop-turn.value.items (drop c.loop-turn.i c.args.text.now)) _ c.loop-turn._turn c.loop-turn-test.true c.loop-turn.invariant.same in
    let h : c.loop-turn.i < length c.args.text.now = omega arith in let d = drop_more c.args.text.now c.loop-turn.i 0 h in first_of (search rules, grind (arith, common_steps))

pub returns-in_default-clause-reads : goal.returns-in_default-clause-reads
unfolding Rattle.mdg_text.specs.Scanner.string_body
returns-in_default-clause-reads c =
    let e = one_more (λ n. string_body n c.args.quote c.loop-turn.value.items (drop c.loop-turn.i c.args.text.now)) _ c.loop-turn._turn c.loop-turn-test.true c.loop-turn.invariant.same in
    let h : c.loop-turn.i < length c.args.text.now = omega arith in let d = drop_more c.args.text.now c.loop-turn.i 0 h in first_of (search rules, grind (arith, common_steps))

pub loop-turn-preserved : goal.loop-turn-preserved
unfolding Rattle.mdg_text.specs.Scanner.string_body
loop-turn-preserved c =
    let e = one_more (λ n. string_body n c.args.quote c.loop-turn.value.items (drop c.loop-turn.i c.args.text.now)) _ c.loop-turn._turn c.loop-turn-test.true c.loop-turn.invariant.same in
    let h : c.loop-turn.i < length c.args.text.now = omega arith in let d = drop_more c.args.text.now c.loop-turn.i 0 h in first_of (search rules, grind (arith, common_steps))
