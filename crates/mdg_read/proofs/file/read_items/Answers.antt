use Rattle.std.proofs.Common.{◌≡◌, arith, sym, length}
use Rattle.mdg_read.specs.Grammar.{done}
use Rattle.mdg_read.proofs.Files.{begins_inside, grown, due, offset_read}
use Rattle.mdg_read.proofs.file.read_items.Goals as goal

pub loop-at-init : goal.loop-at-init
loop-at-init c = rw c.create-items.ensures (record { reached = done; low = omega arith; inside = begins_inside c.args.tokens.now c.requires.begins })

pub loop-at-smaller : goal.loop-at-smaller
loop-at-smaller c =
    let g = grown c.args.tokens.now c.args.start c.loop-at.items c.loop-at.at c.in-Ok.one c.in-Ok.ensures.reads c.loop-at.invariant.reached c.loop-at.invariant.low in
    omega (arith, g.from, g.inside)

pub loop-at-preserved : goal.loop-at-preserved
loop-at-preserved c =
    let g = grown c.args.tokens.now c.args.start c.loop-at.items c.loop-at.at c.in-Ok.one c.in-Ok.ensures.reads c.loop-at.invariant.reached c.loop-at.invariant.low in
    rw c.in_ok-push-in-Ok.ensures.ok (record { reached = g.reached; low = g.low; inside = g.inside })

pub returns-in-Err-NoTree : goal.returns-in-Err-NoTree
returns-in-Err-NoTree c =
    (c.loop-at.at, due c.args.tokens.now c.args.start c.loop-at.items c.loop-at.at c.requires.begins (rw c.in-Err-NoTree.field-0-is at c.in-Err-NoTree.ensures.reads) c.loop-at.invariant.reached c.loop-at.invariant.low c.loop-at-test.true, offset_read c.args.tokens.now c.loop-at.at _ c.loop-at-test.true)

pub returns : goal.returns
returns c =
    let end : c.loop-at.at ≡ length c.args.tokens.now = omega (arith, c.loop-at.invariant.inside) in
    rw (sym end) c.loop-at.invariant
