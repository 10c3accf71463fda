use Rattle.std.proofs.Common.{◌≤◌, length, arith}
use Rattle.mdg_scan.proofs.SpreadLemmas.{Spreads-equal, Spreads-trans, Spreads-longer, found_all}
use Rattle.mdg_scan.proofs.first.reach.reached.Goals as goal

pub loop-found-init : goal.loop-found-init
loop-found-init c = Spreads-equal _ _ c.in_ok-found.ensures.items

pub loop-found-preserved : goal.loop-found-preserved
loop-found-preserved c = Spreads-trans c.loop-found.invariant c.spread.ensures.spreads

pub loop-found-smaller : goal.loop-found-smaller
loop-found-smaller c =
    let grown : length c.loop-found.found.items ≤ length c.spread.new.found.items = Spreads-longer c.spread.ensures.spreads in
    omega arith

pub returns-then-len-before : goal.returns-then-len-before
returns-then-len-before c =
    found_all c.args.edges.now c.args.starts.now c.loop-found.found.items c.spread.new.found.items c.loop-found.invariant c.spread.ensures.spreads
    (omega arith) c.in_ok-spread.ensures.follows
