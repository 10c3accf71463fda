use Rattle.std.proofs.Common.{arith}
use Rattle.mdg_port.proofs.Prefixes.{Appends-longer}
use Rattle.mdg_port.proofs.sink.write_whole.Goals as goal

pub loop-done-preserved : goal.loop-done-preserved
loop-done-preserved g c =
    (omega (arith, c.in_ok-done.ensures.bound), Appends-longer _ _ _ _ _ _ c.loop-done.invariant.1 (rw c.split_at.ensures.back at c.in_ok-done.ensures.bytes), omega (arith, c.put.ensures.cause.later))
