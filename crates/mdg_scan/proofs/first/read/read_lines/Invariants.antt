use Rattle.std.proofs.Common.{length}
use Rattle.mdg_scan.proofs.FormRest.{IsSoFar}
use Rattle.mdg_scan.proofs.first.read.read_lines.Given as goal

abbrev pub invariant-loop-rest : goal.invariant-loop-rest
invariant-loop-rest l = IsSoFar l.fn.bytes l.functions l.number l.rest

abbrev pub decreases-loop-rest : goal.decreases-loop-rest
decreases-loop-rest l = length l.rest
