use Rattle.std.proofs.Common.{arith}
use Rattle.mdg_scan.proofs.LineCuts.{first_line_cut, first_line_all}
use Rattle.mdg_scan.proofs.first.line.next_line.Goals as goal

pub returns-then-byte-eq10-clause-line : goal.returns-then-byte-eq10-clause-line
returns-then-byte-eq10-clause-line c = rw c.split_at.ensures.back (first_line_cut _ _ c.loop-at.invariant c.loop-at-test.true c.if-byte-eq10.true)

pub returns-clause-line : goal.returns-clause-line
returns-clause-line c =
    first_line_all c.args.bytes.now (λ k h. c.loop-at.invariant k (omega (arith, c.loop-at-test.false))) c.requires
