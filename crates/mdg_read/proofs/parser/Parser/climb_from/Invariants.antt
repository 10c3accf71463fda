use Rattle.std.proofs.Common.{◌≡◌, ◌+◌, ◌-◌, ◌≤◌}
use Rattle.mdg_read.specs.AtDepth as at_depth
use Rattle.mdg_read.proofs.parser.Parser.climb_from.Given as goal

abbrev pub invariant-loop-iteration : goal.invariant-loop-iteration
invariant-loop-iteration g l = record {
  same : at_depth.climb_from l.self.tokens.now l.self.depth l.no_in l._iteration-end l.least l.start l.fn.left ≡ at_depth.climb_from l.self.tokens.now l.self.depth l.no_in (l._iteration-end - l._iteration) l.least l.start l.left;
  low : l.left.height ≤ l.self.depth + 1;
}
