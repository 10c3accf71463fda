use Rattle.std.proofs.Common.{◌≡◌, max, ◌-◌, ◌≤◌}
use Rattle.mdg_read.specs.AtDepth as at_depth
use Rattle.mdg_read.proofs.parser.Parser.sequence_from.Given as goal

abbrev pub invariant-loop-iteration : goal.invariant-loop-iteration
invariant-loop-iteration g l = record {
  same : at_depth.sequence_from l.self.tokens.now l.self.depth l.no_in l._iteration-end l.fn.before l.fn.height l.fn.at ≡ at_depth.sequence_from l.self.tokens.now l.self.depth l.no_in (l._iteration-end - l._iteration) l.before l.height l.at;
  low : l.height ≤ max l.fn.height l.self.depth;
}
