use Rattle.std.proofs.Common.{◌≡◌, ◌-◌, ◌≤◌, []}
use Rattle.mdg_read.specs.AtDepth as at_depth
use Rattle.mdg_read.proofs.parser.Parser.declarations.Given as goal

abbrev pub invariant-loop-iteration : goal.invariant-loop-iteration
invariant-loop-iteration g l = record {
  same : at_depth.declarations_from l.self.tokens.now l.self.depth l.no_in l._iteration-end [] 0 l.fn.at ≡ at_depth.declarations_from l.self.tokens.now l.self.depth l.no_in (l._iteration-end - l._iteration) l.all l.height l.at;
  low : l.height ≤ l.self.depth;
}
