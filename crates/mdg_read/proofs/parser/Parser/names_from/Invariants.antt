use Rattle.std.proofs.Common.{◌≡◌, ◌-◌, []}
use Rattle.mdg_read.specs.Combinators as combinators
use Rattle.mdg_read.proofs.parser.Parser.names_from.Given as goal

abbrev pub invariant-loop-iteration : goal.invariant-loop-iteration
invariant-loop-iteration g l = record {
  same : combinators.names_from l.self.tokens.now l._iteration-end [] [] l.fn.at ≡ combinators.names_from l.self.tokens.now (l._iteration-end - l._iteration) l.names l.offsets l.at;
}
