use Rattle.std.proofs.Common.{◌≡◌, ◌++◌, take, map}
use Rattle.mdg_scan.specs.Rules.{in_row}
use Rattle.mdg_scan.proofs.first.rule.push_moved.Given as goal

abbrev pub invariant-loop-fact : goal.invariant-loop-fact
invariant-loop-fact l = l.given.items ≡ l.fn.given.items ++ map (λ f. in_row l.to f.node) (take l.fact-index l.part)
