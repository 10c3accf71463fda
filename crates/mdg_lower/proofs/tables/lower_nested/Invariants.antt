use Rattle.std.proofs.Common.{◌≡◌, drop}
use Rattle.std.specs.Prelude.{map}
use Rattle.mdg_lower.specs.Tables.{lower_nested}
use Rattle.mdg_lower.specs.TableUpdates.{lowering_of, SameFile}
use Rattle.mdg_lower.proofs.tables.lower_nested.Given as goal

abbrev pub invariant-loop-tree : goal.invariant-loop-tree
invariant-loop-tree l = record {
  same : SameFile l.scope l.fn.scope;
  lowering : lower_nested l.fn.scope 1 l.functions (map (λ t. t.now) l.trees) (lowering_of l.fn.lines.items l.fn.tables)
      ≡ lower_nested l.fn.scope l.number (drop l.index l.functions) (map (λ t. t.now) (drop l.tree-index l.trees)) (lowering_of l.lines.items l.tables);
}
