use Rattle.std.proofs.Common.{◌+◌, drop, map, refl, sym, ap, ◌∙◌, arith}
use Rattle.mdg_lower.specs.Tables.{lower_nested}
use Rattle.mdg_lower.specs.TableUpdates.{lowering_of}
use Rattle.mdg_lower.proofs.TableLemmas.{more_functions, out_of_functions, out_of_trees, entered_same, same_file}
use Rattle.mdg_lower.proofs.tables.lower_nested.Goals as goal

pub loop-tree-init : goal.loop-tree-init
loop-tree-init c = record { same = same_file c.args.scope.now; lowering = refl }

pub returns-then-index-functions : goal.returns-then-index-functions
returns-then-index-functions c =
    out_of_functions c.args.scope.now c.args.functions.now c.args.trees.now c.loop-tree.number c.loop-tree.index c.loop-tree.tree-index _ _ _ _ (omega (arith, c.if-index-functions.true)) c.loop-tree.invariant.lowering

pub loop-tree-preserved : goal.loop-tree-preserved
loop-tree-preserved c = record {
  same = entered_same c.loop-tree.scope c.lower_function.new.scope c.args.scope.now c.loop-tree.number c.index-functions-index.result c.tree-item.result.now.body c.loop-tree.invariant.same c.in_ok-lower_function.ensures.scope;
  lowering =
      more_functions c.args.scope.now c.loop-tree.scope c.args.functions.now c.args.trees.now c.loop-tree.number c.loop-tree.index c.loop-tree.tree-index c.index-functions-index.result c.tree-item.result _ _ _ _ _
      c.loop-tree.invariant.same (omega (arith, c.if-index-functions.false)) c.index-functions-index.is c.loop-tree-test.true c.tree-item.is c.in_ok-lower_function.ensures.lowering c.loop-tree.invariant.lowering
      ∙ ap (λ k. lower_nested c.args.scope.now k (drop (c.loop-tree.index + 1) c.args.functions.now) (map (λ t. t.now) (drop (c.loop-tree.tree-index + 1) c.args.trees.now)) (lowering_of c.lower_function.new.lines.items c.lower_function.new.tables)) (sym c.in_ok-number.ensures);
}

pub returns : goal.returns
returns c =
    out_of_trees c.args.scope.now c.args.functions.now c.args.trees.now c.loop-tree.number c.loop-tree.index c.loop-tree.tree-index _ _ _ _ c.loop-tree-test.false c.loop-tree.invariant.lowering
