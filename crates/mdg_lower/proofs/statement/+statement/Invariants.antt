use Rattle.std.proofs.Common.{◌≡◌, ◌+◌, ◌*◌, ◌++◌, max, drop, length}
use denote.Param.Weighed.{most}
use Rattle.mdg_tree.specs.declared.tree.Stmt.{size-Stmt}
use Rattle.mdg_tree.proofs.tree.Stmt.TheLaws as stmt
use Rattle.mdg_lower.specs.Trees as trees
use Rattle.mdg_lower.proofs.statement.+statement.Given as goal

abbrev pub decreases-if_then : goal.decreases-if_then
decreases-if_then l = 4 * size-Stmt l.body.now + 1

abbrev pub decreases-either : goal.decreases-either
decreases-either l = max (4 * size-Stmt l.body.now) (4 * size-Stmt l.otherwise.now) + 1

abbrev pub decreases-if_else : goal.decreases-if_else
decreases-if_else l = max (4 * size-Stmt l.body.now) (4 * size-Stmt l.otherwise.now) + 2

abbrev pub decreases-while_of : goal.decreases-while_of
decreases-while_of l = 4 * size-Stmt l.body.now + 1

abbrev pub decreases-loop_lines : goal.decreases-loop_lines
decreases-loop_lines l = 4 * size-Stmt l.body.now + 1

abbrev pub decreases-for_of : goal.decreases-for_of
decreases-for_of l = 4 * size-Stmt l.body.now + 2

abbrev pub decreases-for_in_body : goal.decreases-for_in_body
decreases-for_in_body l = 4 * size-Stmt l.body.now + 1

abbrev pub decreases-for_in_loop : goal.decreases-for_in_loop
decreases-for_in_loop l = 4 * size-Stmt l.body.now + 2

abbrev pub decreases-for_in : goal.decreases-for_in
decreases-for_in l = 4 * size-Stmt l.body.now + 3

abbrev pub decreases-do_while : goal.decreases-do_while
decreases-do_while l = 4 * size-Stmt l.body.now + 1

abbrev pub decreases-body : goal.decreases-body
decreases-body l = 4 * most stmt.the_size l.all.now + 1

abbrev pub decreases-statement : goal.decreases-statement
decreases-statement l = 4 * size-Stmt l.tree.now

abbrev pub invariant-body-loop-one : goal.invariant-body-loop-one
invariant-body-loop-one l = l.fn.lines.items ++ trees.body_lines l.all l.scope (length l.fn.lines.items)
    ≡ l.lines.items ++ trees.body_lines (drop l.one-index l.all) l.scope (length l.lines.items)
