use Rattle.std.proofs.Common.{◌≡◌, ◌+◌, ◌*◌, ◌≤◌, ◌++◌, drop, length}
use Rattle.mdg_scan.specs.Lowered.{functions_lines, function_rows}
use Rattle.mdg_scan.proofs.first.lowering.lower_functions.Given as goal

abbrev pub invariant-loop-at : goal.invariant-loop-at
invariant-loop-at l =
    (l.lines ++ functions_lines (l.at + 1) (drop l.at l.functions) ≡ l.fn.lines ++ functions_lines 1 l.fn.functions)
    × (l.rows ++ function_rows (l.at + 1) (length l.lines) (drop l.at l.functions) ≡ l.fn.rows ++ function_rows 1 (length l.fn.lines) l.fn.functions)
    × (length l.lines ≤ length l.fn.lines + 8 * l.at)
