use Rattle.std.proofs.Common.{◌≡◌, ◌+◌, drop}
use Rattle.mdg_lower.specs.Environment as environment
use Rattle.mdg_lower.proofs.environment.after_cells.Given as goal

abbrev pub invariant-loop-function : goal.invariant-loop-function
invariant-loop-function l = l.cell + environment.cells_of l.functions ≡ l.next + environment.cells_of (drop l.function-index l.functions)
