use Rattle.std.proofs.Common.{◌≡◌, drop}
use Rattle.mdg_lower.specs.Columns.{add_names}
use Rattle.mdg_lower.proofs.environment.add_each.Given as goal

abbrev pub invariant-loop-name : goal.invariant-loop-name
invariant-loop-name l = add_names l.fn.table l.names ≡ add_names l.table (drop l.name-index l.names)
