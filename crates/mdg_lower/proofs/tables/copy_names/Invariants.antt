use Rattle.std.proofs.Common.{◌≡◌, ◌++◌, drop}
use Rattle.mdg_lower.proofs.tables.copy_names.Given as goal

abbrev pub invariant-loop-name : goal.invariant-loop-name
invariant-loop-name l = l.names ≡ l.made ++ drop l.name-index l.names
