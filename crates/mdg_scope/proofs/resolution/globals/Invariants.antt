use Rattle.std.proofs.Common.{◌≡◌, [], drop}
use Rattle.mdg_scope.specs.Resolution.{globals_from}
use Rattle.mdg_scope.proofs.resolution.globals.Given as goal

abbrev pub invariant-loop-entry : goal.invariant-loop-entry
invariant-loop-entry l = globals_from [] l.entries ≡ globals_from l.table (drop l.entry-index l.entries)
