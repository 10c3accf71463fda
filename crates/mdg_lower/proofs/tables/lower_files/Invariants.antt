use Rattle.std.proofs.Common.{◌≡◌, drop}
use Rattle.mdg_lower.specs.Tables.{lower_files}
use Rattle.mdg_lower.specs.TableUpdates.{lowering_of}
use Rattle.mdg_lower.proofs.tables.lower_files.Given as goal

abbrev pub invariant-loop-bound : goal.invariant-loop-bound
invariant-loop-bound l = lower_files l.modules l.profile.entries l.files (lowering_of l.fn.lines.items l.fn.tables)
    ≡ lower_files l.modules l.profile.entries (drop l.bound-index l.files) (lowering_of l.lines.items l.tables)
