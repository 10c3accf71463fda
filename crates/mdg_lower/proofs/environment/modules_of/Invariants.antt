use Rattle.std.proofs.Common.{◌≡◌, ◌++◌, drop}
use Rattle.mdg_lower.specs.Environment as environment
use Rattle.mdg_lower.proofs.environment.modules_of.Given as goal

abbrev pub invariant-loop-file : goal.invariant-loop-file
invariant-loop-file l = environment.modules_from 0 l.files ≡ l.made ++ environment.modules_from l.next (drop l.file-index l.files)
