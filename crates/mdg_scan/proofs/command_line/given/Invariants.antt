use Rattle.std.proofs.Common.{◌≡◌, Some, take}
use Rattle.mdg_scan.specs.CommandLine as defined
use Rattle.mdg_scan.proofs.command_line.given.Given as goal

abbrev pub invariant-loop-argument : goal.invariant-loop-argument
invariant-loop-argument l = defined.given (take l.argument-index l.arguments) ≡ Some l.given
