use Rattle.std.proofs.Common.{◌≡◌, take}
use Rattle.mdg_read.specs.Semicolon as semicolons
use Rattle.mdg_read.proofs.semicolon.var_terminator.Given as goal

abbrev pub invariant-loop-one : goal.invariant-loop-one
invariant-loop-one l = l.terminator ≡ semicolons.var_terminator (take l.one-index l.all)
