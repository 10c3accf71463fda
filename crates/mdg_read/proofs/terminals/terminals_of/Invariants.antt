use Rattle.std.proofs.Common.{◌≡◌, map, take}
use Rattle.mdg_read.specs.Terminal as table
use Rattle.mdg_read.proofs.terminals.terminals_of.Given as goal

abbrev pub invariant-loop-token : goal.invariant-loop-token
invariant-loop-token l = l.terminals.items ≡ map table.token_terminal (take l.token-index l.all)
