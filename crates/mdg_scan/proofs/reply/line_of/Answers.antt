use Rattle.std.proofs.Common.{rules}
use mathlib.Core.List.{append_assoc}
use Rattle.mdg_scan.proofs.reply.line_of.Goals as goal

pub returns : goal.returns
returns c = search (rules, append_assoc)
