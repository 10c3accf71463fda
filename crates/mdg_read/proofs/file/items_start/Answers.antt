use Rattle.std.proofs.Common.{sym, ◌∙◌}
use Rattle.mdg_read.proofs.Files.{begun, no_close}
use Rattle.mdg_read.proofs.file.items_start.Goals as goal

pub returns-in-Ok : goal.returns-in-Ok
returns-in-Ok c = begun c.args.tokens.now c.in-Ok.start (sym c.has_directive.ensures ∙ c.if-not-has_directive.false) c.in-Ok.ensures

pub returns-in-Err-NoTree : goal.returns-in-Err-NoTree
returns-in-Err-NoTree c = no_close c.args.tokens.now (rw c.in-Err-NoTree.field-0-is at c.in-Err-NoTree.ensures)
