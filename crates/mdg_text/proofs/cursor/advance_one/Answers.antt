use Rattle.std.proofs.Common.{arith}
use Rattle.mdg_text.proofs.CursorLemmas.{lines_before, width_part}
use Rattle.mdg_text.proofs.cursor.advance_one.Goals as goal

pub overflow_add-line : goal.overflow_add-line
overflow_add-line c = let few = lines_before c.args.text.now c.args.cursor.at (omega arith) in omega arith

pub overflow_add-offset : goal.overflow_add-offset
overflow_add-offset c = let part = width_part c.args.text.now c.args.cursor.at in omega arith
