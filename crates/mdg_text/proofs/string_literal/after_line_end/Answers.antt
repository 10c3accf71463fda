use Rattle.std.proofs.Common.{rules, arith}
use Rattle.std.proofs.lemmas.Grind.{common_steps}
use Rattle.std.proofs.lemmas.List.{drop-drop}
use Rattle.mdg_text.specs.Scanner.{after_line_end}
use Rattle.mdg_text.proofs.string_literal.after_line_end.Goals as goal

pub returns-then-is_line_feed_at-clause-rest : goal.returns-then-is_line_feed_at-clause-rest
unfolding Rattle.mdg_text.specs.Scanner.after_line_end
returns-then-is_line_feed_at-clause-rest c = let e = drop-drop 1 c.args.at c.args.text.now in first_of (search rules, grind (arith, common_steps))
