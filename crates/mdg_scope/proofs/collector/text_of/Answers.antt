use Rattle.std.proofs.Common.{sym, ◌∙◌}
use Rattle.mdg_scope.proofs.Equations.{same_text}
use Rattle.mdg_scope.proofs.collector.text_of.Goals as goal

pub returns : goal.returns
returns c = c.string_of.ensures ∙ sym (same_text c.args.tree.now)
