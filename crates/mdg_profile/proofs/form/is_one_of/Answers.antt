use Rattle.std.proofs.Common.{sym, ◌∙◌}
use Rattle.mdg_profile.proofs.Keys.{one_of_borrowed}
use Rattle.mdg_profile.proofs.form.is_one_of.Goals as goal

pub returns : goal.returns
returns c = c.contains.ensures.value ∙ sym (one_of_borrowed c.args.names.now c.args.text.now)
