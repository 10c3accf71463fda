use Rattle.std.proofs.Common.{◌≡◌, ◌∙◌, ap, sym}
use Rattle.std.specs.declared.option.Option.TheVariants.{Some}
use Rattle.mdg_site.specs.Blocks.{slot_at}
use Rattle.mdg_site.proofs.slot.slot_at.Goals as goal

pub returns-in-Some : goal.returns-in-Some
returns-in-Some c f n t = c.slot.ensures f n t ∙ ap (slot_at f c.args.block) (sym c.in-Some.is)
