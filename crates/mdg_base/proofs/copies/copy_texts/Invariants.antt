use Rattle.std.proofs.Common.{◌≡◌, take}
use Rattle.mdg_base.proofs.copies.copy_texts.Given as goal

abbrev pub invariant-loop-one : goal.invariant-loop-one
invariant-loop-one l = l.made ≡ take l.one-index l.all
