use Rattle.std.proofs.Common.{◌≡◌, take}
use Rattle.mdg_tree.proofs.duplicate.+copy.Given as goal

abbrev pub invariant-copy_all-loop-one : goal.invariant-copy_all-loop-one
invariant-copy_all-loop-one l = l.made ≡ take l.one-index l.all

abbrev pub invariant-copy_body-loop-one : goal.invariant-copy_body-loop-one
invariant-copy_body-loop-one l = l.made ≡ take l.one-index l.body

abbrev pub invariant-copy_properties-loop-one : goal.invariant-copy_properties-loop-one
invariant-copy_properties-loop-one l = l.made ≡ take l.one-index l.all

abbrev pub invariant-copy_declarations-loop-one : goal.invariant-copy_declarations-loop-one
invariant-copy_declarations-loop-one l = l.made ≡ take l.one-index l.all
