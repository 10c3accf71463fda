use Rattle.std.proofs.Common.{◌≡◌, take, min}
use Rattle.std.specs.Prelude.{map}
use Rattle.mdg_tree.specs.Height.{height, stmt_height, property_height, declaration_height, highest}
use Rattle.mdg_tree.proofs.measure.+height.Given as goal

abbrev pub invariant-of_all-loop-one : goal.invariant-of_all-loop-one
invariant-of_all-loop-one l = l.most ≡ min (highest (map height (take l.one-index l.all))) 1000

abbrev pub invariant-of_properties-loop-one : goal.invariant-of_properties-loop-one
invariant-of_properties-loop-one l = l.most ≡ min (highest (map property_height (take l.one-index l.all))) 1000

abbrev pub invariant-of_body-loop-one : goal.invariant-of_body-loop-one
invariant-of_body-loop-one l = l.most ≡ min (highest (map stmt_height (take l.one-index l.body))) 1000

abbrev pub invariant-of_declarations-loop-one : goal.invariant-of_declarations-loop-one
invariant-of_declarations-loop-one l = l.most ≡ min (highest (map declaration_height (take l.one-index l.all))) 1000
