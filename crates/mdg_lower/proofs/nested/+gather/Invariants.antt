use Rattle.std.proofs.Common.{take}
use Rattle.std.specs.List.{flat_map}
use Rattle.mdg_lower.specs.Nested.{Gathers, functions_of_expr, functions_of_property, functions_of_stmt, functions_of_declaration}
use Rattle.mdg_lower.proofs.nested.+gather.Given as goal

abbrev pub invariant-expressions-loop-one : goal.invariant-expressions-loop-one
invariant-expressions-loop-one l = Gathers (flat_map functions_of_expr (take l.one-index l.all)) l.fn.into l.into

abbrev pub invariant-properties-loop-one : goal.invariant-properties-loop-one
invariant-properties-loop-one l = Gathers (flat_map functions_of_property (take l.one-index l.all)) l.fn.into l.into

abbrev pub invariant-statements-loop-one : goal.invariant-statements-loop-one
invariant-statements-loop-one l = Gathers (flat_map functions_of_stmt (take l.one-index l.all)) l.fn.into l.into

abbrev pub invariant-declarations-loop-one : goal.invariant-declarations-loop-one
invariant-declarations-loop-one l = Gathers (flat_map functions_of_declaration (take l.one-index l.all)) l.fn.into l.into
