use Rattle.std.proofs.Common.{◌≡◌, [], drop}
use Rattle.mdg_scope.specs.Collectors.{parameter_occurrences}
use Rattle.mdg_scope.proofs.collector.parameters.Given as goal

abbrev pub invariant-loop-index : goal.invariant-loop-index
invariant-loop-index l = parameter_occurrences l.function.parameter_offsets l.function.offset l.within [] 0 l.function.parameters l.fn.into
    ≡ parameter_occurrences l.function.parameter_offsets l.function.offset l.within l.seen l.index (drop l.index l.function.parameters) l.into
