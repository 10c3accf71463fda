use Rattle.std.proofs.Common.{◌≡◌, [], map, drop}
use Rattle.mdg_scope.specs.Collectors.{repeated_keys}
use Rattle.mdg_scope.specs.Occurrences.{property_occurrences}
use Rattle.mdg_scope.proofs.collector.repeated_keys.Given as goal

abbrev pub invariant-loop-property : goal.invariant-loop-property
invariant-loop-property l = repeated_keys l.within [] (map property_occurrences l.properties) l.fn.into ≡ repeated_keys l.within l.seen (map property_occurrences (drop l.property-index l.properties)) l.into
