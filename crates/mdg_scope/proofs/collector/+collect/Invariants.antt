use Rattle.std.proofs.Common.{◌≡◌, map, drop}
use Rattle.mdg_scope.specs.Collectors.{read_all, all_values, collect_all}
use Rattle.mdg_scope.specs.Occurrences.{expr_collector, property_occurrences, stmt_occurrences, declaration_occurrences}
use Rattle.mdg_scope.proofs.collector.+collect.Given as goal

abbrev pub invariant-expressions-loop-one : goal.invariant-expressions-loop-one
invariant-expressions-loop-one l = read_all (map expr_collector l.all) l.context l.fn.into ≡ read_all (map expr_collector (drop l.one-index l.all)) l.context l.into

abbrev pub invariant-values-loop-one : goal.invariant-values-loop-one
invariant-values-loop-one l = all_values (map property_occurrences l.all) l.context l.fn.into ≡ all_values (map property_occurrences (drop l.one-index l.all)) l.context l.into

abbrev pub invariant-statements-loop-one : goal.invariant-statements-loop-one
invariant-statements-loop-one l = collect_all (map stmt_occurrences l.all) l.context l.fn.into ≡ collect_all (map stmt_occurrences (drop l.one-index l.all)) l.context l.into

abbrev pub invariant-declarations-loop-one : goal.invariant-declarations-loop-one
invariant-declarations-loop-one l = collect_all (map declaration_occurrences l.all) l.context l.fn.into ≡ collect_all (map declaration_occurrences (drop l.one-index l.all)) l.context l.into
