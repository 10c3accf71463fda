use Rattle.std.proofs.Common.{◌≡◌, drop}
use Rattle.mdg_pack.specs.ModuleTable.{lookup_in}
use Rattle.mdg_pack.proofs.module_table.lookup.Given as goal

abbrev pub invariant-loop-one : goal.invariant-loop-one
invariant-loop-one l = lookup_in l.probes l.path ≡ lookup_in (drop l.one-index l.probes) l.path
