use Rattle.std.proofs.Common.{take, map}
use Rattle.std.specs.List.{AllZip}
use Rattle.mdg_profile.specs.Entries.{IsEntry}
use Rattle.mdg_profile.specs.Format.{IsFirst}
use Rattle.serde_json.specs.View.{view}
use Rattle.mdg_profile.proofs.read.entries_of.Given as goal

abbrev pub invariant-loop-index : goal.invariant-loop-index
invariant-loop-index l = record {
  zip : AllZip IsEntry (take l.index (map view l.values)) l.entries;
  first : IsFirst (map view l.values) l.index;
}
