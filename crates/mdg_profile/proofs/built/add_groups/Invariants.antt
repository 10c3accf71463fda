use Rattle.std.proofs.Common.{◌≡◌, ◌++◌, drop}
use Rattle.std.specs.List.{flat_map}
use Rattle.mdg_profile.specs.Listing.{group_entries}
use Rattle.mdg_profile.proofs.built.add_groups.Given as goal

abbrev pub invariant-loop-group : goal.invariant-loop-group
invariant-loop-group l =
    l.entries ++ flat_map group_entries (drop l.group-index l.groups)
    ≡ l.fn.entries ++ flat_map group_entries l.groups
