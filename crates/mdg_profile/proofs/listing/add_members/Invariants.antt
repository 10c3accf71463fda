use Rattle.std.proofs.Common.{◌≡◌, ◌++◌, ℕ, List, map, drop, Bor}
use Rattle.mdg_profile.specs.Listing.{member_entry, kind_of}
use Rattle.mdg_profile.proofs.listing.add_members.Given as goal

abbrev pub invariant-loop-name : goal.invariant-loop-name
invariant-loop-name l =
    let entry = λ (name : Bor (List ℕ)). member_entry l.home l.base name.now (kind_of l.calls) in
    l.entries ++ map entry (drop l.name-index l.names) ≡ l.fn.entries ++ map entry l.names
