use Rattle.std.proofs.Common.{◌≡◌, ◌++◌, ℕ, List, map, drop, Bor}
use Rattle.mdg_profile.specs.Listing.{base_entry, kind_of}
use Rattle.mdg_profile.proofs.listing.add_bases.Given as goal

abbrev pub invariant-loop-name : goal.invariant-loop-name
invariant-loop-name l =
    let entry = λ (name : Bor (List ℕ)). base_entry l.home name.now (kind_of l.calls) in
    l.entries ++ map entry (drop l.name-index l.names) ≡ l.fn.entries ++ map entry l.names
