-- The entry of a name, and the entry of a member.
use Rattle.std.specs.Prelude.{ℕ, List, map, Option, Some, None}
use Rattle.std.specs.Borrow.{Bor}
use Rattle.mdg_base.specs.declared.profile_word.Home.{Home}
use Rattle.mdg_base.specs.declared.profile_word.Kind.{Kind}
use Rattle.mdg_base.specs.declared.profile_word.Kind.TheVariants as kind
use Rattle.mdg_profile.specs.declared.entry.Entry.{Entry}
use Rattle.mdg_profile.specs.declared.listing.Group.{Group}
use Rattle.mdg_profile.specs.declared.listing.Calls.{Calls}
use Rattle.mdg_profile.specs.declared.listing.Calls.TheVariants.{Sink, Quiet, Active}

-- the entry of the name itself
abbrev pub base_entry : Home → List ℕ → Kind → Entry
base_entry home name kind = record { home = home; name = name; member = None; kind = kind }

-- the entry of a member of the name
abbrev pub member_entry : Home → List ℕ → List ℕ → Kind → Entry
member_entry home name member kind = record { home = home; name = name; member = Some member; kind = kind }

abbrev pub kind_of : Calls → Kind
kind_of (Sink arguments) = kind.Sink arguments.now
kind_of Quiet = kind.Quiet
kind_of Active = kind.Active

-- the entries of names: the names themselves, or members of a base
abbrev pub entries_of : Home → Option (Bor (List ℕ)) → Kind → List (Bor (List ℕ)) → List Entry
entries_of home None kind names = map (λ name. base_entry home name.now kind) names
entries_of home (Some base) kind names = map (λ name. member_entry home base.now name.now kind) names

abbrev pub group_entries : Group → List Entry
group_entries group = entries_of group.home group.base (kind_of group.calls) group.names.now
