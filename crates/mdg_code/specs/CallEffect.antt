-- What a call of a listed name may do. The kind of an entry is asked in these two words alone.
use Rattle.std.specs.Prelude.{Bool, true, false}
use Rattle.mdg_base.specs.declared.profile_word.Kind.{Kind}
use Rattle.mdg_base.specs.declared.profile_word.Kind.TheVariants.{Sink, Quiet, Active}

-- the call may do anything with what it is handed: all but quiet ones
abbrev pub is_active_kind : Kind → Bool
is_active_kind (Sink arguments) = true
is_active_kind Quiet = false
is_active_kind Active = true

-- what the call answers may come from its arguments
abbrev pub hands_arguments : Kind → Bool
hands_arguments (Sink arguments) = true
hands_arguments Quiet = true
hands_arguments Active = true
