-- The profile that stands where none is given: each base, then its members.
use Rattle.std.specs.Prelude.{List, [], ◌∷◌, ◌++◌, map, codes}
use Prim.Native.String.{String}
use Rattle.mdg_base.specs.declared.profile_word.Home.{Home}
use Rattle.mdg_base.specs.declared.profile_word.Home.TheVariants.{Global, Module}
use Rattle.mdg_base.specs.declared.profile_word.Kind.{Kind}
use Rattle.mdg_base.specs.declared.profile_word.Kind.TheVariants.{Sink, Quiet, Active}
use Rattle.mdg_profile.specs.declared.entry.Entry.{Entry}
use Rattle.mdg_profile.specs.declared.entry.Profile.{Profile}
use Rattle.mdg_profile.specs.Listing.{base_entry, member_entry}

-- names whose calls do the same
abbrev pub bases : Home → Kind → List String → List Entry
bases home kind = map (λ name. base_entry home (codes name) kind)

-- members of one base whose calls do the same
abbrev pub members : Home → String → Kind → List String → List Entry
members home base kind = map (λ member. member_entry home (codes base) (codes member) kind)

-- globals that have listed members, each before its members, and `eval`
unfoldable pub listed_globals : List Entry
listed_globals =
    bases Global (Sink (0 ∷ [])) ("eval" ∷ [])
    ++ bases Global Active ("Object" ∷ [])
    ++ members Global "Object" Quiet ("keys" ∷ "freeze" ∷ "isFrozen" ∷ "getOwnPropertyNames" ∷ "getPrototypeOf" ∷ [])
    ++ members Global "Object" Active ("create" ∷ "assign" ∷ "defineProperty" ∷ "defineProperties" ∷ [])
    ++ bases Global Active ("Array" ∷ [])
    ++ members Global "Array" Quiet ("isArray" ∷ [])
    ++ bases Global Active ("JSON" ∷ [])
    ++ members Global "JSON" Active ("parse" ∷ "stringify" ∷ [])
    ++ bases Global Active ("Math" ∷ [])
    ++ members Global "Math" Quiet ("abs" ∷ "ceil" ∷ "floor" ∷ "max" ∷ "min" ∷ "pow" ∷ "random" ∷ "round" ∷ "sqrt" ∷ [])
    ++ bases Global Active ("console" ∷ [])
    ++ members Global "console" Quiet ("log" ∷ "info" ∷ "warn" ∷ "error" ∷ [])

-- globals that answer from their arguments
unfoldable pub quiet_globals : List Entry
quiet_globals =
    bases Global Quiet ("String" ∷ "Number" ∷ "Boolean" ∷ "Date" ∷ "RegExp" ∷ "Error" ∷ "TypeError" ∷ "RangeError" ∷ "SyntaxError" ∷ "ReferenceError" ∷ "EvalError" ∷ "URIError" ∷ "parseInt" ∷ "parseFloat" ∷ "isNaN" ∷ "isFinite" ∷ "encodeURI" ∷ "encodeURIComponent" ∷ "decodeURI" ∷ "decodeURIComponent" ∷ "escape" ∷ "unescape" ∷ "clearTimeout" ∷ "clearInterval" ∷ "clearImmediate" ∷ "__dirname" ∷ "__filename" ∷ [])

-- globals that may do anything with their arguments
unfoldable pub active_globals : List Entry
active_globals =
    bases Global Active ("Function" ∷ "Promise" ∷ "Symbol" ∷ "Map" ∷ "Set" ∷ "WeakMap" ∷ "WeakSet" ∷ "ArrayBuffer" ∷ "DataView" ∷ "Uint8Array" ∷ "URL" ∷ "Buffer" ∷ "process" ∷ "global" ∷ "globalThis" ∷ "window" ∷ "self" ∷ "define" ∷ "setTimeout" ∷ "setInterval" ∷ "setImmediate" ∷ [])

-- each module, and then its members
unfoldable pub modules : List Entry
modules =
    bases Module Active ("child_process" ∷ [])
    ++ members Module "child_process" (Sink (0 ∷ [])) ("exec" ∷ "execSync" ∷ [])
    ++ members Module "child_process" (Sink (0 ∷ 1 ∷ [])) ("execFile" ∷ "execFileSync" ∷ "spawn" ∷ "spawnSync" ∷ [])
    ++ bases Module Active ("fs" ∷ [])
    ++ members Module "fs" (Sink (0 ∷ [])) ("readFile" ∷ "readFileSync" ∷ "writeFile" ∷ "writeFileSync" ∷ "unlink" ∷ "unlinkSync" ∷ [])
    ++ bases Module Active ("path" ∷ [])
    ++ members Module "path" Quiet ("join" ∷ "resolve" ∷ "basename" ∷ "dirname" ∷ "extname" ∷ "normalize" ∷ "relative" ∷ [])

-- the whole profile, in its order
unfoldable pub default_table : Profile
default_table = record { entries = listed_globals ++ quiet_globals ++ active_globals ++ modules }
