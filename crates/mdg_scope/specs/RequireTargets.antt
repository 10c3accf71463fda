-- What a call of `require` asks for, by its text and the path of its file.
use Rattle.std.specs.Prelude.{ℕ, ◌==◌, nat_eq, Bool, ◌||◌, List, [], ◌∷◌, ◌++◌, codes, length, drop, Option, Some, None, if◌then◌else◌}
use Rattle.std.specs.List.{starts_with, ends_with}
use Rattle.std.specs.Str.{bytes_eq}
use Rattle.mdg_base.specs.Segments.{segments, followed, stays, folder_of}
use Rattle.mdg_scope.specs.declared.require_target.RequireTarget.{RequireTarget}
use Rattle.mdg_scope.specs.declared.require_target.RequireTarget.TheVariants.{Refused, Bare, InPackage}

-- from the folder of the file with this path along the text, where that never leaves the package's folder
abbrev pub joined : List ℕ → List ℕ → Option (List (List ℕ))
joined path text = if stays (folder_of path) (segments text) then Some (followed (folder_of path) (segments text)) else None

-- each segment after a `/`
abbrev pub slashed : List (List ℕ) → List ℕ
slashed [] = []
slashed (segment ∷ rest) = codes "/" ++ (segment ++ slashed rest)

abbrev pub has_prefix : List ℕ → List ℕ → Bool
has_prefix text prefix = starts_with nat_eq text prefix

abbrev pub is_relative : List ℕ → Bool
is_relative text = (bytes_eq text (codes ".") || bytes_eq text (codes "..")) || (has_prefix text (codes "./") || has_prefix text (codes "../"))

-- a bare text without `node:`
abbrev pub without_node : List ℕ → List ℕ
without_node text = if has_prefix text (codes "node:") then drop 5 text else text

-- a relative text whose path is this one: data passes as bare
abbrev pub found : List ℕ → Option (List (List ℕ)) → RequireTarget
found text None = Refused
found text (Some segments) = if ends_with nat_eq text (codes ".json") then Bare (codes "." ++ slashed segments) else InPackage

abbrev pub relative : List ℕ → List ℕ → RequireTarget
relative path text = if ends_with nat_eq text (codes ".node") then Refused else found text (joined path text)

-- what the text asks for
abbrev pub target_of : List ℕ → List ℕ → RequireTarget
target_of path text = if (length text == 0) || has_prefix text (codes "/") then Refused else (if is_relative text then relative path text else Bare (without_node text))
