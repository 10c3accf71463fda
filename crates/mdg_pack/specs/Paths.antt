-- Paths from the package's folder.
use Rattle.std.specs.Prelude.{ℕ, List, [], ◌∷◌, ◌++◌, fold}

-- a path or a segment of one, as its bytes
abbrev pub FilePath : Type 0
FilePath = List ℕ

-- one more segment
unfoldable pub joined : FilePath → FilePath → FilePath
joined [] segment = segment
joined (c ∷ cs) segment = (c ∷ cs) ++ 47 ∷ segment

-- the path of a place
unfoldable pub path_of : List FilePath → FilePath
path_of place = fold joined [] place
