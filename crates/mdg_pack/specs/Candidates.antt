-- The candidates that a text names.
use Rattle.std.specs.Prelude.{Bool, true, false, ◌||◌, if◌then◌else◌, List, [], ◌∷◌, ◌++◌, codes, nat_eq}
use Rattle.std.specs.List.{ends_with}
use Rattle.std.specs.Str.{bytes_eq}
use Rattle.mdg_base.specs.Segments.{segments, followed}
use Rattle.mdg_pack.specs.Paths.{FilePath, joined, path_of}

-- the entry where no `main` names it
abbrev pub index : FilePath
index = codes "index.js"

abbrev pub has_end : FilePath → FilePath → Bool
has_end end text = ends_with nat_eq text end

-- the text names a folder: it ends in a slash, or `.` or `..` is its last segment
unfoldable pub names_folder : FilePath → Bool
names_folder text =
    has_end (codes "/") text || bytes_eq text (codes ".") || bytes_eq text (codes "..")
    || has_end (codes "/.") text || has_end (codes "/..") text

-- the path as it is, where it names a script
abbrev pub as_it_is : FilePath → List FilePath
as_it_is path = if has_end (codes ".js") path then path ∷ [] else []

-- the candidates for what a path names, in order
unfoldable pub candidates : Bool → FilePath → List FilePath
candidates true path = joined path index ∷ []
candidates false path = as_it_is path ++ (path ++ codes ".js") ∷ joined path index ∷ []

-- the candidates of a text that stands in this folder, in order
unfoldable pub candidates_from : List FilePath → FilePath → List FilePath
candidates_from folder text = candidates (names_folder text) (path_of (followed folder (segments text)))
