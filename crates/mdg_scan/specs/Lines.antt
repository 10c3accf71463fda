-- The lines of a file. Each ends with a line feed, which may be missing after the last one.
use Rattle.std.specs.Prelude.{◌≡◌, ℕ, ◌==◌, ◌<◌, if◌then◌else◌, Bool, false, List, [], ◌∷◌, ◌++◌, length}
use Rattle.std.specs.List.{list_any}

-- the byte goes onto the front of the first line
abbrev pub onto_first : ℕ → List (List ℕ) → List (List ℕ)
onto_first b [] = (b ∷ []) ∷ []
onto_first b (line ∷ lines) = (b ∷ line) ∷ lines

abbrev pub lines_of : List ℕ → List (List ℕ)
lines_of [] = []
lines_of (b ∷ bytes) = if b == 10 then [] ∷ lines_of bytes else onto_first b (lines_of bytes)

abbrev pub has_feed : List ℕ → Bool
has_feed line = list_any (λ b. b == 10) line

-- the bytes are those of the lines: there is none, or a last one that lacks its line feed and has some other byte, or
-- one with its line feed and then others
pub data AreLines : List ℕ → List (List ℕ) → Type 0 where
  none : AreLines [] []
  last : (line : List ℕ) → has_feed line ≡ false → 0 < length line → AreLines line (line ∷ [])
  more : (line rest : List ℕ) (lines : List (List ℕ)) → has_feed line ≡ false → AreLines rest lines → AreLines (line ++ 10 ∷ rest) (line ∷ lines)
