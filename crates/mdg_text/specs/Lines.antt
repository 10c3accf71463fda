-- Line ends among bytes, which need not be a text.
use Rattle.std.specs.Prelude.{ℕ, ◌+◌, Bool, false, cond, not, ◌&&◌, ◌||◌, ◌==◌, List, [], ◌∷◌, take}
use Rattle.mdg_text.specs.Characters.{starts}

-- 80 A8 and 80 A9, after E2
abbrev pub ends_separator : List ℕ → Bool
ends_separator [] = false
ends_separator (b ∷ bs) = (b == 0x80) && starts (λ d. (d == 0xA8) || (d == 0xA9)) bs

-- the byte is 0A, 0D that no 0A follows, or E2 of E2 80 A8 or E2 80 A9; so 0D 0A counts once, at its 0A
abbrev pub ends_line_at : ℕ → List ℕ → Bool
ends_line_at b bs = (b == 10) || (((b == 13) && not (starts (λ d. d == 10) bs)) || ((b == 0xE2) && ends_separator bs))

-- how many line ends the bytes hold
unfoldable pub byte_line_ends : List ℕ → ℕ
byte_line_ends [] = 0
byte_line_ends (b ∷ bs) = cond (ends_line_at b bs) 1 0 + byte_line_ends bs

-- the line of an offset, from 1
abbrev pub line_at : List ℕ → ℕ → ℕ
line_at bytes offset = byte_line_ends (take offset bytes) + 1
