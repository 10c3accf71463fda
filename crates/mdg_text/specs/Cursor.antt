-- Serves only the proofs: places of a text.
use Rattle.std.specs.Prelude.{ℕ, ◌≡◌, ◌≤◌, ◌+◌, ◌-◌, Bool, not, ◌&&◌, ◌==◌, nat_lt, List, length, take, slice_index}
use Rattle.mdg_text.specs.declared.cursor.Cursor.{Cursor}
use Rattle.mdg_text.specs.Characters.{is_line_end, width, line_ends}

-- the cursor says how many bytes and line ends stand before its place
pub record IsCursor (text : List ℕ) (cursor : Cursor) : Type 0 where
  pub inside : cursor.at ≤ length text
  pub offset_is : cursor.offset ≡ width (take cursor.at text)
  pub line_is : cursor.line ≡ line_ends (take cursor.at text) + 1

-- the character at the place is LF after CR
abbrev pub is_second : List ℕ → ℕ → Bool
is_second text i = (slice_index text i == 10) && (nat_lt 0 i && (slice_index text (i - 1) == 13))

-- the character at the place ends a line that was not ended before it
abbrev pub ends_line : List ℕ → ℕ → Bool
ends_line text i = is_line_end (slice_index text i) && not (is_second text i)
