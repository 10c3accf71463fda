-- Lines of offsets past the end of a file.
use Rattle.std.proofs.Common.{◌≡◌, ℕ, ◌+◌, ◌<◌, ◌≤◌, List, length, take, min, sym, ◌∙◌, ap, arith}
use Rattle.std.proofs.lemmas.List.{take_all}
use Rattle.mdg_text.specs.Lines.{byte_line_ends, line_at}
use native.Mathlib.Decide.{dec_lt}

pub line_within : (bytes : List ℕ) (offset : ℕ) → line_at bytes (min offset (length bytes)) ≡ line_at bytes offset
line_within bytes offset = elim (dec_lt (length bytes) offset) [ yes past ↦ ap (λ front. byte_line_ends front + 1) (at_end past) | no inside ↦ ap (line_at bytes) (within (omega (arith, inside))) ]
  where
    at_end : length bytes < offset → take (min offset (length bytes)) bytes ≡ take offset bytes
    at_end past = take_all (min offset (length bytes)) bytes (omega arith) ∙ sym (take_all offset bytes (omega arith))

    within : offset ≤ length bytes → min offset (length bytes) ≡ offset
    within inside = omega arith
