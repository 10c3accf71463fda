-- The numerals that may be keys of an object.
use Rattle.std.specs.Prelude.{ℕ, ◌==◌, Bool, true, false, ◌&&◌, ◌||◌, nat_le, List, [], ◌∷◌, length}

abbrev pub is_digit : ℕ → Bool
is_digit c = nat_le 48 c && nat_le c 57

abbrev pub are_digits : List ℕ → Bool
are_digits [] = true
are_digits (c ∷ cs) = is_digit c && are_digits cs

-- A plain numeral is `0`, or a digit from 1 to 9 and then at most 14 digits.
abbrev pub is_plain : List ℕ → Bool
is_plain [] = false
is_plain (c ∷ cs) = (c == 48 && length cs == 0) || (nat_le 49 c && nat_le c 57 && are_digits cs && nat_le (length cs) 14)
