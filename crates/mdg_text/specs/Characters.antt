-- Tests of characters by their numbers, and of lists of characters.
use Rattle.std.specs.Prelude.{ℕ, ◌≡◌, ◌+◌, ◌-◌, Bool, true, false, cond, not, ◌&&◌, ◌||◌, ◌==◌, nat_lt, nat_le, List, [], ◌∷◌}
use Rattle.std.specs.Char.{len_utf8}
use Rattle.std.specs.List.{sum_by}
use Rattle.unicode_ident.specs.Ident.{is_xid_start, is_xid_continue}

unfoldable pub within : ℕ → ℕ → ℕ → Bool
within low high c = nat_le low c && nat_le c high

-- category Zs but for SP and NBSP
unfoldable pub is_separator : ℕ → Bool
is_separator c = (c == 0x1680) || (within 0x2000 0x200A c || ((c == 0x202F) || ((c == 0x205F) || (c == 0x3000))))

-- white space, 7.2: TAB, VT, FF, SP, NBSP, BOM and category Zs
unfoldable pub is_space : ℕ → Bool
is_space c = (c == 9) || ((c == 11) || ((c == 12) || ((c == 32) || ((c == 0xA0) || ((c == 0xFEFF) || is_separator c)))))

-- line ends, 7.3: LF, CR, LS and PS
unfoldable pub is_line_end : ℕ → Bool
is_line_end c = (c == 10) || ((c == 13) || ((c == 0x2028) || (c == 0x2029)))

unfoldable pub is_digit : ℕ → Bool
is_digit c = within 48 57 c

unfoldable pub is_hex_digit : ℕ → Bool
is_hex_digit c = is_digit c || (within 65 70 c || within 97 102 c)

-- what a hexadecimal digit counts for
unfoldable pub hex_value : ℕ → ℕ
hex_value c = cond (nat_lt c 58) (c - 48) (cond (nat_lt c 71) (c - 55) (c - 87))

-- a name may begin so, 7.6: XID_Start, `$` and `_`
unfoldable pub is_start : ℕ → Bool
is_start c = is_xid_start c || ((c == 36) || (c == 95))

-- and go on so: XID_Continue, `$`, U+200C and U+200D
unfoldable pub is_part : ℕ → Bool
is_part c = is_xid_continue c || ((c == 36) || ((c == 0x200C) || (c == 0x200D)))

unfoldable pub is_quote : ℕ → Bool
is_quote c = (c == 34) || (c == 39)

-- ExponentIndicator, 7.8.3: `e` or `E`
unfoldable pub is_exponent_indicator : ℕ → Bool
is_exponent_indicator c = (c == 101) || (c == 69)

-- `+` or `-`
unfoldable pub is_sign : ℕ → Bool
is_sign c = (c == 43) || (c == 45)

-- the `x` or `X` of a HexIntegerLiteral, 7.8.3
unfoldable pub is_hex_indicator : ℕ → Bool
is_hex_indicator c = (c == 120) || (c == 88)

-- units of UTF-16 that are the first, or the second, of a surrogate pair
unfoldable pub is_high : ℕ → Bool
is_high u = within 0xD800 0xDBFF u

unfoldable pub is_low : ℕ → Bool
is_low u = within 0xDC00 0xDFFF u

-- the first character passes
abbrev pub starts : (ℕ → Bool) → List ℕ → Bool
starts p [] = false
starts p (c ∷ cs) = p c

-- each passes
abbrev pub Each : (ℕ → Bool) → List ℕ → Type 0
Each p [] = Unit {0}
Each p (c ∷ cs) = (p c ≡ true) × Each p cs

-- one or more that pass
abbrev pub OneOrMore : (ℕ → Bool) → List ℕ → Type 0
OneOrMore p [] = ⊥
OneOrMore p (c ∷ cs) = (p c ≡ true) × Each p cs

-- no line end
abbrev pub in_line : ℕ → Bool
in_line c = not (is_line_end c)

-- how many bytes the characters take
unfoldable pub width : List ℕ → ℕ
width cs = sum_by len_utf8 cs

-- how many line ends; CR LF is one
unfoldable pub line_ends : List ℕ → ℕ
line_ends [] = 0
line_ends (c ∷ cs) = cond (is_line_end c && not ((c == 13) && starts (λ d. d == 10) cs)) 1 0 + line_ends cs
