-- String literals, 7.8.4.
use Rattle.std.specs.Prelude.{ℕ, ◌≡◌, ◌+◌, ◌-◌, ◌*◌, true, false, cond, ◌&&◌, ◌==◌, List, [], ◌∷◌, ◌++◌}
use Rattle.mdg_text.specs.Characters.{is_line_end, is_digit, is_hex_digit, hex_value, is_high, is_low, starts}

-- What a character stands for after a backslash, 7.8.4: `\b \t \n \v \f \r`, and else itself.
unfoldable pub escaped : ℕ → ℕ
escaped c = cond (c == 98) 8 (cond (c == 116) 9 (cond (c == 110) 10 (cond (c == 118) 11 (cond (c == 102) 12 (cond (c == 114) 13 c)))))

abbrev pub two_digits : ℕ → ℕ → ℕ
two_digits a b = hex_value a * 16 + hex_value b

abbrev pub four_digits : ℕ → ℕ → ℕ → ℕ → ℕ
four_digits a b c d = (two_digits a b * 16 + hex_value c) * 16 + hex_value d

-- four hexadecimal digits, their number, and what follows them
pub data IsHex4 : List ℕ → ℕ → List ℕ → Type 0 where
  digits : (a b c d : ℕ) {value : ℕ} {rest : List ℕ} → is_hex_digit a ≡ true → is_hex_digit b ≡ true → is_hex_digit c ≡ true → is_hex_digit d ≡ true
      → value ≡ four_digits a b c d → IsHex4 (a ∷ b ∷ c ∷ d ∷ rest) value rest

-- the character of a pair
abbrev pub paired : ℕ → ℕ → ℕ
paired high low = 0x10000 + (high - 0xD800) * 0x400 + (low - 0xDC00)

-- what stands after `\u`, its character, and what follows it; a pair of surrogates is one character
pub data IsUnicode : List ℕ → ℕ → List ℕ → Type 0 where
  single : {text rest : List ℕ} {c : ℕ} → IsHex4 text c rest → is_high c ≡ false → is_low c ≡ false → IsUnicode text c rest
  pair : (middle : List ℕ) (high low : ℕ) {text rest : List ℕ} {c : ℕ} → IsHex4 text high (92 ∷ 117 ∷ middle) → is_high high ≡ true
      → IsHex4 middle low rest → is_low low ≡ true → c ≡ paired high low → IsUnicode text c rest

-- `\` and this character stand for a character each: neither a line end nor a digit, `x` or `u`
pub record IsSimple (c : ℕ) : Type 0 where
  pub in_line_is : is_line_end c ≡ false
  pub digit : is_digit c ≡ false
  pub hex : (c == 120) ≡ false
  pub unicode : (c == 117) ≡ false

-- One character of a string, or its escape sequence: it begins the first list, stands for the second, and the third follows it.
pub data IsStringCharacter (quote : ℕ) : List ℕ → List ℕ → List ℕ → Type 0 where
  plain : {c : ℕ} {rest : List ℕ} → is_line_end c ≡ false → (c == quote) ≡ false → (c == 92) ≡ false → IsStringCharacter quote (c ∷ rest) (c ∷ []) rest
  simple : {c : ℕ} {rest : List ℕ} → IsSimple c → IsStringCharacter quote (92 ∷ c ∷ rest) (escaped c ∷ []) rest
  -- `\0` before no digit
  null : {rest : List ℕ} → starts is_digit rest ≡ false → IsStringCharacter quote (92 ∷ 48 ∷ rest) (0 ∷ []) rest
  hex : {a b : ℕ} {rest : List ℕ} → is_hex_digit a ≡ true → is_hex_digit b ≡ true → IsStringCharacter quote (92 ∷ 120 ∷ a ∷ b ∷ rest) (two_digits a b ∷ []) rest
  unicode : {c : ℕ} {text rest : List ℕ} → IsUnicode text c rest → IsStringCharacter quote (92 ∷ 117 ∷ text) (c ∷ []) rest
  -- a line continuation
  joined : {c : ℕ} {rest : List ℕ} → is_line_end c ≡ true → ((c == 13) && starts (λ d. d == 10) rest) ≡ false → IsStringCharacter quote (92 ∷ c ∷ rest) [] rest
  joined_two : {rest : List ℕ} → IsStringCharacter quote (92 ∷ 13 ∷ 10 ∷ rest) [] rest

-- the characters up to the closing quote, what they stand for, and what follows the quote
pub data IsStringBody (quote : ℕ) : List ℕ → List ℕ → List ℕ → Type 0 where
  close : {rest : List ℕ} → IsStringBody quote (quote ∷ rest) [] rest
  more : {text middle all rest : List ℕ} (one others : List ℕ) → IsStringCharacter quote text one middle → IsStringBody quote middle others rest → all ≡ one ++ others → IsStringBody quote text all rest
