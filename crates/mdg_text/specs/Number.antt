-- Numeric literals, 7.8.3.
use Rattle.std.specs.Prelude.{ℕ, ◌≡◌, Bool, true, false, ◌==◌, List, [], ◌∷◌, ◌++◌, ◌⊎◌}
use Rattle.mdg_text.specs.Characters.{is_digit, is_hex_digit, is_start, is_exponent_indicator, is_sign, is_hex_indicator, starts, Each, OneOrMore}

-- 0, or digits without a leading 0
abbrev pub IsInteger : List ℕ → Type 0
IsInteger ds = (ds ≡ 48 ∷ []) ⊎ (OneOrMore is_digit ds × (starts (λ d. d == 48) ds ≡ false))

-- A decimal literal without its exponent, 7.8.3; `true` where it is digits alone.
pub data IsMantissa : Bool → List ℕ → Type 0 where
  integer : {a : List ℕ} → IsInteger a → IsMantissa true a
  point : (a b : List ℕ) {prefix : List ℕ} → IsInteger a → Each is_digit b → prefix ≡ a ++ 46 ∷ b → IsMantissa false prefix
  fraction : {b : List ℕ} → OneOrMore is_digit b → IsMantissa false (46 ∷ b)

pub data IsExponent : List ℕ → Type 0 where
  unsigned : {e : ℕ} {ds : List ℕ} → is_exponent_indicator e ≡ true → OneOrMore is_digit ds → IsExponent (e ∷ ds)
  signed : {e s : ℕ} {ds : List ℕ} → is_exponent_indicator e ≡ true → is_sign s ≡ true → OneOrMore is_digit ds → IsExponent (e ∷ s ∷ ds)

-- A numeric literal, 7.8.3; `true` where it is decimal digits alone.
pub data IsNumericLiteral : Bool → List ℕ → Type 0 where
  decimal : {plain : Bool} {prefix : List ℕ} → IsMantissa plain prefix → IsNumericLiteral plain prefix
  scaled : (plain : Bool) (mantissa exponent : List ℕ) {prefix : List ℕ} → IsMantissa plain mantissa → IsExponent exponent → prefix ≡ mantissa ++ exponent → IsNumericLiteral false prefix
  hexadecimal : {x : ℕ} {ds : List ℕ} → is_hex_indicator x ≡ true → OneOrMore is_hex_digit ds → IsNumericLiteral false (48 ∷ x ∷ ds)

-- What may follow a numeric literal: no digit, no start of a name, and no `.` after decimal digits alone.
pub record MayFollow (plain : Bool) (rest : List ℕ) : Type 0 where
  pub digit : starts is_digit rest ≡ false
  pub name : starts is_start rest ≡ false
  pub point : plain ≡ true → starts (λ c. c == 46) rest ≡ false
