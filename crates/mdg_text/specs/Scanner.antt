-- Serves only the proofs: the scanner on lists. Each function reads a prefix of a text, as far as it can, and gives what is left.
use Rattle.std.specs.Prelude.{ℕ, zero, suc, ◌-◌, Bool, true, false, cond, not, ◌&&◌, ◌||◌, ◌==◌, nat_le, List, [], ◌∷◌, ◌++◌, length, take, drop, Option, Some, None}
use Rattle.std.specs.Str.{encode_utf8_all}
use Rattle.mdg_text.specs.declared.token.TokenKind.{TokenKind}
use Rattle.mdg_text.specs.declared.token.TokenKind.TheVariants as variant
use Rattle.mdg_text.specs.Characters.{is_space, is_line_end, is_digit, is_hex_digit, is_start, is_part, is_quote, is_exponent_indicator, is_sign, is_hex_indicator, is_high, is_low, starts}
use Rattle.mdg_text.specs.ReservedWord.{reserved_words}
use Rattle.mdg_text.specs.Punctuator.{punctuators}
use Rattle.mdg_text.specs.Characters.{in_line}
use Rattle.mdg_text.specs.StringLiteral.{escaped, two_digits, four_digits, paired}

infixl 10 ◌>>=◌
abbrev pub ◌>>=◌ : {A B : Type 0} → Option A → (A → Option B) → Option B
None >>= f = None
(Some x) >>= f = f x

-- the rest after the characters that pass
unfoldable pub skip : (ℕ → Bool) → List ℕ → List ℕ
skip p [] = []
skip p (c ∷ cs) = cond (p c) (skip p cs) (c ∷ cs)

-- the prefix up to a rest
unfoldable pub before : List ℕ → List ℕ → List ℕ
before text rest = take (length text - length rest) text

unfoldable pub same_text : List ℕ → List ℕ → Bool
same_text [] [] = true
same_text [] (d ∷ ds) = false
same_text (c ∷ cs) [] = false
same_text (c ∷ cs) (d ∷ ds) = (c == d) && same_text cs ds

unfoldable pub is_in : List (List ℕ) → List ℕ → Bool
is_in [] x = false
is_in (y ∷ ys) x = same_text y x || is_in ys x

-- after the `#!` line
unfoldable pub after_script : List ℕ → List ℕ
after_script [] = []
after_script (c ∷ cs) = cond ((c == 35) && starts (λ d. d == 33) cs) (skip in_line (drop 1 cs)) (c ∷ cs)

-- after the next `*/`
unfoldable pub after_close : List ℕ → Option (List ℕ)
after_close [] = None
after_close (c ∷ []) = None
after_close (c ∷ d ∷ ds) = cond ((c == 42) && (d == 47)) (Some ds) (after_close (d ∷ ds))

-- after a comment whose first `/` is gone
unfoldable pub comment : List ℕ → Option (List ℕ)
comment [] = None
comment (c ∷ cs) = cond (c == 47) (Some (skip in_line cs)) (cond (c == 42) (after_close cs) None)

unfoldable pub skip_one : List ℕ → Option (List ℕ)
skip_one [] = None
skip_one (c ∷ cs) = cond (is_space c || is_line_end c) (Some cs) (cond (c == 47) (comment cs) None)

abbrev pub or_else : {A B : Type 0} → Option A → (A → B) → B → B
or_else None f b = b
or_else (Some a) f b = f a

unfoldable pub skip_trivia : ℕ → List ℕ → List ℕ
skip_trivia zero text = text
skip_trivia (suc n) text = or_else (skip_one text) (skip_trivia n) text

-- a token that is read, with its text and what is left
pub record Found : Type 0 where
  pub kind : TokenKind
  pub value : List ℕ
  pub rest : List ℕ

abbrev pub kind_of : List ℕ → TokenKind
kind_of text = cond (is_in reserved_words text) variant.Word variant.Name

abbrev pub found_name : List ℕ → List ℕ → Found
found_name text rest = record { kind = kind_of (encode_utf8_all (before text rest)); value = encode_utf8_all (before text rest); rest = rest }

unfoldable pub name_at : List ℕ → Option Found
name_at [] = None
name_at (c ∷ cs) = cond (is_start c) (Some (found_name (c ∷ cs) (skip is_part cs))) None

unfoldable pub integer : List ℕ → Option (List ℕ)
integer [] = None
integer (c ∷ cs) = cond (c == 48) (Some cs) (cond (is_digit c) (Some (skip is_digit cs)) None)

unfoldable pub may_follow : Bool → List ℕ → Bool
may_follow plain rest = not (starts is_digit rest) && (not (starts is_start rest) && not (plain && starts (λ c. c == 46) rest))

unfoldable pub checked : Bool → List ℕ → Option (List ℕ)
checked plain rest = cond (may_follow plain rest) (Some rest) None

-- the digits of an exponent
unfoldable pub power : List ℕ → Option (List ℕ)
power text = cond (starts is_digit text) (checked false (skip is_digit text)) None

-- the same after an ExponentIndicator
unfoldable pub signed_power : List ℕ → Option (List ℕ)
signed_power [] = None
signed_power (c ∷ cs) = cond (is_sign c) (power cs) (power (c ∷ cs))

unfoldable pub exponent : Bool → List ℕ → Option (List ℕ)
exponent plain [] = checked plain []
exponent plain (c ∷ cs) = cond (is_exponent_indicator c) (signed_power cs) (checked plain (c ∷ cs))

unfoldable pub fraction : List ℕ → Option (List ℕ)
fraction [] = checked true []
fraction (c ∷ cs) = cond (c == 46) (exponent false (skip is_digit cs)) (exponent true (c ∷ cs))

unfoldable pub hexadecimal : List ℕ → Option (List ℕ)
hexadecimal text = cond (starts is_hex_digit text) (checked false (skip is_hex_digit text)) None

unfoldable pub decimal : List ℕ → Option (List ℕ)
decimal text = integer text >>= fraction

unfoldable pub number : List ℕ → Option (List ℕ)
number [] = None
number (c ∷ cs) = cond (c == 46) (cond (starts is_digit cs) (exponent false (skip is_digit cs)) None)
    (cond ((c == 48) && starts is_hex_indicator cs) (hexadecimal (drop 1 cs)) (decimal (c ∷ cs)))

unfoldable pub number_at : List ℕ → Option Found
number_at text = do
  r ← number text
  Some (record { kind = variant.Numeral; value = encode_utf8_all (before text r); rest = r })

-- what is read of a string, and what is left
pub record Part : Type 0 where
  pub value : List ℕ
  pub rest : List ℕ

abbrev pub part : List ℕ → List ℕ → Part
part value rest = record { value = value; rest = rest }

-- a unit of UTF-16, and what is left
pub record Unit16 : Type 0 where
  pub value : ℕ
  pub rest : List ℕ

abbrev pub unit16 : ℕ → List ℕ → Unit16
unit16 value rest = record { value = value; rest = rest }

unfoldable pub hex4 : List ℕ → Option Unit16
hex4 (a ∷ b ∷ c ∷ d ∷ rest) = cond ((is_hex_digit a && is_hex_digit b) && (is_hex_digit c && is_hex_digit d)) (Some (unit16 (four_digits a b c d) rest)) None
hex4 _ = None

unfoldable pub second_hex4 : List ℕ → Option Unit16
second_hex4 (c ∷ d ∷ rest) = cond ((c == 92) && (d == 117)) (hex4 rest) None
second_hex4 _ = None

unfoldable pub low_hex4 : ℕ → List ℕ → Option Unit16
low_hex4 high text = second_hex4 text >>= λ l. cond (is_low l.value) (Some (unit16 (paired high l.value) l.rest)) None

unfoldable pub unicode : List ℕ → Option Unit16
unicode text = hex4 text >>= λ h. cond (is_high h.value) (low_hex4 h.value h.rest) (cond (is_low h.value) None (Some h))

-- an escape by its number, after `\u`
unfoldable pub unicode_escape : List ℕ → Option Part
unicode_escape text = unicode text >>= λ u. Some (part (u.value ∷ []) u.rest)

-- and after `\x`
unfoldable pub hex_escape : List ℕ → Option Part
hex_escape (a ∷ b ∷ rest) = cond (is_hex_digit a && is_hex_digit b) (Some (part (two_digits a b ∷ []) rest)) None
hex_escape _ = None

-- the rest after a line end whose first character is gone
unfoldable pub after_line_end : ℕ → List ℕ → List ℕ
after_line_end c rest = cond ((c == 13) && starts (λ d. d == 10) rest) (drop 1 rest) rest

-- `\0`, after its digit
unfoldable pub null_escape : ℕ → List ℕ → Option Part
null_escape c rest = cond ((c == 48) && not (starts is_digit rest)) (Some (part (0 ∷ []) rest)) None

unfoldable pub escape : List ℕ → Option Part
escape [] = None
escape (c ∷ cs) = cond (is_line_end c) (Some (part [] (after_line_end c cs)))
    (cond (is_digit c) (null_escape c cs) (cond (c == 120) (hex_escape cs) (cond (c == 117) (unicode_escape cs) (Some (part (escaped c ∷ []) cs)))))

unfoldable pub string_character : List ℕ → Option Part
string_character [] = None
string_character (c ∷ cs) = cond (is_line_end c) None (cond (c == 92) (escape cs) (Some (part (c ∷ []) cs)))

unfoldable pub string_body : ℕ → ℕ → List ℕ → List ℕ → Option Part
string_body zero quote value text = None
string_body (suc n) quote value [] = None
string_body (suc n) quote value (c ∷ cs) = cond (c == quote) (Some (part value cs))
    (string_character (c ∷ cs) >>= λ e. string_body n quote (value ++ e.value) e.rest)

unfoldable pub string_at : ℕ → List ℕ → Option Found
string_at n [] = None
string_at n (c ∷ cs) = cond (is_quote c) (string_body n c [] cs >>= λ b. Some (record { kind = variant.Text; value = encode_utf8_all b.value; rest = b.rest })) None

abbrev pub found_punctuator : ℕ → List ℕ → Found
found_punctuator n text = record { kind = variant.Mark; value = encode_utf8_all (take n text); rest = drop n text }

-- the longest punctuator of at most n characters
unfoldable pub punctuator_of : ℕ → List ℕ → Option Found
punctuator_of zero text = None
punctuator_of (suc n) text = cond (nat_le (suc n) (length text) && is_in punctuators (take (suc n) text))
    (Some (found_punctuator (suc n) text)) (punctuator_of n text)

-- the one that leaves less
unfoldable pub longer : Option Found → Option Found → Option Found
longer None b = b
longer (Some a) None = Some a
longer (Some a) (Some b) = cond (nat_le (length a.rest) (length b.rest)) (Some a) (Some b)

-- the longest spelling
unfoldable pub longest_at : ℕ → List ℕ → Option Found
longest_at n text = longer (name_at text) (longer (number_at text) (longer (string_at n text) (punctuator_of 4 text)))

unfoldable pub begins_html_comment : List ℕ → Bool
begins_html_comment (a ∷ b ∷ c ∷ d ∷ rest) = ((a == 60) && (b == 33)) && ((c == 45) && (d == 45))
begins_html_comment _ = false

-- the token: the longest spelling, and none at `<!--`
unfoldable pub token_at : ℕ → List ℕ → Option Found
token_at n text = cond (begins_html_comment text) None (longest_at n text)
