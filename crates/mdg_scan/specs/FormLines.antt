-- The lines of the first form, by what spells them.
use Rattle.std.specs.Prelude.{◌≡◌, ℕ, ◌&&◌, ◌||◌, ◌==◌, nat_le, not, Bool, List, [], ◌∷◌, ◌++◌, length, codes, ⊤, IfSome, Option, Some, None, true, false}
use Rattle.std.specs.List.{list_any}
use Rattle.std.specs.Str.{bytes_eq}
use Rattle.mdg_scan.specs.declared.first.line.Class.{Class}
use Rattle.mdg_scan.specs.declared.first.line.Class.TheVariants.{Lower, Plain}

-- a lower-case letter
abbrev pub is_lower : ℕ → Bool
is_lower c = nat_le 97 c && nat_le c 122

-- a letter, a digit or a space
abbrev pub is_plain : ℕ → Bool
is_plain c = is_lower c || (nat_le 65 c && nat_le c 90) || (nat_le 48 c && nat_le c 57) || c == 32

-- a byte of this class
abbrev pub in_class : Class → ℕ → Bool
in_class Lower c = is_lower c
in_class Plain c = is_plain c

-- each byte passes the test
abbrev pub EachIs : (ℕ → Bool) → List ℕ → Type 0
EachIs p [] = ⊤
EachIs p (c ∷ cs) = (p c ≡ true) × EachIs p cs

-- the first byte, if there is one, doesn't pass
abbrev pub Stops : (ℕ → Bool) → List ℕ → Type 0
Stops p [] = ⊤
Stops p (c ∷ cs) = p c ≡ false

-- the words that no name may spell
abbrev pub choices : List (List ℕ)
choices = codes "case" ∷ codes "default" ∷ codes "else" ∷ codes "if" ∷ codes "switch" ∷ []

abbrev pub blocks : List (List ℕ)
blocks = codes "do" ∷ codes "for" ∷ codes "try" ∷ codes "while" ∷ codes "with" ∷ []

abbrev pub exits : List (List ℕ)
exits = codes "break" ∷ codes "continue" ∷ codes "return" ∷ codes "throw" ∷ codes "yield" ∷ []

abbrev pub operators : List (List ℕ)
operators = codes "delete" ∷ codes "in" ∷ codes "instanceof" ∷ codes "typeof" ∷ codes "void" ∷ []

abbrev pub values : List (List ℕ)
values = codes "false" ∷ codes "null" ∷ codes "super" ∷ codes "this" ∷ codes "true" ∷ []

abbrev pub declarations : List (List ℕ)
declarations = codes "class" ∷ codes "const" ∷ codes "function" ∷ codes "let" ∷ codes "var" ∷ []

abbrev pub types : List (List ℕ)
types = codes "enum" ∷ codes "extends" ∷ codes "implements" ∷ codes "interface" ∷ codes "new" ∷ []

abbrev pub scopes : List (List ℕ)
scopes = codes "package" ∷ codes "private" ∷ codes "protected" ∷ codes "public" ∷ codes "static" ∷ []

abbrev pub others : List (List ℕ)
others = codes "catch" ∷ codes "debugger" ∷ codes "export" ∷ codes "finally" ∷ codes "import" ∷ []

-- the names that each file has of its own
abbrev pub module_names : List (List ℕ)
module_names = codes "exports" ∷ codes "module" ∷ codes "require" ∷ []

-- the names that mean something where nothing declares them
abbrev pub predefined : List (List ℕ)
predefined = codes "arguments" ∷ codes "eval" ∷ codes "undefined" ∷ []

abbrev pub is_among : List (List ℕ) → List ℕ → Bool
is_among texts text = list_any (λ t. bytes_eq t text) texts

unfoldable pub is_reserved : List ℕ → Bool
is_reserved name =
    is_among choices name || (is_among blocks name || (is_among exits name || (is_among operators name
    || (is_among values name || (is_among declarations name || (is_among types name || (is_among scopes name
    || (is_among others name || (is_among module_names name || is_among predefined name)))))))))

-- 1 to 20 bytes that spell no reserved word
abbrev pub is_free : List ℕ → Bool
is_free name = nat_le 1 (length name) && (nat_le (length name) 20 && not (is_reserved name))

pub record IsFirstName (name : List ℕ) : Type 0 where
  pub lower : EachIs is_lower name
  pub free : is_free name ≡ true

abbrev pub directive : List ℕ
directive = codes "'use strict';"

-- what follows the parameter in the call: a text that is added, or nothing
abbrev pub ending : Option (List ℕ) → List ℕ
ending None = codes "); }"
ending (Some text) = codes " + '" ++ (text ++ codes "'); }")

-- what follows the parameter of the function
abbrev pub call : List ℕ → Option (List ℕ) → List ℕ
call parameter text = codes ") { eval(" ++ (parameter ++ ending text)

-- the line that declares a function
abbrev pub function_line : List ℕ → List ℕ → Option (List ℕ) → List ℕ
function_line name parameter text = codes "function " ++ (name ++ (codes "(" ++ (parameter ++ call parameter text)))

-- the line that exports the function with this name
abbrev pub exports_line : List ℕ → List ℕ
exports_line name = codes "module.exports = " ++ (name ++ codes ";")

pub record IsEnding (bytes : List ℕ) (text : Option (List ℕ)) : Type 0 where
  pub plain : IfSome text (EachIs is_plain)
  pub spelt : bytes ≡ ending text

pub record IsCall (bytes parameter : List ℕ) (text : Option (List ℕ)) : Type 0 where
  pub lower : EachIs is_lower parameter
  pub plain : IfSome text (EachIs is_plain)
  pub spelt : bytes ≡ call parameter text

pub record IsFunctionLine (line name parameter : List ℕ) (text : Option (List ℕ)) : Type 0 where
  pub named : IsFirstName name
  pub takes : IsFirstName parameter
  pub plain : IfSome text (EachIs is_plain)
  pub spelt : line ≡ function_line name parameter text
