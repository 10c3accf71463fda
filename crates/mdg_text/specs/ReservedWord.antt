-- The reserved words of strict code, 7.6.1, with `null`, `true` and `false`, in groups of five.
use Rattle.std.specs.Prelude.{ℕ, List, [], ◌∷◌, ◌++◌, codes}

abbrev pub break_to_const : List (List ℕ)
break_to_const = codes "break" ∷ codes "case" ∷ codes "catch" ∷ codes "class" ∷ codes "const" ∷ []

abbrev pub continue_to_do : List (List ℕ)
continue_to_do = codes "continue" ∷ codes "debugger" ∷ codes "default" ∷ codes "delete" ∷ codes "do" ∷ []

abbrev pub else_to_false : List (List ℕ)
else_to_false = codes "else" ∷ codes "enum" ∷ codes "export" ∷ codes "extends" ∷ codes "false" ∷ []

abbrev pub finally_to_implements : List (List ℕ)
finally_to_implements = codes "finally" ∷ codes "for" ∷ codes "function" ∷ codes "if" ∷ codes "implements" ∷ []

abbrev pub import_to_let : List (List ℕ)
import_to_let = codes "import" ∷ codes "in" ∷ codes "instanceof" ∷ codes "interface" ∷ codes "let" ∷ []

abbrev pub new_to_protected : List (List ℕ)
new_to_protected = codes "new" ∷ codes "null" ∷ codes "package" ∷ codes "private" ∷ codes "protected" ∷ []

abbrev pub public_to_switch : List (List ℕ)
public_to_switch = codes "public" ∷ codes "return" ∷ codes "static" ∷ codes "super" ∷ codes "switch" ∷ []

abbrev pub this_to_typeof : List (List ℕ)
this_to_typeof = codes "this" ∷ codes "throw" ∷ codes "true" ∷ codes "try" ∷ codes "typeof" ∷ []

abbrev pub var_to_yield : List (List ℕ)
var_to_yield = codes "var" ∷ codes "void" ∷ codes "while" ∷ codes "with" ∷ codes "yield" ∷ []

abbrev pub reserved_words : List (List ℕ)
reserved_words = break_to_const ++ continue_to_do ++ else_to_false ++ finally_to_implements ++ import_to_let ++ new_to_protected
    ++ public_to_switch ++ this_to_typeof ++ var_to_yield
