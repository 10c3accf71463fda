-- The punctuators, 7.7, in groups of at most five.
use Rattle.std.specs.Prelude.{ℕ, List, [], ◌∷◌, ◌++◌, codes}

abbrev pub brackets : List (List ℕ)
brackets = codes "{" ∷ codes "}" ∷ codes "(" ∷ codes ")" ∷ codes "[" ∷ []

abbrev pub separators : List (List ℕ)
separators = codes "]" ∷ codes "." ∷ codes ";" ∷ codes "," ∷ codes "?" ∷ []

abbrev pub signs : List (List ℕ)
signs = codes ":" ∷ codes "<" ∷ codes ">" ∷ codes "=" ∷ codes "!" ∷ []

abbrev pub arithmetic : List (List ℕ)
arithmetic = codes "+" ∷ codes "-" ∷ codes "*" ∷ codes "/" ∷ codes "%" ∷ []

abbrev pub bitwise : List (List ℕ)
bitwise = codes "&" ∷ codes "|" ∷ codes "^" ∷ codes "~" ∷ []

abbrev pub comparisons : List (List ℕ)
comparisons = codes "<=" ∷ codes ">=" ∷ codes "==" ∷ codes "!=" ∷ []

abbrev pub shifts_and_updates : List (List ℕ)
shifts_and_updates = codes "++" ∷ codes "--" ∷ codes "<<" ∷ codes ">>" ∷ []

abbrev pub connectives : List (List ℕ)
connectives = codes "&&" ∷ codes "||" ∷ []

abbrev pub arithmetic_assignments : List (List ℕ)
arithmetic_assignments = codes "+=" ∷ codes "-=" ∷ codes "*=" ∷ codes "/=" ∷ codes "%=" ∷ []

abbrev pub bitwise_assignments : List (List ℕ)
bitwise_assignments = codes "&=" ∷ codes "|=" ∷ codes "^=" ∷ []

abbrev pub one_character : List (List ℕ)
one_character = brackets ++ separators ++ signs ++ arithmetic ++ bitwise

abbrev pub two_characters : List (List ℕ)
two_characters = comparisons ++ shifts_and_updates ++ connectives ++ arithmetic_assignments ++ bitwise_assignments

abbrev pub three_characters : List (List ℕ)
three_characters = codes "===" ∷ codes "!==" ∷ codes ">>>" ∷ codes "<<=" ∷ codes ">>=" ∷ []

abbrev pub four_characters : List (List ℕ)
four_characters = codes ">>>=" ∷ []

abbrev pub punctuators : List (List ℕ)
punctuators = one_character ++ two_characters ++ three_characters ++ four_characters
