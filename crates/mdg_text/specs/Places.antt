-- Serves only the proofs: what the code reads, at places of the whole text, as what the scanner reads.
use Rattle.std.specs.Prelude.{ℕ, List, [], ◌∷◌, Option, Some, None, drop}
use Rattle.mdg_text.specs.declared.lexeme.Lexeme.{Lexeme}
use Rattle.mdg_text.specs.declared.string_literal.CodeUnit.{CodeUnit}
use Rattle.mdg_text.specs.declared.string_literal.Scanned.{Scanned}
use Rattle.mdg_text.specs.declared.string_literal.ScannedString.{ScannedString}
use Rattle.mdg_text.specs.Scanner.{Found, Part, part, Unit16, unit16}

abbrev pub rest_at : List ℕ → Option ℕ → Option (List ℕ)
rest_at text None = None
rest_at text (Some i) = Some (drop i text)

abbrev pub found_at : List ℕ → Option Lexeme → Option Found
found_at text None = None
found_at text (Some f) = Some (record { kind = f.kind; value = f.value; rest = drop f.next text })

abbrev pub unit_at : List ℕ → Option CodeUnit → Option Unit16
unit_at text None = None
unit_at text (Some u) = Some (unit16 u.value (drop u.next text))

abbrev pub option_list : Option ℕ → List ℕ
option_list None = []
option_list (Some c) = c ∷ []

abbrev pub scanned_at : List ℕ → Option Scanned → Option Part
scanned_at text None = None
scanned_at text (Some e) = Some (part (option_list e.value) (drop e.next text))

abbrev pub scanned_string_at : List ℕ → Option ScannedString → Option Part
scanned_string_at text None = None
scanned_string_at text (Some q) = Some (part q.value.items (drop q.next text))
