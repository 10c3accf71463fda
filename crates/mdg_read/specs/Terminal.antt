-- The terminal of the grammar that a token is: tables of the keywords and the punctuators.
use Rattle.std.specs.Prelude.{if◌then◌else◌, ℕ, true, false, List, [], ◌∷◌, codes, bytes_eq}
use Rattle.mdg_text.specs.declared.token.Token.{Token}
use Rattle.mdg_text.specs.declared.token.TokenKind.{TokenKind}
use Rattle.mdg_read.specs.declared.terminal.Terminal.{Terminal}
use Rattle.mdg_text.specs.declared.token.TokenKind.TheVariants as kind
use Rattle.mdg_tree.specs.declared.operator.BinaryOperator.TheVariants as binary
use Rattle.mdg_tree.specs.declared.operator.UnaryOperator.TheVariants as unary
use Rattle.mdg_tree.specs.declared.operator.AssignOperator.TheVariants as assign
use Rattle.mdg_tree.specs.declared.operator.Step.TheVariants as step
use Rattle.mdg_read.specs.declared.terminal.Terminal.TheVariants as s

-- The terminal that a table has for this text, else the one that is given.
abbrev pub listed : List (List ℕ × Terminal) → Terminal → List ℕ → Terminal
listed [] other text = other
listed (row ∷ rows) other text = if bytes_eq text row.0 then row.1 else listed rows other text

-- the keywords of statements
abbrev pub control_words : List (List ℕ × Terminal)
control_words =
    (codes "break", s.Break)
    ∷ (codes "continue", s.Continue)
    ∷ (codes "do", s.Do)
    ∷ (codes "else", s.Else)
    ∷ (codes "for", s.For)
    ∷ (codes "if", s.If)
    ∷ (codes "return", s.Return)
    ∷ (codes "throw", s.Throw)
    ∷ (codes "while", s.While)
    ∷ []

-- the keywords of literals, functions, `new` and `var`
abbrev pub value_words : List (List ℕ × Terminal)
value_words =
    (codes "false", s.False)
    ∷ (codes "function", s.Function)
    ∷ (codes "new", s.New)
    ∷ (codes "null", s.Null)
    ∷ (codes "true", s.True)
    ∷ (codes "var", s.Var)
    ∷ []

-- the keywords that are operators
abbrev pub operator_words : List (List ℕ × Terminal)
operator_words =
    (codes "delete", s.Unary unary.Delete)
    ∷ (codes "in", s.Binary binary.In)
    ∷ (codes "instanceof", s.Binary binary.InstanceOf)
    ∷ (codes "typeof", s.Unary unary.TypeOf)
    ∷ (codes "void", s.Unary unary.Void)
    ∷ []

-- brackets
abbrev pub brackets : List (List ℕ × Terminal)
brackets =
    (codes "{", s.OpenBrace)
    ∷ (codes "}", s.CloseBrace)
    ∷ (codes "(", s.OpenParen)
    ∷ (codes ")", s.CloseParen)
    ∷ (codes "[", s.OpenBracket)
    ∷ (codes "]", s.CloseBracket)
    ∷ []

-- separators
abbrev pub points : List (List ℕ × Terminal)
points =
    (codes ".", s.Dot)
    ∷ (codes ";", s.Semicolon)
    ∷ (codes ",", s.Comma)
    ∷ (codes "?", s.Question)
    ∷ (codes ":", s.Colon)
    ∷ []

-- comparison operators
abbrev pub comparisons : List (List ℕ × Terminal)
comparisons =
    (codes "<", s.Binary binary.Less)
    ∷ (codes ">", s.Binary binary.Greater)
    ∷ (codes "<=", s.Binary binary.LessEqual)
    ∷ (codes ">=", s.Binary binary.GreaterEqual)
    ∷ (codes "==", s.Binary binary.Equal)
    ∷ (codes "!=", s.Binary binary.NotEqual)
    ∷ (codes "===", s.Binary binary.StrictEqual)
    ∷ (codes "!==", s.Binary binary.StrictNotEqual)
    ∷ []

-- arithmetic and update operators
abbrev pub arithmetic : List (List ℕ × Terminal)
arithmetic =
    (codes "+", s.Binary binary.Add)
    ∷ (codes "-", s.Binary binary.Subtract)
    ∷ (codes "*", s.Binary binary.Multiply)
    ∷ (codes "%", s.Binary binary.Remainder)
    ∷ (codes "/", s.Binary binary.Divide)
    ∷ (codes "++", s.Update step.Increment)
    ∷ (codes "--", s.Update step.Decrement)
    ∷ []

-- bitwise operators
abbrev pub bit_marks : List (List ℕ × Terminal)
bit_marks =
    (codes "<<", s.Binary binary.ShiftLeft)
    ∷ (codes ">>", s.Binary binary.ShiftRight)
    ∷ (codes ">>>", s.Binary binary.ShiftRightUnsigned)
    ∷ (codes "&", s.Binary binary.BitAnd)
    ∷ (codes "|", s.Binary binary.BitOr)
    ∷ (codes "^", s.Binary binary.BitXor)
    ∷ (codes "~", s.Unary unary.BitNot)
    ∷ []

-- logical operators
abbrev pub logic_marks : List (List ℕ × Terminal)
logic_marks =
    (codes "!", s.Unary unary.Not)
    ∷ (codes "&&", s.Binary binary.And)
    ∷ (codes "||", s.Binary binary.Or)
    ∷ []

-- assignment operators
abbrev pub assignments : List (List ℕ × Terminal)
assignments =
    (codes "=", s.Assign assign.Plain)
    ∷ (codes "+=", s.Assign assign.Add)
    ∷ (codes "-=", s.Assign assign.Subtract)
    ∷ (codes "*=", s.Assign assign.Multiply)
    ∷ (codes "%=", s.Assign assign.Remainder)
    ∷ (codes "/=", s.Assign assign.Divide)
    ∷ []

-- bitwise assignment operators
abbrev pub bit_assignments : List (List ℕ × Terminal)
bit_assignments =
    (codes "<<=", s.Assign assign.ShiftLeft)
    ∷ (codes ">>=", s.Assign assign.ShiftRight)
    ∷ (codes ">>>=", s.Assign assign.ShiftRightUnsigned)
    ∷ (codes "&=", s.Assign assign.BitAnd)
    ∷ (codes "|=", s.Assign assign.BitOr)
    ∷ (codes "^=", s.Assign assign.BitXor)
    ∷ []

abbrev pub keyword_terminal : List ℕ → Terminal
keyword_terminal text = listed control_words (listed value_words (listed operator_words s.ReservedWord text) text) text

abbrev pub punctuator_terminal : List ℕ → Terminal
punctuator_terminal text = listed brackets (listed points (listed comparisons (listed arithmetic (listed bit_marks (listed logic_marks (listed assignments (listed bit_assignments s.Other text) text) text) text) text) text) text) text

abbrev pub kind_terminal : TokenKind → List ℕ → Terminal
kind_terminal kind.Name text = s.Name
kind_terminal kind.Word text = keyword_terminal text
kind_terminal kind.Numeral text = s.Numeral
kind_terminal kind.Text text = s.Text
kind_terminal kind.Mark text = punctuator_terminal text

unfoldable pub token_terminal : Token → Terminal
token_terminal t = kind_terminal t.kind t.text
