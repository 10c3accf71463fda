-- What stands between tokens: white space, line ends and comments, 7.2 to 7.4, and the `#!` line at the start of a file.
use Rattle.std.specs.Prelude.{ℕ, ◌≡◌, ◌≤◌, Bool, true, false, ◌&&◌, ◌==◌, List, [], ◌∷◌, ◌++◌, length}
use Rattle.mdg_text.specs.Characters.{is_space, is_line_end, starts, Each, in_line}

-- White space, a line end or a comment (7.2 to 7.4), with what follows it.
pub data IsTriviaElement : List ℕ → List ℕ → Type 0 where
  space : {c : ℕ} {rest : List ℕ} → is_space c ≡ true → IsTriviaElement (c ∷ []) rest
  line_end : {c : ℕ} {rest : List ℕ} → is_line_end c ≡ true → IsTriviaElement (c ∷ []) rest
  -- `//` to before the next line end
  to_line_end : {body rest : List ℕ} → Each in_line body → starts in_line rest ≡ false → IsTriviaElement (47 ∷ 47 ∷ body) rest
  -- `/*` to the first `*/`
  to_close : (body : List ℕ) {element rest : List ℕ} → element ≡ 47 ∷ 42 ∷ (body ++ (42 ∷ 47 ∷ []))
      → ((a b : List ℕ) → body ++ (42 ∷ 47 ∷ []) ≡ a ++ (42 ∷ 47 ∷ b) → length body ≤ length a) → IsTriviaElement element rest

-- Trivia: elements one after another, or none, with what follows them.
pub data IsTrivia : List ℕ → List ℕ → Type 0 where
  none : {rest : List ℕ} → IsTrivia [] rest
  more : (first others : List ℕ) {trivia rest : List ℕ} → IsTriviaElement first (others ++ rest) → IsTrivia others rest → trivia ≡ first ++ others → IsTrivia trivia rest

-- white space, a line end or a closed comment begins
abbrev pub BeginsTrivia : List ℕ → Type 0
BeginsTrivia text = (first rest : List ℕ) × IsTriviaElement first rest × (text ≡ first ++ rest)

-- `#!` begins it
abbrev pub starts_script : List ℕ → Bool
starts_script [] = false
starts_script (c ∷ cs) = (c == 35) && starts (λ d. d == 33) cs

-- The first line of a file that begins with `#!`, without its line end, and what follows; nothing in any other file.
pub data IsScriptLine : List ℕ → List ℕ → Type 0 where
  absent : {rest : List ℕ} → starts_script rest ≡ false → IsScriptLine [] rest
  present : {body rest : List ℕ} → Each in_line body → starts in_line rest ≡ false → IsScriptLine (35 ∷ 33 ∷ body) rest
