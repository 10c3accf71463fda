-- Which tokens are a file, and what each answer of `read_file` says of them.
use Rattle.std.specs.Prelude.{ℕ, ◌==◌, Bool, true, false, ◌&&◌, List, length, codes, Option, Some, None, slice_get, bytes_eq, ◌≡◌, ◌+◌, ◌<◌, ◌≤◌, map, Result, Ok, Err}
use Rattle.mdg_text.specs.declared.token.Token.{Token}
use Rattle.mdg_text.specs.declared.token.TokenKind.{TokenKind}
use Rattle.mdg_tree.specs.Height.{stmt_height, file_height, highest}
use Rattle.mdg_tree.specs.declared.tree.FileTree.{FileTree}
use Rattle.mdg_tree.specs.declared.tree.Stmt.{Stmt}
use Rattle.mdg_read.specs.declared.refusal.ReadRefusal.{ReadRefusal}
use Rattle.mdg_read.specs.declared.refusal.ReadRefusal.TheVariants.{NotStrict, NotCore, NoTree, NoMemory}
use Rattle.mdg_text.specs.declared.token.TokenKind.TheVariants as kind
use Rattle.mdg_read.specs.declared.semicolon.Terminator.TheVariants as terminator
use Rattle.mdg_read.specs.Excluded.{IsFirstExcluded, IsCore}
use Rattle.mdg_read.specs.Grammar.{SpellsStatement, SpellsItems}
use Rattle.mdg_read.specs.Semicolon.{SpellsSemicolon}
use Rattle.mdg_read.specs.Tokens.{Tokens, position_at, text_at, offset_at}

-- The directive is a string literal of 12 bytes with its quotes, so it has no escapes.
abbrev pub is_text : TokenKind → Bool
is_text kind.Text = true
is_text _ = false

abbrev pub is_directive : Option Token → Bool
is_directive None = false
is_directive (Some t) = is_text t.kind && bytes_eq t.text (codes "use strict") && t.to == t.from + 12

-- The directive and its closing semicolon stand before this place.
pub data Begins (ts : Tokens) : ℕ → Type 0 where
  directive : {j : ℕ} → is_directive (slice_get ts 0) ≡ true → SpellsSemicolon ts terminator.Plain 1 j → Begins ts j

-- the greatest height of an item of a file
abbrev pub item_height_limit : ℕ
item_height_limit = 255

-- the greatest height of a file
abbrev pub file_height_limit : ℕ
file_height_limit = 256

-- The directive, its semicolon, and the items are all the tokens, and the tree is no higher than the limit.
pub record IsFile (ts : Tokens) (tree : FileTree) : Type 0 where
  pub start : ℕ
  pub begins : Begins ts start
  pub first : tree.at ≡ position_at ts 0
  pub spelled : SpellsItems ts true tree.items start (length ts)
  pub low : file_height tree ≤ file_height_limit

-- An item is due at i, and none of the height allowed begins there.
pub record IsDue (ts : Tokens) (i : ℕ) : Type 0 where
  pub start : ℕ
  pub begins : Begins ts start
  pub before : List Stmt
  pub reached : SpellsItems ts true before start i
  pub low : highest (map stmt_height before) ≤ item_height_limit
  pub inside : i < length ts
  pub nothing : (t : Stmt) (j : ℕ) → SpellsStatement ts true t i j → stmt_height t ≤ item_height_limit → ⊥

-- the tree, unless memory runs out
abbrev pub Reads : Result FileTree ReadRefusal → FileTree → Type 0
Reads (Ok read) tree = read ≡ tree
Reads (Err NoMemory) tree = Unit {0}
Reads (Err NotStrict) tree = ⊥
Reads (Err (NotCore word o)) tree = ⊥
Reads (Err (NoTree o)) tree = ⊥

-- What each answer says of the tokens. Each of the first three refusals excludes the answers below it, so it comes exactly where its fact holds.
abbrev pub HasCause : Tokens → Result FileTree ReadRefusal → Type 0
HasCause ts (Err NoMemory) = Unit {0}
HasCause ts (Err NotStrict) = (j : ℕ) → Begins ts j → ⊥
HasCause ts (Err (NotCore word o)) = (j : ℕ) × Begins ts j × ((i : ℕ) × IsFirstExcluded ts i × (word ≡ text_at ts i) × (o ≡ offset_at ts i))
HasCause ts (Err (NoTree o)) = IsCore ts × ((i : ℕ) × IsDue ts i × (o ≡ offset_at ts i))
HasCause ts (Ok tree) = IsCore ts × IsFile ts tree

-- the place at which the items begin
abbrev pub StartCause : Tokens → Result ℕ ReadRefusal → Type 0
StartCause ts (Ok j) = Begins ts j
StartCause ts (Err NoMemory) = Unit {0}
StartCause ts (Err NotStrict) = (j : ℕ) → Begins ts j → ⊥
StartCause ts (Err (NotCore word o)) = ⊥
StartCause ts (Err (NoTree o)) = ⊥

-- the items from a start on
pub record AreItems (ts : Tokens) (start : ℕ) (items : List Stmt) (i : ℕ) : Type 0 where
  pub reached : SpellsItems ts true items start i
  pub low : highest (map stmt_height items) ≤ item_height_limit
  pub inside : i ≤ length ts

abbrev pub ItemsCause : Tokens → ℕ → Result (List Stmt) ReadRefusal → Type 0
ItemsCause ts start (Ok items) = AreItems ts start items (length ts)
ItemsCause ts start (Err NoMemory) = Unit {0}
ItemsCause ts start (Err NotStrict) = ⊥
ItemsCause ts start (Err (NotCore word o)) = ⊥
ItemsCause ts start (Err (NoTree o)) = (i : ℕ) × IsDue ts i × (o ≡ offset_at ts i)

-- the refusal of the word at a place
abbrev pub RefusesWord : Tokens → ℕ → ReadRefusal → Type 0
RefusesWord ts i (NotCore word o) = (word ≡ text_at ts i) × (o ≡ offset_at ts i)
RefusesWord ts i NoMemory = Unit {0}
RefusesWord ts i NotStrict = ⊥
RefusesWord ts i (NoTree o) = ⊥
