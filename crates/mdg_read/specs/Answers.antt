-- What holds of trees, of due items and of answers, for all tokens.
use Rattle.std.specs.Prelude.{◌≡◌, ℕ, ◌≤◌, Bool, Option, Some, Result, Err}
use Rattle.mdg_tree.specs.declared.tree.FileTree.{FileTree}
use Rattle.mdg_tree.specs.declared.tree.Stmt.{Stmt}
use Rattle.mdg_tree.specs.Height.{stmt_height}
use Rattle.mdg_tree.specs.Offsets.{HasAscendingOffsets}
use Rattle.mdg_text.specs.TokenOrder.{StandFrom}
use Rattle.mdg_read.specs.declared.parsed.Parsed.{Parsed}
use Rattle.mdg_read.specs.declared.refusal.ReadRefusal.{ReadRefusal}
use Rattle.mdg_read.specs.declared.refusal.ReadRefusal.TheVariants.{NoMemory}
use Rattle.mdg_read.specs.Tokens.{Tokens}
use Rattle.mdg_read.specs.Grammar.{SpellsStatement}
use Rattle.mdg_read.specs.Files.{IsFile, IsDue, HasCause}
use Rattle.mdg_read.specs.Reference.{stmt_at}

-- at most one tree, of a height that is allowed, spells the tokens of a file,
abbrev pub HasOneTree : Type 0
HasOneTree = (tokens : Tokens) (tree other : FileTree) → IsFile tokens tree → IsFile tokens other → tree ≡ other

-- none spells them where an item is due and none begins,
abbrev pub IsNeverBoth : Type 0
IsNeverBoth = (tokens : Tokens) (place : ℕ) (tree : FileTree) → IsDue tokens place → IsFile tokens tree → ⊥

-- and at most one item is due
abbrev pub HasOneDueItem : Type 0
HasOneDueItem = (tokens : Tokens) (place other : ℕ) → IsDue tokens place → IsDue tokens other → place ≡ other

-- tokens have at most one answer but the refusal of memory,
abbrev pub HasOneAnswer : Type 0
HasOneAnswer = (tokens : Tokens) (a b : Result FileTree ReadRefusal) → (a ≡ Err NoMemory → ⊥) → (b ≡ Err NoMemory → ⊥) → HasCause tokens a → HasCause tokens b → a ≡ b

-- and at least one
abbrev pub HasSomeAnswer : Type 0
HasSomeAnswer = (tokens : Tokens) → (answer : Result FileTree ReadRefusal) × (answer ≡ Err NoMemory → ⊥) × HasCause tokens answer

-- what the reference reader reads is spelled,
abbrev pub ReadsWhatIsSpelled : Type 0
ReadsWhatIsSpelled = (tokens : Tokens) (limit : ℕ) (top : Bool) (place : ℕ) (read : Parsed Stmt) → stmt_at tokens limit top place ≡ Some read → SpellsStatement tokens top read.tree place read.next

-- and no higher than its bound,
abbrev pub ReadsWithinLimit : Type 0
ReadsWithinLimit = (tokens : Tokens) (limit : ℕ) (top : Bool) (place : ℕ) (read : Parsed Stmt) → stmt_at tokens limit top place ≡ Some read → stmt_height read.tree ≤ limit

-- and it reads each statement that is spelled and no higher than that
abbrev pub ReadsAllWithinLimit : Type 0
ReadsAllWithinLimit = (tokens : Tokens) (limit : ℕ) (top : Bool) (tree : Stmt) (place next : ℕ) → SpellsStatement tokens top tree place next → stmt_height tree ≤ limit
    → stmt_at tokens limit top place ≡ Some (record { tree = tree; height = stmt_height tree; next = next })

-- where the tokens stand one after another, the offsets of their tree ascend
abbrev pub HasOrderedTrees : Type 0
HasOrderedTrees = (tokens : Tokens) (tree : FileTree) → StandFrom 0 tokens → IsFile tokens tree → HasAscendingOffsets tree
