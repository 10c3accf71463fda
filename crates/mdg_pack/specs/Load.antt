-- What a file is: its tokens, its tree and its bindings, or the refusal that comes first.
use Rattle.std.specs.Prelude.{ℕ, List, Result, Ok, Err}
use Rattle.mdg_pack.specs.Paths.{FilePath}
use Rattle.mdg_pack.specs.declared.fault.PackFault.{PackFault}
use Rattle.mdg_pack.specs.declared.fault.PackFault.TheVariants as fault
use Rattle.mdg_pack.specs.declared.module_table.SourceFile.{SourceFile}
use Rattle.mdg_profile.specs.declared.entry.Profile.{Profile}
use Rattle.mdg_read.specs.Files as files
use Rattle.mdg_read.specs.declared.refusal.ReadRefusal.{ReadRefusal}
use Rattle.mdg_read.specs.declared.refusal.ReadRefusal.TheVariants as read
use Rattle.mdg_scope.specs.Bindings as bindings
use Rattle.mdg_scope.specs.declared.bound.Bound.{Bound}
use Rattle.mdg_scope.specs.declared.refusal.ScopeRefusal.{ScopeRefusal}
use Rattle.mdg_scope.specs.declared.refusal.ScopeRefusal.TheVariants as scope
use Rattle.mdg_text.specs.Causes as tokens
use Rattle.mdg_text.specs.Lines.{line_at}
use Rattle.mdg_text.specs.declared.token.TextFault.{TextFault}
use Rattle.mdg_text.specs.declared.token.TextFault.TheVariants as text
use Rattle.mdg_text.specs.declared.token.Token.{Token}
use Rattle.mdg_tree.specs.declared.tree.FileTree.{FileTree}

-- the line of a refusal's offset; 1 where it has none
abbrev pub text_line : List ℕ → TextFault → ℕ
text_line bytes (text.NotUtf8 offset) = line_at bytes offset
text_line bytes (text.BadToken offset) = line_at bytes offset
text_line bytes (text.TooManyTokens count) = 1
text_line bytes text.NoMemory = 1

abbrev pub read_line : List ℕ → ReadRefusal → ℕ
read_line bytes read.NotStrict = 1
read_line bytes (read.NotCore word offset) = line_at bytes offset
read_line bytes (read.NoTree offset) = line_at bytes offset
read_line bytes read.NoMemory = 1

abbrev pub scope_line : List ℕ → ScopeRefusal → ℕ
scope_line bytes (scope.BadBinding name offset) = line_at bytes offset
scope_line bytes (scope.Unbound name offset) = line_at bytes offset
scope_line bytes (scope.BadRequire offset) = line_at bytes offset
scope_line bytes (scope.BadNew offset) = line_at bytes offset
scope_line bytes (scope.BadJump offset) = line_at bytes offset
scope_line bytes scope.NoMemory = 1

-- A refusal, or that memory was refused, which says nothing of a file.
abbrev pub IsTextRefusal : TextFault → Type 0
IsTextRefusal (text.NotUtf8 offset) = Unit {0}
IsTextRefusal (text.BadToken offset) = Unit {0}
IsTextRefusal (text.TooManyTokens count) = Unit {0}
IsTextRefusal text.NoMemory = ⊥

abbrev pub IsReadRefusal : ReadRefusal → Type 0
IsReadRefusal read.NotStrict = Unit {0}
IsReadRefusal (read.NotCore word offset) = Unit {0}
IsReadRefusal (read.NoTree offset) = Unit {0}
IsReadRefusal read.NoMemory = ⊥

abbrev pub IsScopeRefusal : ScopeRefusal → Type 0
IsScopeRefusal (scope.BadBinding name offset) = Unit {0}
IsScopeRefusal (scope.Unbound name offset) = Unit {0}
IsScopeRefusal (scope.BadRequire offset) = Unit {0}
IsScopeRefusal (scope.BadNew offset) = Unit {0}
IsScopeRefusal (scope.BadJump offset) = Unit {0}
IsScopeRefusal scope.NoMemory = ⊥

-- The bytes of a file at a path are this file, or are refused so.
pub data Loads (profile : Profile) (path : FilePath) (bytes : List ℕ) : Result Bound PackFault → Type 0 where
  -- The bytes are no list of tokens.
  no_tokens : {refusal : TextFault}
      → IsTextRefusal refusal
      → tokens.HasCause bytes (Err refusal)
      → Loads profile path bytes (Err (fault.Text path refusal (text_line bytes refusal)))
  -- The tokens have no tree.
  no_tree : (ts : List Token) {refusal : ReadRefusal}
      → tokens.HasCause bytes (Ok ts)
      → IsReadRefusal refusal
      → files.HasCause ts (Err refusal)
      → Loads profile path bytes (Err (fault.Read path refusal (read_line bytes refusal)))
  -- The tree has no bindings.
  no_bindings : (ts : List Token) (tree : FileTree) {refusal : ScopeRefusal}
      → tokens.HasCause bytes (Ok ts)
      → files.HasCause ts (Ok tree)
      → IsScopeRefusal refusal
      → bindings.IsAnswer path tree profile (Err refusal)
      → Loads profile path bytes (Err (fault.Scope path refusal (scope_line bytes refusal)))
  -- The tree has these bindings.
  bound : (ts : List Token) (tree : FileTree) {file : Bound}
      → tokens.HasCause bytes (Ok ts)
      → files.HasCause ts (Ok tree)
      → bindings.IsAnswer path tree profile (Ok file)
      → Loads profile path bytes (Ok file)

-- the same of a file that was found
abbrev pub LoadsFile : Profile → SourceFile → Result Bound PackFault → Type 0
LoadsFile profile file result = Loads profile file.path file.bytes result
