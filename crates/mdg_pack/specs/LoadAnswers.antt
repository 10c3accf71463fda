-- Serves the proofs alone: what the private calls that load a file answer.
use Rattle.std.specs.Prelude.{◌≡◌, ◌⊎◌, ℕ, List, Result, Ok, Err}
use Rattle.mdg_pack.specs.Load.{Loads, IsTextRefusal, IsReadRefusal, IsScopeRefusal, text_line, read_line, scope_line}
use Rattle.mdg_pack.specs.Paths.{FilePath}
use Rattle.mdg_pack.specs.declared.fault.PackFault.{PackFault}
use Rattle.mdg_pack.specs.declared.fault.PackFault.TheVariants as fault
use Rattle.mdg_profile.specs.declared.entry.Profile.{Profile}
use Rattle.mdg_read.specs.Files as files
use Rattle.mdg_read.specs.declared.refusal.ReadRefusal.{ReadRefusal}
use Rattle.mdg_scope.specs.declared.bound.Bound.{Bound}
use Rattle.mdg_scope.specs.declared.refusal.ScopeRefusal.{ScopeRefusal}
use Rattle.mdg_text.specs.Causes as tokens
use Rattle.mdg_text.specs.declared.token.TextFault.{TextFault}
use Rattle.mdg_text.specs.declared.token.Token.{Token}
use Rattle.mdg_tree.specs.declared.tree.FileTree.{FileTree}

-- the refusal of the text, unless memory was refused
abbrev pub IsTextAnswer : FilePath → List ℕ → PackFault → Type 0
IsTextAnswer path bytes result = (result ≡ fault.NoMemory) ⊎ ((refusal : TextFault) × (result ≡ fault.Text path refusal (text_line bytes refusal)) × IsTextRefusal refusal × tokens.HasCause bytes (Err refusal))

abbrev pub IsTokens : FilePath → List ℕ → Result (List Token) PackFault → Type 0
IsTokens path bytes (Ok ts) = tokens.HasCause bytes (Ok ts)
IsTokens path bytes (Err refusal) = IsTextAnswer path bytes refusal

-- this refusal of a tree, unless memory was refused
abbrev pub ReadAnswer : FilePath → List ℕ → ReadRefusal → PackFault → Type 0
ReadAnswer path bytes refusal result = (result ≡ fault.NoMemory) ⊎ ((result ≡ fault.Read path refusal (read_line bytes refusal)) × IsReadRefusal refusal)

abbrev pub IsTree : FilePath → List ℕ → List Token → Result FileTree PackFault → Type 0
IsTree path bytes ts (Ok tree) = files.HasCause ts (Ok tree)
IsTree path bytes ts (Err result) = (result ≡ fault.NoMemory) ⊎ ((refusal : ReadRefusal) × (result ≡ fault.Read path refusal (read_line bytes refusal)) × IsReadRefusal refusal × files.HasCause ts (Err refusal))

-- this refusal of bindings, unless memory was refused
abbrev pub ScopeAnswer : FilePath → List ℕ → ScopeRefusal → PackFault → Type 0
ScopeAnswer path bytes refusal result = (result ≡ fault.NoMemory) ⊎ ((result ≡ fault.Scope path refusal (scope_line bytes refusal)) × IsScopeRefusal refusal)

-- the file or its refusal, unless memory was refused
abbrev pub IsLoaded : Profile → FilePath → List ℕ → Result Bound PackFault → Type 0
IsLoaded profile path bytes (Ok bound) = Loads profile path bytes (Ok bound)
IsLoaded profile path bytes (Err result) = (result ≡ fault.NoMemory) ⊎ Loads profile path bytes (Err result)
