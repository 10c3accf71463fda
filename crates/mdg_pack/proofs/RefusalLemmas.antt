-- Answers that aren't the refusal of memory.
use Rattle.std.proofs.Common.{◌≡◌, List, refl}
use Rattle.std.specs.Prelude.{Result, Ok, Err}
use Rattle.mdg_pack.specs.Load.{IsTextRefusal, IsReadRefusal, IsScopeRefusal}
use Rattle.mdg_read.specs.declared.refusal.ReadRefusal.{ReadRefusal}
use Rattle.mdg_read.specs.declared.refusal.ReadRefusal.TheVariants as read
use Rattle.mdg_scope.specs.declared.bound.Bound.{Bound}
use Rattle.mdg_scope.specs.declared.refusal.ScopeRefusal.{ScopeRefusal}
use Rattle.mdg_scope.specs.declared.refusal.ScopeRefusal.TheVariants as scope
use Rattle.mdg_text.specs.declared.token.TextFault.{TextFault}
use Rattle.mdg_text.specs.declared.token.TextFault.TheVariants as text
use Rattle.mdg_text.specs.declared.token.Token.{Token}
use Rattle.mdg_tree.specs.declared.tree.FileTree.{FileTree}

abbrev pub IsText : Result (List Token) TextFault → Type 0
IsText result = result ≡ Err text.NoMemory → ⊥

abbrev pub IsTree : Result FileTree ReadRefusal → Type 0
IsTree result = result ≡ Err read.NoMemory → ⊥

abbrev pub IsBinding : Result Bound ScopeRefusal → Type 0
IsBinding result = result ≡ Err scope.NoMemory → ⊥

-- ---- values

pub text_value : (ts : List Token) → IsText (Ok ts)
text_value ts is = absurd cc

pub tree_value : (tree : FileTree) → IsTree (Ok tree)
tree_value tree is = absurd cc

pub binding_value : (bound : Bound) → IsBinding (Ok bound)
binding_value bound is = absurd cc

-- ---- refusals

pub text_refused : (r : TextFault) → IsTextRefusal r → IsText (Err r)
text_refused (text.NotUtf8 o) refusal is = absurd cc
text_refused (text.BadToken o) refusal is = absurd cc
text_refused (text.TooManyTokens n) refusal is = absurd cc
text_refused text.NoMemory refusal is = absurd refusal

pub tree_refused : (r : ReadRefusal) → IsReadRefusal r → IsTree (Err r)
tree_refused read.NotStrict refusal is = absurd cc
tree_refused (read.NotCore w o) refusal is = absurd cc
tree_refused (read.NoTree o) refusal is = absurd cc
tree_refused read.NoMemory refusal is = absurd refusal

pub binding_refused : (r : ScopeRefusal) → IsScopeRefusal r → IsBinding (Err r)
binding_refused (scope.BadBinding n o) refusal is = absurd cc
binding_refused (scope.Unbound n o) refusal is = absurd cc
binding_refused (scope.BadRequire o) refusal is = absurd cc
binding_refused (scope.BadNew o) refusal is = absurd cc
binding_refused (scope.BadJump o) refusal is = absurd cc
binding_refused scope.NoMemory refusal is = absurd refusal

pub text_refusal : (r : TextFault) → IsText (Err r) → IsTextRefusal r
text_refusal (text.NotUtf8 o) other = tt
text_refusal (text.BadToken o) other = tt
text_refusal (text.TooManyTokens n) other = tt
text_refusal text.NoMemory other = absurd (other refl)

pub tree_refusal : (r : ReadRefusal) → IsTree (Err r) → IsReadRefusal r
tree_refusal read.NotStrict other = tt
tree_refusal (read.NotCore w o) other = tt
tree_refusal (read.NoTree o) other = tt
tree_refusal read.NoMemory other = absurd (other refl)

pub binding_refusal : (r : ScopeRefusal) → IsBinding (Err r) → IsScopeRefusal r
binding_refusal (scope.BadBinding n o) other = tt
binding_refusal (scope.Unbound n o) other = tt
binding_refusal (scope.BadRequire o) other = tt
binding_refusal (scope.BadNew o) other = tt
binding_refusal (scope.BadJump o) other = tt
binding_refusal scope.NoMemory other = absurd (other refl)
