-- How a file's parts make it up.
use Rattle.std.proofs.Common.{◌≡◌, ℕ, List, sym, subst, inl, inr}
use Rattle.std.specs.Prelude.{Ok, Err}
use Rattle.mdg_pack.specs.LoadAnswers.{IsLoaded, IsTextAnswer, IsTree, ScopeAnswer}
use Rattle.mdg_pack.specs.Load.{Loads, no_tokens, no_tree, no_bindings}
use Rattle.mdg_pack.specs.Paths.{FilePath}
use Rattle.mdg_pack.specs.declared.fault.PackFault.{PackFault}
use Rattle.mdg_profile.specs.declared.entry.Profile.{Profile}
use Rattle.mdg_read.specs.Files as files
use Rattle.mdg_scope.specs.Bindings as bindings
use Rattle.mdg_scope.specs.declared.refusal.ScopeRefusal.{ScopeRefusal}
use Rattle.mdg_text.specs.Causes as tokens
use Rattle.mdg_tree.specs.declared.tree.FileTree.{FileTree}
use Rattle.mdg_text.specs.declared.token.Token.{Token}

pub loaded_text : (profile : Profile) (path : FilePath) (bytes : List ℕ) (refusal : PackFault) → IsTextAnswer path bytes refusal → IsLoaded profile path bytes (Err refusal)
loaded_text profile path bytes refusal (inl memory) = inl memory
loaded_text profile path bytes refusal (inr is) = inr (let P : PackFault → Type 0 = λ r. Loads profile path bytes (Err r) in subst P (sym is.1) (no_tokens is.2 is.3))

pub loaded_tree : (profile : Profile) (path : FilePath) (bytes : List ℕ) (ts read : List Token) (refusal : PackFault) → read ≡ ts → tokens.HasCause bytes (Ok ts) → IsTree path bytes read (Err refusal)
    → IsLoaded profile path bytes (Err refusal)
loaded_tree profile path bytes ts read refusal same cause (inl memory) = inl memory
loaded_tree profile path bytes ts read refusal same cause (inr is) =
    let P : PackFault → Type 0 = λ r. Loads profile path bytes (Err r) in
    inr (subst P (sym is.1) (no_tree read (subst (λ t. tokens.HasCause bytes (Ok t)) (sym same) cause) is.2 is.3))

pub loaded_bindings : (profile : Profile) (path : FilePath) (bytes : List ℕ) (ts read : List Token) (tree : FileTree) (refusal : ScopeRefusal) (result : PackFault) → read ≡ ts → tokens.HasCause bytes (Ok ts) → files.HasCause read (Ok tree)
    → bindings.IsAnswer path tree profile (Err refusal) → ScopeAnswer path bytes refusal result → IsLoaded profile path bytes (Err result)
loaded_bindings profile path bytes ts read tree refusal result same cause spelled binds (inl memory) = inl memory
loaded_bindings profile path bytes ts read tree refusal result same cause spelled binds (inr is) =
    let P : PackFault → Type 0 = λ r. Loads profile path bytes (Err r) in
    inr (subst P (sym is.0) (no_bindings read tree (subst (λ t. tokens.HasCause bytes (Ok t)) (sym same) cause) spelled is.1 binds))
