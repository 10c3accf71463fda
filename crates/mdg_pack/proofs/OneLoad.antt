-- A file loads in at most one way.
use Rattle.std.proofs.Common.{◌≡◌, ℕ, List, sym, ap, subst}
use Rattle.std.specs.Prelude.{Result, Ok, Err}
use Rattle.mdg_pack.specs.Paths.{FilePath}
use Rattle.mdg_pack.specs.Load.{Loads, no_tokens, no_tree, no_bindings, bound, IsTextRefusal, text_line, read_line, scope_line}
use Rattle.mdg_pack.specs.declared.fault.PackFault.{PackFault}
use Rattle.mdg_pack.specs.declared.fault.PackFault.TheVariants as fault
use Rattle.mdg_profile.specs.declared.entry.Profile.{Profile}
use Rattle.mdg_read.specs.Files as files
use Rattle.mdg_read.specs.declared.refusal.ReadRefusal.{ReadRefusal}
use Rattle.mdg_scope.specs.Bindings as bindings
use Rattle.mdg_scope.specs.declared.bound.Bound.{Bound}
use Rattle.mdg_scope.specs.declared.refusal.ScopeRefusal.{ScopeRefusal}
use Rattle.mdg_text.specs.Causes as tokens
use Rattle.mdg_text.specs.declared.token.TextFault.{TextFault}
use Rattle.mdg_text.specs.declared.token.Token.{Token}
use Rattle.mdg_tree.specs.declared.tree.FileTree.{FileTree}
use Rattle.mdg_text.proofs.AnswerLemmas.{one_answer as one_text}
use Rattle.mdg_read.proofs.AnswerLemmas.{one_answer as one_tree}
use Rattle.mdg_scope.proofs.AnswerLemmas.{one_answer as one_binding}
use Rattle.mdg_pack.proofs.RefusalLemmas.{IsTree, IsBinding, text_value, tree_value, binding_value, text_refused, tree_refused, binding_refused}

module _ (profile : Profile) (path : FilePath) (bytes : List ℕ) where
  same_tokens : (ts us : List Token) → tokens.HasCause bytes (Ok ts) → tokens.HasCause bytes (Ok us) → ts ≡ us
  same_tokens ts us p q = let same = one_text bytes (Ok ts) (Ok us) (text_value ts) (text_value us) p q in cc

  other_tokens : {X : Type 0} (ts : List Token) (r : TextFault) → IsTextRefusal r → tokens.HasCause bytes (Ok ts) → tokens.HasCause bytes (Err r) → X
  other_tokens ts r is p q = let no = one_text bytes (Ok ts) (Err r) (text_value ts) (text_refused r is) p q in absurd cc

  same_tree : (ts us : List Token) (a b : Result FileTree ReadRefusal) → IsTree a → IsTree b → tokens.HasCause bytes (Ok ts) → tokens.HasCause bytes (Ok us) → files.HasCause ts a → files.HasCause us b → a ≡ b
  same_tree ts us a b i j p q f g = one_tree ts a b i j f (subst (λ t. files.HasCause t b) (sym (same_tokens ts us p q)) g)

  same_binding : (ts us : List Token) (t u : FileTree) (a b : Result Bound ScopeRefusal) → IsBinding a → IsBinding b → tokens.HasCause bytes (Ok ts) → tokens.HasCause bytes (Ok us)
      → files.HasCause ts (Ok t) → files.HasCause us (Ok u) → bindings.IsAnswer path t profile a → bindings.IsAnswer path u profile b → a ≡ b
  same_binding ts us t u a b i j p q f g x y =
      let trees = same_tree ts us (Ok t) (Ok u) (tree_value t) (tree_value u) p q f g in
      let same : t ≡ u = cc in
      one_binding path t profile a b i j x (subst (λ z. bindings.IsAnswer path z profile b) (sym same) y)

  pub one_load : (a b : Result Bound PackFault) → Loads profile path bytes a → Loads profile path bytes b → a ≡ b
  one_load (Err x) (Err y) (no_tokens {refusal = r} i p) (no_tokens {refusal = s} j q) =
      let errs = one_text bytes (Err r) (Err s) (text_refused r i) (text_refused s j) p q in
      let same : r ≡ s = cc in ap (λ (z : TextFault). Err (fault.Text path z (text_line bytes z))) same
  one_load (Err x) (Err y) (no_tokens {refusal = r} i p) (no_tree us q j g) = other_tokens us r i q p
  one_load (Err x) (Err y) (no_tokens {refusal = r} i p) (no_bindings us u q g j y') = other_tokens us r i q p
  one_load (Err x) (Ok y) (no_tokens {refusal = r} i p) (bound us u q g y') = other_tokens us r i q p
  one_load (Err x) (Err y) (no_tree ts p i f) (no_tokens {refusal = s} j q) = other_tokens ts s j p q
  one_load (Err x) (Err y) (no_tree ts {refusal = r} p i f) (no_tree us {refusal = s} q j g) =
      let errs = same_tree ts us (Err r) (Err s) (tree_refused r i) (tree_refused s j) p q f g in
      let same : r ≡ s = cc in ap (λ (z : ReadRefusal). Err (fault.Read path z (read_line bytes z))) same
  one_load (Err x) (Err y) (no_tree ts {refusal = r} p i f) (no_bindings us u q g j y') = let no = same_tree ts us (Err r) (Ok u) (tree_refused r i) (tree_value u) p q f g in absurd cc
  one_load (Err x) (Ok y) (no_tree ts {refusal = r} p i f) (bound us u q g y') = let no = same_tree ts us (Err r) (Ok u) (tree_refused r i) (tree_value u) p q f g in absurd cc
  one_load (Err x) (Err y) (no_bindings ts t p f i x') (no_tokens {refusal = s} j q) = other_tokens ts s j p q
  one_load (Err x) (Err y) (no_bindings ts t p f i x') (no_tree us {refusal = s} q j g) = let no = same_tree ts us (Ok t) (Err s) (tree_value t) (tree_refused s j) p q f g in absurd cc
  one_load (Err x) (Err y) (no_bindings ts t {refusal = r} p f i x') (no_bindings us u {refusal = s} q g j y') =
      let errs = same_binding ts us t u (Err r) (Err s) (binding_refused r i) (binding_refused s j) p q f g x' y' in
      let same : r ≡ s = cc in ap (λ (z : ScopeRefusal). Err (fault.Scope path z (scope_line bytes z))) same
  one_load (Err x) (Ok y) (no_bindings ts t {refusal = r} p f i x') (bound us u q g y') = let no = same_binding ts us t u (Err r) (Ok y) (binding_refused r i) (binding_value y) p q f g x' y' in absurd cc
  one_load (Ok x) (Err y) (bound ts t p f x') (no_tokens {refusal = s} j q) = other_tokens ts s j p q
  one_load (Ok x) (Err y) (bound ts t p f x') (no_tree us {refusal = s} q j g) = let no = same_tree ts us (Ok t) (Err s) (tree_value t) (tree_refused s j) p q f g in absurd cc
  one_load (Ok x) (Err y) (bound ts t p f x') (no_bindings us u {refusal = s} q g j y') = let no = same_binding ts us t u (Ok x) (Err s) (binding_value x) (binding_refused s j) p q f g x' y' in absurd cc
  one_load (Ok x) (Ok y) (bound ts t p f x') (bound us u q g y') = let same = same_binding ts us t u (Ok x) (Ok y) (binding_value x) (binding_value y) p q f g x' y' in ap Ok (let e : x ≡ y = cc in e)
