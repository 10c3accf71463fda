-- A file that `bind` gives fits: its table has a row for its body and for each of its functions.
use Rattle.std.specs.Prelude.{◌≡◌, ℕ, suc, ◌+◌, ◌<◌, ◌≤◌, List, [], ◌∷◌, Option, Some, None, All, IfSome, length}
use Rattle.std.proofs.Common.{refl, sym, ap, ◌∙◌, subst, arith}
use Rattle.std.proofs.lemmas.List.Elements.{All-nil, All-cons, All-head, All-tail}
use Rattle.mdg_tree.specs.declared.tree.FileTree.{FileTree}
use Rattle.mdg_profile.specs.declared.entry.Profile.{Profile}
use Rattle.mdg_scope.specs.declared.bound.Bound.{Bound}
use Rattle.mdg_scope.specs.declared.bound.BoundFunction.{BoundFunction}
use Rattle.mdg_scope.specs.declared.function.Uses.{Uses}
use Rattle.mdg_scope.specs.declared.resolution.Scopes.{Scopes}
use Rattle.mdg_scope.specs.Bindings.{Binds}
use Rattle.mdg_scope.specs.Functions.{body, functions, heads, uses, with_names}
use Rattle.mdg_scope.specs.Resolution.{scopes}
use Rattle.mdg_scope.specs.Names.{ScopedName}
use Rattle.mdg_scope.specs.Collectors.{inside}
use Rattle.mdg_scope.specs.Occurrences.{file_occurrences, given}
use Rattle.mdg_lower.specs.BoundFiles.{FileFits}
use Rattle.mdg_lower.specs.Nested.{functions_in}
use Rattle.mdg_lower.proofs.BoundOccurrences.{ParentWithin, Stands}
use Rattle.mdg_lower.proofs.BoundTrees.{adds_body}

-- its parent's number is below this
abbrev ParentBelow : ℕ → BoundFunction → Type 0
ParentBelow n f = IfSome f.parent (λ parent. parent < n)

-- a number that is at most this is below the next one
parent_below : (n : ℕ) (f : BoundFunction) → ParentWithin n f → ParentBelow (1 + n) f
parent_below n f h = by f.parent h
  where
    by : (o : Option ℕ) → IfSome o (λ parent. parent ≤ n) → IfSome o (λ parent. parent < 1 + n)
    by None h = tt
    by (Some parent) h = let low : parent ≤ n = h in omega arith

module _ (t : Scopes) (us : Uses) where
  -- names change no number of functions
  names_keep : (names : List ScopedName) (number : ℕ) (fs : List BoundFunction) → length (with_names t us names number fs) ≡ length fs
  names_keep names number [] = refl
  names_keep names number (f ∷ fs) = ap suc (names_keep names (number + 1) fs)

  -- nor any parent
  names_below : (n : ℕ) (names : List ScopedName) (number : ℕ) (fs : List BoundFunction) → All (ParentWithin n) fs → All (ParentBelow (1 + n)) (with_names t us names number fs)
  names_below n names number [] h = All-nil (ParentBelow (1 + n))
  names_below n names number (f ∷ fs) h = All-cons (ParentBelow (1 + n)) _ _ (parent_below n f (All-head (ParentWithin n) f fs h)) (names_below n names (number + 1) fs (All-tail (ParentWithin n) f fs h))

  -- before the file's own occurrences no function has begun
  stands_given : Stands t us 0 given
  stands_given = record { begun = refl; counted = refl; within = All-nil (ParentWithin 0) }

  -- the occurrences of a file begin its functions
  stands_file : (tree : FileTree) → (length (heads t us (file_occurrences tree)) ≡ length (functions_in tree.items)) × All (ParentWithin (length (functions_in tree.items))) (heads t us (file_occurrences tree))
  stands_file tree =
      let count : ℕ = length (functions_in tree.items) in
      let low : 0 ≤ 0 = omega arith in
      let zero_more : 0 + count ≡ count = omega arith in
      let all : Stands t us (0 + count) _ = adds_body t us tree.items 0 (inside 0) given low stands_given in
      (all.counted ∙ zero_more, subst (λ n. All (ParentWithin n) (heads t us (file_occurrences tree))) zero_more all.within)

-- the functions of a file's occurrences
functions_fit : (t : Scopes) (tree : FileTree) → (length (functions t tree.at (file_occurrences tree)) ≡ 1 + length (functions_in tree.items)) × All (ParentBelow (1 + length (functions_in tree.items))) (functions t tree.at (file_occurrences tree))
functions_fit t tree =
    let us : Uses = uses t (file_occurrences tree) in
    let count : ℕ = length (functions_in tree.items) in
    let stands = stands_file t us tree in
    let counted : length (heads t us (file_occurrences tree)) ≡ count = stands.0 in
    let rows : length (body tree.at ∷ heads t us (file_occurrences tree)) ≡ 1 + count = omega (arith, counted) in (
      names_keep t us us.names 0 (body tree.at ∷ heads t us (file_occurrences tree)) ∙ rows,
      names_below t us count us.names 0 (body tree.at ∷ heads t us (file_occurrences tree)) (All-cons (ParentWithin count) (body tree.at) (heads t us (file_occurrences tree)) tt stands.1),
    )

-- a file whose functions and tree are these fits
fits_with : (bound : Bound) (tree : FileTree) (fs : List BoundFunction) → bound.tree ≡ tree → bound.functions ≡ fs
    → length fs ≡ 1 + length (functions_in tree.items) → All (ParentBelow (1 + length (functions_in tree.items))) fs → FileFits bound
fits_with bound tree fs tree_is is counted below =
    let all : length bound.functions ≡ 1 + length (functions_in tree.items) = ap length is ∙ counted in
    record {
      functions_counted = all ∙ ap (λ x. 1 + length (functions_in x.items)) (sym tree_is);
      parents_there = subst (λ l. All (ParentBelow (length bound.functions)) l) (sym is) (subst (λ n. All (ParentBelow n) fs) (sym all) below);
    }

-- a file that `bind` gives fits
pub bound_fits : (path : List ℕ) (tree : FileTree) (profile : Profile) (bound : Bound) → Binds path tree profile bound → FileFits bound
bound_fits path tree profile bound h =
    let t : Scopes = scopes (file_occurrences tree) profile in
    let fit = functions_fit t tree in
    fits_with bound tree (functions t tree.at (file_occurrences tree)) h.same_tree h.all_functions fit.0 fit.1
