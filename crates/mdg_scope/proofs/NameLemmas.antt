-- Names are put into their functions one by one.
use Rattle.std.proofs.Common.{◌≡◌, ℕ, zero, suc, ◌+◌, ◌<◌, ◌≤◌, ◌==◌, Bool, true, false, cond, not, ◌&&◌, List, [], ◌∷◌, ◌++◌, map, filter, length, get_or, refl, sym, ap, ◌∙◌, arith, append_assoc, append-nil, if◌then◌else◌}
use Rattle.std.specs.Prelude.{slice_set}
use Rattle.std.proofs.lemmas.List.{map-append}
use Rattle.std.proofs.lemmas.List.Elements.{filter-append}
use Rattle.mdg_scope.specs.declared.resolution.Scopes.{Scopes}
use Rattle.mdg_scope.specs.declared.function.Uses.{Uses}
use Rattle.mdg_scope.specs.declared.bound.BoundFunction.{BoundFunction}
use Rattle.mdg_scope.specs.Names.{ScopedName, has_named}
use Rattle.mdg_scope.specs.Functions.{is_local_of, is_cell_of, locals, cells, with_lists, with_names, placed_by, placed, put_name}

-- the names that pass the test, with one more name
passed_behind : (p : ScopedName → Bool) (names : List ScopedName) (n : ScopedName) → map (λ m. m.1) (filter p (names ++ n ∷ [])) ≡ map (λ m. m.1) (filter p names) ++ (if p n then n.1 ∷ [] else [])
passed_behind p names n = ap (λ l. map (λ m. m.1) l) (filter-append p names (n ∷ [])) ∙ map-append (λ m. m.1) (filter p names) (filter p (n ∷ [])) ∙ ap (λ l. map (λ m. m.1) (filter p names) ++ l) (chosen (p n))
  where
    chosen : (b : Bool) → map (λ m. m.1) (cond b (n ∷ []) []) ≡ (if b then n.1 ∷ [] else [])
    chosen true = refl
    chosen false = refl

-- one more name in a function that has these
placed_lists : (locals cells : List (List ℕ)) (f : BoundFunction) (name : List ℕ) (cell parameter : Bool)
    → placed_by cell parameter name (with_lists locals cells f)
    ≡ with_lists (locals ++ (if not cell && not parameter then name ∷ [] else [])) (cells ++ (if cell then name ∷ [] else [])) f
placed_lists locals cells f name true parameter =
    ap (λ l. with_lists locals l (record { parent = f.parent; name = f.name; parameters = f.parameters; locals = f.locals; cells = []; own_name = f.own_name; line = f.line; offset = f.offset })) (append_assoc f.cells cells (name ∷ []))
    ∙ ap (λ l. with_lists l (cells ++ name ∷ []) f) (sym (append-nil locals))
placed_lists locals cells f name false true =
    ap (λ l. with_lists l cells f) (sym (append-nil locals)) ∙ ap (λ l. with_lists (locals ++ []) l f) (sym (append-nil cells))
placed_lists locals cells f name false false =
    ap (λ l. with_lists l cells (record { parent = f.parent; name = f.name; parameters = f.parameters; locals = []; cells = f.cells; own_name = f.own_name; line = f.line; offset = f.offset })) (append_assoc f.locals locals (name ∷ []))
    ∙ ap (λ l. with_lists (locals ++ name ∷ []) l f) (sym (append-nil cells))

module _ (t : Scopes) (u : Uses) (n : ScopedName) where
  -- a name of another function changes nothing
  apart : (number : ℕ) (names : List ScopedName) (f : BoundFunction) → (n.0 == number) ≡ false
      → with_lists (locals t u number (names ++ n ∷ [])) (cells u number (names ++ n ∷ [])) f ≡ with_lists (locals t u number names) (cells u number names) f
  apart number names f e =
      ap (λ l. with_lists l (cells u number (names ++ n ∷ [])) f)
      (passed_behind (is_local_of t u number) names n ∙ ap (λ b. locals t u number names ++ (if b && (not (has_named u.cells n) && not (has_named t.parameters n)) then n.1 ∷ [] else [])) e ∙ append-nil (locals t u number names))
      ∙ ap (λ l. with_lists (locals t u number names) l f)
      (passed_behind (is_cell_of u number) names n ∙ ap (λ b. cells u number names ++ (if b && has_named u.cells n then n.1 ∷ [] else [])) e ∙ append-nil (cells u number names))

  -- a name of the function itself is put there
  here : (number : ℕ) (names : List ScopedName) (f : BoundFunction) → (n.0 == number) ≡ true
      → placed t u n (with_lists (locals t u number names) (cells u number names) f) ≡ with_lists (locals t u number (names ++ n ∷ [])) (cells u number (names ++ n ∷ [])) f
  here number names f e =
      placed_lists (locals t u number names) (cells u number names) f n.1 (has_named u.cells n) (has_named t.parameters n)
      ∙ ap (λ l. with_lists l (cells u number names ++ (if has_named u.cells n then n.1 ∷ [] else [])) f)
      (sym (passed_behind (is_local_of t u number) names n ∙ ap (λ b. locals t u number names ++ (if b && (not (has_named u.cells n) && not (has_named t.parameters n)) then n.1 ∷ [] else [])) e))
      ∙ ap (λ l. with_lists (locals t u number (names ++ n ∷ [])) l f)
      (sym (passed_behind (is_cell_of u number) names n ∙ ap (λ b. cells u number names ++ (if b && has_named u.cells n then n.1 ∷ [] else [])) e))

  passed : (number : ℕ) (names : List ScopedName) (fs : List BoundFunction) → n.0 < number → with_names t u (names ++ n ∷ []) number fs ≡ with_names t u names number fs
  passed number names [] h = refl
  passed number names (f ∷ fs) h =
      let e : (n.0 == number) ≡ false = grind arith in
      ap (λ x. x ∷ with_names t u (names ++ n ∷ []) (number + 1) fs) (apart number names f e)
      ∙ ap (λ l. with_lists (locals t u number names) (cells u number names) f ∷ l) (passed (number + 1) names fs (omega arith))

  -- one more name among the names
  one_more_name : (number : ℕ) (names : List ScopedName) (fs : List BoundFunction) → put_name t u n number (with_names t u names number fs) ≡ with_names t u (names ++ n ∷ []) number fs
  one_more_name number names [] = refl
  one_more_name number names (f ∷ fs) = by (n.0 == number) refl (one_more_name (number + 1) names fs)
    where
      by : (b : Bool) → (n.0 == number) ≡ b → put_name t u n (number + 1) (with_names t u names (number + 1) fs) ≡ with_names t u (names ++ n ∷ []) (number + 1) fs
          → (if b then placed t u n (with_lists (locals t u number names) (cells u number names) f) ∷ with_names t u names (number + 1) fs
          else with_lists (locals t u number names) (cells u number names) f ∷ put_name t u n (number + 1) (with_names t u names (number + 1) fs))
          ≡ with_names t u (names ++ n ∷ []) number (f ∷ fs)
      by true e rest =
          let same : n.0 ≡ number = grind arith in
          ap (λ x. x ∷ with_names t u names (number + 1) fs) (here number names f e)
          ∙ ap (λ l. with_lists (locals t u number (names ++ n ∷ [])) (cells u number (names ++ n ∷ [])) f ∷ l) (sym (passed (number + 1) names fs (omega arith)))
      by false e rest =
          ap (λ x. x ∷ put_name t u n (number + 1) (with_names t u names (number + 1) fs)) (sym (apart number names f e))
          ∙ ap (λ l. with_lists (locals t u number (names ++ n ∷ [])) (cells u number (names ++ n ∷ [])) f ∷ l) rest

  -- the function with the name's number is the one that changes
  pub put_at : (index number : ℕ) (fs : List BoundFunction) (d : BoundFunction) → n.0 ≡ number + index → index < length fs → put_name t u n number fs ≡ slice_set fs index (placed t u n (get_or fs index d))
  put_at index number [] d e h = absurd (omega arith)
  put_at zero number (f ∷ fs) d e h =
      let same : (n.0 == number) ≡ true = grind arith in
      ap (λ b. if b then placed t u n f ∷ fs else f ∷ put_name t u n (number + 1) fs) same
  put_at (suc index) number (f ∷ fs) d e h =
      let other : (n.0 == number) ≡ false = grind arith in
      ap (λ b. if b then placed t u n f ∷ fs else f ∷ put_name t u n (number + 1) fs) other
      ∙ ap (λ l. f ∷ l) (put_at index (number + 1) fs d (omega arith) (omega arith))

  -- and none changes where there is none
  pub put_nowhere : (index number : ℕ) (fs : List BoundFunction) → n.0 ≡ number + index → length fs ≤ index → put_name t u n number fs ≡ fs
  put_nowhere index number [] e h = refl
  put_nowhere zero number (f ∷ fs) e h = absurd (omega arith)
  put_nowhere (suc index) number (f ∷ fs) e h =
      let other : (n.0 == number) ≡ false = grind arith in
      ap (λ b. if b then placed t u n f ∷ fs else f ∷ put_name t u n (number + 1) fs) other
      ∙ ap (λ l. f ∷ l) (put_nowhere index (number + 1) fs (omega arith) (omega arith))

module _ (t : Scopes) (u : Uses) where
  abbrev pub put_all : List ScopedName → List BoundFunction → List BoundFunction
  put_all [] fs = fs
  put_all (n ∷ ns) fs = put_all ns (put_name t u n 0 fs)

  no_names : (number : ℕ) (fs : List BoundFunction) → with_names t u [] number fs ≡ fs
  no_names number [] = refl
  no_names number (f ∷ fs) =
      ap (λ l. with_lists l [] (record { parent = f.parent; name = f.name; parameters = f.parameters; locals = []; cells = f.cells; own_name = f.own_name; line = f.line; offset = f.offset }) ∷ with_names t u [] (number + 1) fs) (append-nil f.locals)
      ∙ ap (λ l. with_lists f.locals l (record { parent = f.parent; name = f.name; parameters = f.parameters; locals = []; cells = []; own_name = f.own_name; line = f.line; offset = f.offset }) ∷ with_names t u [] (number + 1) fs) (append-nil f.cells)
      ∙ ap (λ l. f ∷ l) (no_names (number + 1) fs)

  all_behind : (ns names : List ScopedName) (fs : List BoundFunction) → put_all ns (with_names t u names 0 fs) ≡ with_names t u (names ++ ns) 0 fs
  all_behind [] names fs = ap (λ l. with_names t u l 0 fs) (sym (append-nil names))
  all_behind (n ∷ ns) names fs = ap (put_all ns) (one_more_name t u n 0 names fs) ∙ all_behind ns (names ++ n ∷ []) fs ∙ ap (λ l. with_names t u l 0 fs) (append_assoc names (n ∷ []) ns)

  pub all_names : (ns : List ScopedName) (fs : List BoundFunction) → put_all ns fs ≡ with_names t u ns 0 fs
  all_names ns fs = ap (put_all ns) (sym (no_names 0 fs)) ∙ all_behind ns [] fs
