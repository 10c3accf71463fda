-- One more function keeps lines and tables well-formed.
use Rattle.std.proofs.Common.{◌≡◌, ℕ, ◌+◌, ◌-◌, ◌<◌, ◌≤◌, true, List, [], ◌∷◌, ◌++◌, length, get_or, All, IfSome, Option, Some, None, refl, sym, ap, ◌∙◌, subst, arith, le_trans, length-append}
use Rattle.std.proofs.lemmas.List.Elements.{All-nil, All-cons, All-append}
use Rattle.mdg_base.specs.declared.number.FileId.{FileId}
use Rattle.mdg_base.specs.declared.number.FunId.{FunId}
use Rattle.mdg_code.specs.declared.code.FunctionRow.{FunctionRow}
use Rattle.mdg_code.specs.Places.{EachAt, HasAt}
use Rattle.mdg_tree.specs.declared.tree.At.{At}
use Rattle.mdg_scope.specs.declared.bound.BoundFunction.{BoundFunction}
use Rattle.mdg_lower.specs.declared.draft.DraftLine.{DraftLine}
use Rattle.mdg_lower.specs.declared.scope.Scope.{Scope}
use Rattle.mdg_lower.specs.Tables.{function_row, parent_of}
use Rattle.mdg_lower.specs.WellFormed.{Counts, WellFormedFunction, ends}
use Rattle.mdg_lower.proofs.LayoutLists.{all_then, has_left, has_right, has_seam, each_append, each_then}
use Rattle.mdg_lower.proofs.LayoutLands.{landed_append, ends_last, some_lines, size_above, sizes}
use Rattle.mdg_lower.proofs.LayoutRows.{FitsRow, IsPlaced, DraftApart, IsLineRanged, IsRowRanged, EndsIn, Laid, follow_append, branches_in, draft_left, draft_right}

-- the function around it, by its number in the package
parent_there : (n : Counts) (first : ℕ) (parent : Option ℕ) → IfSome parent (λ number. first + number < n.functions)
    → IfSome (parent_of first parent) (λ (function : FunId). function.0 < n.functions)
parent_there n first None there = tt
parent_there n first (Some number) there = there

module _ (n : Counts) (scope : Scope) (f : BoundFunction) (at : At) (rows : List FunctionRow) (lines block : List DraftLine) where
  -- the row of the function
  abbrev row : FunctionRow
  row = function_row scope f at (length lines) block

  -- each line stands in its function, with room for its locals
  placed_more : Laid n rows lines → WellFormedFunction n scope (length lines) block → scope.function.0 ≡ length rows
      → EachAt (IsPlaced (rows ++ row ∷ [])) (lines ++ block)
  placed_more laid whole numbered = each_append (IsPlaced (rows ++ row ∷ [])) lines block before beyond
    where
      before : EachAt (IsPlaced (rows ++ row ∷ [])) lines
      before = each_then (IsPlaced rows) (IsPlaced (rows ++ row ∷ [])) (λ i line. has_left (FitsRow i line.draft) rows (row ∷ []) line.function.0) lines laid.placed

      some : 0 < length block
      some = some_lines block whole.end_well

      beyond : EachAt (λ j line. IsPlaced (rows ++ row ∷ []) (length lines + j) line) block
      beyond j d within =
          let line : DraftLine = get_or block j d in
          let number : line.function.0 ≡ length rows = ap (λ (function : FunId). function.0) (whole.well_formed.own j d within).0 ∙ numbered in
          subst (HasAt (FitsRow (length lines + j) line.draft) (rows ++ row ∷ [])) (sym number)
          (has_seam (FitsRow (length lines + j) line.draft) rows row (
            omega arith,
            omega (arith, within),
            sizes scope.temporaries block j d within,
            branches_in row block (length lines) line.draft refl (omega (arith, some)) (whole.well_formed.branches j d within) (whole.resolved j d within) (whole.within j d within),
          ))

  -- no branch goes to the land of a call or a load
  apart_more : Laid n rows lines → WellFormedFunction n scope (length lines) block → All (λ line. DraftApart (lines ++ block) line.draft) (lines ++ block)
  apart_more laid whole = All-append (λ line. DraftApart (lines ++ block) line.draft) lines block
      (all_then (λ line. DraftApart lines line.draft) (λ line. DraftApart (lines ++ block) line.draft) (λ line. draft_left lines block line.draft) lines laid.apart)
      (λ j d within. draft_right lines block (get_or block j d).draft laid.landed (whole.well_formed.branches j d within) (whole.resolved j d within))

  -- the numbers of each line are in range
  ranged_more : Laid n rows lines → WellFormedFunction n scope (length lines) block → scope.file.0 < n.files → All (IsLineRanged n) (lines ++ block)
  ranged_more laid whole file = All-append (IsLineRanged n) lines block laid.ranged
      (λ j d within. (whole.well_formed.ranged j d within, subst (λ (id : FileId). id.0 < n.files) (sym (whole.well_formed.own j d within).1) file))

  -- the last line of each function ends it
  ends_more : Laid n rows lines → WellFormedFunction n scope (length lines) block → All (EndsIn (lines ++ block)) (rows ++ row ∷ [])
  ends_more laid whole = All-append (EndsIn (lines ++ block)) rows (row ∷ [])
      (all_then (EndsIn lines) (EndsIn (lines ++ block)) (λ r. has_left (λ line. ends line.draft ≡ true) lines block r.end.0) rows laid.rows_end)
      (All-cons (EndsIn (lines ++ block)) row [] here (All-nil (EndsIn (lines ++ block))))
    where
      some : 0 < length block
      some = some_lines block whole.end_well

      last : length lines + (length block - 1) ≡ length lines + length block - 1
      last = omega (arith, some)

      here : EndsIn (lines ++ block) row
      here = subst (HasAt (λ line. ends line.draft ≡ true) (lines ++ block)) last
          (has_right (λ line. ends line.draft ≡ true) lines block (length block - 1) (ends_last block whole.end_well))

  -- with the function all is as it should be
  pub laid_function : Laid n rows lines → WellFormedFunction n scope (length lines) block → scope.function.0 ≡ length rows → scope.file.0 < n.files
      → length f.parameters ≤ scope.temporaries → IfSome f.parent (λ number. scope.first_function + number < n.functions)
      → Laid n (rows ++ row ∷ []) (lines ++ block)
  laid_function laid whole numbered file parameters parent =
      let some : 0 < length block = some_lines block whole.end_well in
      let stops : (length lines + length block - 1) + 1 ≡ length lines + length block = omega (arith, some) in
      record {
        follow = follow_append 0 rows row (length lines) (length (lines ++ block)) laid.follow refl (omega (arith, some)) (stops ∙ sym (length-append lines block));
        placed = placed_more laid whole numbered;
        ranged = ranged_more laid whole file;
        landed = landed_append lines block laid.landed whole.well_formed.landed;
        apart = apart_more laid whole;
        rows_ranged = All-append (IsRowRanged n) rows (row ∷ []) laid.rows_ranged
            (All-cons (IsRowRanged n) row [] (le_trans parameters (size_above scope.temporaries block), file, parent_there n scope.first_function f.parent parent) (All-nil (IsRowRanged n)));
        rows_end = ends_more laid whole;
      }
