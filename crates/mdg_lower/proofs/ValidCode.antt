-- The code that fitting files become is well-formed.
use Rattle.std.proofs.Common.{ℕ, ◌<◌, ◌≤◌, List, map, length, get_or, All, AllPairs, sym, subst, arith}
use Rattle.std.proofs.lemmas.List.{length-map}
use Rattle.std.proofs.lemmas.List.Elements.{All-map}
use Rattle.std.proofs.lemmas.Option.{IfSome_then}
use Rattle.mdg_base.specs.declared.number.FunId.{FunId}
use Rattle.mdg_code.specs.declared.code.Code.{Code}
use Rattle.mdg_code.specs.declared.code.SharedRow.{SharedRow}
use Rattle.mdg_code.specs.Order.{FollowOn}
use Rattle.mdg_code.specs.Ranges.{AreCellsInRange, AreFilesInRange, AreFunctionsInRange, AreLinesInRange, IsCounted, IsFileInRange, IsFunctionInRange, IsInRange, IsLineInRange}
use Rattle.mdg_code.specs.Validity.{IsValid}
use Rattle.mdg_profile.specs.declared.entry.Entry.{Entry}
use Rattle.mdg_profile.specs.declared.entry.Profile.{Profile}
use Rattle.mdg_scope.specs.declared.bound.Bound.{Bound}
use Rattle.mdg_lower.specs.declared.draft.DraftLine.{DraftLine}
use Rattle.mdg_lower.specs.Columns.{columns_in}
use Rattle.mdg_lower.specs.Tables.{PackageLowering, code_with, lowering, lowered}
use Rattle.mdg_profile.specs.Distinct.{AreDistinct}
use Rattle.mdg_lower.specs.BoundFiles.{Fits}
use Rattle.mdg_lower.specs.Link.{linked_line, linked, linked_statement}
use Rattle.mdg_lower.specs.SharedRows.{shared_in}
use Rattle.mdg_lower.specs.WellFormed.{Counts, IsRangedDraft}
use Rattle.mdg_lower.proofs.LayoutLists.{all_then, has_then}
use Rattle.mdg_lower.proofs.LayoutRows.{FitsRow, IsLineRanged, IsRowRanged}
use Rattle.mdg_lower.proofs.LayoutFiles.{AreWhole, IsFileThere}
use Rattle.mdg_lower.proofs.LayoutPackage.{FilesGrown, counts_of, package_grown}
use Rattle.mdg_lower.proofs.LayoutRanges.{HasCounts, draft_in_range}
use Rattle.mdg_lower.proofs.LayoutCode.{lines_landed, lines_apart, lines_belong, lines_within, rows_end}
use Rattle.mdg_lower.proofs.LinkedNames.{columns_distinct, lines_named}
use Rattle.mdg_lower.proofs.WellFormedFunctions.{whole_function, whole_body}
use Rattle.mdg_lower.proofs.LinkedShared.{IsSharedThere, bases_in_range, bases_themselves, members_distinct, shared_there}

-- drafts and tables that are well-formed, up to these counts
module _ (n : Counts) (entries : List Entry) (f : PackageLowering) (grown : FilesGrown n f) where
  -- the columns of the drafts
  abbrev columns : List (List ℕ)
  columns = columns_in f.lines

  -- their shared things
  abbrev shared : List SharedRow
  shared = shared_in entries f.lines

  -- what they become
  abbrev code : Code
  code = code_with entries f

  -- the numbers of drafts are in range
  drafts_ranged : All (λ line. IsRangedDraft n line.draft) f.lines
  drafts_ranged = all_then (IsLineRanged n) (λ line. IsRangedDraft n line.draft) (λ line ranged. ranged.0) f.lines grown.order.laid.ranged

  -- the code has so many functions, cells and files
  counts : HasCounts n code
  unfolding linked
  counts = record { functions = grown.functions_all; cells = grown.cells_all; files = grown.files_all }

  -- the numbers of the line at a site are in range
  line_in_range : (site : ℕ) (d : DraftLine) → site < length f.lines → IsLineInRange code (linked_line columns shared (get_or f.lines site d))
  unfolding linked IsLineInRange
  line_in_range site d within =
      let line : DraftLine = get_or f.lines site d in
      let ranged : IsLineRanged n line = grown.order.laid.ranged site d within in
      let there : IsSharedThere (length code.shared) (linked_statement columns shared line.draft) = shared_there n entries f.lines drafts_ranged site d within in (
        has_then (FitsRow site line.draft) (λ row. IsInRange code row.locals (linked_statement columns shared line.draft))
            (λ row fits. draft_in_range n code counts row.locals columns shared line.draft ranged.0 there fits.2)
            f.tables.functions line.function.0 (grown.order.laid.placed site d within),
        omega (arith, ranged.1, grown.files_all),
      )

  -- the numbers of each line are in range
  lines_in_range : AreLinesInRange code
  unfolding linked
  lines_in_range = All-map (IsLineInRange code) (linked_line columns shared) f.lines line_in_range

  -- so are those of each function
  functions_in_range : AreFunctionsInRange code
  unfolding linked
  functions_in_range = all_then (IsRowRanged n) (IsFunctionInRange code)
      (λ row ranged. (omega (arith, ranged.1, grown.files_all), IfSome_then row.parent ranged.2 (λ function there. omega (arith, there, grown.functions_all))))
      f.tables.functions grown.order.laid.rows_ranged

  -- so are the functions of cells
  cells_in_range : AreCellsInRange code
  unfolding linked
  cells_in_range = all_then (λ (function : FunId). function.0 < n.functions) (λ (function : FunId). function.0 < length f.tables.functions)
      (λ function there. omega (arith, there, grown.functions_all)) f.tables.cells grown.order.cells_there

  -- so are the numbers of each file
  files_in_range : AreFilesInRange code
  unfolding linked
  files_in_range = all_then (IsFileThere n) (IsFileInRange code)
      (λ row there. (omega (arith, there.0, grown.functions_all), omega (arith, there.1, grown.cells_all))) f.tables.files grown.order.files_there

  -- the functions lie one after another up to the last line
  follow : FollowOn 0 f.tables.functions (length (map (linked_line columns shared) f.lines))
  follow = subst (FollowOn 0 f.tables.functions) (sym (length-map f.lines (linked_line columns shared))) grown.order.laid.follow

  -- the code is well-formed
  pub valid_code : 0 < n.files → AreDistinct entries → IsCounted code → IsValid code
  unfolding linked
  valid_code some distinct counted = record {
    has_file = omega (arith, some, grown.files_all);
    counted = counted;
    lines_in_range = lines_in_range;
    functions_in_range = functions_in_range;
    cells_in_range = cells_in_range;
    files_in_range = files_in_range;
    bases_in_range = bases_in_range entries f.lines;
    distinct_columns = columns_distinct f.lines;
    named_columns = lines_named n entries f.lines drafts_ranged;
    lands_there = lines_landed n f.tables.functions columns shared f.lines grown.order.laid;
    lands_unnamed = lines_apart n f.tables.functions columns shared f.lines grown.order.laid;
    functions_follow = follow;
    lines_belong = lines_belong n f.tables.functions columns shared f.lines grown.order.laid;
    room = all_then (IsRowRanged n) (λ row. length row.parameters ≤ row.locals) (λ row ranged. ranged.0) f.tables.functions grown.order.laid.rows_ranged;
    branches_within = lines_within n f.tables.functions columns shared f.lines grown.order.laid;
    functions_end = rows_end n f.tables.functions columns shared f.lines grown.order.laid;
    bases_themselves = bases_themselves entries f.lines;
    distinct_members = members_distinct entries f.lines distinct;
  }

-- the same of fitting files whose functions are whole
valid_where_whole : (files : List Bound) (profile : Profile) → AreWhole (counts_of files) → Fits files profile → IsCounted (lowered files profile) → IsValid (lowered files profile)
unfolding lowered
valid_where_whole files profile wholes fits counted =
    valid_code (counts_of files) profile.entries (lowering files profile) (package_grown files profile wholes fits.files_fit) fits.has_file fits.entries_distinct counted

-- The code that files become is well-formed where they fit together.
pub valid_lowered : (files : List Bound) (profile : Profile) → Fits files profile → IsCounted (lowered files profile) → IsValid (lowered files profile)
valid_lowered files profile = valid_where_whole files profile wholes
  where
    wholes : AreWhole (counts_of files)
    wholes = record { whole_function = whole_function (counts_of files); whole_body = whole_body (counts_of files) }
