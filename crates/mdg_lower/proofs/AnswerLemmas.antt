-- What the drafts and tables of a package become.
use Rattle.std.proofs.Common.{◌≡◌, List, All, length, sym, ap, subst, ◌∙◌}
use Rattle.std.proofs.lemmas.List.{length-map}
use Rattle.mdg_profile.specs.declared.entry.Profile.{Profile}
use Rattle.mdg_scope.specs.declared.bound.Bound.{Bound}
use Rattle.mdg_code.specs.declared.code.Code.{Code}
use Rattle.mdg_lower.specs.declared.draft.DraftLine.{DraftLine}
use Rattle.mdg_lower.specs.declared.tables.Tables.{Tables}
use Rattle.mdg_lower.specs.declared.link.Linked.{Linked}
use Rattle.mdg_lower.specs.Columns.{columns_in}
use Rattle.mdg_lower.specs.SharedRows.{shared_in}
use Rattle.mdg_lower.specs.Link.{linked, linked_line}
use Rattle.mdg_lower.specs.Tables.{lowering, code_of, code_with, lowered}
use Rattle.mdg_lower.specs.TableUpdates.{lowering_of}
use Rattle.mdg_code.specs.Ranges.{IsCounted}
use Rattle.mdg_code.specs.Validity.{IsValid}
use Rattle.mdg_lower.specs.BoundFiles.{Fits, FileFits, IsBoundFile, AreBound}
use Rattle.mdg_lower.proofs.BoundFits.{bound_fits}
use Rattle.mdg_lower.proofs.LayoutLists.{all_then}
use Rattle.mdg_lower.proofs.ValidCode.{valid_lowered}

-- each draft becomes a statement
pub sites_lowered : (files : List Bound) (profile : Profile) (lines : List DraftLine) (tables : Tables) → lowering_of lines tables ≡ lowering files profile
    → length (lowered files profile).lines ≡ length lines
unfolding lowered linked
sites_lowered files profile lines tables e =
    length-map (lowering files profile).lines (linked_line (columns_in (lowering files profile).lines) (shared_in profile.entries (lowering files profile).lines))
    ∙ sym (ap (λ f. length f.lines) e)

-- linked drafts and tables are the code
pub code_lowered : (files : List Bound) (profile : Profile) (lines : List DraftLine) (tables : Tables) (s : Linked) (code : Code) → lowering_of lines tables ≡ lowering files profile
    → s ≡ linked profile.entries lines → code ≡ code_of s tables → code ≡ lowered files profile
unfolding lowered
code_lowered files profile lines tables s code e p q = q ∙ ap (λ w. code_of w tables) p ∙ ap (λ f. code_with profile.entries f) e

-- a file that was bound fits
bound_file_fits : (profile : Profile) (b : Bound) → IsBoundFile profile b → FileFits b
bound_file_fits profile b is =
    let it : FileFits (record { path = b.path; tree = b.tree; functions = b.functions; required = is.required }) = bound_fits b.path b.tree profile (record { path = b.path; tree = b.tree; functions = b.functions; required = is.required }) is.binds in
    record { functions_counted = it.functions_counted; parents_there = it.parents_there }

bound_files_fit : (profile : Profile) (files : List Bound) → All (IsBoundFile profile) files → All FileFits files
bound_files_fit profile files bound = all_then (IsBoundFile profile) FileFits (bound_file_fits profile) files bound

-- the code of files that were bound is well-formed
pub lowered_valid : (files : List Bound) (profile : Profile) (code : Code) → code ≡ lowered files profile → IsCounted code → AreBound files profile → IsValid code
lowered_valid files profile code e counted are =
    let fits : Fits files profile = record { has_file = are.has_file; files_fit = bound_files_fit profile files are.files_bound; entries_distinct = are.entries_distinct } in
    subst IsValid (sym e) (valid_lowered files profile fits (subst IsCounted e counted))

pub ruleset lowerings = (sites_lowered, code_lowered, lowered_valid)
