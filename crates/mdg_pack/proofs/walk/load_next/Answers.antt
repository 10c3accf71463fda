use Rattle.std.proofs.lemmas.Result.{err_from_is_err_and}
use Rattle.mdg_pack.specs.Effects.{folder_view}
use Rattle.mdg_pack.proofs.NextFileLemmas.{next_loaded, next_stopped}
use Rattle.mdg_pack.proofs.walk.load_next.Goals as goal

pub returns-in_err-required-clause-answers : goal.returns-in_err-required-clause-answers
returns-in_err-required-clause-answers g c =
    let p = err_from_is_err_and c.from_residual-in_err-required.result c.from_residual-in_err-required.ensures.1 in
    let before = folder_view (g.F.Folder.held c.args.folder.now) (g.F.Folder.reads c.args.folder.now) (g.F.Folder.faults c.args.folder.now) in
    let after = folder_view (g.F.Folder.held c.resolve_requires.new.folder) (g.F.Folder.reads c.resolve_requires.new.folder) (g.F.Folder.faults c.resolve_requires.new.folder) in
    rw (p.1, p.2) (next_stopped c.args.profile.now c.args.number before after c.args.table.now c.resolve_requires.new.table c.as_slice.result.now c.as_slice.ensures c.requires.inside c.index-as_slice-number.result c.index-as_slice-number.is
    c.in_ok-bound.bound (rw c.as_slice-2.ensures at (rw c.as_str.ensures at c.in_ok-bound.ensures)) c.as_str-2.result.now c.as_str-2.ensures c.as_slice-3.result.now c.as_slice-3.ensures c.in_err-required.field-0.0 c.in_err-required.ensures.answers)

pub returns-clause-answers : goal.returns-clause-answers
returns-clause-answers g c =
    let before = folder_view (g.F.Folder.held c.args.folder.now) (g.F.Folder.reads c.args.folder.now) (g.F.Folder.faults c.args.folder.now) in
    let after = folder_view (g.F.Folder.held c.resolve_requires.new.folder) (g.F.Folder.reads c.resolve_requires.new.folder) (g.F.Folder.faults c.resolve_requires.new.folder) in
    next_loaded c.args.profile.now c.args.number before after c.args.table.now c.resolve_requires.new.table c.as_slice.result.now c.as_slice.ensures c.requires.inside c.index-as_slice-number.result c.index-as_slice-number.is
    c.in_ok-bound.bound (rw c.as_slice-2.ensures at (rw c.as_str.ensures at c.in_ok-bound.ensures)) c.as_str-2.result.now c.as_str-2.ensures c.as_slice-3.result.now c.as_slice-3.ensures c.in_ok-required.required c.with_required.result c.with_required.ensures c.in_ok-required.ensures.answers
