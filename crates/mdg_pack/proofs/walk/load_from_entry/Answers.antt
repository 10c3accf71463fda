use Rattle.std.proofs.lemmas.Result.{err_from_is_err_and}
use Rattle.mdg_pack.specs.Effects.{folder_view}
use Rattle.mdg_pack.proofs.EntryLemmas.{entry_refused_at, entry_loaded_at}
use Rattle.mdg_pack.proofs.walk.load_from_entry.Goals as goal

pub returns-in_err-resolve-clause-answers : goal.returns-in_err-resolve-clause-answers
returns-in_err-resolve-clause-answers g c =
    let p = err_from_is_err_and c.from_residual.result c.from_residual.ensures.1 in
    let before = folder_view (g.F.Folder.held c.args.folder.now) (g.F.Folder.reads c.args.folder.now) (g.F.Folder.faults c.args.folder.now) in
    let after = folder_view (g.F.Folder.held c.resolve.new.folder) (g.F.Folder.reads c.resolve.new.folder) (g.F.Folder.faults c.resolve.new.folder) in
    rw (p.1, p.2) (entry_refused_at c.args.profile.now c.args.entry.now before after c.create-table.result c.create-table.ensures c.in_err-resolve.field-0.0 c.in_err-resolve.ensures.answers)

pub returns-clause-answers : goal.returns-clause-answers
returns-clause-answers g c =
    let before = folder_view (g.F.Folder.held c.args.folder.now) (g.F.Folder.reads c.args.folder.now) (g.F.Folder.faults c.args.folder.now) in
    let now = folder_view (g.F.Folder.held c.resolve.new.folder) (g.F.Folder.reads c.resolve.new.folder) (g.F.Folder.faults c.resolve.new.folder) in
    let after = folder_view (g.F.Folder.held c.load_all.new.folder) (g.F.Folder.reads c.load_all.new.folder) (g.F.Folder.faults c.load_all.new.folder) in
    entry_loaded_at c.args.profile.now c.args.entry.now before now after c.create-table.result c.create-table.ensures c.resolve.new.table c.in_ok-resolve.field-0 c.resolve.ensures.stays c.in_ok-resolve.ensures.answers c.load_all.result c.load_all.ensures.answers
