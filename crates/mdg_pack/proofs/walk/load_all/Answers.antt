use Rattle.std.proofs.Common.{length, ap, arith, List}
use Rattle.std.proofs.lemmas.Result.{err_from_is_err_and}
use Rattle.mdg_pack.specs.Effects.{folder_view}
use Rattle.mdg_pack.specs.declared.module_table.SourceFile.{SourceFile}
use Rattle.mdg_scope.specs.declared.bound.Bound.{Bound}
use Rattle.mdg_pack.proofs.WalkLemmas.{loads_end, loads_refused_at, loads_go_at}
use Rattle.mdg_pack.proofs.walk.load_all.Goals as goal

pub returns-in_err-load_next-clause-answers : goal.returns-in_err-load_next-clause-answers
returns-in_err-load_next-clause-answers g c =
    let p = err_from_is_err_and c.from_residual.result c.from_residual.ensures.1 in
    let before = folder_view (g.F.Folder.held c.args.folder.now) (g.F.Folder.reads c.args.folder.now) (g.F.Folder.faults c.args.folder.now) in
    let now = folder_view (g.F.Folder.held c.loop-alloc.folder) (g.F.Folder.reads c.loop-alloc.folder) (g.F.Folder.faults c.loop-alloc.folder) in
    let after = folder_view (g.F.Folder.held c.load_next.new.folder) (g.F.Folder.reads c.load_next.new.folder) (g.F.Folder.faults c.load_next.new.folder) in
    rw (p.1, p.2) (loads_refused_at c.args.profile.now before now c.args.table.now c.loop-alloc.table c.loop-alloc.done c.loop-alloc.invariant (length c.as_slice-number.result.now) (ap (λ (xs : List Bound). length xs) c.as_slice-number.ensures)
    after c.load_next.new.table c.in_err-load_next.field-0.0 c.in_err-load_next.ensures.answers)

pub loop-alloc-preserved : goal.loop-alloc-preserved
loop-alloc-preserved g c =
    let before = folder_view (g.F.Folder.held c.args.folder.now) (g.F.Folder.reads c.args.folder.now) (g.F.Folder.faults c.args.folder.now) in
    let now = folder_view (g.F.Folder.held c.loop-alloc.folder) (g.F.Folder.reads c.loop-alloc.folder) (g.F.Folder.faults c.loop-alloc.folder) in
    let after = folder_view (g.F.Folder.held c.load_next.new.folder) (g.F.Folder.reads c.load_next.new.folder) (g.F.Folder.faults c.load_next.new.folder) in
    loads_go_at c.args.profile.now before now c.args.table.now c.loop-alloc.table c.loop-alloc.done c.loop-alloc.invariant (length c.as_slice-number.result.now) (ap (λ (xs : List Bound). length xs) c.as_slice-number.ensures)
    after c.load_next.new.table c.in_ok-load_next.field-0 c.push.new.self c.load_next.ensures.stays c.in_ok-push.ensures.ok c.in_ok-load_next.ensures.answers

pub returns-clause-answers : goal.returns-clause-answers
returns-clause-answers g c =
    let before = folder_view (g.F.Folder.held c.args.folder.now) (g.F.Folder.reads c.args.folder.now) (g.F.Folder.faults c.args.folder.now) in
    let now = folder_view (g.F.Folder.held c.loop-alloc.folder) (g.F.Folder.reads c.loop-alloc.folder) (g.F.Folder.faults c.loop-alloc.folder) in
    loads_end c.args.profile.now before now c.args.table.now c.loop-alloc.table c.loop-alloc.done c.loop-alloc.invariant
    (omega (arith, ap (λ (xs : List Bound). length xs) c.as_slice.ensures, ap (λ (xs : List SourceFile). length xs) c.as_slice-in-loop-alloc.ensures))
