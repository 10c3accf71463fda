use Rattle.std.proofs.Common.{◌≡◌, ◌+◌, ◌∷◌, drop, sym, ap, ◌∙◌, arith}
use Rattle.std.proofs.lemmas.Result.{err_from_is_err_and}
use Rattle.std.proofs.lemmas.List.{drop_more, drop_all}
use Rattle.mdg_pack.specs.Effects.{folder_view}
use Rattle.mdg_pack.proofs.ResolutionLemmas.{resolve_begins, resolve_goes, resolve_done, resolve_refused, resolve_none}
use Rattle.mdg_pack.proofs.module_resolution.resolve.Goals as goal

pub loop-path-init : goal.loop-path-init
loop-path-init g c =
    resolve_begins c.args.candidates.now (folder_view (g.F.Folder.held c.args.folder.now) (g.F.Folder.reads c.args.folder.now) (g.F.Folder.faults c.args.folder.now)) c.args.table.now c.requires.sound c.requires.saw

pub returns-in_err-file-clause-answers : goal.returns-in_err-file-clause-answers
returns-in_err-file-clause-answers g c =
    let p = err_from_is_err_and c.from_residual.result c.from_residual.ensures.1 in
    let xs = c.args.candidates.now in
    let i = c.loop-path.path-index in
    let is : drop i xs ≡ c.as_str.result.now ∷ drop (i + 1) xs = drop_more xs i c.path-item.result c.loop-path-test.true ∙ ap (λ path. path ∷ drop (i + 1) xs) (sym c.path-item.is ∙ sym c.as_str.ensures) in
    rw (p.1, p.2) (resolve_refused xs (folder_view (g.F.Folder.held c.args.folder.now) (g.F.Folder.reads c.args.folder.now) (g.F.Folder.faults c.args.folder.now)) c.args.table.now
    (folder_view (g.F.Folder.held c.loop-path.folder) (g.F.Folder.reads c.loop-path.folder) (g.F.Folder.faults c.loop-path.folder)) (folder_view (g.F.Folder.held c.probe.new.folder) (g.F.Folder.reads c.probe.new.folder) (g.F.Folder.faults c.probe.new.folder))
    c.loop-path.table c.probe.new.table c.as_str.result.now (drop i xs) (drop (i + 1) xs) is c.loop-path.invariant c.probe.ensures.stays c.in_err-file.field-0.0 c.in_err-file.ensures.answers)

pub returns-in-Some-clause-answers : goal.returns-in-Some-clause-answers
returns-in-Some-clause-answers g c =
    let xs = c.args.candidates.now in
    let i = c.loop-path.path-index in
    let is : drop i xs ≡ c.as_str.result.now ∷ drop (i + 1) xs = drop_more xs i c.path-item.result c.loop-path-test.true ∙ ap (λ path. path ∷ drop (i + 1) xs) (sym c.path-item.is ∙ sym c.as_str.ensures) in
    resolve_done xs (folder_view (g.F.Folder.held c.args.folder.now) (g.F.Folder.reads c.args.folder.now) (g.F.Folder.faults c.args.folder.now)) c.args.table.now
    (folder_view (g.F.Folder.held c.loop-path.folder) (g.F.Folder.reads c.loop-path.folder) (g.F.Folder.faults c.loop-path.folder)) (folder_view (g.F.Folder.held c.probe.new.folder) (g.F.Folder.reads c.probe.new.folder) (g.F.Folder.faults c.probe.new.folder))
    c.loop-path.table c.probe.new.table c.as_str.result.now (drop i xs) (drop (i + 1) xs) is c.loop-path.invariant c.probe.ensures.stays c.in-Some.file (rw c.in-Some.is at c.in_ok-file.ensures.answers)

pub loop-path-preserved : goal.loop-path-preserved
loop-path-preserved g c =
    let xs = c.args.candidates.now in
    let i = c.loop-path.path-index in
    let is : drop i xs ≡ c.as_str.result.now ∷ drop (i + 1) xs = drop_more xs i c.path-item.result c.loop-path-test.true ∙ ap (λ path. path ∷ drop (i + 1) xs) (sym c.path-item.is ∙ sym c.as_str.ensures) in
    resolve_goes xs (folder_view (g.F.Folder.held c.args.folder.now) (g.F.Folder.reads c.args.folder.now) (g.F.Folder.faults c.args.folder.now)) c.args.table.now
    (folder_view (g.F.Folder.held c.loop-path.folder) (g.F.Folder.reads c.loop-path.folder) (g.F.Folder.faults c.loop-path.folder)) (folder_view (g.F.Folder.held c.probe.new.folder) (g.F.Folder.reads c.probe.new.folder) (g.F.Folder.faults c.probe.new.folder))
    c.loop-path.table c.probe.new.table c.as_str.result.now (drop i xs) (drop (i + 1) xs) is c.loop-path.invariant c.probe.ensures.stays (rw c.in_default.is at c.in_ok-file.ensures.answers)

pub returns-clause-answers : goal.returns-clause-answers
returns-clause-answers g c =
    let xs = c.args.candidates.now in
    let i = c.loop-path.path-index in
    resolve_none xs (folder_view (g.F.Folder.held c.args.folder.now) (g.F.Folder.reads c.args.folder.now) (g.F.Folder.faults c.args.folder.now)) c.args.table.now
    (folder_view (g.F.Folder.held c.loop-path.folder) (g.F.Folder.reads c.loop-path.folder) (g.F.Folder.faults c.loop-path.folder)) c.loop-path.table c.in_ok-last_candidate.field-0 (drop i xs) (drop_all i xs (omega arith)) c.loop-path.invariant c.in_ok-last_candidate.ensures
