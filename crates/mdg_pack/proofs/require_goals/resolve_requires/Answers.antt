use Rattle.std.proofs.Common.{◌≡◌, ℕ, ◌+◌, List, [], ◌∷◌, ◌++◌, drop, sym, ap, ◌∙◌, arith}
use Rattle.std.proofs.lemmas.List.{drop_more, drop_all}
use Rattle.std.proofs.lemmas.Result.{err_from_is_err_and}
use Rattle.mdg_pack.specs.Effects.{folder_view}
use Rattle.mdg_base.specs.Segments.{folder_of}
use Rattle.mdg_scope.specs.declared.bound.Require.{Require}
use Rattle.mdg_pack.proofs.RequireLemmas.{requires_end, requires_go, requires_refused}
use Rattle.mdg_pack.proofs.require_goals.resolve_requires.Goals as goal

pub returns-in_err-goal-clause-answers : goal.returns-in_err-goal-clause-answers
returns-in_err-goal-clause-answers g c =
    let p = err_from_is_err_and c.from_residual.result c.from_residual.ensures.1 in
    let xs = c.args.required.now in
    let i = c.loop-require.require-index in
    let is : drop i xs ≡ c.require-item.result ∷ drop (i + 1) xs = drop_more xs i c.require-item.result c.loop-require-test.true ∙ ap (λ r. r ∷ drop (i + 1) xs) (sym c.require-item.is) in
    rw (p.1, p.2) (requires_refused (folder_of c.args.path.now) xs (folder_view (g.F.Folder.held c.args.folder.now) (g.F.Folder.reads c.args.folder.now) (g.F.Folder.faults c.args.folder.now)) c.args.table.now
    (folder_view (g.F.Folder.held c.loop-require.folder) (g.F.Folder.reads c.loop-require.folder) (g.F.Folder.faults c.loop-require.folder)) (folder_view (g.F.Folder.held c.resolve_require.new.folder) (g.F.Folder.reads c.resolve_require.new.folder) (g.F.Folder.faults c.resolve_require.new.folder))
    c.loop-require.table c.resolve_require.new.table c.loop-require.done (drop i xs) (drop (i + 1) xs) c.require-item.result is c.loop-require.invariant c.resolve_require.ensures.stays c.in_err-goal.field-0.0 c.in_err-goal.ensures.answers)

pub loop-require-preserved : goal.loop-require-preserved
loop-require-preserved g c =
    let xs = c.args.required.now in
    let i = c.loop-require.require-index in
    let is : drop i xs ≡ c.require-item.result ∷ drop (i + 1) xs = drop_more xs i c.require-item.result c.loop-require-test.true ∙ ap (λ r. r ∷ drop (i + 1) xs) (sym c.require-item.is) in
    let made : List ℕ → Require = λ text. record { offset = c.require-item.result.offset; line = c.require-item.result.line; text = text; goal = c.in_ok-goal.goal } in
    requires_go (folder_of c.args.path.now) xs (folder_view (g.F.Folder.held c.args.folder.now) (g.F.Folder.reads c.args.folder.now) (g.F.Folder.faults c.args.folder.now)) c.args.table.now
    (folder_view (g.F.Folder.held c.loop-require.folder) (g.F.Folder.reads c.loop-require.folder) (g.F.Folder.faults c.loop-require.folder)) (folder_view (g.F.Folder.held c.resolve_require.new.folder) (g.F.Folder.reads c.resolve_require.new.folder) (g.F.Folder.faults c.resolve_require.new.folder))
    c.loop-require.table c.resolve_require.new.table c.loop-require.done (drop i xs) (drop (i + 1) xs) c.require-item.result is c.loop-require.invariant c.resolve_require.ensures.stays c.in_ok-goal.goal c.push.new.self (c.in_ok-push.ensures.ok ∙ ap (λ text. c.loop-require.done ++ made text ∷ []) c.in_ok-copy.ensures) c.in_ok-goal.ensures.answers

pub returns-clause-answers : goal.returns-clause-answers
returns-clause-answers g c =
    let xs = c.args.required.now in
    let i = c.loop-require.require-index in
    requires_end (folder_of c.args.path.now) xs (folder_view (g.F.Folder.held c.args.folder.now) (g.F.Folder.reads c.args.folder.now) (g.F.Folder.faults c.args.folder.now)) c.args.table.now
    (folder_view (g.F.Folder.held c.loop-require.folder) (g.F.Folder.reads c.loop-require.folder) (g.F.Folder.faults c.loop-require.folder)) c.loop-require.table c.loop-require.done (drop i xs) (drop_all i xs (omega arith)) c.loop-require.invariant
