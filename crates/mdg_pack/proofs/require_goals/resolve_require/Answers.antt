use Rattle.std.proofs.Common.{sym, subst, ap, ◌∙◌}
use Rattle.std.proofs.lemmas.Result.{err_from_is_err_and}
use Rattle.mdg_pack.specs.RequireGoals.{resolved_goal}
use Rattle.mdg_pack.specs.Effects.{Answers, folder_view}
use Rattle.mdg_pack.specs.Candidates.{candidates_from}
use Rattle.mdg_base.specs.Segments.{folder_of}
use Rattle.mdg_scope.specs.declared.bound.Goal.{Goal}
use Rattle.mdg_pack.proofs.CandidateLemmas.{some_required}
use Rattle.mdg_pack.proofs.RequireLemmas.{goal_refused}
use Rattle.mdg_pack.proofs.require_goals.resolve_require.Goals as goal

pub returns-in_err-number-in-Path-clause-answers : goal.returns-in_err-number-in-Path-clause-answers
returns-in_err-number-in-Path-clause-answers g c =
    let p = err_from_is_err_and c.from_residual-in_err-number-in-Path.result c.from_residual-in_err-number-in-Path.ensures.1 in
    let before = folder_view (g.F.Folder.held c.args.folder.now) (g.F.Folder.reads c.args.folder.now) (g.F.Folder.faults c.args.folder.now) in
    let after = folder_view (g.F.Folder.held c.resolve.new.folder) (g.F.Folder.reads c.resolve.new.folder) (g.F.Folder.faults c.resolve.new.folder) in
    let P : Goal → Type 0 = λ to. Answers (λ given. resolved_goal given (folder_of c.args.path.now) c.args.require.now to c.args.table.now) before after c.args.table.now c.resolve.new.table c.from_residual-in_err-number-in-Path.result in
    subst P (sym c.in-Path.is) (rw (p.1, p.2) (goal_refused (folder_of c.args.path.now) c.args.require.now before after c.args.table.now c.resolve.new.table c.as_slice.result.now c.in_err-number-in-Path.field-0.0 (c.as_slice.ensures ∙ c.in_ok-candidates-in-Path.ensures ∙ ap (candidates_from (folder_of c.args.path.now)) c.as_str.ensures) c.in_err-number-in-Path.ensures.answers))

pub resolve-requires-clause-some : goal.resolve-requires-clause-some
resolve-requires-clause-some g c = some_required c.as_slice.result.now (folder_of c.args.path.now) c.as_str.result.now (c.as_slice.ensures ∙ c.in_ok-candidates-in-Path.ensures)
