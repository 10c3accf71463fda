use Rattle.std.proofs.Common.{sym, ap, ◌∙◌, arith}
use Rattle.std.specs.Prelude.{slice_set}
use Rattle.mdg_scope.proofs.NameLemmas.{put_at, put_nowhere}
use Rattle.mdg_scope.proofs.function.put_name.Goals as goal

pub returns-in_ok-add_name : goal.returns-in_ok-add_name
returns-in_ok-add_name c =
    ap (λ f. slice_set c.args.functions.now c.args.number f)
    c.in_ok-add_name.ensures
    ∙ sym (put_at c.args.scopes.now c.args.uses.now (c.args.number, c.args.name.now) c.args.number 0 c.args.functions.now c.index-functions-index.result (omega arith) c.if-index-functions.true)

pub returns-else-index-functions : goal.returns-else-index-functions
returns-else-index-functions c =
    sym (put_nowhere c.args.scopes.now c.args.uses.now (c.args.number, c.args.name.now) c.args.number 0 c.args.functions.now (omega arith) c.if-index-functions.false)
