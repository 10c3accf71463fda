use Rattle.std.proofs.lemmas.Result.{err_from_is_err_and}
use Rattle.mdg_pack.specs.Load.{bound}
use Rattle.mdg_pack.proofs.LoadLemmas.{loaded_text, loaded_tree, loaded_bindings}
use Rattle.mdg_pack.proofs.source.load_file.Goals as goal

pub returns-in_err-tokens : goal.returns-in_err-tokens
returns-in_err-tokens c =
    let p = err_from_is_err_and c.from_residual.result c.from_residual.ensures.1 in
    rw (p.1, p.2) (loaded_text c.args.profile.now c.args.path.now c.args.bytes.now c.in_err-tokens.field-0.0 c.in_err-tokens.ensures)

pub returns-in_err-tree : goal.returns-in_err-tree
returns-in_err-tree c =
    let p = err_from_is_err_and c.from_residual-in_err-tree.result c.from_residual-in_err-tree.ensures.1 in
    rw (p.1, p.2) (loaded_tree c.args.profile.now c.args.path.now c.args.bytes.now c.in_ok-tokens.tokens c.as_slice.result.now c.in_err-tree.field-0.0 c.as_slice.ensures c.in_ok-tokens.ensures c.in_err-tree.ensures)

pub returns-in-Ok : goal.returns-in-Ok
returns-in-Ok c = bound c.in_ok-tokens.tokens c.in_ok-tree.tree c.in_ok-tokens.ensures (rw c.as_slice.ensures at c.in_ok-tree.ensures) c.in-Ok.ensures

pub returns : goal.returns
returns c =
    loaded_bindings c.args.profile.now c.args.path.now c.args.bytes.now c.in_ok-tokens.tokens c.as_slice.result.now c.in_ok-tree.tree c.in-Err.refusal c.scope_refused.result c.as_slice.ensures c.in_ok-tokens.ensures c.in_ok-tree.ensures c.in-Err.ensures c.scope_refused.ensures
