use Rattle.std.proofs.Common.{sym, ap, ◌∙◌, ◌∷◌, map}
use Rattle.mdg_scope.specs.Functions.{with_names, body, heads}
use Rattle.mdg_scope.proofs.NameLemmas.{put_all, all_names}
use Rattle.mdg_scope.proofs.function.functions_with.Goals as goal

pub loop-one-init : goal.loop-one-init
loop-one-init c =
    ap (λ ns. with_names c.args.scopes.now c.args.uses.now ns 0 (body c.args.at ∷ heads c.args.scopes.now c.args.uses.now c.args.occurrences.now)) (sym c.names-names.ensures)
    ∙ sym (all_names c.args.scopes.now c.args.uses.now (map (λ k. (k.0, k.1.now)) c.names-names.result.now) (body c.args.at ∷ heads c.args.scopes.now c.args.uses.now c.args.occurrences.now))
    ∙ ap (put_all c.args.scopes.now c.args.uses.now (map (λ k. (k.0, k.1.now)) c.names-names.result.now)) (sym c.in_ok-made.ensures)
