use Rattle.std.proofs.Common.{ap, ◌∙◌, map}
use Rattle.mdg_scope.specs.Names.{add_named, same_named}
use Rattle.mdg_scope.proofs.TableLemmas.{any_mapped, mapped_choice}
use Rattle.mdg_scope.proofs.names.ScopedNames.add.Goals as goal

pub returns : goal.returns
returns c =
    ap (λ l. map (λ k. (k.0, k.1.now)) l) c.in_ok-insert.ensures.keys
    ∙ mapped_choice (λ k. (k.0, k.1.now)) _ _ c.self.inside.names.keys (c.args.function, c.args.name) (any_mapped (λ k. (k.0, k.1.now)) (same_named (c.args.function, c.args.name.now)) c.self.inside.names.keys)
    ∙ ap (λ l. add_named l (c.args.function, c.args.name.now)) c.self.view_is
