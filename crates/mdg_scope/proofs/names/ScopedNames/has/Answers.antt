use Rattle.std.proofs.Common.{sym, ap, ◌∙◌}
use Rattle.mdg_scope.specs.Names.{has_named, same_named}
use Rattle.mdg_scope.proofs.TableLemmas.{any_mapped}
use Rattle.mdg_scope.proofs.names.ScopedNames.has.Goals as goal

pub returns : goal.returns
returns c = c.contains.ensures ∙ sym (any_mapped (λ k. (k.0, k.1.now)) (same_named (c.args.function, c.args.name.now)) c.self.inside.names.keys) ∙ ap (λ l. has_named l (c.args.function, c.args.name.now)) c.self.view_is
