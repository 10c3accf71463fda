use Rattle.std.proofs.Common.{sym, ap, ◌∙◌}
use Rattle.std.specs.Str.{bytes_eq}
use Rattle.mdg_scope.specs.Names.{has_name}
use Rattle.mdg_scope.proofs.TableLemmas.{any_mapped}
use Rattle.mdg_scope.proofs.names.Names.has.Goals as goal

pub returns : goal.returns
returns c = c.contains.ensures ∙ sym (any_mapped (λ k. k.now) (bytes_eq c.args.name.now) c.self.inside.names.keys) ∙ ap (λ l. has_name l c.args.name.now) c.self.view_is
