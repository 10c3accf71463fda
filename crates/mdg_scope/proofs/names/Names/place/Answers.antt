use Rattle.std.proofs.Common.{sym, ap, ◌∙◌}
use Rattle.std.specs.Str.{bytes_eq}
use Rattle.mdg_scope.specs.Names.{place_of}
use Rattle.mdg_scope.proofs.TableLemmas.{position_mapped}
use Rattle.mdg_scope.proofs.names.Names.place.Goals as goal

pub returns : goal.returns
returns c = c.get_index_of.ensures.index ∙ sym (position_mapped (λ k. k.now) (bytes_eq c.args.name.now) c.self.inside.names.keys) ∙ ap (λ l. place_of l c.args.name.now) c.self.view_is
